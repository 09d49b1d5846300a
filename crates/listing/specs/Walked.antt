-- A walk over a list shown in order: where it stands at its end, and what it shows from there on.
use Rattle.std.specs.Prelude.{Bool, cond, [], ℕ, ◌*◌, ◌-◌, Result, Ok, Err}
use Rattle.types.specs.declared.Refusal.TheVariants.{CsiDown}
use Rattle.types.specs.declared.Refusal.{Refusal}
use Rattle.types.specs.declared.Plan.{Plan}
use Rattle.rules.specs.Document01.Walk.{Stand, before, ended}

-- how many values n things shown have: two for each step, of which there is none after the last
abbrev pub last_read : ℕ → ℕ
last_read n = 2 * (n - 1)

-- where a walk stands at its end
abbrev pub end_of : Result Plan Refusal → (down : Bool) → Stand
end_of (Ok p) down = cond down (ended CsiDown) (before [])
end_of (Err n) down = ended n
