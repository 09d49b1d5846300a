-- Document 01, One PLL, second point: the target, the frequency that the VCO is to run at.
use Rattle.std.specs.Prelude.{ℕ, ◌+◌, ◌*◌, ◌/◌, cond, ltb}

-- the quotient by 128, rounded up
abbrev pub ceil128 : ℕ → ℕ
ceil128 q = (q + 127) / 128

-- max × (end / max)
unfoldable pub top_of : (max end : ℕ) → ℕ
top_of max end = max * (end / max)

-- if target / min is over 128, it is divided by that quotient / 128 rounded up
unfoldable pub target_of : (min max end : ℕ) → ℕ
target_of min max end = cond (ltb 128 (top_of max end / min)) (top_of max end / ceil128 (top_of max end / min)) (top_of max end)
