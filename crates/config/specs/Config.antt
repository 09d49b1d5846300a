-- Document 01, One call, steps 1 to 3 as a call, with refusals 3 to 6.
use Rattle.std.specs.Prelude.{[], ◌∷◌, Result, Ok}
use Rattle.types.specs.declared.Request.{Request}
use Rattle.types.specs.declared.Refusal.{Refusal}
use Rattle.rules.specs.Document01.Result.{◌>>◌}
use Rattle.rules.specs.Document01.Request.{configured, source_of, system_of, needs_pll1, asked_of}
use Rattle.config.specs.declared.Configured.{Configured}

-- what steps 1 to 3 settle
abbrev pub settled : Request → Configured
settled q = record { source = source_of q; system = system_of q; needs = needs_pll1 q; plls = asked_of q 0 ∷ asked_of q 1 ∷ asked_of q 2 ∷ [] }

-- the call's answer: one refusal, or what they settle
abbrev pub settled_of : Request → Result Configured Refusal
settled_of q = do
  configured q
  Ok (settled q)
