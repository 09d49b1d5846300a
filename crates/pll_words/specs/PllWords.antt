-- The settings of one PLL as eighteen words: docs/CODES.md, A PLL as words.
use Rattle.std.specs.Prelude.{List, [], ◌∷◌, ℕ, replicate, Option, Some, None}
use Rattle.types.specs.declared.PllSettings.{PllSettings}
use Rattle.types.specs.declared.PllOutput.{PllOutput}
use Rattle.rules.specs.Words.{stored_at}

-- FRACEN: 1 in Fractional
abbrev pub fracen_of : Option ℕ → ℕ
fracen_of None = 0
fracen_of (Some f) = 1

-- FRACN: 0 in Integer
abbrev pub fracn_of : Option ℕ → ℕ
fracn_of None = 0
fracn_of (Some f) = f

-- what is chosen for the PLL; nine 0 for an idle one
abbrev pub setting_words : Option PllSettings → List ℕ
setting_words None = replicate 9 0
setting_words (Some s) =
    s.vcosel ∷ s.target ∷ s.m ∷ s.reference ∷ s.rge ∷ s.n ∷ fracen_of s.fraction ∷ fracn_of s.fraction ∷ s.vco ∷ []

-- an output: whether it is on, its divider and its hertz; three 0 where it is off
abbrev pub on_of : Option PllOutput → ℕ
on_of None = 0
on_of (Some o) = 1

-- its divider
abbrev pub divider_of : Option PllOutput → ℕ
divider_of None = 0
divider_of (Some o) = o.divider

-- its hertz
abbrev pub hertz_of : Option PllOutput → ℕ
hertz_of None = 0
hertz_of (Some o) = o.clock

-- the three words, before others
abbrev pub output_words : Option PllOutput → List ℕ → List ℕ
output_words o ws = on_of o ∷ divider_of o ∷ hertz_of o ∷ ws

-- P, Q and R; nine 0 for an idle PLL
abbrev pub outputs_words : Option PllSettings → List ℕ
outputs_words None = replicate 9 0
outputs_words (Some s) = output_words s.p (output_words s.q (output_words s.r []))

-- the settings and then the outputs, nine words each where they fit
abbrev pub pll_stored : Option PllSettings → List ℕ → List ℕ
pll_stored x room = stored_at (stored_at room 0 (setting_words x)) 9 (outputs_words x)
