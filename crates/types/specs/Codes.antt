-- Which number is the code of which variant: docs/CODES.md, A request as bytes, and document 01, refusal 1, for the chip's numbers.
use Rattle.std.specs.Prelude.{cond, List, [], ◌∷◌, ℕ, eqb, slice_get, ok_or, Result, Ok, Err}
use Rattle.types.specs.declared.Refusal.{Refusal}
use Rattle.types.specs.declared.Refusal.TheVariants.{OutsideCodes}
use Rattle.types.specs.declared.Strategy.{Strategy}
use Rattle.types.specs.declared.Strategy.TheVariants.{Integer, Fractional}
use Rattle.types.specs.declared.Mco1Source.{Mco1Source}
use Rattle.types.specs.declared.Mco2Source.{Mco2Source}
use Rattle.types.specs.declared.Scale.{Scale}
use Rattle.types.specs.declared.Scale.TheVariants.{Scale0, Scale1, Scale2, Scale3}
use Rattle.types.specs.declared.Hsidiv.{Hsidiv}
use Rattle.types.specs.declared.Hsidiv.TheVariants.{Div1, Div2, Div4, Div8}

-- the one of a list with this code, from 0; a number that is no code is outside the codes
abbrev pub coded : {A : Type 0} → List A → (code : ℕ) → Result A Refusal
coded xs n = ok_or (slice_get xs n) OutsideCodes

-- 0 Integer, 1 Fractional
abbrev pub strategies : List Strategy
strategies = Integer ∷ Fractional ∷ []

-- MCO1's sources
abbrev pub mco1_sources : List Mco1Source
mco1_sources = Mco1Source.Hsi ∷ Mco1Source.Lse ∷ Mco1Source.Hse ∷ Mco1Source.Pll1Q ∷ Mco1Source.Hsi48 ∷ []

-- MCO2's sources
abbrev pub mco2_sources : List Mco2Source
mco2_sources = Mco2Source.Sysclk ∷ Mco2Source.Pll2P ∷ Mco2Source.Hse ∷ Mco2Source.Pll1P ∷ Mco2Source.Csi ∷ Mco2Source.Lsi ∷ []

-- the voltage scales
abbrev pub scales : List Scale
scales = Scale0 ∷ Scale1 ∷ Scale2 ∷ Scale3 ∷ []

-- HSIDIV: 1, 2, 4, 8
abbrev pub hsidiv_coded : (code : ℕ) → Result Hsidiv Refusal
hsidiv_coded n = cond (eqb n 1) (Ok Div1) (cond (eqb n 2) (Ok Div2) (cond (eqb n 4) (Ok Div4) (cond (eqb n 8) (Ok Div8) (Err OutsideCodes))))
