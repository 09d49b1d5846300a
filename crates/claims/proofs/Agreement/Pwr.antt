-- pwr.rs and document 01 agree: for each target scale and each code that ACTVOS can hold, the operations of Pwr::freeze are what the voltage
-- walk shows.
use mathlib.Core.Path.{◌≡◌, refl, sym, ap, ◌∙◌}
use mathlib.Core.List.{List, [], ◌∷◌, ◌++◌, map}
use Prim.Native.Nat.{ℕ, zero, suc, ◌<◌}
use native.Mathlib.Omega.{arith}
use Rattle.types.specs.declared.Entry.{Entry}
use Rattle.types.specs.declared.Entry.TheVariants.{Wait}
use Rattle.types.specs.declared.Shown.TheVariants.{Next, Finished}
use Rattle.types.specs.declared.Scale.{Scale}
use Rattle.rules.specs.Document01.Chip.{scale_of}
use Rattle.rules.specs.Document01.Fields
use Rattle.rules.specs.Document01.Walk.{transition, voltage_fresh, voltage_stepped}
use Rattle.claims.specs.Rust.Run.{ends}
use Rattle.claims.specs.Rust.Pwr.{voltage_scaling_transition, freeze}
use Rattle.rules.specs.Stated.Walks.{Pair, shows, Satisfy}
use Rattle.rules.proofs.Document01.Walk.{both}
use Rattle.rules.proofs.Document01.Voltage.{whole}

-- what document 01 has for a target scale and a code read
abbrev operations : (target read : ℕ) → List Entry
operations target read = Wait Fields.ACTVOSRDY 1 ∷ Entry.Read Fields.ACTVOS ∷ transition target read

-- a number below 4, case by case
by_four : (P : ℕ → Type 0) → P 0 → P 1 → P 2 → P 3 → (n : ℕ) → n < 4 → P n
by_four P a b c d zero h = a
by_four P a b c d (suc zero) h = b
by_four P a b c d (suc (suc zero)) h = c
by_four P a b c d (suc (suc (suc zero))) h = d
by_four P a b c d (suc (suc (suc (suc n)))) h = absurd (omega arith)

abbrev Same : (target read : ℕ) → Type 0
Same target read = freeze (scale_of target) read [] ≡ ends (operations target read) (scale_of target)

-- the operations are document 01's, and the scale reported is the target
pub pwr_agrees : (target read : ℕ) → target < 4 → read < 4 → Same target read
unfolding freeze voltage_scaling_transition
pwr_agrees target read h k =
    by_four (λ (t : ℕ). Same t read)
    (by_four (Same 0) refl refl refl refl read k)
    (by_four (Same 1) refl refl refl refl read k)
    (by_four (Same 2) refl refl refl refl read k)
    (by_four (Same 3) refl refl refl refl read k)
    target h

-- whatever operations Pwr::freeze has, the voltage walk shows them in their order and then finished, on values that pass them
pub walk_agrees : (target read : ℕ) → target < 4 → read < 4 → (es : List Entry) (vos : Scale) → freeze (scale_of target) read [] ≡ ends es vos
    → (b c : ℕ) (rest : List Pair) → Satisfy (transition target read) rest
    → shows (voltage_stepped target) voltage_fresh (both 1 b ∷ both read c ∷ rest) ≡ map Next es ++ (Finished ∷ [])
walk_agrees target read h k es vos e b c rest p =
    let same : ends (operations target read) (scale_of target) ≡ ends es vos = sym (pwr_agrees target read h k) ∙ e in
    let list : operations target read ≡ es = cc in
    whole target b c read rest p ∙ ap (λ (l : List Entry). map Next l ++ (Finished ∷ [])) list
