-- The wait states of document 01 are the manual's, up to the highest AHB clock of each voltage scale.
use mathlib.Core.Path.{◌≡◌, refl, ap, ◌∙◌}
use mathlib.Core.Bool.{true, false}
use mathlib.Core.List.{List, [], ◌∷◌, ◌++◌}
use Prim.Native.Nat.{ℕ, ◌+◌, ◌*◌, ◌/◌, ◌≤◌, ◌<◌}
use native.Mathlib.Omega.{arith}
use lib.Dec.{leb}
use borrow.Author.Tests.{leb-true, leb-false, le-leb, lt-leb}
use Rattle.types.specs.declared.Scale.{Scale}
use Rattle.types.specs.declared.Scale.TheVariants.{Scale0, Scale1, Scale2, Scale3}
use Rattle.rules.specs.Document01.Flash.{column_of, steps_of, last_of, risen, at_column, flash_of}
use Rattle.rules.specs.Manual.WaitStates.{Row, rows, highest, waits, asks}
use Rattle.laws.proofs.Tests.{by_test}

-- rows that end at these MHz, of latency k, k + 1, .., each with half its latency as WRHIGHFREQ
abbrev rows_from : ℕ → List ℕ → List Row
rows_from k [] = []
rows_from k (u ∷ us) = record { mhz = u; latency = k; wrhighfreq = k / 2 } ∷ rows_from (k + 1) us

-- the manual's rows end where document 01's latency rises, and at the highest clock
same_rows : (s : Scale) → rows s ≡ rows_from 0 (steps_of s ++ (highest s ∷ []))
unfolding rows
same_rows Scale0 = refl
same_rows Scale1 = refl
same_rows Scale2 = refl
same_rows Scale3 = refl

abbrev Steps : List ℕ → Type 0
Steps [] = Unit {0}
Steps (u ∷ us) = (1 ≤ u) × (u ≤ 250) × Steps us

steps_fine : (s : Scale) → Steps (steps_of s)
steps_fine Scale0 = omega arith
steps_fine Scale1 = omega arith
steps_fine Scale2 = omega arith
steps_fine Scale3 = omega arith

module _ (ahb : ℕ) where
  abbrev column : ℕ
  column = column_of ahb

  -- up to u MHz the column is below u, above it the column has reached u
  before : (u : ℕ) → 1 ≤ u → leb ahb (u * 1_000_000) ≡ true → leb u column ≡ false
  before u a t = let l : ahb ≤ u * 1_000_000 = leb-true ahb (u * 1_000_000) t in lt-leb u column (omega arith)

  reached : (u : ℕ) → u ≤ 250 → leb ahb (u * 1_000_000) ≡ false → leb u column ≡ true
  reached u b f = let l : u * 1_000_000 < ahb = leb-false ahb (u * 1_000_000) f in le-leb u column (omega arith)

  -- the row that serves is that of the steps reached
  asked : (k : ℕ) (us : List ℕ) (top : ℕ) → Steps us → ahb ≤ top * 1_000_000
      → asks (rows_from k (us ++ (top ∷ []))) ahb ≡ waits (k + risen us column) ((k + risen us column) / 2)
  asked k [] top fine h = let e : k ≡ k + 0 = omega arith in rw (le-leb ahb (top * 1_000_000) h) (ap (λ (n : ℕ). waits n (n / 2)) e)
  asked k (u ∷ us) top fine h =
      by_test (leb ahb (u * 1_000_000))
      (λ t. let e : k ≡ k + 0 = omega arith in rw (t, before u fine.0 t) (ap (λ (n : ℕ). waits n (n / 2)) e))
      (λ f.
      let e : k + 1 + risen us column ≡ k + (1 + risen us column) = omega arith in
      rw (f, reached u fine.1 f) (asked (k + 1) us top fine.2 h ∙ ap (λ (n : ℕ). waits n (n / 2)) e))

  -- up to the highest clock the column is not beyond the last
  inside : (s : Scale) → ahb ≤ highest s * 1_000_000 → leb column (last_of s) ≡ true
  inside Scale0 h = le-leb column 250 (omega arith)
  inside Scale1 h = le-leb column 200 (omega arith)
  inside Scale2 h = le-leb column 150 (omega arith)
  inside Scale3 h = le-leb column 100 (omega arith)

  pub flash_asked : (s : Scale) → ahb ≤ highest s * 1_000_000 → asks (rows s) ahb ≡ waits (flash_of s ahb).latency (flash_of s ahb).delay
  unfolding flash_of at_column
  flash_asked s h =
      let e : 0 + risen (steps_of s) column ≡ risen (steps_of s) column = omega arith in
      rw (same_rows s, inside s h) (asked 0 (steps_of s) (highest s) (steps_fine s) h ∙ ap (λ (n : ℕ). waits n (n / 2)) e)
