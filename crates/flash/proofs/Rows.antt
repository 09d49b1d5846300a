-- A row of the table begins at 252 times its scale's number, and an entry is taken apart again.
use mathlib.Core.Path.{◌≡◌}
use Prim.Native.Nat.{ℕ, ◌+◌, ◌*◌, ◌/◌, ◌%◌, ◌<◌}
use native.Mathlib.Omega.{arith}
use Rattle.types.specs.declared.Scale.{Scale}
use Rattle.types.specs.declared.Scale.TheVariants.{Scale0, Scale1, Scale2, Scale3}
use Rattle.types.specs.declared.Waits.{Waits}
use Rattle.rules.specs.Document01.Flash.{column_of, at_column, flash_of}
use Rattle.rules.specs.Document01.Chip.{scale_of}
use Rattle.flash.specs.Flash.{packed, placed}
use Rattle.flash.proofs.Small.{small}

at_row : (s k i : ℕ) → i ≡ 252 * s + k → k < 252 → placed i ≡ packed (at_column (scale_of s) k)
unfolding placed
at_row s k i e h =
    let row : i / 252 ≡ s = omega arith in
    let column : i % 252 ≡ k = omega arith in
    rw (row, column)

module _ (k : ℕ) (h : k < 252) where
  pub row_0 : placed (0 + k) ≡ packed (at_column Scale0 k)
  row_0 = at_row 0 k (0 + k) (omega arith) h

  pub row_1 : placed (252 + k) ≡ packed (at_column Scale1 k)
  row_1 = at_row 1 k (252 + k) (omega arith) h

  pub row_2 : placed (504 + k) ≡ packed (at_column Scale2 k)
  row_2 = at_row 2 k (504 + k) (omega arith) h

  pub row_3 : placed (756 + k) ≡ packed (at_column Scale3 k)
  row_3 = at_row 3 k (756 + k) (omega arith) h

pub ruleset rows = (row_0, row_1, row_2, row_3)

pub unpacked :
    (s : Scale) (ahb k : ℕ) {e : ℕ} → k ≡ column_of ahb → e ≡ packed (at_column s k) →
    ◌≡◌ {A = Waits} (record { latency = e % 8; delay = e / 8 }) (flash_of s ahb)
unfolding flash_of
unpacked s ahb k {e} c p =
    let q : e ≡ packed (at_column s (column_of ahb)) = rw c at p in
    let h = small s (column_of ahb) in
    let latency : e % 8 ≡ (at_column s (column_of ahb)).latency = omega arith in
    let delay : e / 8 ≡ (at_column s (column_of ahb)).delay = omega arith in
    rw (latency, delay)
