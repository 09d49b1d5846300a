-- A latency of document 01 fits the low three bits of an entry.
use mathlib.Core.List.{List, [], ◌∷◌}
use Prim.Native.Nat.{ℕ, suc, ◌≤◌}
use native.Mathlib.Omega.{arith}
use lib.Dec.{leb, lit≤}
use lib.ListN.{length}
use Rattle.types.specs.declared.Scale.{Scale}
use Rattle.types.specs.declared.Scale.TheVariants.{Scale0, Scale1, Scale2, Scale3}
use Rattle.types.specs.declared.Waits.{Waits}
use Rattle.rules.specs.Document01.Flash.{steps_of, last_of, risen, at_column, column_of, flash_of}
use Rattle.laws.proofs.Tests.{either}

at_most_all : (us : List ℕ) (column : ℕ) → risen us column ≤ length us
at_most_all [] column = omega arith
at_most_all (u ∷ us) column = let h = at_most_all us column in either (λ (n : ℕ). n ≤ suc (length us)) (leb u column) _ _ (omega arith) (omega arith)

few : (s : Scale) → length (steps_of s) ≤ 7
few Scale0 = lit≤ tt
few Scale1 = lit≤ tt
few Scale2 = lit≤ tt
few Scale3 = lit≤ tt

pub small : (s : Scale) (column : ℕ) → (at_column s column).latency ≤ 7
unfolding at_column
small s column = either (λ (w : Waits). w.latency ≤ 7) (leb column (last_of s)) _ _ (omega (arith, at_most_all (steps_of s) column, few s)) (lit≤ tt)

pub small_delay : (s : Scale) (column : ℕ) → (at_column s column).delay ≤ 3
unfolding at_column
small_delay s column = either (λ (w : Waits). w.delay ≤ 3) (leb column (last_of s)) _ _ (omega (arith, at_most_all (steps_of s) column, few s)) (lit≤ tt)

-- so of every AHB clock
pub small_waits : (s : Scale) (ahb : ℕ) → ((flash_of s ahb).latency ≤ 7) × ((flash_of s ahb).delay ≤ 3)
unfolding flash_of
small_waits s ahb = (small s (column_of ahb), small_delay s (column_of ahb))
