-- Departures, computed: requests that the rules refuse with 14 or 15, for which freeze ends all the same, and what it sets P to.
use Rattle.std.specs.Prelude.{Option, Some, None, Err}
use mathlib.Core.Path.{◌≡◌, refl}
use mathlib.Core.List.{[]}
use mathlib.Core.Bool.{false}
use Prim.Native.Nat.{ℕ}
use lib.ListN.{get_or, replicate}
use Rattle.types.specs.declared.Strategy.TheVariants.{Integer}
use Rattle.types.specs.declared.Refusal.{Refusal}
use Rattle.types.specs.declared.Refusal.TheVariants.{PDividerAbove128, PDividerOdd}
use Rattle.rules.specs.Document01.Fields
use Rattle.rules.specs.Document01.Fields.{of_pll}
use Rattle.rules.specs.Document01.OnePll.{target_for, divider_p}
use Rattle.rules.specs.Document01.Plan.{chosen_plan}
use Rattle.rules.specs.Document01.Bank.{apply_all}
use Rattle.claims.specs.Rust.Run.{ends, continue}
use Rattle.claims.specs.Rust.Rcc.{frozen}
use Rattle.claims.proofs.Computes.{by_freeze}
use Rattle.rules.proofs.Samples.{pll, on_hsi, state}

-- the refusal, the divider of PLL2's P, and freeze ends: P then holds a value, where all fields held 255 before
pub record Departs (p q : Option ℕ) (n : Refusal) (d v : ℕ) : Type 0 where
  pub answer : chosen_plan (on_hsi (pll Integer p q)) (state false) ≡ Err n
  pub divider : divider_p (target_for false (pll Integer p q)) p ≡ d
  pub ended : continue (frozen (on_hsi (pll Integer p q)) (state false)) (λ k es. ends [] (get_or (apply_all es (replicate 82 255)) (of_pll 1 Fields.P) 255)) ≡ ends [] v

pub above_128 : Departs (Some 1_000_000) None PDividerAbove128 210 209
unfolding by_freeze
above_128 = record { answer = refl; divider = refl; ended = refl }

pub odd_below : Departs (Some 80_000_000) (Some 200_000_000) PDividerOdd 5 4
unfolding by_freeze
odd_below = record { answer = refl; divider = refl; ended = refl }

-- the chip divides by 1
pub cut_to_0 : Departs (Some 1_300_000) (Some 167_180_000) PDividerAbove128 257 0
unfolding by_freeze
cut_to_0 = record { answer = refl; divider = refl; ended = refl }
