-- What the record shows and where a step leads it, by its target and its place; a step of the record is a step of document 01's voltage walk.
use mathlib.Core.Path.{◌≡◌, refl}
use mathlib.Core.Bool.{Bool, true, false, cond}
use Prim.Native.Nat.{ℕ, ◌<◌, ◌≤◌}
use lib.Dec.{eqb, ltb}
use borrow.Author.Tests.{eqb-true, lt-ltb, le-ltb}
use Rattle.laws.proofs.Tests.{by_test}
use Rattle.rules.specs.Document01.Walk.{before, vos_code, voltage_stepped}
use Rattle.pwr.specs.declared.VoltageWalk.{VoltageWalk}
use Rattle.pwr.specs.Walk.{entries_from, stand_of, place_after, stepped_walk}

-- ---- by the place
module _ (target a b : ℕ) where
  -- a step from a place leads where document 01 says
  abbrev Leads : ℕ → Type 0
  Leads at = before (entries_from target (place_after target at a)) ≡ voltage_stepped target (before (entries_from target at)) a b

  at_0 : Leads 0
  unfolding entries_from place_after
  at_0 = by_test (eqb a 1) (λ (t : eqb a 1 ≡ true). rw t) (λ (n : eqb a 1 ≡ false). rw n)

  at_1 : Leads 1
  unfolding entries_from place_after
  at_1 = by_test (eqb a (vos_code target)) (λ (t : eqb a (vos_code target) ≡ true). rw t) (λ (n : eqb a (vos_code target) ≡ false). rw n)

  at_2 : Leads 2
  unfolding entries_from place_after
  at_2 = refl

  at_3 : Leads 3
  unfolding entries_from place_after
  at_3 = by_test (eqb a 1) (λ (t : eqb a 1 ≡ true). rw t) (λ (n : eqb a 1 ≡ false). rw n)

  finished : (at : ℕ) → eqb at 0 ≡ false → eqb at 1 ≡ false → eqb at 2 ≡ false → eqb at 3 ≡ false → Leads at
  unfolding entries_from place_after
  finished at n₀ n₁ n₂ n₃ = simp (n₀, n₁, n₂, n₃)

  leads : (at : ℕ) → Leads at
  leads at =
      by_test (eqb at 0) (λ (t : eqb at 0 ≡ true). rw (eqb-true at 0 t) at_0)
      (λ (n₀ : eqb at 0 ≡ false). by_test (eqb at 1) (λ (t : eqb at 1 ≡ true). rw (eqb-true at 1 t) at_1)
      (λ (n₁ : eqb at 1 ≡ false). by_test (eqb at 2) (λ (t : eqb at 2 ≡ true). rw (eqb-true at 2 t) at_2)
      (λ (n₂ : eqb at 2 ≡ false). by_test (eqb at 3) (λ (t : eqb at 3 ≡ true). rw (eqb-true at 3 t) at_3)
      (λ (n₃ : eqb at 3 ≡ false). finished at n₀ n₁ n₂ n₃))))

-- ---- the record
-- a step: a refused walk stays, another moves to its next place
module _ (w : VoltageWalk) (a b : ℕ) where
  abbrev moved : VoltageWalk
  moved = record { target = w.target; at = place_after w.target w.at a }

  pub refused_step : 4 ≤ w.target → w ≡ stepped_walk w a b
  unfolding stepped_walk
  refused_step h = rw (le-ltb w.target 4 h)

  pub moved_step : w.target < 4 → moved ≡ stepped_walk w a b
  unfolding stepped_walk
  moved_step h = rw (lt-ltb w.target 4 h)

  pub refused_stand : 4 ≤ w.target → stand_of w ≡ voltage_stepped w.target (stand_of w) a b
  unfolding stand_of
  refused_stand h = rw (le-ltb w.target 4 h)

  pub moved_stand : w.target < 4 → stand_of moved ≡ voltage_stepped w.target (stand_of w) a b
  unfolding stand_of
  moved_stand h = rw (lt-ltb w.target 4 h) (leads w.target a b w.at)

-- a step keeps the target
pub target_kept : (w : VoltageWalk) (a b : ℕ) → (stepped_walk w a b).target ≡ w.target
unfolding stepped_walk
target_kept w a b = go (ltb w.target 4)
  where
    go : (t : Bool) → (cond t (record { target = w.target; at = place_after w.target w.at a }) w).target ≡ w.target
    go true = refl
    go false = refl

pub ruleset steps = (refused_step, moved_step)
