-- `match_vos` against the steps of document 01, Flash.
use mathlib.Core.Path.{◌≡◌, refl, ◌∙◌}
use mathlib.Core.Bool.{Bool, true, false, ◌&&◌}
use Prim.Native.Nat.{ℕ, ◌-◌, ◌/◌, ◌≤◌, ◌<◌, min}
use native.Mathlib.Omega.{arith}
use lib.Dec.{leb, eqb, lit<}
use borrow.Author.Tests.{eqb-true, leb-true, leb-false, le-leb, lt-leb}
use Rattle.types.specs.declared.Scale.{Scale}
use Rattle.types.specs.declared.Scale.TheVariants.{Scale0, Scale1, Scale2, Scale3}
use Rattle.types.specs.declared.Waits.{Waits}
use Rattle.rules.specs.Document01.Flash.{at_column, flash_of}
use Rattle.claims.specs.Rust.Rcc.{WaitStates, match_vos}
use Rattle.laws.proofs.Tests.{by_test, and_left, and_right, all_below, at_each}

abbrev pub states_of : Waits → WaitStates
states_of w = record { wait_states = w.latency; progr_delay = w.delay }

-- the match ranges against the steps: computed at each of the 252 columns
same_at : Scale → ℕ → Bool
same_at s x = eqb (match_vos s x).wait_states (at_column s x).latency && eqb (match_vos s x).progr_delay (at_column s x).delay

all_same : (s : Scale) → all_below (same_at s) 252 ≡ true
unfolding same_at match_vos at_column
all_same Scale0 = refl
all_same Scale1 = refl
all_same Scale2 = refl
all_same Scale3 = refl

inside : (s : Scale) (x : ℕ) → x < 252 → match_vos s x ≡ states_of (at_column s x)
unfolding same_at
inside s x h =
    let t = at_each (same_at s) 252 (all_same s) x h in
    let w : (match_vos s x).wait_states ≡ (at_column s x).latency = eqb-true (match_vos s x).wait_states (at_column s x).latency (and_left (eqb (match_vos s x).wait_states (at_column s x).latency) _ t) in
    let d : (match_vos s x).progr_delay ≡ (at_column s x).delay = eqb-true (match_vos s x).progr_delay (at_column s x).delay (and_right (eqb (match_vos s x).wait_states (at_column s x).latency) _ t) in
    λ i. record { wait_states = w i; progr_delay = d i }

-- ---- from column 251 on
-- a test for a column further up than it fails, and one for a step below it holds
module _ (x : ℕ) (h : 251 ≤ x) where
  past : (n : ℕ) → n < 251 → leb x n ≡ false
  past n l = lt-leb x n (omega arith)

  reached : (n : ℕ) → n < 251 → leb n x ≡ true
  reached n l = le-leb n x (omega arith)

  above : (s : Scale) → match_vos s x ≡ match_vos s 251
  unfolding match_vos
  above Scale0 = simp (past 41 (lit< tt), past 83 (lit< tt), past 125 (lit< tt), past 167 (lit< tt), past 209 (lit< tt), past 250 (lit< tt), reached 42 (lit< tt), reached 84 (lit< tt), reached 126 (lit< tt), reached 168 (lit< tt), reached 210 (lit< tt))
  above Scale1 = simp (past 33 (lit< tt), past 67 (lit< tt), past 101 (lit< tt), past 135 (lit< tt), past 169 (lit< tt), past 200 (lit< tt), reached 34 (lit< tt), reached 68 (lit< tt), reached 102 (lit< tt), reached 136 (lit< tt), reached 170 (lit< tt))
  above Scale2 = simp (past 29 (lit< tt), past 59 (lit< tt), past 89 (lit< tt), past 119 (lit< tt), past 150 (lit< tt), reached 30 (lit< tt), reached 60 (lit< tt), reached 90 (lit< tt), reached 120 (lit< tt))
  above Scale3 = simp (past 19 (lit< tt), past 39 (lit< tt), past 59 (lit< tt), past 79 (lit< tt), past 100 (lit< tt), reached 20 (lit< tt), reached 40 (lit< tt), reached 60 (lit< tt), reached 80 (lit< tt))

at_column_is : (s : Scale) (x : ℕ) → match_vos s x ≡ states_of (at_column s (min x 251))
at_column_is s x =
    by_test (leb x 251)
    (λ (t : leb x 251 ≡ true). let l : x ≤ 251 = leb-true x 251 t in let e : min x 251 ≡ x = omega arith in rw e (inside s x (omega arith)))
    (λ (f : leb x 251 ≡ false). let l : 251 < x = leb-false x 251 f in let e : min x 251 ≡ 251 = omega arith in rw e (above x (omega arith) s ∙ inside s 251 (omega arith)))

pub flash_same : (s : Scale) (ahb : ℕ) → match_vos s ((ahb - 1) / 1_000_000) ≡ states_of (flash_of s ahb)
unfolding flash_of
flash_same s ahb = at_column_is s ((ahb - 1) / 1_000_000)
