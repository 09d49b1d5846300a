-- A number as 64 bits hold it, times a divisor.
use mathlib.Core.Path.{◌≡◌}
use mathlib.Core.Bool.{true, false}
use Prim.Native.Nat.{ℕ, ◌*◌, ◌-◌, ◌^◌, ◌≤◌, ◌<◌, min}
use native.Mathlib.Nat.{le_trans, min-eq_left, min-eq_right, mul-le-mul_left, mul-le-mul_right, mul-one}
use native.Mathlib.Omega.{arith}
use lib.Dec.{leb}
use borrow.Author.Tests.{leb-true, leb-false, le-leb}
use Rattle.laws.proofs.Tests.{by_test}
use Rattle.exact.specs.Exact.{cap}

-- the last number of 64 bits
abbrev pub max : ℕ
max = 18_446_744_073_709_551_615

-- it fits
pub cap_fits : (n : ℕ) → n ≤ max → n ≡ cap n
unfolding cap
cap_fits n h = rw (le-leb n max h)

-- it does not, or is the last that does
pub cap_full : (n : ℕ) → max ≤ n → max ≡ cap n
unfolding cap
cap_full n h =
    by_test (leb n max)
    (λ (t : leb n max ≡ true). let l = leb-true n max t in rw t (omega arith))
    (λ (t : leb n max ≡ false). rw t)

-- a step on what was capped is the step capped
pub cap_times : (x d : ℕ) → 1 ≤ d → cap (cap x * d) ≡ cap (x * d)
cap_times x d h =
    by_test (leb x max)
    (λ (t : leb x max ≡ true). rw (← cap_fits x (leb-true x max t)))
    (λ (t : leb x max ≡ false).
    let l : max < x = leb-false x max t in
    let k : max ≤ max * d = rw mul-one at (mul-le-mul_left max h) in
    let m : max * d ≤ x * d = mul-le-mul_right d (omega arith) in
    rw (← cap_full x (omega arith), ← cap_full (max * d) k, ← cap_full (x * d) (le_trans k m)))

-- by std's word
pub cap_is : (n : ℕ) → min n (2 ^ 64 - 1) ≡ cap n
unfolding cap
cap_is n =
    by_test (leb n max)
    (λ (t : leb n max ≡ true). rw t (min-eq_left (leb-true n max t)))
    (λ (t : leb n max ≡ false). let l = leb-false n max t in rw t (min-eq_right {n = max} {m = n} (omega arith)))
