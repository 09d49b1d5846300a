-- On which side of 2 ^ w an f32 is, by the code's tests.
use Rattle.std.proofs.Common.{◌≡◌, ℕ, ◌+◌, ◌-◌, ◌*◌, ◌/◌, ◌^◌, ◌<◌, ◌≤◌, min, Bool, true, false, ◌&&◌, ◌||◌, eqb, ltb, pos, sym, refl, ap, ◌∙◌, true≢false, le_of_eq, le_of_lt, mul-pos, arith, pow_pos, ltb-false, ltb-true, lt-ltb, eqb-true}
use native.Mathlib.Nat.{div-eq_of_lt}
use mathlib.Core.Bool.{false≢true}
use lib.Ieee.{Float, of_bits, of_int, binary32, nan, inf, fin, up, down, lt, le, to_unsigned}
use lib.Ieee.Fits.{down_pos}
use borrow.Author.Tests.{eqb-false}
use Rattle.ieee754.proofs.Cut.{minus_one, power}
use Rattle.ieee754.specs.Steps.{float}

abbrev pub zero_f : Float
zero_f = fin false 0 (pos 0)

abbrev pub top_f : Float
top_f = fin false 8191 (pos 0)

-- `le` of two numbers that are not negative
at_most : (a b : ℕ) → ltb a b || (eqb a b && true) ≡ true → a ≤ b
at_most a b h = go (ltb a b) (eqb a b) refl refl h
  where
    go : (s t : Bool) → ltb a b ≡ s → eqb a b ≡ t → s || (t && true) ≡ true → a ≤ b
    go true t p q h = le_of_lt (ltb-true a b p)
    go false true p q h = le_of_eq (eqb-true a b q)
    go false false p q h = absurd (false≢true h)

over : (a b : ℕ) → ltb a b || (eqb a b && true) ≡ false → b < a
over a b h = go (ltb a b) (eqb a b) refl refl h
  where
    less : b ≤ a → (a ≡ b → ⊥) → b < a
    less p q = omega arith

    go : (s t : Bool) → ltb a b ≡ s → eqb a b ≡ t → s || (t && true) ≡ false → b < a
    go true t p q h = absurd (true≢false h)
    go false true p q h = absurd (true≢false h)
    go false false p q h = less (ltb-false a b p) (eqb-false a b q)

-- a number above 0 is not at most a negative one
never : (a b : ℕ) → 0 < a → eqb a b && eqb a 0 ≡ true → ⊥
never a b p h = go (eqb a b) h
  where
    zero_is : a ≡ 0 → ⊥
    zero_is e = omega arith

    go : (t : Bool) → t && eqb a 0 ≡ true → ⊥
    go true k = zero_is (eqb-true a 0 k)
    go false k = false≢true k

or_left : (a b : Bool) → a ≡ true → a || b ≡ true
or_left a b h = ap (λ (t : Bool). t || b) h

two : (w d : ℕ) → 0 < d → 0 < 1 * 2 ^ w * d
two w d D = mul-pos (mul-pos (pow_pos 0) (pow_pos w)) D

sum_left : (a b : ℕ) → 0 < a → 0 < a + b
sum_left a b h = omega arith

sum_right : (a b : ℕ) → 0 < b → 0 < a + b
sum_right a b h = omega arith

-- from 2 ^ w on x is above -1
pub above : (w : ℕ) (x : Float) → le (power w) x ≡ true → lt minus_one x ≡ true
unfolding le lt
above w nan h = absurd (false≢true h)
above w (inf true) h = absurd (false≢true h)
above w (inf false) h = refl
above w (fin true m e) h = absurd (never (1 * 2 ^ w * down e) (m * up e * 1) (two w (down e) (down_pos e)) h)
above w (fin false m e) h = lt-ltb 0 (1 * down e + m * up e * 1) (sum_left (1 * down e) (m * up e * 1) (two 0 (down e) (down_pos e)))

-- and not negative
pub at_least_zero : (x : Float) → le (power 0) x ≡ true → le zero_f x ≡ true
unfolding le
at_least_zero nan h = absurd (false≢true h)
at_least_zero (inf true) h = absurd (false≢true h)
at_least_zero (inf false) h = refl
at_least_zero (fin true m e) h = absurd (never (1 * down e) (m * up e * 1) (two 0 (down e) (down_pos e)) h)
at_least_zero (fin false m e) h = or_left (ltb (0 * down e) (m * up e * 1)) _ (lt-ltb (0 * down e) (m * up e * 1) (more (m * up e) (down e) (down_pos e) (at_most (1 * down e) (m * up e * 1) h)))
  where
    more : (a d : ℕ) → 0 < d → 1 * d ≤ a * 1 → 0 * d < a * 1
    more a d p q = omega arith

-- a number from 1 on that is not from 2 ^ w on is below it
pub below : (w : ℕ) (x : Float) → le (power 0) x ≡ true → le (power w) x ≡ false → lt x (power w) ≡ true
unfolding le lt
below w nan h k = absurd (false≢true h)
below w (inf true) h k = refl
below w (inf false) h k = absurd (true≢false k)
below w (fin true m e) h k = lt-ltb 0 (m * up e * 1 + 1 * 2 ^ w * down e) (sum_right (m * up e * 1) (1 * 2 ^ w * down e) (two w (down e) (down_pos e)))
below w (fin false m e) h k = lt-ltb (m * up e * 1) (1 * 2 ^ w * down e) (over (1 * 2 ^ w * down e) (m * up e * 1) k)

-- below 1 the whole part is 0
nothing : (a d c : ℕ) → a * 1 < 1 * d → 0 ≡ min (a / d) c
nothing a d c h = sym (ap (λ (z : ℕ). min z c) (div-eq_of_lt (plain h)) ∙ least c)
  where
    plain : a * 1 < 1 * d → a < d
    plain p = omega arith

    least : (c : ℕ) → min 0 c ≡ 0
    least c = omega arith

pub under_one : (w : ℕ) (x : Float) → le (power 0) x ≡ false → 0 ≡ to_unsigned w x
unfolding le to_unsigned
under_one w nan h = refl
under_one w (inf true) h = refl
under_one w (inf false) h = absurd (true≢false h)
under_one w (fin true m e) h = refl
under_one w (fin false m e) h = nothing (m * up e) (down e) (2 ^ w - 1) (over (1 * down e) (m * up e * 1) h)

-- and it is at most 8191
pub at_most_top : (x : Float) → le zero_f x ≡ true → le (power 0) x ≡ false → le x top_f ≡ true
unfolding le
at_most_top nan h k = absurd (false≢true h)
at_most_top (inf true) h k = absurd (false≢true h)
at_most_top (inf false) h k = absurd (true≢false k)
at_most_top (fin true m e) h k = or_left (ltb 0 (m * up e * 1 + 8191 * down e)) _ (lt-ltb 0 (m * up e * 1 + 8191 * down e) (more (m * up e * 1) (down e) (down_pos e)))
  where
    more : (a d : ℕ) → 0 < d → 0 < a + 8191 * d
    more a d p = omega arith
at_most_top (fin false m e) h k = or_left (ltb (m * up e * 1) (8191 * down e)) _ (lt-ltb (m * up e * 1) (8191 * down e) (less (m * up e * 1) (down e) (over (1 * down e) (m * up e * 1) k)))
  where
    less : (a d : ℕ) → a < 1 * d → a < 8191 * d
    less a d p = omega arith

-- 0, 1, 8191, 8192, 2^24 and 2^32 by their bit patterns, as MIR has them
pub zero_is : of_bits binary32 0 ≡ zero_f
unfolding of_bits
zero_is = refl

pub top_is : of_bits binary32 0x45fff800 ≡ top_f
unfolding of_bits
top_is = refl

pub one : of_bits binary32 0x3f800000 ≡ fin false 1 (pos 0)
unfolding of_bits
one = refl

pub two_13 : of_bits binary32 0x46000000 ≡ float 8192
unfolding of_bits of_int
two_13 = refl

pub two_24 : of_bits binary32 0x4b800000 ≡ fin false 1 (pos 24)
unfolding of_bits
two_24 = refl

pub two_32 : of_bits binary32 0x4f800000 ≡ fin false 1 (pos 32)
unfolding of_bits
two_32 = refl

pub ruleset constants = (zero_is, one, top_is, two_13, two_24, two_32)
