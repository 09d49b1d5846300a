-- The whole part of an f32, from its bit pattern: a field k + 1 and 23 digits, which under a leading one are q. The f32 is q × 2 ^ (k - 149).
use Rattle.std.proofs.Common.{◌≡◌, ℕ, zero, suc, ◌+◌, ◌-◌, ◌*◌, ◌/◌, ◌%◌, ◌^◌, ◌<◌, ◌≤◌, min, Bool, true, false, ◌&&◌, ◌||◌, T, eqb, ltb, leb, ℤ, pos, negsuc, sym, ap, ◌∙◌, subst, le_trans, le_of_eq, lt_of_lt_of_le, lt_of_le_of_lt, lt_irrefl, mul-le-mul_right, mul_assoc, mul_comm, div-lt_iff_lt-mul, mul-lt-mul_of_pos_right, mul-pos, lt_of_not-le, le-div_iff_mul-le, mul_right_comm, div-one, arith, lit≤, ltb→lt, pow_pos, pow_mono, pow-add, shl_lt, shl_exact, shr-shr, ltb-true}
use native.Mathlib.Nat.{div-div-eq-div-mul}
use lib.Pow.{shl-shr}
use lib.Ieee.{Float, nan, inf, fin, binary32, up, down, size, fits, lt, le, to_bits, to_unsigned}
use lib.Ieee.Digits.{size-lt, size_reaches, size-le}
use lib.Ieee.Fits.{kept-lt, and_l, and_r}
use lib.Ieee.Nearest.{div_same}
use lib.Ieee.Positive.{num, den, positive, den_pos, between, le→cross}
use Rattle.ieee754.proofs.Cut.{power}

-- ---- x is from 2 ^ l to below 2 ^ h
abbrev Within : ℕ → ℕ → Float → Type 0
Within l h x = T (positive x) × (2 ^ l * den x ≤ num x) × (num x < 2 ^ h * den x)

one_le : (p d n : ℕ) → 1 * p * d ≤ n * 1 → p * d ≤ n
one_le p d n k = omega arith

one_lt : (p d n : ℕ) → n * 1 < 1 * p * d → n < p * d
one_lt p d n k = omega arith

under : (h : ℕ) (x : Float) → T (positive x) → lt x (power h) ≡ true → num x < 2 ^ h * den x
unfolding lt
under h nan p k = absurd p
under h (inf s) p k = absurd p
under h (fin true m e) p k = absurd p
under h (fin false m e) p k = one_lt (2 ^ h) (down e) (m * up e) (ltb-true (m * up e * 1) (1 * 2 ^ h * down e) k)

or_first : (a b : Bool) → a ≡ true → T (a || b)
or_first true b h = tt
or_first false b h = absurd (subst T (sym h) tt)

lt→le : (x y : Float) → lt x y ≡ true → T (le x y)
unfolding le
lt→le x y h = or_first (lt x y) _ h

within : (l h : ℕ) (x : Float) → le (power l) x ≡ true → lt x (power h) ≡ true → Within l h x
within l h x a b =
    let A : T (le (power l) x) = subst T (sym a) tt in
    let p : T (positive x) = between (power l) x (power h) tt tt A (lt→le x (power h) b) in
    (p, one_le (2 ^ l) (den x) (num x) (le→cross (power l) x tt p A), under h x p b)

-- ---- n units of 2 ^ -149
pow_lt_back : (i j : ℕ) → 2 ^ i < 2 ^ j → i < j
pow_lt_back i j h = lt_of_not-le (λ (g : j ≤ i). lt_irrefl (2 ^ i) (lt_of_lt_of_le h (pow_mono g)))

size_over : (n j : ℕ) → 2 ^ j ≤ n → j < size n
size_over n j h = pow_lt_back j (size n) (lt_of_le_of_lt h (size-lt n))

-- how many of n's digits the pattern drops, and the 24 that it keeps
abbrev gone : ℕ → ℕ
gone n = size n - 24

abbrev kept : ℕ → ℕ
kept n = n / 2 ^ gone n

abbrev pattern : ℕ → ℕ
pattern n = gone n * 2 ^ 23 + kept n

-- the kept digits begin with a one
lead : (n : ℕ) → 24 ≤ size n → 2 ^ 23 ≤ kept n
lead n h =
    (le-div_iff_mul-le (pow_pos (gone n))).1 (subst (λ (z : ℕ). z ≤ n) (pow-add 2 23 (gone n)) (size_reaches n (23 + gone n) (less (size n) h)))
  where
    less : (s : ℕ) → 24 ≤ s → 23 + (s - 24) < s
    less s k = omega arith

field : (k q : ℕ) → 8388608 ≤ q → q < 16777216 → (k * 8388608 + q) / 8388608 ≡ k + 1
field k q a b = omega arith

digits : (k q : ℕ) → 8388608 ≤ q → q < 16777216 → (k * 8388608 + q) % 8388608 + 8388608 ≡ q
digits k q a b = omega arith

abbrev units : Float → ℕ
units x = num x * 2 ^ 149 / den x

pattern_is : (x : Float) → T (positive x) → to_bits binary32 x ≡ pattern (units x)
unfolding to_bits
pattern_is nan p = absurd p
pattern_is (inf s) p = absurd p
pattern_is (fin true m e) p = absurd p
pattern_is (fin false m e) p = plain (gone (units (fin false m e)) * 2 ^ 23) (kept (units (fin false m e)))
  where
    plain : (a b : ℕ) → 0 + a + b ≡ a + b
    plain a b = omega arith

-- ---- the whole part
uncapped : (a c : ℕ) → a < c → min a (c - 1) ≡ a
uncapped a c h = omega arith

whole : (x : Float) → T (positive x) → num x < 2 ^ 32 * den x → to_unsigned 32 x ≡ units x / 2 ^ 149
unfolding to_unsigned
whole nan p h = absurd p
whole (inf s) p h = absurd p
whole (fin true m e) p h = absurd p
whole (fin false m e) p h =
    let a = m * up e in
    let d = down e in
    uncapped (a / d) (2 ^ 32) ((div-lt_iff_lt-mul (den_pos (fin false m e))).1 h)
    ∙ sym (div-div-eq-div-mul (a * 2 ^ 149) d (2 ^ 149) ∙ div_same (a * 2 ^ 149) (d * 2 ^ 149) a d (mul-pos (den_pos (fin false m e)) (pow_pos 149)) (den_pos (fin false m e)) (mul_assoc a (2 ^ 149) d ∙ ap (λ (z : ℕ). a * z) (mul_comm (2 ^ 149) d)))

-- ---- what the pattern of such an x says
record Shape (l h : ℕ) (x : Float) : Type 0 where
  pub sign : T (positive x)
  pub exponent : to_bits binary32 x / 2 ^ 23 ≡ gone (units x) + 1
  pub mantissa : to_bits binary32 x % 2 ^ 23 + 2 ^ 23 ≡ kept (units x)
  pub least : l + 126 ≤ gone (units x)
  pub most : gone (units x) ≤ h + 125
  pub few : kept (units x) < 2 ^ 24
  pub value : to_unsigned 32 x ≡ units x / 2 ^ 149

scaled_le : (l a d : ℕ) → 0 < d → 2 ^ l * d ≤ a → 2 ^ (l + 149) ≤ a * 2 ^ 149 / d
scaled_le l a d D h =
    (le-div_iff_mul-le D).1
    (le_trans (le_of_eq (ap (λ (z : ℕ). z * d) (pow-add 2 l 149) ∙ mul_right_comm (2 ^ l) (2 ^ 149) d)) (mul-le-mul_right (2 ^ 149) h))

scaled_lt : (h a d : ℕ) → 0 < d → a < 2 ^ h * d → a * 2 ^ 149 / d < 2 ^ (h + 149)
scaled_lt h a d D k =
    (div-lt_iff_lt-mul D).1
    (lt_of_lt_of_le (mul-lt-mul_of_pos_right k (pow_pos 149)) (le_of_eq (mul_right_comm (2 ^ h) d (2 ^ 149) ∙ ap (λ (z : ℕ). z * d) (sym (pow-add 2 h 149)))))

shape : (l h : ℕ) (x : Float) → h ≤ 32 → Within l h x → Shape l h x
shape l h x H w =
    let n = units x in
    let low : l + 149 < size n = size_over n (l + 149) (scaled_le l (num x) (den x) (den_pos x) w.1) in
    let high : size n ≤ h + 149 = size-le n (h + 149) (scaled_lt h (num x) (den x) (den_pos x) w.2) in
    let lo : 2 ^ 23 ≤ kept n = lead n (enough (size n) low) in
    record {
      sign = w.0;
      exponent = ap (λ (z : ℕ). z / 2 ^ 23) (pattern_is x w.0) ∙ field (gone n) (kept n) lo (kept-lt 24 n);
      mantissa = ap (λ (z : ℕ). z % 2 ^ 23 + 2 ^ 23) (pattern_is x w.0) ∙ digits (gone n) (kept n) lo (kept-lt 24 n);
      least = less (size n) low;
      most = more (size n) high;
      few = kept-lt 24 n;
      value = whole x w.0 (lt_of_lt_of_le w.2 (mul-le-mul_right (den x) (pow_mono H)));
    }
  where
    enough : (s : ℕ) → l + 149 < s → 24 ≤ s
    enough s k = omega arith

    less : (s : ℕ) → l + 149 < s → l + 126 ≤ s - 24
    less s k = omega arith

    more : (s : ℕ) → s ≤ h + 149 → s - 24 ≤ h + 125
    more s k = omega arith

-- ---- from 1 to below 2 ^ 24: the field is 127 to 150, and the digits go down
module _ (x : Float) (a : le (power 0) x ≡ true) (c : lt x (power 24) ≡ true) where
  z : Shape 0 24 x
  z = shape 0 24 x (lit≤ tt) (within 0 24 x a c)

  pub down_from : to_bits binary32 x / 2 ^ 23 ≤ 150
  down_from = go (to_bits binary32 x / 2 ^ 23) (gone (units x)) z.exponent z.most
    where
      go : (f k : ℕ) → f ≡ k + 1 → k ≤ 149 → f ≤ 150
      go f k p q = omega arith

  pub down_by : 150 - to_bits binary32 x / 2 ^ 23 < 32
  down_by = go (to_bits binary32 x / 2 ^ 23) (gone (units x)) z.exponent z.least
    where
      go : (f k : ℕ) → f ≡ k + 1 → 126 ≤ k → 150 - f < 32
      go f k p q = omega arith

  pub down_is : (to_bits binary32 x % 2 ^ 23 + 2 ^ 23) / 2 ^ (150 - to_bits binary32 x / 2 ^ 23) ≡ to_unsigned 32 x
  down_is =
      let n = units x in
      let k = gone n in
      ap (λ (y : ℕ). y / 2 ^ (150 - to_bits binary32 x / 2 ^ 23)) z.mantissa
      ∙ ap (λ (y : ℕ). kept n / 2 ^ y) (by (to_bits binary32 x / 2 ^ 23) k z.exponent)
      ∙ shr-shr n k (149 - k)
      ∙ ap (λ (y : ℕ). n / 2 ^ y) (join k z.most)
      ∙ sym z.value
    where
      by : (f k : ℕ) → f ≡ k + 1 → 150 - f ≡ 149 - k
      by f k p = omega arith

      join : (k : ℕ) → k ≤ 149 → k + (149 - k) ≡ 149
      join k p = omega arith

-- ---- from 2 ^ 24 to below 2 ^ 32: the field is 151 to 158, the digits go up, and none is lost
-- a multiple of 2 ^ t by a number of 24 digits keeps them all
all_kept : (n m t : ℕ) → n ≡ m * 2 ^ t → m < 2 ^ 24 → kept n * 2 ^ gone n ≡ n
all_kept n m t e h =
    let k = gone n in
    let less : k ≤ t = go (size n) (size-le n (24 + t) (subst (λ (y : ℕ). y < 2 ^ (24 + t)) (sym e) (shl_lt 24 t h))) in
    let s : n ≡ m * 2 ^ (t - k) * 2 ^ k = e ∙ ap (λ (y : ℕ). m * 2 ^ y) (sym (join t k less)) ∙ ap (λ (y : ℕ). m * y) (pow-add 2 (t - k) k) ∙ sym (mul_assoc m (2 ^ (t - k)) (2 ^ k)) in
    ap (λ (y : ℕ). y / 2 ^ k * 2 ^ k) s ∙ ap (λ (y : ℕ). y * 2 ^ k) (shl-shr (m * 2 ^ (t - k)) k) ∙ sym s
  where
    go : (s : ℕ) → s ≤ 24 + t → s - 24 ≤ t
    go s p = omega arith

    join : (t k : ℕ) → k ≤ t → t - k + k ≡ t
    join t k p = omega arith

short : (m d : ℕ) → 0 < d → m < 16777216 → 16777216 * d ≤ m * 1 → ⊥
short m d p q r = omega arith

few_digits : (m : ℕ) (e : ℤ) → T (fits binary32 (fin false (suc m) e)) → suc m < 2 ^ 24
unfolding fits
few_digits m e f =
    let odd = eqb (suc m % 2) 1 in
    let few = ltb (suc m) (2 ^ 24) in
    let low = leb (down e) (2 ^ 149) in
    ltb→lt (suc m) (2 ^ 24) (and_r odd few (and_l (odd && few) low (and_l (odd && few && low) (ltb (suc m * up e) (2 ^ 128 * down e)) f)))

none_lost : (x : Float) → T (fits binary32 x) → T (positive x) → 2 ^ 24 * den x ≤ num x → kept (units x) * 2 ^ gone (units x) ≡ units x
unfolding fits
none_lost nan f p h = absurd p
none_lost (inf s) f p h = absurd p
none_lost (fin true m e) f p h = absurd p
none_lost (fin false zero e) f p h = absurd p
none_lost (fin false (suc m) (negsuc j)) f p h =
    absurd (short (suc m) (2 ^ suc j) (pow_pos (suc j)) (few_digits m (negsuc j) f) h)
none_lost (fin false (suc m) (pos j)) f p h =
    all_kept (units (fin false (suc m) (pos j))) (suc m) (j + 149)
    (div-one (suc m * 2 ^ j * 2 ^ 149) ∙ mul_assoc (suc m) (2 ^ j) (2 ^ 149) ∙ ap (λ (y : ℕ). suc m * y) (sym (pow-add 2 j 149)))
    (few_digits m (pos j) f)

module _ (x : Float) (F : T (fits binary32 x)) (a : le (power 24) x ≡ true) (c : lt x (power 32) ≡ true) where
  z' : Shape 24 32 x
  z' = shape 24 32 x (lit≤ tt) (within 24 32 x a c)

  pub up_from : 150 ≤ to_bits binary32 x / 2 ^ 23
  up_from = go (to_bits binary32 x / 2 ^ 23) (gone (units x)) z'.exponent z'.least
    where
      go : (f k : ℕ) → f ≡ k + 1 → 150 ≤ k → 150 ≤ f
      go f k p q = omega arith

  pub up_by : to_bits binary32 x / 2 ^ 23 - 150 < 32
  up_by = go (to_bits binary32 x / 2 ^ 23) (gone (units x)) z'.exponent z'.most
    where
      go : (f k : ℕ) → f ≡ k + 1 → k ≤ 157 → f - 150 < 32
      go f k p q = omega arith

  pub up_is : (to_bits binary32 x % 2 ^ 23 + 2 ^ 23) * 2 ^ (to_bits binary32 x / 2 ^ 23 - 150) % 2 ^ 32 ≡ to_unsigned 32 x
  up_is =
      let n = units x in
      let k = gone n in
      let q = kept n in
      let s : n ≡ q * 2 ^ (k - 149) * 2 ^ 149 =
      sym (none_lost x F z'.sign (within 24 32 x a c).1) ∙ ap (λ (y : ℕ). q * 2 ^ y) (sym (join k z'.least)) ∙ ap (λ (y : ℕ). q * y) (pow-add 2 (k - 149) 149) ∙ sym (mul_assoc q (2 ^ (k - 149)) (2 ^ 149)) in
      ap (λ (y : ℕ). y * 2 ^ (to_bits binary32 x / 2 ^ 23 - 150) % 2 ^ 32) z'.mantissa
      ∙ ap (λ (y : ℕ). q * 2 ^ y % 2 ^ 32) (by (to_bits binary32 x / 2 ^ 23) k z'.exponent)
      ∙ shl_exact 24 (k - 149) 32 z'.few (room k z'.most)
      ∙ sym (ap (λ (y : ℕ). y / 2 ^ 149) s ∙ shl-shr (q * 2 ^ (k - 149)) 149)
      ∙ sym z'.value
    where
      by : (f k : ℕ) → f ≡ k + 1 → f - 150 ≡ k - 149
      by f k p = omega arith

      join : (k : ℕ) → 150 ≤ k → k - 149 + 149 ≡ k
      join k p = omega arith

      room : (k : ℕ) → k ≤ 157 → 24 + (k - 149) ≤ 32
      room k p = omega arith
