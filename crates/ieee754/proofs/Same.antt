-- At f32 values of whole numbers below 2 ^ 32, the f32 definitions are the definitions over whole numbers. Nothing overflows there: every value is below 2 ^ 97.
use Rattle.std.specs.Prelude.{Option, Some, None}
use mathlib.Core.Path.{◌≡◌, refl, sym, ap, ◌∙◌, subst}
use Prim.Native.Nat.{ℕ, ◌+◌, ◌-◌, ◌*◌, ◌/◌, ◌^◌, ◌≤◌, ◌<◌, min}
use native.Mathlib.Nat.{le_trans, le_of_eq, lt_of_le_of_lt, lt_of_lt_of_le, mul-one, mul_assoc, mul_right_comm, mul-pos, mul-le-mul, mul-le-mul_left, mul-le-mul_right, add-le-add, one-mul, le_of_suc-le-suc, div-lt_iff_lt-mul}
use native.Mathlib.Omega.{arith}
use mathlib.Core.Bool.{Bool, true, false, ◌&&◌}
use lib.Dec.{leb, leb-zero, lit≤, lit<}
use lib.Pow.{pow-add, pow_pos, pow-lt}
use lib.Ieee.{Float, binary32, round, of_int, add, sub, mul, div, le, to_unsigned}
use lib.Ieee.Exact.{HasValue}
use lib.Ieee.Scale.{overflow, round_same}
use borrow.Author.Tests.{leb-true, leb-false}
use Rattle.ieee754.specs.Steps.{float, accept, fracn_cut, fracn_of, vco_of}
use Rattle.ieee754.specs.Whole.{unit, rounded, whole, times, over, plus, less, quotient_whole, fracn_whole, vco_whole}
use Rattle.ieee754.proofs.Round.{rounded_grid, rounded_le, rounded_ge, rounded_pos, rounded_exact}
use Rattle.ieee754.proofs.Values.{round_value, mul_val, div_val, add_val, sub_val, sub_neg, le_val, cut_val, neg_val}

-- x is a units, and -a units
abbrev pub Is : Float → ℕ → Type 0
Is x a = HasValue x false a unit

abbrev IsNeg : Float → ℕ → Type 0
IsNeg x a = HasValue x true a unit

unit_pos : 0 < unit
unit_pos = pow_pos 149

few : (j : ℕ) → j ≤ 127 → j + 149 < 277
few j h = omega arith

under : (r j : ℕ) → j ≤ 127 → r ≤ 2 ^ j * unit → r < overflow binary32
under r j J h = lt_of_le_of_lt h (subst (λ (z : ℕ). z < 2 ^ 277) (pow-add 2 j 149) (pow-lt (few j J)))

-- num / den rounded, where it is at most 2 ^ j
pub has_round : (s : Bool) (num den j : ℕ) → j ≤ 127 → 0 < den → num ≤ 2 ^ j * den → HasValue (round binary32 s num den) s (rounded num den) unit
has_round s num den j J D h =
    subst (λ (z : ℕ). HasValue (round binary32 s num den) s z unit) (sym (rounded_grid num den))
    (round_value binary32 s num den (subst (λ (z : ℕ). z < overflow binary32) (rounded_grid num den) (under (rounded num den) j J (rounded_le num den j D h))))

-- ---- a whole number below 2 ^ 32
float_round : (n : ℕ) → float n ≡ round binary32 false n 1
unfolding of_int
float_round n = refl

one_more : (n k : ℕ) → n < k → n ≤ k * 1
one_more n k h = omega arith

pub float_is : (n : ℕ) → n < 2 ^ 32 → Is (float n) (whole n)
float_is n h = subst (λ (z : Float). Is z (whole n)) (sym (float_round n)) (has_round false n 1 32 (lit≤ tt) (lit< tt) (one_more n (2 ^ 32) h))

whole_le : (n : ℕ) → n < 2 ^ 32 → whole n ≤ 2 ^ 32 * unit
whole_le n h = rounded_le n 1 32 (lit< tt) (one_more n (2 ^ 32) h)

whole_ge : (n : ℕ) → 0 < n → unit ≤ whole n
whole_ge n h = rounded_ge n 1 0 (lit< tt) h

-- ---- the operations
mul_is : (x y : Float) (a b j : ℕ) → j ≤ 127 → Is x a → Is y b → a * b ≤ 2 ^ j * (unit * unit) → Is (mul binary32 x y) (times a b)
mul_is x y a b j J h k l =
    subst (λ (z : Float). Is z (times a b)) (sym (mul_val binary32 x y false false a unit b unit unit_pos unit_pos h k))
    (has_round false (a * b) (unit * unit) j J (mul-pos unit_pos unit_pos) l)

mul_is_neg : (x y : Float) (a b j : ℕ) → j ≤ 127 → Is x a → IsNeg y b → a * b ≤ 2 ^ j * (unit * unit) → IsNeg (mul binary32 x y) (times a b)
mul_is_neg x y a b j J h k l =
    subst (λ (z : Float). IsNeg z (times a b)) (sym (mul_val binary32 x y false true a unit b unit unit_pos unit_pos h k))
    (has_round true (a * b) (unit * unit) j J (mul-pos unit_pos unit_pos) l)

div_is : (x y : Float) (a b j : ℕ) → j ≤ 127 → 0 < b → Is x a → Is y b → a ≤ 2 ^ j * b → Is (div binary32 x y) (over a b)
div_is x y a b j J B h k l =
    subst (λ (z : Float). Is z (over a b))
    (sym (div_val binary32 x y a unit b unit unit_pos B h k
    ∙ round_same binary32 false (a * unit) (b * unit) a b (mul-pos B unit_pos) B (mul_right_comm a unit b ∙ mul_assoc a b unit)))
    (has_round false a b j J B l)

add_is : (x y : Float) (a b j : ℕ) → j ≤ 127 → Is x a → Is y b → a + b ≤ 2 ^ j * unit → Is (add binary32 x y) (plus a b)
add_is x y a b j J h k l = subst (λ (z : Float). Is z (plus a b)) (sym (add_val binary32 x y a b unit unit_pos h k)) (has_round false (a + b) unit j J unit_pos l)

sub_is : (x y : Float) (a b j : ℕ) → j ≤ 127 → Is x a → Is y b → b ≤ a → a ≤ 2 ^ j * unit → Is (sub binary32 x y) (less a b)
sub_is x y a b j J h k g l = subst (λ (z : Float). Is z (less a b)) (sym (sub_val binary32 x y a b unit unit_pos h k g)) (has_round false (a - b) unit j J unit_pos (le_trans (smaller a b) l))
  where
    smaller : (a b : ℕ) → a - b ≤ a
    smaller a b = omega arith

sub_is_neg : (x y : Float) (a b j : ℕ) → j ≤ 127 → Is x a → Is y b → a < b → b ≤ 2 ^ j * unit → IsNeg (sub binary32 x y) (less b a)
sub_is_neg x y a b j J h k g l = subst (λ (z : Float). IsNeg z (less b a)) (sym (sub_neg binary32 x y a b unit unit_pos h k g)) (has_round true (b - a) unit j J unit_pos (le_trans (smaller b a) l))
  where
    smaller : (a b : ℕ) → a - b ≤ a
    smaller a b = omega arith

-- the bound of a product from those of its factors
product : (a b i j : ℕ) → a ≤ 2 ^ i * unit → b ≤ 2 ^ j * unit → a * b ≤ 2 ^ (i + j) * (unit * unit)
product a b i j h k = le_trans (mul-le-mul h k) (le_of_eq (rearranged (2 ^ i) (2 ^ j) unit ∙ ap (λ (z : ℕ). z * (unit * unit)) (sym (pow-add 2 i j))))
  where
    rearranged : (x y u : ℕ) → x * u * (y * u) ≡ x * y * (u * u)
    rearranged x y u = native.Mathlib.Nat.mul-mul-mul_comm x u y u

-- ---- FRACN, cut
whole_8191 : whole 8191 ≡ 8191 * unit
whole_8191 = rounded_exact 8191 1 8191 149 (lit< tt) (lit< tt) refl

whole_0 : whole 0 ≡ 0
whole_0 = rounded_exact 0 1 0 0 (lit< tt) (lit< tt) refl

at_most : (f u : ℕ) → 0 < u → f ≤ 8191 * u → f / u ≤ 8191
at_most f u U h = le_of_suc-le-suc ((div-lt_iff_lt-mul U).1 (below f u U h))
  where
    below : (f u : ℕ) → 0 < u → f ≤ 8191 * u → f < 8192 * u
    below f u U h = omega arith

cut_same : (x : Float) (f : ℕ) → Is x f → fracn_cut x ≡ accept (leb f (8191 * unit)) (f / unit)
cut_same x f h =
    ap (λ (b : Bool). accept (b && le x (float 8191)) (to_unsigned 16 x))
    (le_val (float 0) x (whole 0) f unit unit_pos (float_is 0 (lit< tt)) h ∙ ap (λ (z : ℕ). leb z f) whole_0 ∙ leb-zero f)
    ∙ ap (λ (b : Bool). accept b (to_unsigned 16 x)) (le_val x (float 8191) f (whole 8191) unit unit_pos h (float_is 8191 (lit< tt)) ∙ ap (λ (z : ℕ). leb f z) whole_8191)
    ∙ ap (λ (z : ℕ). accept (leb f (8191 * unit)) z) (cut_val 16 x f unit unit_pos h)
    ∙ go (leb f (8191 * unit)) refl
  where
    small : (q : ℕ) → q ≤ 8191 → min q 65_535 ≡ q
    small q h = omega arith

    go : (t : Bool) → leb f (8191 * unit) ≡ t → accept t (min (f / unit) (2 ^ 16 - 1)) ≡ accept t (f / unit)
    go true e = ap Some (small (f / unit) (at_most f unit unit_pos (leb-true f (8191 * unit) e)))
    go false e = refl

-- a negative value is refused
cut_neg : (x : Float) (f v : ℕ) → 0 < f → IsNeg x f → fracn_cut x ≡ None
unfolding of_int
cut_neg x f v F h = ap (λ (b : Bool). accept (b && le x (float 8191)) (to_unsigned 16 x)) (neg_val x f unit F h)

-- ---- the quotient
module _ (ref d o : ℕ) (P : 0 < ref) (hr : ref < 2 ^ 32) (hd : d < 2 ^ 32) (ho : o < 2 ^ 32) where
  product_le : whole o * whole d ≤ 2 ^ 64 * (unit * unit)
  product_le = product (whole o) (whole d) 32 32 (whole_le o ho) (whole_le d hd)

  product_is : Is (mul binary32 (float o) (float d)) (times (whole o) (whole d))
  product_is = mul_is (float o) (float d) (whole o) (whole d) 64 (lit≤ tt) (float_is o ho) (float_is d hd) product_le

  quotient_fits : times (whole o) (whole d) ≤ 2 ^ 64 * whole ref
  quotient_fits = le_trans (rounded_le (whole o * whole d) (unit * unit) 64 (mul-pos unit_pos unit_pos) product_le) (mul-le-mul_left (2 ^ 64) (whole_ge ref P))

  ref_pos : 0 < whole ref
  ref_pos = lt_of_lt_of_le unit_pos (whole_ge ref P)

  pub quotient_is : Is (div binary32 (mul binary32 (float o) (float d)) (float ref)) (quotient_whole ref d o)
  unfolding quotient_whole
  quotient_is = div_is (mul binary32 (float o) (float d)) (float ref) (times (whole o) (whole d)) (whole ref) 64 (lit≤ tt) ref_pos product_is (float_is ref hr) quotient_fits

  pub quotient_le : quotient_whole ref d o ≤ 2 ^ 64 * unit
  unfolding quotient_whole
  quotient_le = rounded_le (times (whole o) (whole d)) (whole ref) 64 ref_pos quotient_fits

-- ---- what is left of FRACN, from any quotient x of q units
abbrev rest : Float → ℕ → Float
rest x n = mul binary32 (float 8192) (sub binary32 x (float n))

abbrev rest_whole : ℕ → ℕ → Option ℕ
rest_whole q n = accept (leb (whole n) q && leb (times (whole 8192) (less q (whole n))) (8191 * unit)) (times (whole 8192) (less q (whole n)) / unit)

nonzero : (a b : ℕ) → a < b → unit ≤ (b - a) * unit
nonzero a b h = le_trans (le_of_eq (sym (one-mul unit))) (mul-le-mul_right unit (gap a b h))
  where
    gap : (a b : ℕ) → a < b → 1 ≤ b - a
    gap a b h = omega arith

rest_same : (x : Float) (q n : ℕ) → n < 2 ^ 32 → Is x q → q ≤ 2 ^ 64 * unit → fracn_cut (rest x n) ≡ rest_whole q n
rest_same x q n hn h l = go (leb (whole n) q) refl
  where
    go : (t : Bool) → leb (whole n) q ≡ t → fracn_cut (rest x n) ≡ accept (t && leb (times (whole 8192) (less q (whole n))) (8191 * unit)) (times (whole 8192) (less q (whole n)) / unit)
    go true e =
        let z = less q (whole n) in
        let z-is : Is (sub binary32 x (float n)) z = sub_is x (float n) q (whole n) 64 (lit≤ tt) h (float_is n hn) (leb-true (whole n) q e) l in
        let z-le : z ≤ 2 ^ 64 * unit = rounded_le (q - whole n) unit 64 unit_pos (le_trans (smaller q (whole n)) l) in
        cut_same (rest x n) (times (whole 8192) z)
        (mul_is (float 8192) (sub binary32 x (float n)) (whole 8192) z 96 (lit≤ tt) (float_is 8192 (lit< tt)) z-is (product (whole 8192) z 32 64 (whole_le 8192 (lit< tt)) z-le))
      where
        smaller : (a b : ℕ) → a - b ≤ a
        smaller a b = omega arith
    go false e =
        let z = less (whole n) q in
        let below : q < whole n = leb-false (whole n) q e in
        let z-is : IsNeg (sub binary32 x (float n)) z = sub_is_neg x (float n) q (whole n) 32 (lit≤ tt) h (float_is n hn) below (whole_le n hn) in
        let z-pos : 0 < z = rounded_pos (whole n - q) unit unit_pos (nonzero q (whole n) below) in
        let z-le : z ≤ 2 ^ 32 * unit = rounded_le (whole n - q) unit 32 unit_pos (le_trans (smaller (whole n) q) (whole_le n hn)) in
        cut_neg (rest x n) (times (whole 8192) z) 0
        (rounded_pos (whole 8192 * z) (unit * unit) (mul-pos unit_pos unit_pos) (mul-le-mul_right unit (le_trans (whole_ge 8192 (lit< tt)) (le_trans (le_of_eq (sym (mul-one (whole 8192)))) (mul-le-mul_left (whole 8192) z-pos)))))
        (mul_is_neg (float 8192) (sub binary32 x (float n)) (whole 8192) z 64 (lit≤ tt) (float_is 8192 (lit< tt)) z-is (product (whole 8192) z 32 32 (whole_le 8192 (lit< tt)) z-le))
      where
        smaller : (a b : ℕ) → a - b ≤ a
        smaller a b = omega arith

pub fracn_same : (ref n d o : ℕ) → 0 < ref → ref < 2 ^ 32 → n < 2 ^ 32 → d < 2 ^ 32 → o < 2 ^ 32 → fracn_of (float ref) (float n) (float d) (float o) ≡ fracn_whole ref n d o
unfolding fracn_of fracn_whole
fracn_same ref n d o P hr hn hd ho =
    rest_same (div binary32 (mul binary32 (float o) (float d)) (float ref)) (quotient_whole ref d o) n hn (quotient_is ref d o P hr hd ho) (quotient_le ref d o P hr hd ho)

-- ---- the VCO
pub vco_same : (ref n fracn : ℕ) → ref < 2 ^ 32 → n < 2 ^ 32 → fracn < 2 ^ 32 → vco_of ref n fracn ≡ vco_whole ref n fracn
unfolding vco_of vco_whole
vco_same ref n fracn hr hn hf =
    let part = over (whole fracn) (whole 8192) in
    let part-fits : whole fracn ≤ 2 ^ 32 * whole 8192 = le_trans (whole_le fracn hf) (mul-le-mul_left (2 ^ 32) (whole_ge 8192 (lit< tt))) in
    let ep : 0 < whole 8192 = lt_of_lt_of_le unit_pos (whole_ge 8192 (lit< tt)) in
    let part_is : Is (div binary32 (float fracn) (float 8192)) part = div_is (float fracn) (float 8192) (whole fracn) (whole 8192) 32 (lit≤ tt) ep (float_is fracn hf) (float_is 8192 (lit< tt)) part-fits in
    let part-le : part ≤ 2 ^ 32 * unit = rounded_le (whole fracn) (whole 8192) 32 ep part-fits in
    let sum_fits : whole n + part ≤ 2 ^ 33 * unit = le_trans (add-le-add (whole_le n hn) part-le) (lit≤ tt) in
    let sum_is : Is (add binary32 (float n) (div binary32 (float fracn) (float 8192))) (plus (whole n) part) = add_is (float n) (div binary32 (float fracn) (float 8192)) (whole n) part 33 (lit≤ tt) (float_is n hn) part_is sum_fits in
    let sum-le : plus (whole n) part ≤ 2 ^ 33 * unit = rounded_le (whole n + part) unit 33 unit_pos sum_fits in
    cut_val 32 (mul binary32 (float ref) (add binary32 (float n) (div binary32 (float fracn) (float 8192)))) (times (whole ref) (plus (whole n) part)) unit unit_pos
    (mul_is (float ref) (add binary32 (float n) (div binary32 (float fracn) (float 8192))) (whole ref) (plus (whole n) part) 65 (lit≤ tt) (float_is ref hr) sum_is (product (whole ref) (plus (whole n) part) 32 33 (whole_le ref hr) sum-le))
