-- How far above its fraction a rounded one is: by 1 part in 2 ^ 24 and a unit at most. And so the VCO that a FRACN stands for is at most 98 hertz above
-- what it was to be: output × divider and the quotient are rounded up, while N less and × 8192 are exact.
use Rattle.std.specs.Prelude.{Some}
use mathlib.Core.Path.{◌≡◌, refl, sym, ap, ◌∙◌, subst}
use mathlib.Core.Bool.{Bool, true, false, not, ◌&&◌}
use Prim.Native.Nat.{ℕ, zero, suc, ◌+◌, ◌-◌, ◌*◌, ◌/◌, ◌%◌, ◌^◌, ◌≤◌, ◌<◌, compare, Ordering}
use native.Mathlib.Nat.{le_trans, le_of_eq, le_of_suc-le-suc, mul-one, one-mul, mul_comm, mul_assoc, mul-pos, mul-le-mul_left, mul-le-mul_right, le_of_mul-le-mul_right, add-mul, suc-mul, div-add-mod', div-mul-le_self, mod-lt}
use native.Mathlib.Omega.{arith}
use borrow.Author.Tests.{leb-true, leb-false, ltb-true, ltb-false}
use lib.Dec.{T, leb, ltb, is_le, compare_is_eq, lit≤, lit<, leb→le, nleb→lt, eqb→eq, eqb, eqb_refl}
use lib.Arith.{lt_of_le-ne}
use lib.Pow.{pow-add, pow_pos}
use lib.Ieee.{nearest}
use lib.Ieee.Digits.{size_reaches}
use lib.Ieee.Nearest.{closest}
use lib.Ieee.Order.{drop, kept}
use Rattle.ieee754.specs.Steps.{accept}
use Rattle.ieee754.specs.Whole.{unit, rounded, whole, times, less, quotient_whole, fracn_whole}
use Rattle.ieee754.proofs.Round.{kept_le, rounded_mono, rounded_exact, rounded_ge}

-- ---- a / b to the nearest whole number is at most a half above
-- what `compare` says (as `lib.Ieee.Nearest` has it, whose lemma is private)
abbrev Cmp : Ordering → ℕ → ℕ → Type 0
Cmp Ordering.lt a b = a < b
Cmp Ordering.eq a b = a ≡ b
Cmp Ordering.gt a b = b < a

cmp : (a b : ℕ) → Cmp (compare a b) a b
cmp a b = go (compare a b) (leb→le a b) (nleb→lt a b) (eqb→eq a b) (λ (e : a ≡ b). subst (λ (x : ℕ). T (eqb a x)) e (eqb_refl a))
  where
    go : (o : Ordering) → (T (is_le o) → a ≤ b) → (T (not (is_le o)) → b < a) → (T (compare_is_eq o) → a ≡ b) → (a ≡ b → T (compare_is_eq o)) → Cmp o a b
    go Ordering.lt h k e n = lt_of_le-ne (h tt) n
    go Ordering.eq h k e n = e tt
    go Ordering.gt h k e n = k tt

closest_most : (a b : ℕ) → 0 < b → 2 * (closest a b * b) ≤ 2 * a + b
closest_most a b B = go (compare (a % b * 2) b) (cmp (a % b * 2) b)
  where
    go : (o : Ordering) → Cmp o (a % b * 2) b → 2 * (nearest (a / b) o * b) ≤ 2 * a + b
    go Ordering.lt h = let e = div-add-mod' a b in omega arith
    go Ordering.eq h =
        let e = div-add-mod' a b in
        let t : a / b % 2 * b ≤ 1 * b = mul-le-mul_right b (le_of_suc-le-suc (mod-lt (a / b) (lit< tt))) in
        omega (arith, add-mul (a / b) (a / b % 2) b)
    go Ordering.gt h = let e = div-add-mod' a b in omega (arith, suc-mul (a / b) b)

-- ---- the last digit that is kept is worth a unit, or at most 1 part in 2 ^ 23
last_digit : (n den : ℕ) → 0 < den → 8_388_608 * (den * 2 ^ drop 24 n den) ≤ n + 8_388_608 * den
last_digit n den D = go (drop 24 n den) refl
  where
    go : (k : ℕ) → drop 24 n den ≡ k → 8_388_608 * (den * 2 ^ k) ≤ n + 8_388_608 * den
    go zero e = omega (arith, mul-one den)
    go (suc k) e =
        let w = n / den in
        let r : 2 ^ (23 + suc k) ≤ w = size_reaches w (23 + suc k) (omega arith) in
        let s : 2 ^ 23 * 2 ^ suc k ≤ w = subst (λ (x : ℕ). x ≤ w) (pow-add 2 23 (suc k)) r in
        let t : 2 ^ 23 * 2 ^ suc k * den ≤ w * den = mul-le-mul_right den s in
        let u : w * den ≤ n = div-mul-le_self n den in
        let v : 2 ^ 23 * 2 ^ suc k * den ≡ 8_388_608 * (den * 2 ^ suc k) = mul_assoc 8_388_608 (2 ^ suc k) den ∙ ap (λ (x : ℕ). 8_388_608 * x) (mul_comm (2 ^ suc k) den) in
        let y : 8_388_608 * (den * 2 ^ suc k) ≤ n = le_trans (le_of_eq (sym v)) (le_trans t u) in
        omega arith

pub rounded_up : (num den : ℕ) → 0 < den → 16_777_216 * (rounded num den * den) ≤ 16_777_217 * (num * unit) + 16_777_216 * den
unfolding rounded
rounded_up num den D = join (num * unit) den (2 ^ drop 24 (num * unit) den) (kept 24 (num * unit) den) (closest_most (num * unit) (den * 2 ^ drop 24 (num * unit) den) (mul-pos D (pow_pos (drop 24 (num * unit) den)))) (last_digit (num * unit) den D)
  where
    join : (n den u x : ℕ) → 2 * (x * (den * u)) ≤ 2 * n + den * u → 8_388_608 * (den * u) ≤ n + 8_388_608 * den → 16_777_216 * (x * u * den) ≤ 16_777_217 * n + 16_777_216 * den
    join n den u x h l =
        let e : x * u * den ≡ x * (den * u) = mul_assoc x u den ∙ ap (λ (z : ℕ). x * z) (mul_comm u den) in
        omega arith

-- ---- FRACN
whole_exact : (n : ℕ) → n < 16_777_216 → whole n ≡ n * unit
whole_exact n h = rounded_exact n 1 n 149 (lit< tt) h (sym (mul-one (n * unit)))

-- ---- what is exact
-- a rounded number has at most 24 digits, and zeros
digits : (k j : ℕ) → k ≤ 16_777_216 → (c : ℕ) × (i : ℕ) × (c < 16_777_216) × (k * 2 ^ j ≡ c * 2 ^ i)
digits k j h = go (ltb k 16_777_216) refl
  where
    go : (b : Bool) → ltb k 16_777_216 ≡ b → (c : ℕ) × (i : ℕ) × (c < 16_777_216) × (k * 2 ^ j ≡ c * 2 ^ i)
    go true t = (k, j, ltb-true k 16_777_216 t, refl)
    go false f =
        let e : k ≡ 16_777_216 = omega (arith, ltb-false k 16_777_216 f) in
        let d : 2 ^ (1 + j) ≡ 2 * 2 ^ j = pow-add 2 1 j in
        (8_388_608, 1 + j, lit< tt, ap (λ (z : ℕ). z * 2 ^ j) e ∙ omega arith)

representable : (num den : ℕ) → (c : ℕ) × (i : ℕ) × (c < 16_777_216) × (rounded num den ≡ c * 2 ^ i)
unfolding rounded
representable num den = digits (kept 24 (num * unit) den) (drop 24 (num * unit) den) (kept_le 24 (num * unit) den)

-- × 8192
times_exact : (num den : ℕ) → times (whole 8192) (rounded num den) ≡ 8192 * rounded num den
times_exact num den =
    let r = representable num den in
    let z : ℕ = r.0 * 2 ^ r.1 in
    let w : 2 ^ (13 + r.1) ≡ 8192 * 2 ^ r.1 = pow-add 2 13 r.1 in
    rw (whole_exact 8192 (lit< tt), r.3)
    (rounded_exact (8192 * unit * (r.0 * 2 ^ r.1)) (unit * unit) r.0 (13 + r.1) (mul-pos (pow_pos 149) (pow_pos 149)) r.2 (same r.0 (2 ^ r.1) (2 ^ (13 + r.1)) unit w)
    ∙ over_again r.0 (2 ^ r.1) (2 ^ (13 + r.1)) w)
  where
    same : (c y v u : ℕ) → v ≡ 8192 * y → 8192 * u * (c * y) * u ≡ c * v * (u * u)
    same c y v u w = rw w (omega arith)

    over_again : (c y v : ℕ) → v ≡ 8192 * y → c * v ≡ 8192 * (c * y)
    over_again c y v w = rw w (omega arith)

-- N less, of a number from N up to N + 1
below : (q n c y z u : ℕ) → q ≡ c * y → u ≡ y * z → n * u ≤ q → n * z * y ≤ c * y
below q n c y z u e f h = let g : n * (y * z) ≤ c * y = rw (f, e) at h in omega arith

rest_of : (q n c y z u d : ℕ) → q ≡ c * y → u ≡ y * z → c ≡ n * z + d → q - n * u ≡ d * y
rest_of q n c y z u d e f k = let g : q ≡ n * (y * z) + d * y = e ∙ ap (λ (x : ℕ). x * y) k ∙ omega arith in rw f (omega (arith, g))

under : (a b u : ℕ) → a * u < (b + 1) * u → a ≤ b
under a b u h = go (leb a b) refl
  where
    go : (t : Bool) → leb a b ≡ t → a ≤ b
    go true e = leb-true a b e
    go false e = let m : (b + 1) * u ≤ a * u = mul-le-mul_right u (let l = leb-false a b e in omega arith) in omega arith

less_exact : (q n c i : ℕ) → c < 16_777_216 → q ≡ c * 2 ^ i → n * unit ≤ q → q < (n + 1) * unit → less q (n * unit) ≡ q - n * unit
less_exact q n c i small e from to = go (leb i 149) refl
  where
    -- the last digit of q is a part of 1
    fine : i ≤ 149 → less q (n * unit) ≡ q - n * unit
    fine h =
        let s : ℕ = 149 - i in
        let u : unit ≡ 2 ^ i * 2 ^ (149 - i) = ap (λ (z : ℕ). 2 ^ z) (let k : 149 ≡ i + (149 - i) = omega arith in k) ∙ pow-add 2 i (149 - i) in
        let l : n * 2 ^ (149 - i) ≤ c = le_of_mul-le-mul_right (below q n c (2 ^ i) (2 ^ (149 - i)) unit e u from) (pow_pos i) in
        let k : c ≡ n * 2 ^ (149 - i) + (c - n * 2 ^ (149 - i)) = omega (arith, l) in
        let d : q - n * unit ≡ (c - n * 2 ^ (149 - i)) * 2 ^ i = rest_of q n c (2 ^ i) (2 ^ (149 - i)) unit (c - n * 2 ^ (149 - i)) e u k in
        rw d (rounded_exact ((c - n * 2 ^ (149 - i)) * 2 ^ i) unit (c - n * 2 ^ (149 - i)) i (pow_pos 149) (omega (arith, small)) refl)

    -- or q is a whole number, and so N
    whole_number : 149 ≤ i → less q (n * unit) ≡ q - n * unit
    whole_number h =
        let v : 2 ^ i ≡ unit * 2 ^ (i - 149) = ap (λ (z : ℕ). 2 ^ z) (let k : i ≡ 149 + (i - 149) = omega arith in k) ∙ pow-add 2 149 (i - 149) in
        let m : q ≡ c * 2 ^ (i - 149) * unit = e ∙ ap (λ (z : ℕ). c * z) v ∙ times_right c unit (2 ^ (i - 149)) in
        let low : n ≤ c * 2 ^ (i - 149) = le_of_mul-le-mul_right (subst (λ (z : ℕ). n * unit ≤ z) m from) (pow_pos 149) in
        let high : c * 2 ^ (i - 149) ≤ n = under (c * 2 ^ (i - 149)) n unit (subst (λ (z : ℕ). z < (n + 1) * unit) m to) in
        let same : c * 2 ^ (i - 149) ≡ n = omega (arith, low, high) in
        let none : q - n * unit ≡ 0 = nothing_left q (n * unit) (m ∙ ap (λ (z : ℕ). z * unit) same) in
        rw none (rounded_exact 0 unit 0 0 (pow_pos 149) (lit< tt) refl)
      where
        times_right : (a b d : ℕ) → a * (b * d) ≡ a * d * b
        times_right a b d = omega arith

        nothing_left : (a b : ℕ) → a ≡ b → a - b ≡ 0
        nothing_left a b e = omega arith

    go : (b : Bool) → leb i 149 ≡ b → less q (n * unit) ≡ q - n * unit
    go true t = fine (leb-true i 149 t)
    go false f = whole_number (let l = leb-false i 149 f in omega arith)

-- each rounding adds at most 34 hertz to 560 MHz, counted in units of 1 / u
adds : (a b ref u : ℕ) → ref ≤ 16_000_000 → 1_000_000_000_000 ≤ u → b ≤ 560_000_200 * u → 16_777_216 * a ≤ 16_777_217 * b + 16_777_216 * ref → a ≤ b + 34 * u
adds a b ref u hr hu hb h = omega arith

-- the quotient q, and what it is above N
sums : (ref n f q t end u : ℕ) → ref ≤ 16_000_000 → end ≤ 560_000_000 → 1_000_000_000_000 ≤ u
    → 16_777_216 * (q * ref) ≤ 16_777_217 * t + 16_777_216 * ref → t ≤ (end + 64) * u → n * u ≤ q → f * u ≤ 8192 * (q - n * u)
    → ref * (8192 * n + f) ≤ 8192 * (end + 98)
sums ref n f q t end u hr he hu hq ht hn hf =
    let r0 : end * u ≤ 560_000_000 * u = mul-le-mul_right u he in
    let r1 : q * ref ≤ t + 34 * u = adds (q * ref) t ref u hr hu (top end t u ht r0) hq in
    let r2 : (8192 * n + f) * u ≤ 8192 * q = omega (arith, hn, hf) in
    let r3 : (8192 * n + f) * u * ref ≤ 8192 * q * ref = mul-le-mul_right ref r2 in
    let all : ref * (8192 * n + f) * u ≤ 8192 * (end + 98) * u = join ref (8192 * n + f) q t end u r1 r3 ht in
    le_of_mul-le-mul_right all (omega (arith, hu))
  where
    top : (end t u : ℕ) → t ≤ (end + 64) * u → end * u ≤ 560_000_000 * u → t ≤ 560_000_200 * u
    top end t u h k = omega arith

    join : (ref x q t end u : ℕ) → q * ref ≤ t + 34 * u → x * u * ref ≤ 8192 * q * ref → t ≤ (end + 64) * u → ref * x * u ≤ 8192 * (end + 98) * u
    join ref x q t end u a b c = omega arith

-- what an accepted FRACN says
accepted : (b : Bool) (v f : ℕ) → accept b v ≡ Some f → (b ≡ true) × (v ≡ f)
accepted true v f e = (refl, cc)
accepted false v f e = absurd (let z : ◌≡◌ {A = ℕ} 0 1 = cc in omega arith)

both : (a b : Bool) → a && b ≡ true → (a ≡ true) × (b ≡ true)
both true b e = (refl, e)
both false b e = absurd (let z : ◌≡◌ {A = ℕ} 0 1 = cc in omega arith)

-- a divider of at most 128 times an output comes to at most the end of a span, a multiple of 64: reference × (N + FRACN / 8192) is at most 98 above
module _ (ref n d o end c f : ℕ) (r1 : 1 ≤ ref) (r2 : ref ≤ 16_000_000) (n1 : n ≤ 512) (d1 : d ≤ 128) (od : o * d ≤ end) (e1 : end ≤ 560_000_000) (e2 : end + 64 ≡ c * 64) where
  shifted : (end + 64) * unit ≡ c * 2 ^ 155
  shifted = ap (λ (z : ℕ). z * unit) e2 ∙ mul_assoc c 64 unit

  product_below : times (whole o) (whole d) ≤ (end + 64) * unit
  product_below =
      let up : 16_777_216 * (whole o * 1) ≤ 16_777_217 * (o * unit) + 16_777_216 * 1 = rounded_up o 1 (lit< tt) in
      let k : whole o * whole d * 1 ≤ (end + 64) * (unit * unit) = rw (whole_exact d (omega arith)) (scale (whole o) o d end unit up od e1 d1 (lit≤ tt)) in
      let m : times (whole o) (whole d) ≤ rounded (end + 64) 1 = rounded_mono (whole o * whole d) (unit * unit) (end + 64) 1 (lit< tt) (lit< tt) k in
      le_trans m (le_of_eq (rounded_exact (end + 64) 1 c 155 (lit< tt) (omega arith) (shifted ∙ sym (mul-one (c * 2 ^ 155))) ∙ sym shifted))
    where
      scale : (w o d end u : ℕ) → 16_777_216 * (w * 1) ≤ 16_777_217 * (o * u) + 16_777_216 * 1 → o * d ≤ end → end ≤ 560_000_000 → d ≤ 128 → 1_000_000_000_000 ≤ u → w * (d * u) * 1 ≤ (end + 64) * (u * u)
      scale w o d end u h k e l hu =
          let a : d * (16_777_216 * (w * 1)) ≤ d * (16_777_217 * (o * u) + 16_777_216 * 1) = mul-le-mul_left d h in
          let b : o * d * u ≤ end * u = mul-le-mul_right u k in
          let t : end * u ≤ 560_000_000 * u = mul-le-mul_right u e in
          let m : w * d ≤ (end + 64) * u = omega arith in
          let s : w * d * u ≤ (end + 64) * u * u = mul-le-mul_right u m in
          omega arith

  -- the quotient, N and what is left
  abbrev q : ℕ
  q = quotient_whole ref d o

  quotient_below : 16_777_216 * (q * ref) ≤ 16_777_217 * times (whole o) (whole d) + 16_777_216 * ref
  unfolding quotient_whole
  quotient_below =
      let t : ℕ = times (whole o) (whole d) in
      let h : 16_777_216 * (rounded t (ref * unit) * (ref * unit)) ≤ 16_777_217 * (t * unit) + 16_777_216 * (ref * unit) = rounded_up t (ref * unit) (mul-pos r1 (pow_pos 149)) in
      rw (whole_exact ref (omega arith)) (cancel (rounded t (ref * unit)) ref t unit h (pow_pos 149))
    where
      cancel : (a r t u : ℕ) → 16_777_216 * (a * (r * u)) ≤ 16_777_217 * (t * u) + 16_777_216 * (r * u) → 0 < u → 16_777_216 * (a * r) ≤ 16_777_217 * t + 16_777_216 * r
      cancel a r t u h k = let m : 16_777_216 * (a * r) * u ≤ (16_777_217 * t + 16_777_216 * r) * u = omega arith in le_of_mul-le-mul_right m k

  quotient_digits : (c : ℕ) × (i : ℕ) × (c < 16_777_216) × (q ≡ c * 2 ^ i)
  unfolding quotient_whole
  quotient_digits = representable (times (whole o) (whole d)) (whole ref)

  -- what is left of the quotient is below 1, or FRACN is refused
  part_below : (p : ℕ) → times (whole 8192) (rounded p unit) ≤ 8191 * unit → p < unit
  part_below p h = go (leb unit p) refl
    where
      go : (t : Bool) → leb unit p ≡ t → p < unit
      go true e =
          let k : 2 ^ 0 * unit ≤ rounded p unit = rounded_ge p unit 0 (pow_pos 149) (le_trans (le_of_eq (one-mul unit)) (leb-true unit p e)) in
          let m : 8192 * rounded p unit ≤ 8191 * unit = subst (λ (z : ℕ). z ≤ 8191 * unit) (times_exact p unit) h in
          absurd (none (rounded p unit) unit (pow_pos 149) k m)
        where
          none : (r u : ℕ) → 0 < u → 2 ^ 0 * u ≤ r → 8192 * r ≤ 8191 * u → ⊥
          none r u a b c = omega arith
      go false e = leb-false unit p e

  pub fracn_below : fracn_whole ref n d o ≡ Some f → ref * (8192 * n + f) ≤ 8192 * (end + 98)
  unfolding fracn_whole
  fracn_below v =
      let x : ℕ = times (whole 8192) (less q (whole n)) in
      let a = accepted (leb (whole n) q && leb x (8191 * unit)) (x / unit) f v in
      let t = both (leb (whole n) q) (leb x (8191 * unit)) a.0 in
      let w : whole n ≡ n * unit = whole_exact n (omega arith) in
      let h : n * unit ≤ q = subst (λ (z : ℕ). z ≤ q) w (leb-true (whole n) q t.0) in
      let b : q - n * unit < unit = part_below (q - n * unit) (subst (λ (z : ℕ). times (whole 8192) (less q z) ≤ 8191 * unit) w (leb-true x (8191 * unit) t.1)) in
      let to : q < (n + 1) * unit = over_n q n unit h b in
      let r = quotient_digits in
      let l : less q (n * unit) ≡ q - n * unit = less_exact q n r.0 r.1 r.2 r.3 h to in
      let y : x ≡ 8192 * (q - n * unit) = ap (λ (z : ℕ). times (whole 8192) (less q z)) w ∙ times_exact (q - n * unit) unit ∙ ap (λ (z : ℕ). 8192 * z) l in
      let g : f * unit ≤ x = subst (λ (z : ℕ). z * unit ≤ x) a.1 (div-mul-le_self x unit) in
      sums ref n f q (times (whole o) (whole d)) end unit r2 e1 (lit≤ tt) quotient_below product_below h (subst (λ (z : ℕ). f * unit ≤ z) y g)
    where
      over_n : (q n u : ℕ) → n * u ≤ q → q - n * u < u → q < (n + 1) * u
      over_n q n u h k = omega arith
