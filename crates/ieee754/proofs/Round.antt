-- `rounded` over whole numbers: it keeps the order of fractions, is exact where 24 digits are enough, and so lies between powers of two as its fraction does.
use mathlib.Core.Path.{◌≡◌, refl, sym, ap, ◌∙◌, subst}
use mathlib.Core.Logic.{inl, inr}
use Prim.Native.Nat.compare
use Prim.Native.Nat.{ℕ, zero, suc, ◌+◌, ◌-◌, ◌*◌, ◌/◌, ◌%◌, ◌^◌, ◌≤◌, ◌<◌, zero-le, compare, Ordering}
use native.Mathlib.Nat.{le_trans, le_of_eq, lt_irrefl, lt_of_le_of_lt, lt_of_lt_of_le, eq-or-lt_of_le, mul-one, one-mul, mul_comm, mul_assoc, mul_right_comm, mul-le-mul_right, le-div_iff_mul-le, div-div-eq-div-mul, mul-pos, mul-div_cancel, mul-mod_left}
use native.Mathlib.Omega.{arith}
use lib.Dec.{lit<}
use lib.Pow.{pow-add, pow_pos, pow_mono, shl_lt}
use lib.Ieee.{size, nearest, binary32}
use lib.Ieee.Digits.{size-lt, size-le, size_reaches, back}
use lib.Ieee.Fits.{kept-lt, nearest-le}
use lib.Ieee.Nearest.{closest, closest_mono, nearest-ge, div_mono}
use lib.Ieee.Order.{drop, kept}
use lib.Ieee.Scale.{grid}
use Rattle.ieee754.specs.Whole.{unit, rounded}

-- ---- the library's own words for it
pub rounded_grid : (a c : ℕ) → rounded a c ≡ grid binary32 a c
unfolding rounded
rounded_grid a c = refl

-- ---- the order (as `lib.Ieee.Order` has it, whose lemmas are private)
size_mono : (a b : ℕ) → a ≤ b → size a ≤ size b
size_mono a b h = size-le a (size b) (lt_of_le_of_lt h (size-lt b))

same_drop : (k a b c d : ℕ) → 0 < b → 0 < d → a * d ≤ c * b → closest a (b * 2 ^ k) * 2 ^ k ≤ closest c (d * 2 ^ k) * 2 ^ k
same_drop k a b c d B D h =
    mul-le-mul_right (2 ^ k)
    (closest_mono a (b * 2 ^ k) c (d * 2 ^ k) (mul-pos B (pow_pos k)) (mul-pos D (pow_pos k))
    (le_trans (le_of_eq (sym (mul_assoc a d (2 ^ k)))) (le_trans (mul-le-mul_right (2 ^ k) h) (le_of_eq (mul_assoc c b (2 ^ k))))))

pub kept_le : (p n den : ℕ) → kept p n den ≤ 2 ^ p
kept_le p n den =
    let k = drop p n den in
    let u = den * 2 ^ k in
    le_trans (nearest-le (n / u) (compare (n % u * 2) u)) (subst (λ (x : ℕ). x < 2 ^ p) (div-div-eq-div-mul n den (2 ^ k)) (kept-lt p (n / den)))

all_in_use : (z p : ℕ) → 0 < p → 0 < z - p → p - 1 + (z - p) < z
all_in_use z p P h = omega arith

pub kept_ge : (p n den : ℕ) → 0 < p → 0 < drop p n den → 2 ^ (p - 1) ≤ kept p n den
kept_ge p n den P K =
    let k = drop p n den in
    let u = den * 2 ^ k in
    let w = n / den in
    let a : 2 ^ (p - 1) * 2 ^ k ≤ w = le_trans (le_of_eq (sym (pow-add 2 (p - 1) k))) (size_reaches w (p - 1 + k) (all_in_use (size w) p P K)) in
    le_trans (subst (λ (x : ℕ). 2 ^ (p - 1) ≤ x) (div-div-eq-div-mul n den (2 ^ k)) ((le-div_iff_mul-le (pow_pos k)).1 a)) (nearest-ge (n / u) (compare (n % u * 2) u))

fewer : (x y p : ℕ) → x ≤ y → x - p ≤ y - p
fewer x y p h = omega arith

room : (p j k : ℕ) → 0 < p → j < k → p + j ≤ p - 1 + k
room p j k P h = omega arith

pub grid_mono : (p a b c d : ℕ) → 0 < p → 0 < b → 0 < d → a * d ≤ c * b → kept p a b * 2 ^ drop p a b ≤ kept p c d * 2 ^ drop p c d
grid_mono p a b c d P B D h =
    let j = drop p a b in
    let k = drop p c d in
    elim (eq-or-lt_of_le (fewer (size (a / b)) (size (c / d)) p (size_mono (a / b) (c / d) (div_mono a b c d B D h)))) [
      | inl e ↦ subst (λ (x : ℕ). closest a (b * 2 ^ x) * 2 ^ x ≤ kept p c d * 2 ^ k) (sym e) (same_drop k a b c d B D h)
      | inr l ↦
          le_trans (mul-le-mul_right (2 ^ j) (kept_le p a b))
          (le_trans (le_of_eq (sym (pow-add 2 p j)))
          (le_trans (pow_mono (room p j k P l))
          (le_trans (le_of_eq (pow-add 2 (p - 1) k)) (mul-le-mul_right (2 ^ k) (kept_ge p c d P (lt_of_le_of_lt zero-le l))))))
    ]

-- ---- exact: n is q * 2 ^ j times den, with q below 2 ^ p
above_zero : (u : ℕ) → 0 < u → compare 0 u ≡ Ordering.lt
above_zero zero h = absurd (lt_irrefl 0 h)
above_zero (suc u) h = compare.zero-suc u

pub closest_exact : (q u : ℕ) → 0 < u → closest (q * u) u ≡ q
closest_exact q u h =
    ap (λ (x : ℕ). nearest x (compare (q * u % u * 2) u)) (mul-div_cancel q h)
    ∙ ap (λ (x : ℕ). nearest q (compare (x * 2) u)) (mul-mod_left q u)
    ∙ ap (λ (o : Ordering). nearest q o) (above_zero u h)

spare : (z p l : ℕ) → z ≤ p + l → z - p ≤ l
spare z p l h = omega arith

pub grid_exact : (p n den q j : ℕ) → 0 < den → q < 2 ^ p → n ≡ q * 2 ^ j * den → kept p n den * 2 ^ drop p n den ≡ q * 2 ^ j
grid_exact p n den q j D small h =
    let e1 : n / den ≡ q * 2 ^ j = ap (λ (x : ℕ). x / den) h ∙ mul-div_cancel (q * 2 ^ j) D in
    let k = size (n / den) - p in
    let k-le : k ≤ j = spare (size (n / den)) p j (size-le (n / den) (p + j) (subst (λ (x : ℕ). x < 2 ^ (p + j)) (sym e1) (shl_lt p j small))) in
    let r = q * 2 ^ (j - k) in
    let e3 : r * 2 ^ k ≡ q * 2 ^ j = mul_assoc q (2 ^ (j - k)) (2 ^ k) ∙ ap (λ (x : ℕ). q * x) (sym (pow-add 2 (j - k) k) ∙ ap (λ (x : ℕ). 2 ^ x) (back j k k-le)) in
    let e2 : n ≡ r * (den * 2 ^ k) = h ∙ ap (λ (x : ℕ). x * den) (sym e3) ∙ mul_assoc r (2 ^ k) den ∙ ap (λ (x : ℕ). r * x) (mul_comm (2 ^ k) den) in
    ap (λ (x : ℕ). closest x (den * 2 ^ k) * 2 ^ k) e2
    ∙ ap (λ (x : ℕ). x * 2 ^ k) (closest_exact r (den * 2 ^ k) (mul-pos D (pow_pos k)))
    ∙ e3

-- ---- said of `rounded`
pub rounded_mono : (a b c d : ℕ) → 0 < b → 0 < d → a * d ≤ c * b → rounded a b ≤ rounded c d
unfolding rounded
rounded_mono a b c d B D h =
    grid_mono 24 (a * unit) b (c * unit) d (lit< tt) B D
    (le_trans (le_of_eq (mul_right_comm a unit d)) (le_trans (mul-le-mul_right unit h) (le_of_eq (mul_right_comm c b unit))))

-- where num / den is q * 2 ^ j units, with q below 2 ^ 24
pub rounded_exact : (num den q j : ℕ) → 0 < den → q < 2 ^ 24 → num * unit ≡ q * 2 ^ j * den → rounded num den ≡ q * 2 ^ j
unfolding rounded
rounded_exact num den q j D small h = grid_exact 24 (num * unit) den q j D small h

-- 2 ^ j itself
pub rounded_pow : (j : ℕ) → rounded (2 ^ j) 1 ≡ 2 ^ j * unit
rounded_pow j =
    rounded_exact (2 ^ j) 1 1 (j + 149) (lit< tt) (lit< tt) (sym (pow-add 2 j 149) ∙ sym (one-mul (2 ^ (j + 149))) ∙ sym (mul-one (1 * 2 ^ (j + 149))))
    ∙ one-mul (2 ^ (j + 149))
    ∙ pow-add 2 j 149

-- num / den ≤ 2 ^ j, and num / den ≥ 2 ^ j
pub rounded_le : (num den j : ℕ) → 0 < den → num ≤ 2 ^ j * den → rounded num den ≤ 2 ^ j * unit
rounded_le num den j D h =
    le_trans (rounded_mono num den (2 ^ j) 1 D (lit< tt) (le_trans (le_of_eq (mul-one num)) h)) (le_of_eq (rounded_pow j))

pub rounded_ge : (num den j : ℕ) → 0 < den → 2 ^ j * den ≤ num → 2 ^ j * unit ≤ rounded num den
rounded_ge num den j D h =
    le_trans (le_of_eq (sym (rounded_pow j))) (rounded_mono (2 ^ j) 1 num den (lit< tt) D (le_trans h (le_of_eq (sym (mul-one num)))))

-- a fraction of a unit at least, which rounds to a unit at least
pub rounded_pos : (num den : ℕ) → 0 < den → den ≤ num * unit → 0 < rounded num den
rounded_pos num den D h =
    lt_of_lt_of_le (lit< tt)
    (le_trans (le_of_eq (sym (rounded_exact 1 unit 1 0 (pow_pos 149) (lit< tt) refl)))
    (rounded_mono 1 unit num den (pow_pos 149) D (le_trans (le_of_eq (one-mul den)) h)))
