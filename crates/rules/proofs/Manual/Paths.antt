-- Laws of paths, once for every path: any oscillator, M, N and list of divisors, all at least 1.
use mathlib.Core.Path.{◌≡◌, refl, sym, ◌∙◌, ap, subst}
use mathlib.Core.Logic.{◌≢◌}
use mathlib.Core.List.{List, [], ◌∷◌, ◌++◌}
use Prim.Native.Nat.{ℕ, ◌+◌, ◌*◌, ◌/◌, ◌%◌, ◌≤◌, ◌<◌}
use native.Mathlib.Nat.{div-one, div-div-eq-div-mul, mul-le-mul_right, mul-lt-mul_of_pos_right, le_of_mul-le-mul_right, mul_assoc, mul_comm, mul_right_comm, mul-one, le_trans, lt_of_le_of_lt, le_of_lt}
use native.Mathlib.Omega.{arith}
use Rattle.laws.proofs.Numbers.{mul_pos, below, above, no_loss, no_rest, turn}
use Rattle.rules.specs.Manual.Path.{Multiplier, whole, part, Path, direct, through, product, num, den, floors, floored, Evenly, NoRemainder, Near, extend, Readings}

-- ---- divisors of at least 1
abbrev pub Positive : List ℕ → Type 0
Positive [] = Unit {0}
Positive (d ∷ ds) = (1 ≤ d) × Positive ds

abbrev pub Multiplies : Multiplier → Type 0
Multiplies (whole n) = 1 ≤ n
Multiplies (part n f) = 1 ≤ n

abbrev pub Sound : Path → Type 0
Sound (direct h ds) = Positive ds
Sound (through j h m x ds) = (1 ≤ m) × Multiplies x × Positive ds

pub product_pos : (ds : List ℕ) → Positive ds → 1 ≤ product ds
product_pos [] h = omega arith
product_pos (d ∷ ds) h = mul_pos d (product ds) h.0 (product_pos ds h.1)

-- ---- the nested floors are one floor
pub floors_once : (x : ℕ) (ds : List ℕ) → floors x ds ≡ x / product ds
floors_once x [] = sym (div-one x)
floors_once x (d ∷ ds) = floors_once (x / d) ds ∙ div-div-eq-div-mul x d (product ds)

-- one more division at the end divides what was left
pub floors_snoc : (x : ℕ) (ds : List ℕ) (d : ℕ) → floors x (ds ++ (d ∷ [])) ≡ floors x ds / d
floors_snoc x [] d = refl
floors_snoc x (e ∷ ds) d = floors_snoc (x / e) ds d

pub floored_extend : (p : Path) (d : ℕ) → floored (extend p d) ≡ floored p / d
unfolding floored
floored_extend (direct h ds) d = floors_snoc h ds d
floored_extend (through j h m (whole n) ds) d = floors_snoc (h / m * n) ds d
floored_extend (through j h m (part n f) ds) d = floors_snoc (h / m * (8192 * n + f) / 8192) ds d

positive_snoc : (ds : List ℕ) (d : ℕ) → Positive ds → 1 ≤ d → Positive (ds ++ (d ∷ []))
positive_snoc [] d h k = (k, tt)
positive_snoc (e ∷ ds) d h k = (h.0, positive_snoc ds d h.1 k)

pub sound_extend : (p : Path) (d : ℕ) → Sound p → 1 ≤ d → Sound (extend p d)
sound_extend (direct h ds) d s k = positive_snoc ds d s k
sound_extend (through j h m x ds) d s k = (s.0, s.1, positive_snoc ds d s.2 k)

-- ---- floors against the product
pub floors_below : (x : ℕ) (ds : List ℕ) → floors x ds * product ds ≤ x
floors_below x ds = rw (floors_once x ds) (below x (product ds))

pub floors_above : (x : ℕ) (ds : List ℕ) → Positive ds → x < floors x ds * product ds + product ds
floors_above x ds h = rw (floors_once x ds) (above x (product ds) (product_pos ds h))

pub evenly_equal : (x : ℕ) (ds : List ℕ) → Evenly x ds → floors x ds * product ds ≡ x
evenly_equal x [] h = mul-one x
evenly_equal x (d ∷ ds) h = turn (floors (x / d) ds) (product ds) d ∙ ap (λ (y : ℕ). y * d) (evenly_equal (x / d) ds h.1) ∙ no_loss x d h.0

pub equal_evenly : (x : ℕ) (ds : List ℕ) → Positive ds → floors x ds * product ds ≡ x → Evenly x ds
equal_evenly x [] h e = tt
equal_evenly x (d ∷ ds) h e =
    let f : ℕ = floors (x / d) ds * product ds in
    let e₁ : f * d ≡ x = sym (turn (floors (x / d) ds) (product ds) d) ∙ e in
    let up : f ≤ x / d = floors_below (x / d) ds in
    let down : x / d ≤ f = le_of_mul-le-mul_right {m = x / d} {n = f} {k = d} (let q = below x d in omega arith) h.0 in
    let same : f ≡ x / d = omega arith in
    (no_rest x d (sym (ap (λ (y : ℕ). y * d) same) ∙ e₁), equal_evenly (x / d) ds h.1 same)

-- ---- a PLL before the divisors
module _ (h m n : ℕ) (ds : List ℕ) (m1 : 1 ≤ m) where
  abbrev hz : ℕ
  hz = floors (h / m * n) ds

  through_below : hz * (m * product ds) ≤ h * n
  through_below =
      rw (turn hz (product ds) m)
      (le_trans (mul-le-mul_right m (floors_below (h / m * n) ds)) (rw (mul_right_comm (h / m) n m) (mul-le-mul_right n (below h m))))

  through_near : Positive ds → h * n * product ds < (hz * product ds + product ds + n) * (m * product ds)
  through_near pos =
      let d : ℕ = product ds in
      let up : h * n ≤ (h / m * m + m) * n = mul-le-mul_right n (le_of_lt (above h m m1)) in
      let shape : (h / m * m + m) * n ≡ (h / m * n + n) * m = omega (arith, mul_right_comm (h / m) m n, mul_comm m n) in
      let low : h / m * n + n < hz * d + d + n = omega (arith, floors_above (h / m * n) ds pos) in
      let once : h * n < (hz * d + d + n) * m = lt_of_le_of_lt up (rw shape (mul-lt-mul_of_pos_right low m1)) in
      subst (λ (y : ℕ). h * n * d < y) (mul_assoc (hz * d + d + n) m d) (mul-lt-mul_of_pos_right once (product_pos ds pos))

  through_equal : (h % m ≡ 0) × Evenly (h / m * n) ds → hz * (m * product ds) ≡ h * n
  through_equal e =
      turn hz (product ds) m ∙ ap (λ (y : ℕ). y * m) (evenly_equal (h / m * n) ds e.1) ∙ mul_right_comm (h / m) n m ∙ ap (λ (y : ℕ). y * n) (no_loss h m e.0)

  equal_through : 1 ≤ n → Positive ds → hz * (m * product ds) ≡ h * n → (h % m ≡ 0) × Evenly (h / m * n) ds
  equal_through n1 pos e =
      let q : ℕ = h / m in
      let f : ℕ = hz * product ds in
      let e₁ : f * m ≡ h * n = sym (turn hz (product ds) m) ∙ e in
      let up : f ≤ q * n = floors_below (q * n) ds in
      let up₁ : f * m ≤ q * n * m = mul-le-mul_right m up in
      let turned : q * n * m ≡ q * m * n = mul_right_comm q n m in
      let low : q * m * n ≤ h * n = mul-le-mul_right n (below h m) in
      let h≤ : h ≤ q * m = le_of_mul-le-mul_right {m = h} {n = q * m} {k = n} (omega arith) n1 in
      let back : q * n ≤ f = le_of_mul-le-mul_right {m = q * n} {n = f} {k = m} (omega arith) m1 in
      (no_rest h m (let l = below h m in omega arith), equal_evenly (q * n) ds pos (omega arith))

-- ---- every path
pub den_pos : (p : Path) → Sound p → 1 ≤ den p
unfolding den
den_pos (direct h ds) s = product_pos ds s
den_pos (through j h m (whole n) ds) s = mul_pos m (product ds) s.0 (product_pos ds s.2)
den_pos (through j h m (part n f) ds) s = mul_pos m (product (8192 ∷ ds)) s.0 (product_pos (8192 ∷ ds) (omega arith, s.2))

pub floored_below : (p : Path) → Sound p → floored p * den p ≤ num p
unfolding floored den num
floored_below (direct h ds) s = floors_below h ds
floored_below (through j h m (whole n) ds) s = through_below h m n ds s.0
floored_below (through j h m (part n f) ds) s = through_below h m (8192 * n + f) (8192 ∷ ds) s.0

pub floored_near : (p : Path) → Sound p → Near p (floored p)
unfolding floored Near
floored_near (direct h ds) s = let a = floors_above h ds s in let t : (floors h ds + 1) * product ds ≡ floors h ds * product ds + product ds = omega arith in rw t a
floored_near (through j h m (whole n) ds) s = through_near h m n ds s.0 s.2
floored_near (through j h m (part n f) ds) s = through_near h m (8192 * n + f) (8192 ∷ ds) s.0 (omega arith, s.2)

pub whole_equal : (p : Path) → Sound p → NoRemainder p → floored p * den p ≡ num p
unfolding floored den num NoRemainder
whole_equal (direct h ds) s e = evenly_equal h ds e
whole_equal (through j h m (whole n) ds) s e = through_equal h m n ds s.0 e
whole_equal (through j h m (part n f) ds) s e = through_equal h m (8192 * n + f) (8192 ∷ ds) s.0 e

pub equal_whole : (p : Path) → Sound p → floored p * den p ≡ num p → NoRemainder p
unfolding floored den num NoRemainder
equal_whole (direct h ds) s e = equal_evenly h ds s e
equal_whole (through j h m (whole n) ds) s e = equal_through h m n ds s.0 s.1 s.2 e
equal_whole (through j h m (part n f) ds) s e = equal_through h m (8192 * n + f) (8192 ∷ ds) s.0 (let n1 : 1 ≤ n = s.1 in omega arith) (omega arith, s.2) e

pub rest_below : (p : Path) → Sound p → ¬ (NoRemainder p) → floored p * den p < num p
rest_below p s r =
    let l = floored_below p s in
    let d : floored p * den p ≢ num p = λ e. r (equal_whole p s e) in
    omega arith

-- both readings, of every path: r hertz that are its floors, and its exact fraction
pub readings_of : (p : Path) (r : ℕ) → Sound p → r ≡ floored p → Readings p r
readings_of p r s e = record {
  proper = den_pos p s;
  floor = e;
  equal = (λ q. equal_whole p s (rw e at q), λ w. rw e (whole_equal p s w));
  lower = λ w. (rw e (rest_below p s w), rw e (floored_near p s));
}
