-- The digits of a number, the last of which is that of 10 to the power 0.
use mathlib.Core.Path.{◌≡◌, refl, sym, ap, ◌∙◌}
use mathlib.Core.Bool.{true, false}
use mathlib.Core.List.{List, [], ◌∷◌, ◌++◌}
use Prim.Native.Nat.{ℕ, zero, suc, ◌+◌, ◌-◌, ◌*◌, ◌/◌, ◌%◌, ◌^◌, ◌≤◌, ◌<◌}
use native.Mathlib.Numerals.{add-one}
use native.Mathlib.Omega.{arith}
use lib.Dec.{ltb}
use lib.ListN.{length, set, get_or, take, drop, length-append, length-set, drop_of_length-le}
use lib.Seq.{drop-cons, drop-set-lt, get_or-set_same}
use borrow.Author.Tests.{lt-ltb, le-ltb}
use Rattle.std.proofs.Common.{Option, Some, None, unwrap_or}
use Rattle.std.specs.Prelude.{IfSome, IfNone}
use Rattle.std.proofs.Math.Nat.{div-one, div-div-eq-div-mul, pow-suc, pow-succ', pow-le-pow_right}
use Rattle.std.proofs.Math.Seq.{get_or-append_seam}
use Rattle.std.proofs.Math.ListN.{get_or-append}
use Rattle.laws.proofs.Tests.{by_test}
use Rattle.template.specs.Write.{digits_of, decimal_of}

-- ---- how many digits there are
one_digit : (m n : ℕ) → n < 10 → digits_of m n ≡ (48 + n % 10) ∷ []
one_digit zero n h = refl
one_digit (suc m) n h = rw (lt-ltb n 10 h)

more_digits : (m n : ℕ) → 10 ≤ n → digits_of (suc m) n ≡ digits_of m (n / 10) ++ ((48 + n % 10) ∷ [])
more_digits m n h = rw (le-ltb n 10 h)

-- a number that 10^k is the highest power below has k + 1
long : (m k n : ℕ) → 10 ^ k ≤ n → n < 10 * 10 ^ k → k ≤ m → length (digits_of m n) ≡ k + 1
long m zero n l h b = rw (one_digit m n h)
long zero (suc k) n l h b = absurd (omega arith)
long (suc m) (suc k) n l h b =
    let p = pow-succ' 10 k in
    let q : 10 * 10 ^ k ≤ n = rw p at l in
    let u : n < 10 * (10 * 10 ^ k) = rw p at h in
    let z : 1 ≤ 10 ^ k = pow-le-pow_right {n = 10} (omega arith) {i = 0} {j = k} (omega arith) in
    rw (more_digits m n (omega arith), length-append, long m k (n / 10) (omega arith) (omega arith) (omega arith)) (omega arith)

pub counted : (n : ℕ) (r : Option ℕ) → IfNone r (n ≡ 0) → IfSome r (λ k. 10 ^ k ≤ n) → IfSome r (λ k. n < 10 * 10 ^ k) → IfSome r (λ k. k < 20) →
    unwrap_or r 0 + 1 ≡ length (decimal_of n)
unfolding decimal_of
counted n None z l h b = rw z
counted n (Some k) z l h b = sym (long 19 k n l h (omega arith))

at_most : (m n : ℕ) → length (digits_of m n) ≤ m + 1
at_most zero n = omega arith
at_most (suc m) n =
    by_test (ltb n 10)
    (λ (t : ltb n 10 ≡ true). rw t (omega arith))
    (λ (f : ltb n 10 ≡ false). rw f (rw length-append (let h = at_most m (n / 10) in omega arith)))

pub twenty : (n count : ℕ) → count ≡ length (decimal_of n) → count ≤ 20
unfolding decimal_of
twenty n count e = let b = at_most 19 n in omega arith

-- ---- the digit of 10^i
abbrev Digit : (n i : ℕ) → List ℕ → Type 0
Digit n i l = get_or l (length l - (i + 1)) 0 ≡ 48 + n / 10 ^ i % 10

alone : (n i : ℕ) → i < 1 → Digit n i ((48 + n % 10) ∷ [])
alone n zero h = rw div-one
alone n (suc i) h = absurd (omega arith)

behind : (n : ℕ) (l : List ℕ) → Digit n 0 (l ++ ((48 + n % 10) ∷ []))
behind n l =
    let e : length (l ++ ((48 + n % 10) ∷ [])) - (0 + 1) ≡ length l = rw length-append (omega arith) in
    rw (e, div-one) (get_or-append_seam l (48 + n % 10) [] 0)

before : (n i d : ℕ) (l : List ℕ) → i < length l → Digit (n / 10) i l → Digit n (suc i) (l ++ (d ∷ []))
before n i d l h g =
    let e : length (l ++ (d ∷ [])) - (suc i + 1) ≡ length l - (i + 1) = rw length-append (omega arith) in
    rw (e, pow-succ' 10 i, ← div-div-eq-div-mul n 10 (10 ^ i)) (get_or-append l (d ∷ []) 0 (length l - (i + 1)) (omega arith) ∙ g)

digit : (m n i : ℕ) → i < length (digits_of m n) → Digit n i (digits_of m n)
digit zero n i h = alone n i h
digit (suc m) n zero h =
    by_test (ltb n 10)
    (λ (t : ltb n 10 ≡ true). rw t (alone n 0 (omega arith)))
    (λ (f : ltb n 10 ≡ false). rw f (behind n (digits_of m (n / 10))))
digit (suc m) n (suc i) h =
    by_test (ltb n 10)
    (λ (t : ltb n 10 ≡ true). absurd (let k : suc i < 1 = rw t at h in omega arith))
    (λ (f : ltb n 10 ≡ false).
    let k : suc i < length (digits_of m (n / 10) ++ ((48 + n % 10) ∷ [])) = rw f at h in
    let b : suc i < length (digits_of m (n / 10)) + 1 = rw length-append at k in
    let c : i < length (digits_of m (n / 10)) = omega arith in
    rw f (before n i (48 + n % 10) (digits_of m (n / 10)) c (digit m (n / 10) i c)))

-- ---- a row of twenty holds the digits from place k on, and the rest is what stands before them
pub record Held (n count k rest : ℕ) (row : List ℕ) : Type 0 where
  pub size : length row ≡ 20
  pub left : rest ≡ n / 10 ^ (count - k)
  pub holds : take (count - k) (drop k row) ≡ drop k (decimal_of n)

-- a digit stored in a row, before what stands behind it
stored : (row : List ℕ) (i d : ℕ) → i < length row → drop i (set row i d) ≡ d ∷ drop (i + 1) row
stored row i d h =
    drop-cons (set row i d) i 0 (rw length-set h)
    ∙ rw (get_or-set_same row i d 0 h, ← add-one) (ap (λ (l : List ℕ). d ∷ l) (drop-set-lt (i + 1) row i d (omega arith)))

module _ (n count : ℕ) (e : count ≡ length (decimal_of n)) where
  pub starts : (row : List ℕ) → length row ≡ 20 → Held n count count n row
  starts row z =
      let c : count - count ≡ 0 = omega arith in
      let none : drop count (decimal_of n) ≡ [] = drop_of_length-le (decimal_of n) {i = count} (omega arith) in
      record { size = z; left = rw (c, div-one) refl; holds = rw (c, none) refl }

  pub goes_on : (k i rest : ℕ) (row : List ℕ) → k ≤ count → k ≡ i + 1 → Held n count k rest row → Held n count i (rest / 10) (set row i (48 + rest % 10))
  unfolding decimal_of
  goes_on k i rest row h z g =
      let b = twenty n count e in
      let s = g.size in
      let p = g.left in
      let c : count - i ≡ suc (count - k) = omega arith in
      let f : i + 1 ≡ k = omega arith in
      let next : suc i ≡ k = omega arith in
      let y : i ≡ length (decimal_of n) - (count - k + 1) = omega arith in
      let d : get_or (decimal_of n) i 0 ≡ 48 + n / 10 ^ (count - k) % 10 = rw y (digit 19 n (count - k) (omega arith)) in
      record {
        size = length-set row i (48 + rest % 10) ∙ s;
        left = rw (p, c, pow-suc 10 (count - k)) (div-div-eq-div-mul n (10 ^ (count - k)) 10);
        holds =
            rw (c, stored row i (48 + rest % 10) (omega arith), f, g.holds, p)
            (sym (drop-cons (decimal_of n) i 0 (omega arith) ∙ rw (d, next) refl));
      }

  pub ends : (k rest : ℕ) (row : List ℕ) → k ≤ 0 → Held n count k rest row → take count row ≡ decimal_of n
  ends k rest row z g =
      let c : count - k ≡ count = omega arith in
      let y : k ≡ 0 = omega arith in
      rw (c, y) at g.holds
