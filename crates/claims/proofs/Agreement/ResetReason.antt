-- reset_reason.rs and document 01 agree: for every word and both chips the same reason, and the same word to write back.
use mathlib.Core.Path.{◌≡◌, refl, sym, ap, ◌∙◌}
use mathlib.Core.Bool.{Bool, true, false, cond, ◌&&◌, and-true, and-false, and_assoc}
use mathlib.Core.List.{List, [], ◌∷◌}
use Prim.Native.Nat.{ℕ, ◌+◌, ◌*◌, ◌^◌, ◌<◌}
use native.Mathlib.Omega.{arith}
use lib.Dec.{eqb}
use lib.ListN.{length}
use borrow.Author.Tests.{eqb-true, eqb-false, eq-eqb, ne_eqb}
use Rattle.laws.proofs.Tests.{by_test}
use Rattle.rules.specs.Manual.ResetFlags.{RMVF, PIN, BOR, SFT, IWDG, WWDG, LPWR, bit_of}
use Rattle.rules.specs.Document01.Entries.{bit}
use Rattle.rules.specs.Document01.ResetReason.{flags_of, reason_by, reason_of, write_back_of}
use Rattle.claims.specs.Rust.ResetReason.{is_reset_occurred, scrutinee, equal, matches, reason_by_tuple, modify_rmvf, get_reset_reason}

-- the number that booleans stand for, the high bit first
abbrev value : ℕ → List Bool → ℕ
value a [] = a
value a (x ∷ xs) = value (2 * a + bit x) xs

-- ---- two tuples match where their numbers are equal
module _ (a b : ℕ) where
  doubled : (c : ℕ) → eqb (2 * a + c) (2 * b + c) ≡ eqb a b
  doubled c =
      by_test (eqb a b)
      (λ (t : eqb a b ≡ true). let e = eqb-true a b t in rw t (eq-eqb (2 * a + c) (2 * b + c) (omega arith)))
      (λ (n : eqb a b ≡ false). let e = eqb-false a b n in rw n (ne_eqb (2 * a + c) (2 * b + c) (λ h. e (omega arith))))

  one_bit : (x y : Bool) → eqb (2 * a + bit x) (2 * b + bit y) ≡ eqb a b && equal x y
  one_bit true true = doubled 1 ∙ sym (and-true (eqb a b))
  one_bit true false = ne_eqb (2 * a + 1) (2 * b + 0) (λ h. omega arith) ∙ sym (and-false (eqb a b))
  one_bit false true = ne_eqb (2 * a + 0) (2 * b + 1) (λ h. omega arith) ∙ sym (and-false (eqb a b))
  one_bit false false = doubled 0 ∙ sym (and-true (eqb a b))

told : (xs ys : List Bool) (a b : ℕ) → length xs ≡ length ys → eqb (value a xs) (value b ys) ≡ eqb a b && matches xs ys
told [] [] a b h = sym (and-true (eqb a b))
told [] (y ∷ ys) a b h = absurd (omega arith)
told (x ∷ xs) [] a b h = absurd (omega arith)
told (x ∷ xs) (y ∷ ys) a b h = told xs ys (2 * a + bit x) (2 * b + bit y) (omega arith) ∙ rw (one_bit a b x y) (and_assoc (eqb a b) (equal x y) (matches xs ys))

-- ---- the flags of a word, and one arm of the match
as_bit : (n : ℕ) → n < 2 → bit (eqb n 1) ≡ n
as_bit n h =
    by_test (eqb n 1)
    (λ (t : eqb n 1 ≡ true). rw t (sym (eqb-true n 1 t)))
    (λ (f : eqb n 1 ≡ false). let e = eqb-false n 1 f in rw f (omega (arith, e)))

scaled : (a b : ℕ) → eqb (a * 2 ^ PIN) (b * 2 ^ PIN) ≡ eqb a b
scaled a b =
    by_test (eqb a b)
    (λ (t : eqb a b ≡ true). rw (t, eqb-true a b t) (eq-eqb (b * 2 ^ PIN) (b * 2 ^ PIN) refl))
    (λ (n : eqb a b ≡ false). let e = eqb-false a b n in rw n (ne_eqb (a * 2 ^ PIN) (b * 2 ^ PIN) (λ h. e (omega arith))))

module _ (w : ℕ) where
  flag : (b : ℕ) → bit (is_reset_occurred w b) ≡ bit_of w b
  flag b = as_bit (bit_of w b) (omega arith)

  summed : (l u i s b p : ℕ) → p * 2 ^ PIN + b * 2 ^ BOR + s * 2 ^ SFT + i * 2 ^ IWDG + u * 2 ^ WWDG + l * 2 ^ LPWR
      ≡ (2 * (2 * (2 * (2 * (2 * (2 * 0 + l) + u) + i) + s) + b) + p) * 2 ^ PIN
  summed l u i s b p = omega arith

  flags : flags_of w ≡ value 0 (scrutinee w) * 2 ^ PIN
  flags =
      rw (flag PIN, flag BOR, flag SFT, flag IWDG, flag WWDG, flag LPWR)
      (summed (bit_of w LPWR) (bit_of w WWDG) (bit_of w IWDG) (bit_of w SFT) (bit_of w BOR) (bit_of w PIN))

  arm : (pattern : List Bool) → length pattern ≡ 6 → matches (scrutinee w) pattern ≡ eqb (flags_of w) (value 0 pattern * 2 ^ PIN)
  arm pattern h = sym (ap (λ (f : ℕ). eqb f (value 0 pattern * 2 ^ PIN)) flags ∙ scaled (value 0 (scrutinee w)) (value 0 pattern) ∙ told (scrutinee w) pattern 0 0 (sym h))

  -- PIN alone and PIN with BOR: the two sides ask for them in the other order, and no word is both
  turned : {A : Type 0} (f : ℕ) (a b x : A)
      → cond (eqb f (2 ^ PIN + 2 ^ BOR)) a (cond (eqb f (2 ^ PIN)) b x) ≡ cond (eqb f (2 ^ PIN)) b (cond (eqb f (2 ^ PIN + 2 ^ BOR)) a x)
  turned f a b x =
      by_test (eqb f (2 ^ PIN))
      (λ (t : eqb f (2 ^ PIN) ≡ true). rw (eqb-true f (2 ^ PIN) t))
      (λ (n : eqb f (2 ^ PIN) ≡ false). rw n)

  same_reason : reason_by_tuple (scrutinee w) w ≡ reason_by (flags_of w) w
  unfolding reason_by_tuple reason_by
  same_reason =
      rw (
        arm (false ∷ false ∷ false ∷ false ∷ true ∷ true ∷ []) refl,
        arm (false ∷ false ∷ false ∷ false ∷ false ∷ true ∷ []) refl,
        arm (false ∷ false ∷ false ∷ true ∷ false ∷ true ∷ []) refl,
        arm (false ∷ true ∷ false ∷ false ∷ false ∷ true ∷ []) refl,
        arm (false ∷ false ∷ true ∷ false ∷ false ∷ true ∷ []) refl,
        arm (true ∷ false ∷ false ∷ false ∷ false ∷ true ∷ []) refl,
        arm (false ∷ true ∷ true ∷ false ∷ false ∷ true ∷ []) refl,
      )
      (turned (flags_of w) _ _ _)

  -- RMVF is put in its place
  same_word : modify_rmvf w ≡ write_back_of w
  unfolding write_back_of
  same_word =
      by_test (eqb (bit_of w RMVF) 1)
      (λ (t : eqb (bit_of w RMVF) 1 ≡ true). let e = eqb-true (bit_of w RMVF) 1 t in rw t (omega arith))
      (λ (n : eqb (bit_of w RMVF) 1 ≡ false). let e = eqb-false (bit_of w RMVF) 1 n in rw n (omega (arith, e)))

pub reset_agrees : (three : Bool) (w : ℕ) → get_reset_reason three w ≡ record { returned = reason_of three w; written = write_back_of w }
unfolding get_reset_reason reason_of
reset_agrees true w = rw (same_word w)
reset_agrees false w = rw (same_reason w, same_word w)
