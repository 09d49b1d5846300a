-- The parts of a text put on a sheet one by one.
use mathlib.Core.Path.{◌≡◌, refl, sym, ◌∙◌}
use mathlib.Core.Bool.{Bool, true, false}
use mathlib.Core.List.{List, [], ◌∷◌}
use Prim.Native.Nat.{ℕ, ◌+◌, ◌<◌, ◌≤◌}
use native.Mathlib.Numerals.{add-one}
use native.Mathlib.Omega.{arith}
use lib.Dec.{eqb}
use lib.ListN.{length, get_or, drop, drop_of_length-le}
use lib.Seq.{drop-cons}
use Rattle.std.specs.List.{onto_first}
use Rattle.std.proofs.Common.{Option, Some, None, Result, Ok, Err, unwrap_or, is_ok}
use Rattle.std.specs.Borrow.{Bor}
use Rattle.std.specs.Fn.{CalledAt}
use Rattle.std.specs.Iterator.{Yields}
use Rattle.std.specs.declared.slice.Split.{Split}
use Rattle.std.specs.Slice.Iter.{split_rest, split_done, split_callee, split_steps}
use denote.Param.Members.{Mut}
use Rattle.std.proofs.lemmas.Iterator.{YieldsList}
use Rattle.std.proofs.lemmas.Iterator.Consumers.{YieldsList-turn, YieldsList-end}
use Rattle.std.proofs.lemmas.Iterator.Splits.{YieldsList-from_slice_split}
use Rattle.std.proofs.lemmas.List.Splits.{length-slice_split}
use Rattle.laws.proofs.Tests.{by_test, never}
use Rattle.ask.specs.Words.{key_of, value_of, said_by}
use Rattle.ask.specs.Sheet.{is_bytes, hex_fits, bytes_wrong, with_bytes, told, with_said, wrong_of, sheet_with}
use Rattle.ask.specs.declared.Said.{Said}
use Rattle.ask.specs.All.{is_blank, parts_of, part_wrong, with_part, at_word, taken_from, sheet_from, taken_by, sheet_by}
use Rattle.ask.specs.declared.Wrong.{Wrong}
use Rattle.ask.specs.declared.WrongWord.{WrongWord}

-- ---- a wrong word changes nothing
bytes_unchanged : (s v : List ℕ) → is_ok (bytes_wrong s v) ≡ false → with_bytes s v ≡ s
bytes_unchanged s v =
    by_test (hex_fits (get_or s 114 0) v)
    (λ (t : hex_fits (get_or s 114 0) v ≡ true). rw t (λ h. absurd (never h)))
    (λ (f : hex_fits (get_or s 114 0) v ≡ false). rw f (λ h. refl))

said_unchanged : (s : List ℕ) (r : Result Said Wrong) → is_ok (told r) ≡ false → with_said s r ≡ s
said_unchanged s (Ok q) h = absurd (never h)
said_unchanged s (Err d) h = refl

word_unchanged : (s w : List ℕ) → is_ok (wrong_of s w) ≡ false → sheet_with s w ≡ s
unfolding wrong_of sheet_with
word_unchanged s w =
    by_test (is_bytes (key_of w) (value_of w))
    (λ (t : is_bytes (key_of w) (value_of w) ≡ true). rw t (bytes_unchanged s (unwrap_or (value_of w) [])))
    (λ (f : is_bytes (key_of w) (value_of w) ≡ false). rw f (said_unchanged s (said_by w)))

unchanged : (s w : List ℕ) → is_ok (part_wrong s w) ≡ false → with_part s w ≡ s
unfolding part_wrong with_part
unchanged s w = by_test (eqb (length w) 0) (λ t. rw t (λ h. refl)) (λ f. rw f (word_unchanged s w))

-- whether a part is wrong, by what is told of it
right : (from to : ℕ) (r : Result (Unit {0}) Wrong) (u : Unit {0}) → at_word from to r ≡ Ok u → is_ok r ≡ true
right from to (Ok u) v e = refl
right from to (Err x) v e = cc

wrong : (from to : ℕ) (r : Result (Unit {0}) Wrong) (x : WrongWord) → at_word from to r ≡ Err x → is_ok r ≡ false
wrong from to (Ok u) x e = cc
wrong from to (Err y) x e = refl

-- ---- places
-- the places that parts have, and what stands behind each
abbrev pub total : List (List ℕ) → ℕ
total [] = 0
total (w ∷ ws) = length w + 1 + total ws

onto : (x : ℕ) (ws : List (List ℕ)) → 0 < length ws → total (onto_first x ws) ≡ total ws + 1
onto x [] h = absurd (omega arith)
onto x (w ∷ ws) h = omega arith

whole : (t : List ℕ) → total (parts_of t) ≡ length t + 1
whole [] = refl
whole (b ∷ t) =
    let h = whole t in
    by_test (is_blank b) (λ e. rw e (omega arith)) (λ e. rw e (onto b (parts_of t) (omega (arith, length-slice_split is_blank t)) ∙ omega arith))

-- ---- the parts that a loop is given
module _ {F : Type 0} {g : Mut F (Bor ℕ × Unit {0}) Bool} {s i : Split ℕ F} {t : List ℕ} (xs : List (Bor (List ℕ))) (u v : Split ℕ F) (r : Option (Bor (List ℕ)))
    (a : split_rest s ≡ t) (b : split_done s ≡ false) (j : i ≡ s) (y : Yields (split_steps g) i xs u) (k : split_steps g u r v)
    (w : (x : ℕ) (b : Bool) (q : F) → CalledAt g (split_callee s) x b q → (q ≡ split_callee s) × (b ≡ is_blank x)) where
  given : YieldsList (split_steps g) (λ x. x.now) i (parts_of t)
  given = YieldsList-from_slice_split g is_blank t (rw j a) (rw j b) (rw j) w

  pub part_at : (x : Bor (List ℕ)) → r ≡ Some x → (length xs < length (parts_of t)) × (x.now ≡ get_or (parts_of t) (length xs) x.now)
  part_at x e = YieldsList-turn given xs u y r v x e k

  pub no_part : r ≡ None → length (parts_of t) ≤ length xs
  no_part e = omega (arith, (YieldsList-end given xs u y r v e k).1)

-- ---- what holds where n parts are taken
pub record Going (s₀ t s : List ℕ) (from n : ℕ) : Type 0 where
  pub places : from + total (drop n (parts_of t)) ≡ length t + 1
  pub taken : taken_from from s (drop n (parts_of t)) ≡ taken_by s₀ t
  pub sheet : sheet_from s (drop n (parts_of t)) ≡ sheet_by s₀ t

pub begins : (s t : List ℕ) → Going s t s 0 0
begins s t = record { places = omega (arith, whole t); taken = refl; sheet = refl }

module _ (s₀ t s : List ℕ) (from n : ℕ) (g : Going s₀ t s from n) where
  pub ends : length (parts_of t) ≤ n → (Ok tt ≡ taken_by s₀ t) × (s ≡ sheet_by s₀ t)
  unfolding taken_from sheet_from
  ends h = let d : drop n (parts_of t) ≡ [] = drop_of_length-le (parts_of t) h in (rw d at g.taken, rw d at g.sheet)

  module _ (w : List ℕ) (e : (n < length (parts_of t)) × (w ≡ get_or (parts_of t) n w)) where
    next : drop n (parts_of t) ≡ w ∷ drop (n + 1) (parts_of t)
    next = rw (add-one, drop-cons (parts_of t) n w e.0, ← e.1)

    pub inside : from + length w + 1 ≤ length t + 1
    inside = let p = rw next at g.places in omega arith

    module _ {r : Result (Unit {0}) WrongWord} {m : List ℕ} (a : r ≡ at_word from (from + length w) (part_wrong s w)) (b : m ≡ with_part s w) where
      pub goes_on : (u : Unit {0}) → r ≡ Ok u → Going s₀ t m (from + (length w + 1)) (n + 1)
      unfolding taken_from sheet_from
      goes_on u z =
          let v = right from (from + length w) (part_wrong s w) u (sym a ∙ z) in
          let k : from + (length w + 1) ≡ from + length w + 1 = omega arith in
          let p = rw next at g.places in
          record { places = omega arith; taken = rw (b, k) (rw (next, v) at g.taken); sheet = rw b (rw (next, v) at g.sheet) }

      pub stops : (x : WrongWord) → r ≡ Err x → (r ≡ taken_by s₀ t) × (m ≡ sheet_by s₀ t)
      unfolding taken_from sheet_from
      stops x z =
          let v = wrong from (from + length w) (part_wrong s w) x (sym a ∙ z) in
          (a ∙ (rw (next, v) at g.taken), b ∙ unchanged s w v ∙ (rw (next, v) at g.sheet))
