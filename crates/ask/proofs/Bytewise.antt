-- Words put on a sheet byte by byte: a blank is passed over, and a word goes on up to the next one.
use mathlib.Core.Path.{◌≡◌, refl, sym, ap, ◌∙◌}
use mathlib.Core.Bool.{true, false, cond, not}
use mathlib.Core.List.{List, [], ◌∷◌}
use Prim.Native.Nat.{ℕ, zero, suc, ◌+◌, ◌≤◌, ◌<◌}
use native.Mathlib.Numerals.{add-one}
use native.Mathlib.Omega.{arith}
use lib.Dec.{leb, ltb, eqb}
use lib.ListN.{length, get_or, take, drop, drop_of_length-le}
use lib.Seq.{drop-cons, length-take-le, take_all}
use borrow.Author.Tests.{leb-true, leb-false, ltb-true, ltb-false, ne_eqb}
use Rattle.std.specs.List.{take_while, position_or_len}
use Rattle.std.proofs.Common.{Result, Ok, is_ok}
use Rattle.std.proofs.lemmas.List.{drop-drop}
use Rattle.std.proofs.lemmas.List.Sums.{prefix_len-le-length, fails_before_first, passes_at_first}
use Rattle.std.proofs.lemmas.List.Folds.{length-prefix_len}
use Rattle.std.proofs.lemmas.List.Splits.{slice_split_first, slice_split_none}
use Rattle.laws.proofs.Tests.{by_test}
use Rattle.ask.specs.Sheet.{wrong_of, sheet_with}
use Rattle.ask.specs.All.{is_blank, parts_of, part_wrong, with_part, at_word, taken_from, sheet_from, taken_by, sheet_by}
use Rattle.ask.specs.declared.WrongWord.{WrongWord}

-- how many bytes at the start are no blanks
abbrev pub filled : List ℕ → ℕ
filled l = length (take_while (λ b. not (is_blank b)) l)

-- a word ends before a blank
abbrev pub end_of : (text : List ℕ) → (from : ℕ) → ℕ
end_of t from = from + filled (drop from t)

-- the word from a place on
abbrev pub word_in : (text : List ℕ) → (from : ℕ) → List ℕ
word_in t from = take (filled (drop from t)) (drop from t)

-- all words from a place on, the first wrong one told by its place. No more than n blanks and words are left
pub taken_at : (n : ℕ) → (sheet text : List ℕ) → (at : ℕ) → Result (Unit {0}) WrongWord
taken_at zero s t at = Ok tt
taken_at (suc n) s t at =
    cond (leb (length t) at) (Ok tt)
    (cond (is_blank (get_or t at 0)) (taken_at n s t (at + 1))
    (cond (is_ok (wrong_of s (word_in t at))) (taken_at n (sheet_with s (word_in t at)) t (end_of t at))
    (at_word at (end_of t at) (wrong_of s (word_in t at)))))

-- the sheet that they leave
pub sheet_at : (n : ℕ) → (sheet text : List ℕ) → (at : ℕ) → List ℕ
sheet_at zero s t at = s
sheet_at (suc n) s t at =
    cond (leb (length t) at) s
    (cond (is_blank (get_or t at 0)) (sheet_at n s t (at + 1))
    (cond (is_ok (wrong_of s (word_in t at))) (sheet_at n (sheet_with s (word_in t at)) t (end_of t at)) s))

-- an empty part says nothing
empty_taken : (a : ℕ) (s : List ℕ) (ws : List (List ℕ)) → taken_from a s ([] ∷ ws) ≡ taken_from (a + 1) s ws
unfolding taken_from part_wrong with_part
empty_taken a s ws = ap (λ (k : ℕ). taken_from k s ws) (omega arith)

empty_sheet : (s : List ℕ) (ws : List (List ℕ)) → sheet_from s ([] ∷ ws) ≡ sheet_from s ws
unfolding sheet_from part_wrong with_part
empty_sheet s ws = refl

first : List ℕ → ℕ
first l = position_or_len is_blank l

counted : (l : List ℕ) → filled l ≡ first l
unfolding first
counted l = length-prefix_len (λ b. not (is_blank b)) l

at_most : (l : List ℕ) → first l ≤ length l
unfolding first
at_most l = prefix_len-le-length (λ b. not (is_blank b)) l

-- the parts of a text that begins with a word, and what they are from its end on
record Cut (l : List ℕ) (ws : List (List ℕ)) : Type 0 where
  parts : parts_of l ≡ take (first l) l ∷ ws
  taken : (a : ℕ) (s : List ℕ) → taken_from a s (parts_of (drop (first l) l)) ≡ taken_from (a + 1) s ws
  sheet : (s : List ℕ) → sheet_from s (parts_of (drop (first l) l)) ≡ sheet_from s ws

cut : (l : List ℕ) → (ws : List (List ℕ)) × Cut l ws
unfolding first taken_from sheet_from part_wrong with_part
cut l =
    by_test (ltb (first l) (length l))
    (λ (t : ltb (first l) (length l) ≡ true).
    let h = ltb-true _ _ t in
    let r = drop (first l + 1) l in
    let b : is_blank (get_or l (first l) 0) ≡ true = passes_at_first is_blank l 0 h in
    let e : drop (first l) l ≡ get_or l (first l) 0 ∷ r = rw (add-one, drop-cons l (first l) 0 h) in
    let p : parts_of (drop (first l) l) ≡ [] ∷ parts_of r = rw (e, b) in
    (parts_of r, record { parts = slice_split_first is_blank l 0 h; taken = λ a s. rw p (empty_taken a s (parts_of r)); sheet = λ s. rw p (empty_sheet s (parts_of r)) }))
    (λ (f : ltb (first l) (length l) ≡ false).
    let h = ltb-false _ _ f in
    let e : drop (first l) l ≡ [] = drop_of_length-le l h in
    let w : take (first l) l ≡ l = take_all (first l) l h in
    ([], record { parts = rw w (slice_split_none is_blank l (λ k d m. fails_before_first is_blank l k d (omega arith))); taken = λ a s. rw e; sheet = λ s. rw e }))

abbrev Agree : (n : ℕ) (s t : List ℕ) (at : ℕ) → Type 0
Agree n s t at = (taken_at n s t at ≡ taken_from at s (parts_of (drop at t))) × (sheet_at n s t at ≡ sheet_from s (parts_of (drop at t)))

at_end : (s t : List ℕ) (at : ℕ) → length t ≤ at → (◌≡◌ {A = Result (Unit {0}) WrongWord} (Ok tt) (taken_from at s (parts_of (drop at t)))) × (s ≡ sheet_from s (parts_of (drop at t)))
unfolding taken_from sheet_from part_wrong with_part
at_end s t at h = let e : drop at t ≡ [] = drop_of_length-le t h in (rw e, rw e)

agree : (n : ℕ) (s t : List ℕ) (at : ℕ) → length t ≤ n + at → Agree n s t at
unfolding taken_at sheet_at first taken_from sheet_from part_wrong with_part
agree zero s t at h = at_end s t at (omega arith)
agree (suc n) s t at h =
    by_test (leb (length t) at)
    (λ (y : leb (length t) at ≡ true). let e = at_end s t at (leb-true _ _ y) in (rw y e.0, rw y e.1))
    (λ (y : leb (length t) at ≡ false).
    let here = leb-false _ _ y in
    let l = drop at t in
    let e : l ≡ get_or t at 0 ∷ drop (at + 1) t = rw (add-one, drop-cons t at 0 (omega arith)) in
    by_test (is_blank (get_or t at 0))
    (λ (b : is_blank (get_or t at 0) ≡ true).
    let i = agree n s t (at + 1) (omega arith) in
    let p : parts_of l ≡ [] ∷ parts_of (drop (at + 1) t) = rw (e, b) in
    (rw (y, b, p) (i.0 ∙ sym (empty_taken at s (parts_of (drop (at + 1) t)))), rw (y, b, p) (i.1 ∙ sym (empty_sheet s (parts_of (drop (at + 1) t))))))
    (λ (b : is_blank (get_or t at 0) ≡ false).
    let k = first l in
    let w = take k l in
    let c = cut l in
    let one : 0 < k = rw (e, b) (omega arith) in
    let size : length w ≡ k = length-take-le k l (at_most l) in
    let some : eqb (length w) 0 ≡ false = ne_eqb (length w) 0 (λ z. omega arith) in
    let i = agree n (sheet_with s w) t (at + k) (omega arith) in
    let d : drop (at + k) t ≡ drop k l = sym (drop-drop k at t) in
    let f : filled l ≡ k = counted l in
    let goes : taken_at n (sheet_with s w) t (at + k) ≡ taken_from (at + k + 1) (sheet_with s w) c.0 = i.0 ∙ rw d (c.1.taken (at + k) (sheet_with s w)) in
    let stays : sheet_at n (sheet_with s w) t (at + k) ≡ sheet_from (sheet_with s w) c.0 = i.1 ∙ rw d (c.1.sheet (sheet_with s w)) in
    (rw (y, b, f, c.1.parts, some, size, goes), rw (y, b, f, c.1.parts, some, stays))))

-- a text is taken by its bytes as it is by its parts
pub by_bytes : (s t : List ℕ) → (taken_at (length t) s t 0 ≡ taken_by s t) × (sheet_at (length t) s t 0 ≡ sheet_by s t)
by_bytes s t = agree (length t) s t 0 (omega arith)
