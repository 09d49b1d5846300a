-- With no values read a list is stored: each entry once, behind the word that counts them.
use mathlib.Core.Path.{◌≡◌, refl, ◌∙◌, ap}
use mathlib.Core.Bool.{Bool, true, false}
use mathlib.Core.List.{List, [], ◌∷◌, ◌++◌, append-nil}
use Prim.Native.Nat.{ℕ, suc, ◌+◌, ◌*◌, ◌-◌}
use native.Mathlib.Omega.{arith}
use borrow.Author.Tests.{le-leb, lt-leb, leb-true, leb-false}
use lib.Dec.{leb}
use lib.ListN.{length, set, take, drop}
use Rattle.std.proofs.lemmas.List.{take_all, drop_all}
use Rattle.types.specs.declared.Entry.{Entry}
use Rattle.rules.specs.Words.{entry_words, stored_at, listed_from, listed}
use Rattle.listing.specs.Showing.{showing, show_one, show_all}
use Rattle.listing.proofs.Showing.{all_read, passed}

-- behind the first word
module _ (c : ℕ) (b : List ℕ) (i : ℕ) (w : List ℕ) where
  behind_by : (t : Bool) → leb (i + 9) (length b) ≡ t → c ∷ stored_at b i w ≡ stored_at (c ∷ b) (suc i) w
  unfolding stored_at
  behind_by true h =
      let m = leb-true (i + 9) (length b) h in
      let a1 : suc i + 1 ≡ suc (i + 1) = omega arith in
      let a2 : suc i + 2 ≡ suc (i + 2) = omega arith in
      let a3 : suc i + 3 ≡ suc (i + 3) = omega arith in
      let a4 : suc (i + 3) + 1 ≡ suc (i + 3 + 1) = omega arith in
      let a5 : suc (i + 3) + 2 ≡ suc (i + 3 + 2) = omega arith in
      let a6 : suc i + 6 ≡ suc (i + 6) = omega arith in
      let a7 : suc (i + 6) + 1 ≡ suc (i + 6 + 1) = omega arith in
      let a8 : suc (i + 6) + 2 ≡ suc (i + 6 + 2) = omega arith in
      rw (h, le-leb (suc i + 9) (suc (length b)) (omega arith), a1, a2, a3, a4, a5, a6, a7, a8)
  behind_by false h = let m = leb-false (i + 9) (length b) h in rw (h, lt-leb (suc i + 9) (suc (length b)) (omega arith))

  behind : c ∷ stored_at b i w ≡ stored_at (c ∷ b) (i + 1) w
  behind = let l : i + 1 ≡ suc i = omega arith in rw l (behind_by (leb (i + 9) (length b)) refl)

-- so a list that is shown is stored
shown_listed : (es : List Entry) (i c : ℕ) (b : List ℕ) → (c ∷ (show_all [] es (showing i b)).room ≡ listed_from (c ∷ b) (9 * i + 1) es) × ((show_all [] es (showing i b)).at ≡ i + length es)
shown_listed [] i c b = (refl, omega arith)
shown_listed (x ∷ es) i c b =
    let w = entry_words x in
    let b₂ = stored_at b (9 * i) w in
    let s : show_one [] x (showing i b) ≡ showing (i + 1) b₂ = passed [] x i b (all_read [] i x (omega arith)) in
    let r = shown_listed es (i + 1) c b₂ in
    let m : 9 * (i + 1) + 1 ≡ 9 * i + 1 + 9 = omega arith in
    let q = r.1 in
    let l = ap (λ z. (show_all [] es z).at) s in (
      ap (λ z. c ∷ (show_all [] es z).room) s ∙ r.0 ∙ ap (λ z. listed_from z (9 * (i + 1) + 1) es) (behind c b (9 * i) w) ∙ ap (λ z. listed_from (stored_at (c ∷ b) (9 * i + 1) w) z es) m,
      l ∙ q ∙ omega arith,
    )

-- ---- the whole list
none_stored : (i : ℕ) (w : List ℕ) → stored_at [] i w ≡ []
unfolding stored_at
none_stored i w = rw (lt-leb (i + 9) 0 (omega arith))

none_listed : (es : List Entry) (i : ℕ) → [] ≡ listed_from [] i es
none_listed [] i = refl
none_listed (e ∷ es) i = rw (none_stored i (entry_words e)) (none_listed es (i + 9))

pub no_list : (es : List Entry) (b : List ℕ) → length b ≡ 0 → b ≡ listed es b
no_list es (x ∷ b) h = absurd (omega arith)
no_list es [] h = none_listed es 1

module _ (es : List Entry) {at : ℕ} {down : Bool} {c : List ℕ} where
  by_list : (b : List ℕ) → record { at = at; down = down; room = c } ≡ show_all [] es (showing 0 b) → (at ∷ c ≡ listed_from (length es ∷ b) 1 es) × (at ≡ length es)
  by_list b s =
      let n : at ≡ length es = ap (λ z. z.at) s ∙ (shown_listed es 0 0 b).1 ∙ omega arith in
      (rw n (ap (λ z. length es ∷ z.room) s ∙ (shown_listed es 0 (length es) b).0), n)

  -- the part behind the first word, and then the count
  pub whole : (list : List ℕ) → (length list ≡ 0 → ⊥) → record { at = at; down = down; room = c } ≡ show_all [] es (showing 0 (take (length list - 1) (drop 1 list)))
      → (set (take 1 list ++ (c ++ drop (length list - 1) (drop 1 list))) 0 at ≡ listed es list) × (at ≡ length es)
  whole [] h s = absurd (h refl)
  whole (x ∷ b) h s =
      let a : take (length (x ∷ b) - 1) b ≡ b = take_all _ b (omega arith) in
      let d : drop (length (x ∷ b) - 1) b ≡ [] = drop_all _ b (omega arith) in
      let r = by_list b (rw a at s) in
      (ap (λ z. at ∷ (c ++ z)) d ∙ ap (at ∷◌) (append-nil c) ∙ r.0, r.1)
