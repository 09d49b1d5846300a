-- What the line of a refusal says: without the word told, the sheet is answered otherwise; and some word is always told.
use mathlib.Core.Path.{◌≡◌, refl, sym, ◌∙◌}
use mathlib.Core.Bool.{Bool, true, false, cond, ◌||◌}
use mathlib.Core.List.{List, [], ◌∷◌}
use Prim.Native.Nat.{ℕ, zero, suc, ◌+◌, ◌-◌, ◌≤◌, ◌<◌}
use native.Mathlib.Numerals.{add-one}
use native.Mathlib.Omega.{arith}
use lib.Dec.{eqb}
use lib.ListN.{length, get_or, take, drop, set, length-set, length-drop}
use lib.Seq.{sets, length-sets, drop-cons, get_or-set_same, get_or-set_other, ext_get_or}
use borrow.Author.Tests.{eqb-true, eqb-false}
use Rattle.laws.proofs.Tests.{by_test, never, all_below, at_each}
use Rattle.rules.proofs.Computes.{by_rules}
use Rattle.std.proofs.Common.{Some, None}
use Rattle.std.specs.List.{fold}
use Rattle.std.proofs.lemmas.List.{get_or-drop}
use Rattle.std.proofs.lemmas.Option.{none-some, same_Some}
use Rattle.sheet.specs.Sheet.{fresh_sheet, request_length, chip_on}
use Rattle.ask.specs.Table.{keys, key_at}
use Rattle.ask.specs.Sheet.{width_of, without_key}
use Rattle.ask.proofs.Keys.{ends_within}
use Rattle.blame.specs.Blame.{order, by_board, start_for, refusal_on, same, freed_from, blamed_of, last_blamed_of}
use Rattle.blame.proofs.Freed.{order_length, key_below}
use Rattle.blame.proofs.Same.{same_is, not_same, is_same}

-- ---- the keys that are tried
abbrev pub tried : (sheet : List ℕ) → List ℕ
tried s = drop (start_for (refusal_on s)) order

-- ---- each left out alone
module _ (s : List ℕ) where
  abbrev alone : List ℕ → ℕ → List ℕ
  alone t k = without_key s k

  one_frees : (ks t : List ℕ) (k : ℕ) → freed_from alone s t ks ≡ Some k → same (refusal_on (without_key s k)) (refusal_on s) ≡ false
  unfolding freed_from
  one_frees [] t k e = absurd (none-some k e)
  one_frees (j ∷ ks) t k e =
      by_test (same (refusal_on (without_key s j)) (refusal_on s))
      (λ y. one_frees ks (without_key s j) k (rw y at e))
      (λ n. rw (← same_Some j k (rw n at e)) n)

  each_keeps : (ks t : List ℕ) → freed_from alone s t ks ≡ None → (i : ℕ) → i < length ks → same (refusal_on (without_key s (get_or ks i 33))) (refusal_on s) ≡ true
  unfolding freed_from
  each_keeps [] t e i h = absurd (omega arith)
  each_keeps (j ∷ ks) t e zero h = by_test (same (refusal_on (without_key s j)) (refusal_on s)) (λ y. y) (λ n. absurd (none-some j (sym (rw n at e))))
  each_keeps (j ∷ ks) t e (suc i) h =
      by_test (same (refusal_on (without_key s j)) (refusal_on s))
      (λ y. each_keeps ks (without_key s j) (rw y at e) i (omega arith))
      (λ n. absurd (none-some j (sym (rw n at e))))

-- without the word told the sheet is answered otherwise
pub blamed_frees : (s : List ℕ) (k : ℕ) → blamed_of s ≡ Some k → refusal_on (without_key s k) ≡ refusal_on s → ⊥
unfolding blamed_of
blamed_frees s k e = not_same _ _ (one_frees s (tried s) s k e)

-- where no single word is told, leaving out one is not enough
pub none_frees : (s : List ℕ) → blamed_of s ≡ None → (i : ℕ) → start_for (refusal_on s) ≤ i → i < 33 → refusal_on (without_key s (get_or order i 33)) ≡ refusal_on s
unfolding blamed_of
none_frees s e i h l =
    let a = start_for (refusal_on s) in
    let d : a + (i - a) ≡ i = omega arith in
    let k : get_or (tried s) (i - a) 33 ≡ get_or order i 33 = get_or-drop a order (i - a) 33 ∙ rw d in
    rw (← k) (same_is _ _ (each_keeps s (tried s) s e (i - a) (omega (arith, length-drop a order, order_length))))

-- ---- left out one after the other
module _ (s : List ℕ) where
  some_frees : (ks t : List ℕ) (k : ℕ) → freed_from without_key s t ks ≡ Some k →
      (n : ℕ) × ((n < length ks) × ((k ≡ get_or ks n 33) × (same (refusal_on (fold without_key t (take (n + 1) ks))) (refusal_on s) ≡ false)))
  unfolding freed_from
  some_frees [] t k e = absurd (none-some k e)
  some_frees (j ∷ ks) t k e =
      by_test (same (refusal_on (without_key t j)) (refusal_on s))
      (λ y. let h = some_frees ks (without_key t j) k (rw y at e) in (h.0 + 1, (omega (arith, h.1.0), (rw (add-one h.0) h.1.1.0, rw (add-one (h.0 + 1)) h.1.1.1))))
      (λ n. (0, (omega arith, (sym (same_Some j k (rw n at e)), n))))

  all_keep : (ks t : List ℕ) → freed_from without_key s t ks ≡ None → same (refusal_on t) (refusal_on s) ≡ true → same (refusal_on (fold without_key t ks)) (refusal_on s) ≡ true
  unfolding freed_from
  all_keep [] t e h = h
  all_keep (j ∷ ks) t e h =
      by_test (same (refusal_on (without_key t j)) (refusal_on s))
      (λ y. all_keep ks (without_key t j) (rw y at e) y)
      (λ n. absurd (none-some j (sym (rw n at e))))

-- the last word told is one with which, and with those tried before it, the answer is another
pub last_frees :
    (s : List ℕ) (k : ℕ) → last_blamed_of s ≡ Some k →
    (n : ℕ) × ((k ≡ get_or (tried s) n 33) × (refusal_on (fold without_key s (take (n + 1) (tried s))) ≡ refusal_on s → ⊥))
unfolding last_blamed_of
last_frees s k e = let h = some_frees s (tried s) s k e in (h.0, (h.1.1.0, not_same _ _ h.1.1.1))

-- ---- a byte of a key that is taken away is that of a fresh sheet
-- whether byte j is among the n from p on
among : (p n j : ℕ) → Bool
among p zero j = false
among p (suc n) j = eqb j p || among (suc p) n j

-- whether it is a byte of one of the keys
covered : (ks : List ℕ) (j : ℕ) → Bool
covered [] j = false
covered (k ∷ ks) j = among (key_at k).place (width_of (key_at k).kind) j || covered ks j

fresh_length : length fresh_sheet ≡ 115
unfolding fresh_sheet
fresh_length = refl

module _ (j : ℕ) (b : j < 115) where
  sets_fresh :
      (n p : ℕ) (l : List ℕ) → length l ≡ 115 → p + n ≤ 115 → (among p n j ≡ false → get_or l j 0 ≡ get_or fresh_sheet j 0) →
      get_or (sets l p (take n (drop p fresh_sheet))) j 0 ≡ get_or fresh_sheet j 0
  unfolding among
  sets_fresh zero p l e w h = h refl
  sets_fresh (suc n) p l e w h =
      let v = get_or fresh_sheet p 0 in
      rw (drop-cons fresh_sheet p 0 (omega (arith, fresh_length)))
      (sets_fresh n (suc p) (set l p v) (length-set l p v ∙ e) (omega arith)
      (λ out.
      by_test (eqb j p)
      (λ (t : eqb j p ≡ true). rw (eqb-true j p t) (get_or-set_same l p v 0 (omega arith)))
      (λ (f : eqb j p ≡ false). get_or-set_other l p j v 0 (eqb-false j p f) ∙ h (rw (f, out)))))

  covered_fresh : (ks t : List ℕ) → length t ≡ 115 → (covered ks j ≡ false → get_or t j 0 ≡ get_or fresh_sheet j 0) → get_or (fold without_key t ks) j 0 ≡ get_or fresh_sheet j 0
  unfolding covered without_key
  covered_fresh [] t e h = h refl
  covered_fresh (k ∷ ks) t e h =
      covered_fresh ks (without_key t k) (rw length-sets e) (λ out. sets_fresh _ _ t e (ends_within k) (λ own. h (rw (own, out))))

-- ---- a sheet without any key is a fresh one, but for what is shown
all_length : (ks t : List ℕ) → length t ≡ 115 → length (fold without_key t ks) ≡ 115
unfolding without_key
all_length [] t e = e
all_length (k ∷ ks) t e = all_length ks (without_key t k) (rw length-sets e)

blank : (ks s : List ℕ) → length s ≡ 115 → all_below (λ j. eqb j 113 || covered ks j) 115 ≡ true →
    fold without_key s ks ≡ set fresh_sheet 113 (get_or (fold without_key s ks) 113 0)
blank ks s e c =
    let t = fold without_key s ks in
    let x = get_or t 113 0 in
    let n = all_length ks s e in
    ext_get_or 0 t (set fresh_sheet 113 x) (n ∙ sym (length-set fresh_sheet 113 x ∙ fresh_length))
    (λ j b.
    by_test (eqb j 113)
    (λ (y : eqb j 113 ≡ true). rw (eqb-true j 113 y) (sym (get_or-set_same fresh_sheet 113 x 0 (omega (arith, fresh_length)))))
    (λ (f : eqb j 113 ≡ false).
    let h = rw f at (at_each (λ j. eqb j 113 || covered ks j) 115 c j (omega arith)) in
    covered_fresh j (omega arith) ks s e (λ out. absurd (never (sym h ∙ out))) ∙ sym (get_or-set_other fresh_sheet 113 j x 0 (eqb-false j 113 f))))

-- every other byte is one of a key that is taken away, whether HSE comes first or not
all_taken : (t : Bool) → all_below (λ j. eqb j 113 || covered (drop (cond t 0 1) order) j) 115 ≡ true
unfolding covered among order keys
all_taken true = refl
all_taken false = refl

-- ---- such a sheet gets a plan, so that some word is told
gets_a_plan : (x : ℕ) → refusal_on (set fresh_sheet 113 x) ≡ None
unfolding refusal_on by_rules request_length chip_on fresh_sheet
gets_a_plan x = refl

pub always_named : (s : List ℕ) → length s ≡ 115 → (refusal_on s ≡ None → ⊥) → (k : ℕ) × ((last_blamed_of s ≡ Some k) × (k < 33))
unfolding last_blamed_of
always_named s e d =
    let plan : refusal_on (fold without_key s (tried s)) ≡ None = rw (blank (tried s) s e (all_taken (by_board (refusal_on s)))) (gets_a_plan _) in
    elim (freed_from without_key s s (tried s)) as (λ o. freed_from without_key s s (tried s) ≡ o → (k : ℕ) × ((o ≡ Some k) × (k < 33))) [
      | None ↦ λ f. absurd (d (sym (same_is _ _ (all_keep s (tried s) s f (is_same _ _ refl))) ∙ plan))
      | Some k ↦ λ f. let h = some_frees s (tried s) s k f in (k, (refl, rw h.1.1.0 (key_below (start_for (refusal_on s)) h.0 33 h.1.0)))
    ] refl
