-- A name in its column, compared with a given name.
use mathlib.Core.Path.{◌≡◌, refl, sym, ap, ◌∙◌}
use mathlib.Core.Bool.{Bool, true, false, not, ◌&&◌}
use mathlib.Core.List.{List, [], ◌∷◌, ◌++◌}
use Prim.Native.Nat.{ℕ, zero, suc, ◌+◌, ◌-◌, ◌≤◌, ◌<◌, min, max}
use native.Mathlib.Omega.{arith}
use lib.Dec.{eqb, leb}
use lib.ListN.{length, get_or, take, drop, replicate, length-map}
use borrow.Author.Tests.{eq-eqb, ne_eqb, eqb-true, eqb-false, leb-true, leb-false, not-true, not-false}
use borrow.Author.Rules.{part_to_end}
use lib.Pointwise.{pointwise}
use Rattle.std.specs.List.{list_all, position_or_len}
use Rattle.std.proofs.Common.{Option, map, position}
use Rattle.laws.proofs.Tests.{by_test}
use Rattle.text.specs.Names.{is_name, column, number_in}

abbrev Blank : ℕ → Bool
Blank b = eqb b 32

swapped : (a b : ℕ) → eqb a b ≡ eqb b a
swapped a b = by_test (eqb b a) (λ (t : eqb b a ≡ true). rw t (eq-eqb a b (sym (eqb-true b a t)))) (λ (f : eqb b a ≡ false). rw f (ne_eqb a b (λ e. eqb-false b a f (sym e))))

-- ---- a listed name n with k blanks behind it
-- nothing is given: n is blank
of_nothing : (n : List ℕ) (k : ℕ) → is_name (n ++ replicate k 32) [] ≡ list_all Blank n
unfolding is_name
of_nothing [] zero = refl
of_nothing [] (suc k) = of_nothing [] k
of_nothing (c ∷ n) k = ap (λ t. eqb c 32 && t) (of_nothing n k)

-- nothing is listed: the given one is blank
of_blanks : (name : List ℕ) (k : ℕ) → length name ≤ k → is_name (replicate k 32) name ≡ list_all Blank name
unfolding is_name
of_blanks [] k h = of_nothing [] k
of_blanks (x ∷ name) zero h = absurd (omega arith)
of_blanks (x ∷ name) (suc k) h = rw (swapped 32 x, of_blanks name k (omega arith))

-- both: up to the shorter one's end they are the same, and what is left of either is blank
parts_at : (n name : List ℕ) (k m : ℕ) → m ≡ min (length n) (length name) → length name ≤ length n + k →
    is_name (n ++ replicate k 32) name ≡ pointwise eqb (take m n) (take m name) && (list_all Blank (drop m n) && list_all Blank (drop m name))
unfolding is_name
parts_at [] name k zero e h = of_blanks name k (omega arith)
parts_at [] name k (suc m) e h = absurd (omega arith)
parts_at (c ∷ n) [] k zero e h = rw (of_nothing (c ∷ n) k) (by_test (list_all Blank (c ∷ n)) (λ t. rw t) (λ t. rw t))
parts_at (c ∷ n) [] k (suc m) e h = absurd (omega arith)
parts_at (c ∷ n) (x ∷ name) k zero e h = absurd (omega arith)
parts_at (c ∷ n) (x ∷ name) k (suc m) e h =
    by_test (eqb c x) (λ (t : eqb c x ≡ true). rw t (parts_at n name k m (omega arith) (omega arith))) (λ (f : eqb c x ≡ false). rw f)

long_at : (n name : List ℕ) (k : ℕ) → length n + k < length name → is_name (n ++ replicate k 32) name ≡ false
unfolding is_name
long_at n [] k h = absurd (omega arith)
long_at [] (x ∷ name) zero h = refl
long_at [] (x ∷ name) (suc k) h = rw (long_at [] name k (omega arith)) (by_test (eqb 32 x) (λ t. rw t) (λ t. rw t))
long_at (c ∷ n) (x ∷ name) k h = rw (long_at n name k (omega arith)) (by_test (eqb c x) (λ t. rw t) (λ t. rw t))

-- ---- in its column
-- another first byte
pub unlike : (n name : List ℕ) → (get_or n 0 32 ≡ get_or name 0 32 → ⊥) → is_name (column n) name ≡ false
unfolding is_name
unlike [] [] h = absurd (h refl)
unlike [] (x ∷ name) h = rw (ne_eqb 32 x h)
unlike (c ∷ n) [] h = rw (ne_eqb c 32 h)
unlike (c ∷ n) (x ∷ name) h = rw (ne_eqb c x h)

module _ (n name : List ℕ) (m : ℕ) (e : m ≡ min (length n) (length name)) (h : length name ≤ max (length n) 12) where
  parts : is_name (column n) name ≡ pointwise eqb (take m n) (take m name) && (list_all Blank (drop m n) && list_all Blank (drop m name))
  parts = parts_at n name (12 - length n) m e (omega arith)

  pub same : not (pointwise eqb (take m n) (take m name)) ≡ false → list_all Blank (take (length n - m) (drop m n)) ≡ true →
      is_name (column n) name ≡ list_all Blank (take (length name - m) (drop m name))
  same t b = let d = not-false _ t in let l = rw part_to_end at b in rw part_to_end (parts ∙ rw (d, l))

  pub listed_on : not (pointwise eqb (take m n) (take m name)) ≡ false → list_all Blank (take (length n - m) (drop m n)) ≡ false → is_name (column n) name ≡ false
  listed_on t b = let d = not-false _ t in let l = rw part_to_end at b in parts ∙ rw (d, l)

pub long : (n name : List ℕ) → max (length n) 12 < length name → is_name (column n) name ≡ false
long n name h = long_at n name (12 - length n) (omega arith)

pub other : (n name : List ℕ) (m : ℕ) → m ≡ min (length n) (length name) → not (pointwise eqb (take m n) (take m name)) ≡ true → is_name (column n) name ≡ false
other n name m e t =
    let d = not-true _ t in
    by_test (leb (length name) (max (length n) 12))
    (λ (y : leb (length name) (max (length n) 12) ≡ true). parts n name m e (leb-true _ _ y) ∙ rw d)
    (λ (f : leb (length name) (max (length n) 12) ≡ false). long n name (leb-false _ _ f))

-- ---- the number of a name, in a table with something beside each name
module _ {X : Type 0} (listed : X → List ℕ) where
  abbrev pub listed_as : (name : List ℕ) → X → Bool
  listed_as name x = is_name (column (listed x)) name

  place_of : (p : List ℕ → Bool) (xs : List X) → position_or_len p (map listed xs) ≡ position_or_len (λ x. p (listed x)) xs
  place_of p [] = refl
  place_of p (x ∷ xs) = by_test (p (listed x)) (λ t. rw t) (λ t. rw (t, place_of p xs))

  pub by_place : (xs : List X) (name : List ℕ) {r : Option ℕ} → r ≡ position (listed_as name) xs → r ≡ number_in (map listed xs) name
  unfolding number_in
  by_place xs name e = e ∙ rw (place_of (λ l. is_name (column l) name) xs, length-map xs listed)
