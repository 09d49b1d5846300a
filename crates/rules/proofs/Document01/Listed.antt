-- The list of refusals (document 01, Who can cause which refusal): every refusal is in it, with a number that no other has; the numbers rise; and
-- they are those that some call answers, and those that none does. No refusal is named here.
use Rattle.std.specs.Prelude.{Some}
use mathlib.Core.Path.{◌≡◌, refl, sym, ap, ◌∙◌}
use mathlib.Core.Bool.{Bool, true, false, cond, ◌&&◌, ◌||◌}
use mathlib.Core.List.{List, [], ◌∷◌, Memᴰ}
use mathlib.Core.Logic.{inl, inr}
use Prim.Native.Nat.{ℕ}
use native.Mathlib.Omega.{arith}
use lib.Dec.{eqb, ltb}
use borrow.Author.Tests.{eqb-true}
use denote.Struct.Field.{Field}
use denote.Enum.Declared.{Choice}
use Rattle.types.specs.declared.Refusal.{Refusal}
use Rattle.types.specs.contracts.Refusal.{the_parts as parts, the_make as make, as_values, the_eta as eta}
use Rattle.rules.specs.Document01.Refusals.{number_of, refusals, numbers, first_with, refusal_of, call_numbers, no_numbers}
use Rattle.rules.specs.Manual.Tree.{among}
use Rattle.laws.proofs.Tests.{by_test}

-- ---- two functions of a refusal that are equal at each variant are equal
-- an enum's variants hold nothing
abbrev Plain : List (List Field) → Type 0
Plain [] = Unit {0}
Plain ([] ∷ rest) = Plain rest
Plain ((f ∷ fs) ∷ rest) = ⊥

-- the values of a function, variant by variant
abbrev in_turn : {A : Type 0} (variants : List (List Field)) → (Choice variants → A) → List A
in_turn [] f = []
in_turn ([] ∷ rest) f = f (inl tt) ∷ in_turn rest (λ c. f (inr c))
in_turn ((v ∷ vs) ∷ rest) f = []

same_in_turn : {A : Type 0} (variants : List (List Field)) → Plain variants → (f g : Choice variants → A) → in_turn variants f ≡ in_turn variants g → (c : Choice variants) → f c ≡ g c
same_in_turn [] p f g e c = absurd c
same_in_turn ([] ∷ rest) p f g e (inl v) = let h : f (inl tt) ≡ g (inl tt) = cc in h
same_in_turn ([] ∷ rest) p f g e (inr c) = same_in_turn rest p (λ d. f (inr d)) (λ d. g (inr d)) (cc) c
same_in_turn ((v ∷ vs) ∷ rest) p f g e c = absurd p

pub by_each : {A : Type 0} (f g : Refusal → A) → in_turn parts (λ c. f (make c)) ≡ in_turn parts (λ c. g (make c)) → (n : Refusal) → f n ≡ g n
by_each f g e n = sym (ap f (eta n)) ∙ same_in_turn parts tt (λ c. f (make c)) (λ c. g (make c)) e (as_values n) ∙ ap g (eta n)

-- ---- every refusal is in the list, and is the one with its number
pub each_found : (n : Refusal) → refusal_of (number_of n) ≡ Some n
each_found = by_each (λ n. refusal_of (number_of n)) Some refl

-- what was found is in the list, and has the number
module _ (k : ℕ) (n : Refusal) where
  first_in : (ms : List Refusal) → first_with k ms ≡ Some n → Memᴰ n ms × (k ≡ number_of n)
  first_in [] h = absurd (let z : ◌≡◌ {A = ℕ} 0 1 = cc in omega arith)
  first_in (m ∷ ms) h =
      by_test (eqb k (number_of m))
      (λ t. let s : first_with k (m ∷ ms) ≡ Some m = rw t in let e : n ≡ m = cc in (Memᴰ.head e, eqb-true k (number_of m) t ∙ ap number_of (sym e)))
      (λ f. let s : first_with k (m ∷ ms) ≡ first_with k ms = rw f in let later = first_in ms (sym s ∙ h) in (Memᴰ.tail later.0, later.1))

pub each_listed : (n : Refusal) → Memᴰ n refusals
each_listed n = (first_in (number_of n) n refusals (each_found n)).0

pub found_number : (k : ℕ) (n : Refusal) → refusal_of k ≡ Some n → k ≡ number_of n
found_number k n h = (first_in k n refusals h).1

-- ---- the numbers rise, from above 0, which is a plan's, and so do those of each call
abbrev pub rises : ℕ → List ℕ → Bool
rises k [] = true
rises k (x ∷ xs) = ltb k x && rises x xs

abbrev pub each_rises : List (List ℕ) → Bool
each_rises [] = true
each_rises (xs ∷ rest) = rises 0 xs && each_rises rest

pub rising : each_rises (numbers ∷ no_numbers ∷ call_numbers) ≡ true
rising = refl

-- ---- the numbers are those that some call answers, and those that none does
-- a number put in its place
abbrev placed : ℕ → List ℕ → List ℕ
placed k [] = k ∷ []
placed k (x ∷ xs) = cond (eqb k x) (x ∷ xs) (cond (ltb k x) (k ∷ x ∷ xs) (x ∷ placed k xs))

abbrev each_placed : List ℕ → List ℕ → List ℕ
each_placed [] ys = ys
each_placed (x ∷ xs) ys = placed x (each_placed xs ys)

-- the numbers of some lists, each once and in order
abbrev pub together : List (List ℕ) → List ℕ
together [] = []
together (xs ∷ rest) = each_placed xs (together rest)

-- a number stands in both lists
abbrev pub shared : List ℕ → List ℕ → Bool
shared [] ys = false
shared (x ∷ xs) ys = among ys x || shared xs ys

pub answered : together (no_numbers ∷ call_numbers) ≡ numbers
answered = refl

pub unanswered : shared no_numbers (together call_numbers) ≡ false
unanswered = refl
