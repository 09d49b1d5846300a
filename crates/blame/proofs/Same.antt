-- Two answers with the same number are the same, and the code tells whether two are.
use mathlib.Core.Path.{◌≡◌, refl, sym, ap, ◌∙◌}
use mathlib.Core.Bool.{Bool, true, false, not}
use lib.Dec.{eqb}
use borrow.Author.Tests.{eqb-true, eqb-false, eq-eqb, not-true, not-false}
use denote.Enum.Bare.{sameb, same_true, same_false}
use Rattle.std.specs.Option.{option_eq}
use Rattle.std.proofs.Common.{Option, Some, None}
use Rattle.std.proofs.lemmas.Option.{same_Some}
use Rattle.laws.proofs.Tests.{by_test}
use Rattle.types.specs.declared.Refusal.{Refusal}
use Rattle.types.specs.contracts.Refusal.{the_type}
use Rattle.rules.specs.Document01.Refusals.{number_of, refusal_of}
use Rattle.rules.proofs.Document01.Listed.{by_each, each_found}
use Rattle.blame.specs.Blame.{number_on, same}

found : (a : Option Refusal) → refusal_of (number_on a) ≡ a
found None = refl
found (Some n) = each_found n

pub same_is : (a b : Option Refusal) → same a b ≡ true → a ≡ b
same_is a b e = sym (found a) ∙ ap refusal_of (eqb-true _ _ e) ∙ found b

pub not_same : (a b : Option Refusal) → same a b ≡ false → a ≡ b → ⊥
not_same a b e q = eqb-false _ _ e (ap number_on q)

pub is_same : (a b : Option Refusal) → a ≡ b → same a b ≡ true
is_same a b q = eq-eqb _ _ (ap number_on q)

-- ---- as the code compares them
module _ (E : Refusal → Refusal → Bool) (law : (m n : Refusal) → E m n ≡ sameb the_type m n) where
  compared : (a b : Option Refusal) → option_eq E a b ≡ same a b
  compared None None = refl
  compared None (Some n) = by_each (λ n. false) (λ n. eqb 0 (number_of n)) refl n
  compared (Some n) None = by_each (λ n. false) (λ n. eqb (number_of n) 0) refl n
  compared (Some m) (Some n) =
      law m n
      ∙ by_test (sameb the_type m n)
      (λ t. t ∙ sym (is_same (Some m) (Some n) (ap Some (same_true the_type tt m n t))))
      (λ f. f ∙ sym (by_test (same (Some m) (Some n)) (λ t. absurd (same_false the_type m n f (same_Some m n (same_is (Some m) (Some n) t)))) (λ g. g)))

  pub differs : (a b : Option Refusal) {t : Bool} → t ≡ not (option_eq E a b) → t ≡ true → same a b ≡ false
  differs a b e t = sym (compared a b) ∙ not-true _ (sym e ∙ t)

  pub agrees : (a b : Option Refusal) {t : Bool} → t ≡ not (option_eq E a b) → t ≡ false → same a b ≡ true
  agrees a b e t = sym (compared a b) ∙ not-false _ (sym e ∙ t)
