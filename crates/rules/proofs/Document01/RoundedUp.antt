-- A ratio rounded up: the quotient, and one more where there is a remainder.
use mathlib.Core.Path.{◌≡◌, sym, ◌∙◌}
use mathlib.Core.Bool.{true, false, cond}
use Prim.Native.Nat.{ℕ, ◌+◌, ◌-◌, ◌*◌, ◌/◌, ◌%◌, ◌≤◌, ◌<◌}
use native.Mathlib.Omega.{arith}
use native.Mathlib.Nat.{div-add-mod', mod-lt, div-eq_of_lt-le, add-mul}
use lib.Dec.{eqb}
use borrow.Author.Tests.{eqb-true, eqb-false}
use Rattle.rules.specs.Document01.Hertz.{ratio_of}
use Rattle.laws.proofs.Tests.{by_test}

module _ (a b : ℕ) (h : 1 ≤ b) where
  even : a % b ≡ 0 → ratio_of a b ≡ a / b
  unfolding ratio_of
  even e =
      let w = div-add-mod' a b in
      let l : (a / b + 1) * b ≡ a / b * b + b = rw add-mul (omega arith) in
      div-eq_of_lt-le {k = a / b} b {m = a + (b - 1)} (omega arith) (omega arith)

  rest : (a % b ≡ 0 → ⊥) → ratio_of a b ≡ a / b + 1
  unfolding ratio_of
  rest e =
      let w = div-add-mod' a b in
      let r : a % b < b = mod-lt a h in
      let l : (a / b + 1) * b ≡ a / b * b + b = rw add-mul (omega arith) in
      let m : (a / b + 1 + 1) * b ≡ a / b * b + b + b = rw (add-mul, add-mul) (omega arith) in
      let p : 1 ≤ a % b = omega arith in
      div-eq_of_lt-le {k = a / b + 1} b {m = a + (b - 1)} (omega arith) (omega arith)

  pub rounded_up : cond (eqb (a % b) 0) (a / b) (a / b + 1) ≡ ratio_of a b
  rounded_up = by_test (eqb (a % b) 0) (λ (t : eqb (a % b) 0 ≡ true). simp t (sym (even (eqb-true _ _ t)))) (λ (t : eqb (a % b) 0 ≡ false). simp t (sym (rest (eqb-false _ _ t))))

  -- a ratio of 0 is one of 0
  pub ratio_none : ratio_of a b ≡ 0 → a ≡ 0
  ratio_none e =
      by_test (eqb (a % b) 0)
      (λ t. let z : a % b ≡ 0 = eqb-true _ _ t in let y : a / b ≡ 0 = sym (even z) ∙ e in let w = div-add-mod' a b in let v : a / b * b ≡ 0 = rw y (omega arith) in omega arith)
      (λ t. absurd (let y : a / b + 1 ≡ 0 = sym (rest (eqb-false _ _ t)) ∙ e in omega arith))
