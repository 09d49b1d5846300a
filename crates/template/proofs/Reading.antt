-- A number between braces stays below 1000.
use Prim.Native.Nat.{ℕ, ◌<◌}
use native.Mathlib.Omega.{arith}
use lib.Dec.{eqb}
use Rattle.laws.proofs.Tests.{either}
use Rattle.text.specs.Numbers.{is_digit}
use Rattle.template.specs.declared.State.{State}
use Rattle.template.specs.declared.Stage.{Stage}
use Rattle.template.specs.declared.Stage.TheVariants.{Text, Braces, Done}
use Rattle.template.specs.Template.{in_braces, next_at, next}

abbrev Small : State → Type 0
Small s = s.number < 1000

module _ (n : ℕ) (s : State) (b : ℕ) (h : s.number < 1000) where
  small_at : (g : Stage) → Small (next_at g n s b)
  unfolding in_braces
  small_at Text = either Small (eqb b 123) _ _ (omega arith) h
  small_at Braces = either Small (eqb b 125) _ _ (omega arith) (either Small (is_digit b) _ _ (omega arith) (either Small (eqb b 58) _ _ (omega arith) (omega arith)))
  small_at Done = either Small (eqb b 125) _ _ (omega arith) h

  pub small : (next n s b).number < 1000
  unfolding next
  small = small_at s.stage
