-- A quotient rounded up: a remainder adds one.
use Rattle.std.proofs.Common.{◌≡◌, ◌∙◌, ℕ, ◌+◌, ◌/◌, ◌%◌, ◌≤◌, min, cond, eqb, arith}
use Rattle.rules.specs.Document01.Hertz.{ratio_of}
use Rattle.rules.proofs.Document01.RoundedUp.{rounded_up}

over : (q r : ℕ) → q + min 1 r ≡ cond (eqb r 0) q (q + 1)
over q r = grind arith

pub up : (a b : ℕ) → 1 ≤ b → a / b + min 1 (a % b) ≡ ratio_of a b
up a b h = over (a / b) (a % b) ∙ rounded_up a b h
