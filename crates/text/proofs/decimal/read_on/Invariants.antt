-- The loop of `text::decimal::read_on`.
use Rattle.text.proofs.Digits.{Read}
use Rattle.text.proofs.decimal.read_on.Given as goal

abbrev pub invariant-loop-b : goal.invariant-loop-b
invariant-loop-b l = Read l.v l.s l.value l.b-index
