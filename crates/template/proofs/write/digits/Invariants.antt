-- The loop of `template::write::digits`.
use Rattle.template.proofs.Digits.{Held}
use Rattle.template.proofs.write.digits.Given as goal

abbrev pub invariant-loop-k : goal.invariant-loop-k
invariant-loop-k l = Held l.n l.count l.k l.rest l.row
