-- The loop of `ask::take_all`.
use lib.ListN.{length}
use Rattle.ask.proofs.Taking.{Going}
use Rattle.ask.proofs.take_all.Given as goal

abbrev pub invariant-loop-part : goal.invariant-loop-part
invariant-loop-part l = Going l.initial.sheet l.words l.sheet l.from (length l.yielded)
