-- The loop of `ask::hex::store_hex`.
use Rattle.ask.proofs.Pairs.{Stored}
use Rattle.ask.proofs.hex.store_hex.Given as goal

abbrev pub invariant-loop-i : goal.invariant-loop-i
invariant-loop-i l = Stored l.v l.initial.sheet l.at l.sheet l.i
