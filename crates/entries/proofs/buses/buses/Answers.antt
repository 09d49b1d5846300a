use Rattle.entries.proofs.Told.{told_passed}
use Rattle.entries.proofs.Counted.{buses_is}
use Rattle.entries.proofs.buses.buses.Goals as goal

-- src/buses.rt:16:9
pub returns-then-passes : goal.returns-then-passes
returns-then-passes g c = told_passed g.S.Sink.after 10 _ _ _ _ (c.passes.ensures.passed c.if-passes.true) (buses_is c.args.b.now c.args.sel.now)
