use Rattle.entries.proofs.Told.{told_passed}
use Rattle.entries.proofs.Counted.{clocks_is}
use Rattle.entries.proofs.clocks.clocks.Goals as goal

-- src/clocks.rt:16:9
pub returns-then-passes : goal.returns-then-passes
returns-then-passes g c = told_passed g.S.Sink.after 9 _ _ _ _ (c.passes.ensures.passed c.if-passes.true) (clocks_is c.args.w c.args.sel.now c.args.m.now)
