use Rattle.entries.proofs.Counted.{answer_is}
use Rattle.entries.proofs.entry_count.Goals as goal

-- src/lib.rt
pub returns : goal.returns
returns c = answer_is c.args.x.now c.tell.new.s _ c.tell.ensures
