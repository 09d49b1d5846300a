-- `template::write_all` meets its contract.
use Rattle.template.proofs.Whole.{starts, goes_on}
use Rattle.template.proofs.write_all.Goals as goal

pub loop-b-init : goal.loop-b-init
loop-b-init c = starts _ _ _ _ _ c.at_stage-s.ensures

pub loop-b-preserved : goal.loop-b-preserved
loop-b-preserved c = goes_on _ _ _ c.loop-b.invariant _ c.number_at-n.ensures c.act.ensures c.next_state-s.ensures
