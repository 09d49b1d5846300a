-- `pwr::stepped` meets its contract: a refused walk stays, another is moved.
use Rattle.pwr.proofs.Laws.{refused_stand, moved_stand}
use Rattle.pwr.proofs.VoltageWalkSteps.stepped.Goals as goal

pub returns-then-target-lt4-clause-rules : goal.returns-then-target-lt4-clause-rules
returns-then-target-lt4-clause-rules c = rw c.place_after.ensures (moved_stand c.args.self c.args.a c.args._b c.if-target-lt4.true)

pub returns-clause-rules : goal.returns-clause-rules
returns-clause-rules c = refused_stand c.args.self c.args.a c.args._b c.if-target-lt4.false
