use native.Mathlib.Omega.{arith}
use Rattle.entries.proofs.Picked.{some_passes, fewer_passes}
use Rattle.entries.proofs.pick.PickSink.passes.Goals as goal

-- src/pick.rt:18:13
pub returns-then-is_some-clause-passed : goal.returns-then-is_some-clause-passed
returns-then-is_some-clause-passed c t = some_passes c.args.self.now c.args.n (grind arith)

-- src/pick.rt:16:5
pub returns-clause-passed : goal.returns-clause-passed
returns-clause-passed c t = fewer_passes c.args.self.now c.args.n (grind arith) (grind arith)
