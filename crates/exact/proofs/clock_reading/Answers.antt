-- `exact::clock_reading` meets its contract.
use native.Mathlib.Omega.{arith}
use Rattle.rules.specs.Manual.Tree.{fed_by}
use Rattle.exact.specs.Exact.{clocks_by}
use Rattle.exact.proofs.Chains.{past}
use Rattle.exact.proofs.clock_reading.Goals as goal

pub returns-in_default : goal.returns-in_default
unfolding clocks_by
returns-in_default c =
    let a = c.args in
    past (clocks_by a.bank.now (fed_by a.hse)) a.clock (omega arith)
