-- `rcc::plan` meets its contract.
use Rattle.rcc.proofs.Promised.{freeze, legal, order}
use Rattle.rcc.proofs.plan.Goals as goal

pub returns-clause-freeze : goal.returns-clause-freeze
returns-clause-freeze c = freeze _ _ _ c.answer.ensures

pub returns-clause-legal : goal.returns-clause-legal
returns-clause-legal c = legal _ _ _ c.answer.ensures

pub returns-clause-order : goal.returns-clause-order
returns-clause-order c = order _ _ _ c.answer.ensures
