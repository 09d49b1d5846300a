-- `rcc::plan_bank` meets its contract.
use lib.ListN.{length}
use Rattle.rcc.proofs.Promised.{bank_freeze, bank_legal, bank_order, bank_readings, other, other_kept}
use Rattle.rcc.proofs.plan_bank.Goals as goal

pub returns-then-words-ne-BANK-clause-bank : goal.returns-then-words-ne-BANK-clause-bank
returns-then-words-ne-BANK-clause-bank c = other_kept _ _ _ _ c.if-words-ne-BANK.true c.answer.ensures _

pub returns-then-words-ne-BANK-clause-legal : goal.returns-then-words-ne-BANK-clause-legal
returns-then-words-ne-BANK-clause-legal c = bank_legal _ _ _ _ (other _ _ _ _ c.if-words-ne-BANK.true c.answer.ensures)

pub returns-then-words-ne-BANK-clause-readings : goal.returns-then-words-ne-BANK-clause-readings
returns-then-words-ne-BANK-clause-readings c =
    bank_readings _ _ _ _ (other _ _ _ _ c.if-words-ne-BANK.true c.answer.ensures) _ _
    (other_kept _ _ _ _ c.if-words-ne-BANK.true c.answer.ensures _)

pub returns-then-words-ne-BANK-clause-order : goal.returns-then-words-ne-BANK-clause-order
returns-then-words-ne-BANK-clause-order c = bank_order _ _ _ _ (other _ _ _ _ c.if-words-ne-BANK.true c.answer.ensures)

pub returns-clause-freeze : goal.returns-clause-freeze
returns-clause-freeze c = bank_freeze _ _ (length c.args.bank.now) _ (rw c.if-words-ne-BANK.false c.answer-planned.ensures)

pub returns-clause-legal : goal.returns-clause-legal
returns-clause-legal c = bank_legal _ _ (length c.args.bank.now) _ (rw c.if-words-ne-BANK.false c.answer-planned.ensures)

pub returns-clause-order : goal.returns-clause-order
returns-clause-order c = bank_order c.args.request.now c.args.chip (length c.args.bank.now) _ (rw c.if-words-ne-BANK.false c.answer-planned.ensures)
