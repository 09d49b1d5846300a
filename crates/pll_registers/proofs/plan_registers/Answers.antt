use mathlib.Core.Path.{sym}
use Rattle.pll_registers.proofs.Registers.{stored_hold}
use Rattle.pll_registers.proofs.plan_registers.Goals as goal

-- src/lib.rt
pub returns-clause-bank : goal.returns-clause-bank
returns-clause-bank c =
    let x = c.args in
    let p = c.in_ok-plan in
    λ f k l. stored_hold x.request.now x.chip p.plan (sym p.ensures.rules) k l x.words.now c.store_registers.new.out c.if-words-ne-WORDS.false c.store_registers.ensures
