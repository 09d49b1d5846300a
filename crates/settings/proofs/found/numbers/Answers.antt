use Rattle.settings.proofs.Numbers.{numbered}
use Rattle.settings.proofs.found.numbers.Goals as goal

-- src/found.rt
pub returns : goal.returns
returns c =
    numbered c.args.x.now c.code_of.ensures c.blank_plan.ensures c.unwrap_or-plan.ensures c.all_words-a.ensures c.all_words-b.ensures
