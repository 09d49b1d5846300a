use Rattle.rules.specs.Document01.Entries.{entries_of}
use Rattle.registers.proofs.Applied.{applied_is}
use Rattle.registers.proofs.apply.Goals as goal

-- src/lib.rt
pub returns : goal.returns
returns c = applied_is (entries_of c.args.x) _ _ _ _ c.tell.ensures
