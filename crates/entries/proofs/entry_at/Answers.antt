use Rattle.rules.specs.Document01.Entries.{entries_of}
use Rattle.entries.proofs.Picked.{pick_is}
use Rattle.entries.proofs.entry_at.Goals as goal

-- src/lib.rt
pub returns : goal.returns
returns c = pick_is (entries_of c.args.x.now) c.args.k c.tell.new.s _ c.tell.ensures
