-- `flash::at` meets its contract: the table has what the steps say, by one test computed over its 1008 entries.
use Rattle.rules.specs.Document01.Flash.{at_column}
use Rattle.flash.specs.Flash.{placed}
use Rattle.flash.proofs.Table.{at_place}
use Rattle.flash.proofs.at.Goals as goal

-- `rw` finds the list in the goal and computes the test
pub returns : goal.returns
unfolding at_column placed
returns c = let h = c.requires in rw (at_place placed 1008)
