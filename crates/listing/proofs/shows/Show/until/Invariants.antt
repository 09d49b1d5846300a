-- The loop of `listing::shows`, a wait shown until it is passed.
use mathlib.Core.Bool.{cond}
use Prim.Native.Nat.{◌+◌, ◌-◌}
use lib.ListN.{length}
use Rattle.listing.specs.Showing.{wait_for}
use Rattle.listing.proofs.Showing.{Holding}
use Rattle.listing.proofs.shows.Show.until.Given as goal

abbrev pub invariant-loop-again : goal.invariant-loop-again
invariant-loop-again l = Holding l.self.reads.now (wait_for l.f l.v l.second) l.self.at l.initial.room l.at l.room l.again

abbrev pub decreases-loop-again : goal.decreases-loop-again
decreases-loop-again l = cond l.again (length l.self.reads.now - l.at + 1) 0
