-- `listing::shows`, a wait shown until it is passed, meets its contract.
use mathlib.Core.Path.{refl, ap}
use mathlib.Core.Bool.{not}
use native.Mathlib.Omega.{arith}
use Rattle.listing.proofs.Showing.{fewer_left, holds_on, waits}
use Rattle.listing.proofs.Told.{waited}
use Rattle.listing.proofs.shows.Show.until.Goals as goal

pub loop-again-smaller : goal.loop-again-smaller
loop-again-smaller c = fewer_left _ _ c.loop-again.invariant c.loop-again-test.true (omega arith) refl (ap not (c.met-again.ensures c.args.f))

pub loop-again-preserved : goal.loop-again-preserved
loop-again-preserved c =
    let i = c.args in
    holds_on _ _ c.loop-again.invariant c.loop-again-test.true (omega arith) refl (ap not (c.met-again.ensures i.f)) (waits i.f i.v i.second)
    (rw c.wait_words-words.ensures at c.nine.ensures)

pub returns : goal.returns
returns c = waited _ c.args.self.now c.args.room.now c.if-self.false c.loop-again.invariant c.loop-again-test.false
