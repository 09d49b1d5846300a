-- `listing::show_walk` meets its contract.
use mathlib.Core.Path.{refl}
use native.Mathlib.Omega.{arith}
use lib.ListN.{length, length-take}
use Rattle.listing.proofs.Told.{list_shown}
use Rattle.listing.proofs.Walked.{count_bounds, walked}
use Rattle.listing.proofs.show_walk.Goals as goal

pub returns-clause-shown : goal.returns-clause-shown
returns-clause-shown c =
    let x = c.args in
    let b = rw (← c.shown_count-n.ensures) at (count_bounds (length x.reads.now) (length x.shown.now)).0 in
    walked x.x.now x.reads.now x.shown.now _ (omega arith) (rw c.last_read-m.ensures at (list_shown x.x.now _ _ _ _ (simp length-take (omega arith)) refl refl c.tell.ensures))
    (rw (c.shown_words-last.ensures, c.last_shown.ensures) at c.fill_words.ensures)
