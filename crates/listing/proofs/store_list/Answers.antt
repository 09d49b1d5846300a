-- `listing::store_list` meets its contract.
use mathlib.Core.Path.{refl}
use native.Mathlib.Omega.{arith}
use Rattle.rules.specs.Document01.Entries.{entries_of}
use Rattle.rules.proofs.Document01.Length.{at_most}
use Rattle.listing.proofs.Listed.{no_list, whole}
use Rattle.listing.proofs.Told.{list_shown}
use Rattle.listing.proofs.store_list.Goals as goal

pub returns-then-room-eq0 : goal.returns-then-room-eq0
returns-then-room-eq0 c = no_list (entries_of c.args.x.now) c.args.list.now c.if-room-eq0.true

pub overflow_cast-list : goal.overflow_cast-list
overflow_cast-list c =
    let x = c.args in
    let e = whole (entries_of x.x.now) x.list.now c.if-room-eq0.false (list_shown x.x.now _ _ _ _ (omega arith) refl refl c.tell.ensures) in
    let n = e.1 in
    let l = at_most x.x.now in
    record { fits = omega arith }

pub returns : goal.returns
returns c =
    let x = c.args in
    (whole (entries_of x.x.now) x.list.now c.if-room-eq0.false (list_shown x.x.now _ _ _ _ (omega arith) refl refl c.tell.ensures)).0
