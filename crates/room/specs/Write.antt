-- Items written one behind the other, as far as there is room.
use Rattle.std.specs.Prelude.{◌≡◌, List, ◌+◌, min, length}
use Rattle.std.proofs.lemmas.List.Edits.{sets}
use Rattle.room.specs.declared.room.Room.{Room}

-- items written behind what is there: what the room holds then, and the place behind them, or the room's end. It is the same room
pub record Wrote {T : Type 0} (old new : Room T) (items : List T) : Type 0 where
  pub holds : new.items.now ≡ sets old.items.now old.at items
  pub place : new.at ≡ min (old.at + length items) (length old.items.now)
  pub same : new.items.ghost_name ≡ old.items.ghost_name
