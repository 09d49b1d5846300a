-- Laws on texts written one behind the other, as far as there is room.
use mathlib.Core.Path.{◌≡◌, sym}
use Prim.Native.Nat.{ℕ, ◌+◌, ◌-◌, min}
use native.Mathlib.Omega.{arith}
use lib.ListN.{length, replicate, length-replicate}
use lib.Seq.{sets}
use borrow.Rule.Slice.PartMut.{put_mid}
use Rattle.std.proofs.lemmas.List.{take-replicate}
use Rattle.text.proofs.Stores.{stored}
use Rattle.room.specs.declared.room.Room.{Room}

-- blanks, as far as there is room
pub filled : (o : Room ℕ) (count n : ℕ) → n ≡ min count (length o.items.now - o.at) → put_mid o.at (o.at + n - o.at) o.items.now (replicate n 32) ≡ sets o.items.now o.at (replicate count 32)
filled o count n e =
    stored o.items.now o.at (replicate count 32) n (rw length-replicate e) o.within (sym (take-replicate n count 32 (omega arith)))
