-- A list told after another is the two joined.
use mathlib.Core.Path.{◌≡◌, refl}
use mathlib.Core.List.{List, [], ◌∷◌, ◌++◌}
use Rattle.types.specs.declared.Entry.{Entry}
use Prim.Native.Nat.{ℕ}
use lib.ListN.{length}
use Rattle.entries.specs.Sink.{told, Passes}

pub told_append : {S : Type 0} (after : Entry → S → S) (es fs : List Entry) (s : S) → told after (es ++ fs) s ≡ told after fs (told after es s)
told_append after [] fs s = refl
told_append after (e ∷ es) fs s = told_append after es fs (after e s)

-- entries passed over are told
pub told_passed : {S : Type 0} (after : Entry → S × List ℕ → S × List ℕ) (n : ℕ) (old new : S) (es : List Entry) (room : List ℕ) → Passes after n old new → length es ≡ n
    → (new, room) ≡ told after es (old, room)
told_passed after n old new es room passes e = passes es room e
