-- A list told to a sink, entry by entry: the sink and the room that is lent to it become what each entry makes of them, in turn.
use Rattle.std.specs.Prelude.{◌≡◌, ℕ, List, [], ◌∷◌, length}
use Rattle.types.specs.declared.Entry.{Entry}

abbrev pub told : {S : Type 0} → (after : Entry → S → S) → List Entry → S → S
told after [] s = s
told after (e ∷ es) s = told after es (after e s)

-- n entries passed over: whichever they are, they make of the sink what it is now, and leave its room as it was
abbrev pub Passes : {S : Type 0} → (after : Entry → S × List ℕ → S × List ℕ) → (n : ℕ) → (old new : S) → Type 0
Passes after n old new = (es : List Entry) (room : List ℕ) → length es ≡ n → (new, room) ≡ told after es (old, room)
