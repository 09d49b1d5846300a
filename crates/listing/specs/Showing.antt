-- A list shown in order, one entry after the other: how many things were shown, whether the check of CSIRDY has ended it, and the room where they are
-- stored, nine words each. With no values read every entry is shown once, as a list is stored; with two for each step it is a walk.
use Rattle.std.specs.Prelude.{Bool, true, false, cond, ◌&&◌, List, [], ◌∷◌, ℕ, zero, suc, ◌+◌, ◌*◌, ◌-◌, ◌^◌, eqb, ltb, length, get_or, Option, Some, None}
use Rattle.types.specs.declared.Entry.{Entry}
use Rattle.types.specs.declared.Entry.TheVariants.{Set, Set2, Set3, Set4, Wait, Wait2, Check, Read}
use Rattle.rules.specs.Document01.Walk.{is_check}
use Rattle.rules.specs.Words.{entry_words, stored_at}

pub record Showing : Type 0 where
  pub at : ℕ
  pub down : Bool
  pub room : List ℕ

-- one that goes on
abbrev pub showing : (at : ℕ) → (room : List ℕ) → Showing
showing at room = record { at = at; down = false; room = room }

-- a value read is v; one that is not there stands for any
unfoldable pub seen : (reads : List ℕ) → (k v : ℕ) → Bool
seen reads k v = cond (ltb k (length reads)) (eqb (get_or reads k 0) v) true

-- the values read after thing i let a step pass an entry
abbrev pub passed_at : (reads : List ℕ) → (i : ℕ) → Entry → Bool
passed_at reads i (Set f v) = true
passed_at reads i (Set2 f v g w) = true
passed_at reads i (Set3 f v g w h x) = true
passed_at reads i (Set4 f v g w h x k y) = true
passed_at reads i (Wait f v) = seen reads (2 * i) v
passed_at reads i (Wait2 f v g w) = seen reads (2 * i) v && seen reads (2 * i + 1) w
passed_at reads i (Check f v) = seen reads (2 * i) v
passed_at reads i (Read f) = true

-- a wait for one value, or for two
abbrev pub wait_for : (f v : ℕ) → Option (ℕ × ℕ) → Entry
wait_for f v None = Wait f v
wait_for f v (Some s) = Wait2 f v s.0 s.1

-- an entry is shown once
abbrev pub once : Entry → (down : Bool) → Showing → Showing
once e down s = record { at = s.at + 1; down = down; room = stored_at s.room (9 * s.at) (entry_words e) }

-- an entry is shown again until it is passed; a check that is not passed ends the list. There are values for so many more
abbrev pub shown_by : (more : ℕ) → (reads : List ℕ) → Entry → Showing → Showing
shown_by zero reads e s = once e false s
shown_by (suc k) reads e s = cond (passed_at reads s.at e) (once e false s) (cond (is_check e) (once e true s) (shown_by k reads e (once e false s)))

-- an entry, where the list is not ended
unfoldable pub show_one : (reads : List ℕ) → Entry → Showing → Showing
show_one reads e s = cond s.down s (shown_by (length reads - s.at) reads e s)

-- a list
abbrev pub show_all : (reads : List ℕ) → List Entry → Showing → Showing
show_all reads [] s = s
show_all reads (e ∷ es) s = show_all reads es (show_one reads e s)

-- no list of values read is so long
abbrev pub far : ℕ
far = 2 ^ 60
