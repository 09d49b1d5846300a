-- Entries and what a walk shows, as the nine words of docs/CODES.md, in numbers: one of each kind, and no two with the same words.
use Rattle.std.specs.Prelude.{Option, Result, Ok, Err, Some, None}
use mathlib.Core.Path.{◌≡◌, refl, sym, ap, ◌∙◌}
use mathlib.Core.List.{List, [], ◌∷◌, map}
use Prim.Native.Nat.{ℕ, zero, suc, ◌+◌, ◌-◌, ◌*◌, ◌≤◌, ◌<◌}
use native.Mathlib.Numerals.{add-one}
use native.Mathlib.Omega.{arith}
use lib.ListN.{length, get_or, replicate}
use borrow.Author.Tests.{lt-ltb}
use Rattle.types.specs.declared.Plan.{Plan}
use Rattle.types.specs.declared.Entry.{Entry}
use Rattle.types.specs.declared.Entry.TheVariants.{Set, Set2, Set3, Set4, Wait, Wait2, Check, Read}
use Rattle.types.specs.declared.Refusal.{Refusal}
use Rattle.types.specs.declared.Refusal.TheVariants.{OutsideCodes, NOutside, CsiDown}
use Rattle.types.specs.declared.Shown.{Shown}
use Rattle.types.specs.declared.Shown.TheVariants.{Next, Finished, Stopped}
use Rattle.rules.specs.Document01.Entries.{entries_of}
use Rattle.rules.specs.Document01.Refusals.{refusal_of, code_of}
use Rattle.rules.specs.Document01.Walk.{before, stepped_of}
use Rattle.rules.specs.Words.{field_word, entry_words, shown_words, stored_at, ran, shown_count, list_length, listed}
use Rattle.rules.proofs.Document01.Listed.{each_found}
use Rattle.rules.proofs.Document01.Length.{at_most}
use Rattle.rules.proofs.Stated.Bank.{counted}

-- ---- an answer as one number; of the refusals, those that neither the planner's call nor the bank call answers
abbrev answers : List (Result ℕ Refusal)
answers = Ok 7 ∷ Err NOutside ∷ Err CsiDown ∷ []

pub coded : map code_of answers ≡ 0 ∷ 12 ∷ 24 ∷ []
coded = refl

-- ---- the kind, then up to four times the field, from 1, and its value
pub of_each_kind : map entry_words (Set 0 7 ∷ Set2 81 7 80 8 ∷ Set3 1 6 2 7 3 8 ∷ Set4 1 5 2 6 3 7 4 8 ∷ Wait 5 1 ∷ Wait2 6 1 7 2 ∷ Check 51 1 ∷ Read 79 ∷ Set 82 7 ∷ [])
    ≡ (1 ∷ 1 ∷ 7 ∷ 0 ∷ 0 ∷ 0 ∷ 0 ∷ 0 ∷ 0 ∷ []) ∷ (1 ∷ 82 ∷ 7 ∷ 81 ∷ 8 ∷ 0 ∷ 0 ∷ 0 ∷ 0 ∷ []) ∷ (1 ∷ 2 ∷ 6 ∷ 3 ∷ 7 ∷ 4 ∷ 8 ∷ 0 ∷ 0 ∷ []) ∷ (1 ∷ 2 ∷ 5 ∷ 3 ∷ 6 ∷ 4 ∷ 7 ∷ 5 ∷ 8 ∷ [])
    ∷ (2 ∷ 6 ∷ 1 ∷ 0 ∷ 0 ∷ 0 ∷ 0 ∷ 0 ∷ 0 ∷ []) ∷ (2 ∷ 7 ∷ 1 ∷ 8 ∷ 2 ∷ 0 ∷ 0 ∷ 0 ∷ 0 ∷ []) ∷ (3 ∷ 52 ∷ 1 ∷ 0 ∷ 0 ∷ 0 ∷ 0 ∷ 0 ∷ 0 ∷ []) ∷ (4 ∷ 80 ∷ 0 ∷ 0 ∷ 0 ∷ 0 ∷ 0 ∷ 0 ∷ 0 ∷ [])
    -- a field that the bank does not have
    ∷ (1 ∷ 0 ∷ 7 ∷ 0 ∷ 0 ∷ 0 ∷ 0 ∷ 0 ∷ 0 ∷ []) ∷ []
of_each_kind = refl

-- an entry; nine 0 for finished; 5 and the refusal's number
pub of_each_shown : map shown_words (Next (Set 48 5) ∷ Finished ∷ Stopped OutsideCodes ∷ Stopped CsiDown ∷ [])
    ≡ (1 ∷ 49 ∷ 5 ∷ 0 ∷ 0 ∷ 0 ∷ 0 ∷ 0 ∷ 0 ∷ []) ∷ (0 ∷ 0 ∷ 0 ∷ 0 ∷ 0 ∷ 0 ∷ 0 ∷ 0 ∷ 0 ∷ []) ∷ (5 ∷ 1 ∷ 0 ∷ 0 ∷ 0 ∷ 0 ∷ 0 ∷ 0 ∷ 0 ∷ []) ∷ (5 ∷ 24 ∷ 0 ∷ 0 ∷ 0 ∷ 0 ∷ 0 ∷ 0 ∷ 0 ∷ []) ∷ []
of_each_shown = refl

-- ---- nine words in their places; where they do not fit, none
pub stored : stored_at (replicate 11 70) 1 (counted 9 1) ∷ stored_at (replicate 11 70) 3 (counted 9 1) ∷ []
    ≡ (70 ∷ 1 ∷ 2 ∷ 3 ∷ 4 ∷ 5 ∷ 6 ∷ 7 ∷ 8 ∷ 9 ∷ 70 ∷ []) ∷ replicate 11 70 ∷ []
unfolding stored_at
stored = refl

-- a list: the count, nine words for each entry, the rest kept
pub list_of_two : listed (Set 48 5 ∷ Check 51 1 ∷ []) (replicate 21 70)
    ≡ 2 ∷ 1 ∷ 49 ∷ 5 ∷ 0 ∷ 0 ∷ 0 ∷ 0 ∷ 0 ∷ 0 ∷ 3 ∷ 52 ∷ 1 ∷ 0 ∷ 0 ∷ 0 ∷ 0 ∷ 0 ∷ 0 ∷ 70 ∷ 70 ∷ []
unfolding stored_at
list_of_two = refl

-- no list is longer than there is room for, so no entry is lost
pub list_has_room : (x : Result Plan Refusal) → 1 + 9 * length (entries_of x) ≤ list_length
list_has_room x = let h = at_most x in omega arith

-- how many things shown are stored, by values to read and words of room: one before any step, one for every two values, nine words each
pub counts : shown_count 0 8 ∷ shown_count 0 9 ∷ shown_count 0 900 ∷ shown_count 1 900 ∷ shown_count 2 900 ∷ shown_count 3 900 ∷ shown_count 4 900 ∷ shown_count 100 26 ∷ shown_count 100 27 ∷ []
    ≡ 0 ∷ 1 ∷ 1 ∷ 1 ∷ 2 ∷ 2 ∷ 3 ∷ 2 ∷ 3 ∷ []
counts = refl

-- a whole walk: the first entry before any step; the wait for RDY1 1 and RDY2 2 again at 2, 1 and passed at 1, 2; then finished
pub walked : ran stepped_of (before (Set 69 1 ∷ Wait2 74 1 75 2 ∷ [])) (0 ∷ 0 ∷ 2 ∷ 1 ∷ 1 ∷ 2 ∷ []) (replicate 37 70) 4
    ≡ 1 ∷ 70 ∷ 1 ∷ 0 ∷ 0 ∷ 0 ∷ 0 ∷ 0 ∷ 0 ∷ 2 ∷ 75 ∷ 1 ∷ 76 ∷ 2 ∷ 0 ∷ 0 ∷ 0 ∷ 0 ∷ 2 ∷ 75 ∷ 1 ∷ 76 ∷ 2 ∷ 0 ∷ 0 ∷ 0 ∷ 0 ∷ 0 ∷ 0 ∷ 0 ∷ 0 ∷ 0 ∷ 0 ∷ 0 ∷ 0 ∷ 0 ∷ 70 ∷ []
unfolding stored_at
walked = refl

-- ---- read back: two entries of fields that the bank has are told by their words, and so is what a walk shows
abbrev set_back : (f v g w h x k y : ℕ) → Entry
set_back f v zero w h x k y = Set (f - 1) v
set_back f v (suc g) w zero x k y = Set2 (f - 1) v g w
set_back f v (suc g) w (suc h) x zero y = Set3 (f - 1) v g w h x
set_back f v (suc g) w (suc h) x (suc k) y = Set4 (f - 1) v g w h x k y

abbrev wait_back : (f v g w : ℕ) → Entry
wait_back f v zero w = Wait (f - 1) v
wait_back f v (suc g) w = Wait2 (f - 1) v g w

abbrev stopped_back : Option Refusal → Shown
stopped_back None = Finished
stopped_back (Some n) = Stopped n

abbrev kind_back : (kind f v g w h x k y : ℕ) → Shown
kind_back zero f v g w h x k y = Finished
kind_back (suc zero) f v g w h x k y = Next (set_back f v g w h x k y)
kind_back (suc (suc zero)) f v g w h x k y = Next (wait_back f v g w)
kind_back (suc (suc (suc zero))) f v g w h x k y = Next (Check (f - 1) v)
kind_back (suc (suc (suc (suc zero)))) f v g w h x k y = Next (Read (f - 1))
kind_back (suc (suc (suc (suc (suc kind))))) f v g w h x k y = stopped_back (refusal_of f)

abbrev back : List ℕ → Shown
back w = kind_back (get_or w 0 0) (get_or w 1 0) (get_or w 2 0) (get_or w 3 0) (get_or w 4 0) (get_or w 5 0) (get_or w 6 0) (get_or w 7 0) (get_or w 8 0)

-- all fields are the bank's
abbrev pub InBank : Entry → Type 0
InBank (Set f v) = f < 82
InBank (Set2 f v g w) = (f < 82) × (g < 82)
InBank (Set3 f v g w h x) = (f < 82) × (g < 82) × (h < 82)
InBank (Set4 f v g w h x k y) = (f < 82) × (g < 82) × (h < 82) × (k < 82)
InBank (Wait f v) = f < 82
InBank (Wait2 f v g w) = (f < 82) × (g < 82)
InBank (Check f v) = f < 82
InBank (Read f) = f < 82

abbrev pub ShownInBank : Shown → Type 0
ShownInBank (Next e) = InBank e
ShownInBank Finished = Unit {0}
ShownInBank (Stopped n) = Unit {0}

word : (f : ℕ) → f < 82 → field_word f ≡ suc f
word f h = rw (lt-ltb f 82 h, add-one f)

less : (f : ℕ) → suc f - 1 ≡ f
less f = omega arith

read_entry : (e : Entry) → InBank e → back (entry_words e) ≡ Next e
read_entry (Set f v) i = rw (word f i, less f)
read_entry (Set2 f v g w) i = rw (word f i.0, word g i.1, less f)
read_entry (Set3 f v g w h x) i = rw (word f i.0, word g i.1, word h i.2, less f)
read_entry (Set4 f v g w h x k y) i = rw (word f i.0, word g i.1, word h i.2, word k i.3, less f)
read_entry (Wait f v) i = rw (word f i, less f)
read_entry (Wait2 f v g w) i = rw (word f i.0, word g i.1, less f)
read_entry (Check f v) i = rw (word f i, less f)
read_entry (Read f) i = rw (word f i, less f)

read_shown : (s : Shown) → ShownInBank s → back (shown_words s) ≡ s
read_shown (Next e) i = read_entry e i
read_shown Finished i = refl
read_shown (Stopped n) i = ap stopped_back (each_found n)

pub told_apart : (s t : Shown) → ShownInBank s → ShownInBank t → shown_words s ≡ shown_words t → s ≡ t
told_apart s t i j e = sym (read_shown s i) ∙ ap back e ∙ read_shown t j
