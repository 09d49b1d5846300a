-- A list told to a sink that shows is the list shown.
use mathlib.Core.Path.{◌≡◌, refl, ap, ◌∙◌}
use mathlib.Core.Bool.{Bool, true, false, not}
use mathlib.Core.List.{List, [], ◌∷◌}
use Prim.Native.Nat.{ℕ, ◌+◌, ◌-◌, ◌*◌, ◌%◌, ◌<◌, ◌^◌}
use native.Mathlib.Omega.{arith}
use lib.ListN.{length}
use Rattle.std.specs.Prelude.{Result}
use Rattle.types.specs.declared.Entry.{Entry}
use Rattle.types.specs.declared.Entry.TheVariants.{Set, Set2, Set3, Set4, Check, Read}
use Rattle.types.specs.declared.Plan.{Plan}
use Rattle.types.specs.declared.Refusal.{Refusal}
use Rattle.rules.specs.Words.{field_word, entry_words, stored_at}
use Rattle.rules.specs.Document01.Entries.{entries_of}
use Rattle.rules.proofs.Document01.Length.{at_most}
use Rattle.entries.specs.Sink.{told}
use Rattle.listing.specs.declared.shows.Show.{Show}
use Rattle.listing.specs.Showing.{Showing, showing, seen, passed_at, show_one, show_all, far}
use Rattle.listing.specs.Show.{stands, shown, shown_once}
use Rattle.listing.proofs.Showing.{passed, stopped, near_by, Holding}

-- ---- what a sink does for an entry that is passed whatever is read
once_is : (e : Entry) (s : Show) (room : List ℕ) → passed_at s.reads.now s.at e ≡ true → shown_once (entry_words e) (s, room) ≡ shown e (s, room)
unfolding shown shown_once
once_is e s room p = rw (passed s.reads.now e s.at room p) refl

pub set_is : (f v : ℕ) (s : Show) (room : List ℕ) → shown_once (1 ∷ field_word f ∷ v ∷ 0 ∷ 0 ∷ 0 ∷ 0 ∷ 0 ∷ 0 ∷ []) (s, room) ≡ shown (Set f v) (s, room)
set_is f v s room = once_is (Set f v) s room refl

pub set2_is : (f v g w : ℕ) (s : Show) (room : List ℕ) → shown_once (1 ∷ field_word f ∷ v ∷ field_word g ∷ w ∷ 0 ∷ 0 ∷ 0 ∷ 0 ∷ []) (s, room) ≡ shown (Set2 f v g w) (s, room)
set2_is f v g w s room = once_is (Set2 f v g w) s room refl

pub set3_is : (f v g w h x : ℕ) (s : Show) (room : List ℕ) → shown_once (1 ∷ field_word f ∷ v ∷ field_word g ∷ w ∷ field_word h ∷ x ∷ 0 ∷ 0 ∷ []) (s, room) ≡ shown (Set3 f v g w h x) (s, room)
set3_is f v g w h x s room = once_is (Set3 f v g w h x) s room refl

pub set4_is : (f v g w h x k y : ℕ) (s : Show) (room : List ℕ)
    → shown_once (1 ∷ field_word f ∷ v ∷ field_word g ∷ w ∷ field_word h ∷ x ∷ field_word k ∷ y ∷ []) (s, room) ≡ shown (Set4 f v g w h x k y) (s, room)
set4_is f v g w h x k y s room = once_is (Set4 f v g w h x k y) s room refl

pub read_is : (f : ℕ) (s : Show) (room : List ℕ) → shown_once (4 ∷ field_word f ∷ 0 ∷ 0 ∷ 0 ∷ 0 ∷ 0 ∷ 0 ∷ 0 ∷ []) (s, room) ≡ shown (Read f) (s, room)
read_is f s room = once_is (Read f) s room refl

module _ (s : Show) (short : length s.reads.now < 2 ^ 61) where
  one_is : (e : Entry) (i : ℕ) (down : Bool) (room : List ℕ) → i - far < 100 → shown e (stands s (record { at = i; down = down; room = room })) ≡ stands s (show_one s.reads.now e (record { at = i; down = down; room = room }))
  unfolding show_one shown
  one_is e i true room h = refl
  one_is e i false room h =
      let n = near_by s.reads.now short e i false room in
      let l : (show_one s.reads.now e (showing i room)).at % 2 ^ 64 ≡ (show_one s.reads.now e (showing i room)).at = omega arith in
      ap (λ k. stands s (record { at = k; down = (show_one s.reads.now e (showing i room)).down; room = (show_one s.reads.now e (showing i room)).room })) l

  told_is : (es : List Entry) (z : Showing) → z.at - far + length es < 100 → told shown es (stands s z) ≡ stands s (show_all s.reads.now es z)
  told_is [] z h = refl
  told_is (e ∷ es) z h =
      let n = near_by s.reads.now short e z.at z.down z.room in
      ap (told shown es) (one_is e z.at z.down z.room (omega arith)) ∙ told_is es (show_one s.reads.now e z) (omega arith)

pub list_shown : (x : Result Plan Refusal) (s p : Show) (room after : List ℕ) → length s.reads.now < 2 ^ 61 → s.at ≡ 0 → s.down ≡ false → (p, after) ≡ told shown (entries_of x) (s, room) → record { at = p.at; down = p.down; room = after } ≡ show_all s.reads.now (entries_of x) (showing 0 room)
list_shown x s p room after short a d e =
    ap (λ (t : Show × List ℕ). record { at = t.0.at; down = t.0.down; room = t.1 }) (e ∙ told_is s short (entries_of x) (record { at = s.at; down = s.down; room = room }) (let m = at_most x in rw a (omega arith)))
    ∙ rw (a, d) refl

-- ---- where the list is ended
pub ends_is : (e : Entry) (s : Show) (room : List ℕ) → s.down ≡ true → (s, room) ≡ shown e (s, room)
unfolding shown
ends_is e s room d = rw d

-- ---- what it does for a wait
pub waited : (e : Entry) (s : Show) (room : List ℕ) {at : ℕ} {after : List ℕ} {again : Bool} → s.down ≡ false → Holding s.reads.now e s.at room at after again → again ≡ false
    → (record { reads = s.reads; at = at; down = s.down }, after) ≡ shown e (s, room)
unfolding shown
waited e s room d g t = rw d (ap (stands s) (rw t at g.left))

-- ---- what it does for a check
pub check_is : (f v : ℕ) (s : Show) (room : List ℕ) {at : ℕ} {down : Bool} {after : List ℕ} → s.down ≡ false → at ≡ (s.at + 1) % 2 ^ 64 → down ≡ not (seen s.reads.now (2 * s.at + 0) v)
    → after ≡ stored_at room (9 * s.at) (entry_words (Check f v)) → (record { reads = s.reads; at = at; down = down }, after) ≡ shown (Check f v) (s, room)
unfolding shown
check_is f v s room {at} {down} {after} g a d b = go (passed_at s.reads.now s.at (Check f v)) refl
  where
    go : (t : Bool) → passed_at s.reads.now s.at (Check f v) ≡ t → (record { reads = s.reads; at = at; down = down }, after) ≡ shown (Check f v) (s, room)
    go true h = let l : 2 * s.at + 0 ≡ 2 * s.at = omega arith in rw (g, a, d, b, l, h, passed s.reads.now (Check f v) s.at room h) refl
    go false h = let l : 2 * s.at + 0 ≡ 2 * s.at = omega arith in rw (g, a, d, b, l, h, stopped s.reads.now (Check f v) s.at room h refl) refl
