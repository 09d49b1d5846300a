-- What one thing shown, one entry shown until it is passed, and parts one after the other leave.
use mathlib.Core.Path.{◌≡◌, refl, ◌∙◌, sym, ap}
use mathlib.Core.Bool.{Bool, true, false, cond, not}
use mathlib.Core.List.{List, [], ◌∷◌}
use Prim.Native.Nat.{ℕ, zero, suc, ◌+◌, ◌*◌, ◌-◌, ◌%◌, ◌≤◌, ◌<◌, ◌^◌}
use native.Mathlib.Omega.{arith}
use borrow.Author.Tests.{le-ltb, lt-leb, ltb-true, ltb-false}
use lib.Dec.{ltb}
use lib.ListN.{length}
use Rattle.std.specs.Prelude.{Option, Some, None}
use Rattle.types.specs.declared.Entry.{Entry}
use Rattle.types.specs.declared.Entry.TheVariants.{Set, Set2, Set3, Set4, Wait, Wait2, Check, Read}
use Rattle.rules.specs.Document01.Walk.{is_check}
use Rattle.rules.specs.Words.{entry_words, stored_at}
use Rattle.listing.specs.Showing.{showing, seen, passed_at, once, shown_by, show_one, show_all, far, wait_for}
use Rattle.listing.specs.Show.{wrapped}

-- ---- nine words
pub no_room : (i : ℕ) (w room : List ℕ) → length room < 9 * i + 9 → room ≡ stored_at room (9 * i) w
unfolding stored_at
no_room i w room h = rw (lt-leb (9 * i + 9) (length room) h)

-- ---- values read
unread : (reads : List ℕ) (k v : ℕ) → length reads ≤ k → seen reads k v ≡ true
unfolding seen
unread reads k v h = rw (le-ltb k (length reads) h)

-- where none are left, an entry is passed
pub all_read : (reads : List ℕ) (i : ℕ) (e : Entry) → length reads ≤ 2 * i → passed_at reads i e ≡ true
all_read reads i (Set f v) h = refl
all_read reads i (Set2 f v g w) h = refl
all_read reads i (Set3 f v g w k x) h = refl
all_read reads i (Set4 f v g w k x l y) h = refl
all_read reads i (Wait f v) h = unread reads (2 * i) v h
all_read reads i (Wait2 f v g w) h = rw (unread reads (2 * i) v h, unread reads (2 * i + 1) w (omega arith))
all_read reads i (Check f v) h = unread reads (2 * i) v h
all_read reads i (Read f) h = refl

pub not_passed : (reads : List ℕ) (i : ℕ) (e : Entry) → passed_at reads i e ≡ false → 2 * i < length reads
not_passed reads i e p = go (ltb (2 * i) (length reads)) refl
  where
    go : (t : Bool) → ltb (2 * i) (length reads) ≡ t → 2 * i < length reads
    go true q = ltb-true (2 * i) (length reads) q
    go false q = absurd (let z : true ≡ false = sym (all_read reads i e (ltb-false (2 * i) (length reads) q)) ∙ p in let y : ◌≡◌ {A = ℕ} 0 1 = cc in omega arith)

-- ---- one entry
module _ (reads : List ℕ) (e : Entry) where
  pub one_step : (i : ℕ) (room : List ℕ) → show_one reads e (showing i room)
      ≡ cond (passed_at reads i e) (once e false (showing i room)) (cond (is_check e) (once e true (showing i room)) (show_one reads e (once e false (showing i room))))
  unfolding show_one
  one_step i room = go (length reads - i) refl
    where
      go : (m : ℕ) → length reads - i ≡ m → shown_by m reads e (showing i room)
          ≡ cond (passed_at reads i e) (once e false (showing i room)) (cond (is_check e) (once e true (showing i room)) (shown_by (length reads - (i + 1)) reads e (once e false (showing i room))))
      go zero h = rw (all_read reads i e (omega arith))
      go (suc m) h = let k : length reads - (i + 1) ≡ m = omega arith in rw k

  -- a set
  pub passed : (i : ℕ) (room : List ℕ) → passed_at reads i e ≡ true → show_one reads e (showing i room) ≡ once e false (showing i room)
  passed i room p = one_step i room ∙ rw p

  -- a check that is not met
  pub stopped : (i : ℕ) (room : List ℕ) → passed_at reads i e ≡ false → is_check e ≡ true → show_one reads e (showing i room) ≡ once e true (showing i room)
  stopped i room p k = one_step i room ∙ rw (p, k)

  -- ---- shown until it is passed: what holds at the test of the loop
  pub record Holding (i : ℕ) (room₀ : List ℕ) (at : ℕ) (room : List ℕ) (again : Bool) : Type 0 where
    pub left : cond again (wrapped (show_one reads e (showing at room))) (showing at room) ≡ wrapped (show_one reads e (showing i room₀))

  module _ {i at : ℕ} {room₀ room : List ℕ} {was : Bool} (g : Holding i room₀ at room was) (t : was ≡ true) (short : length reads < 2 ^ 63) where
    module _ {next : ℕ} {again : Bool} (p : next ≡ (at + 1) % 2 ^ 64) (r : again ≡ not (passed_at reads at e)) where
      pub fewer_left : cond again (length reads - next + 1) 0 < cond was (length reads - at + 1) 0
      fewer_left = go (passed_at reads at e) refl
        where
          go : (d : Bool) → passed_at reads at e ≡ d → cond again (length reads - next + 1) 0 < cond was (length reads - at + 1) 0
          go true h = rw (t, r, h) (omega arith)
          go false h = let k = not_passed reads at e h in let l : next ≡ at + 1 = p ∙ omega arith in rw (t, r, h, l) (omega arith)

      pub holds_on : is_check e ≡ false → {after : List ℕ} → after ≡ stored_at room (9 * at) (entry_words e) → Holding i room₀ next after again
      holds_on c {after} q = go (passed_at reads at e) refl
        where
          left : wrapped (show_one reads e (showing at room)) ≡ wrapped (show_one reads e (showing i room₀))
          left = rw t at g.left

          go : (d : Bool) → passed_at reads at e ≡ d → Holding i room₀ next after again
          go true h = record { left = rw (r, h, p, q) (sym (ap wrapped (passed at room h)) ∙ left) }
          go false h =
              let k = not_passed reads at e h in
              let l : next ≡ at + 1 = p ∙ omega arith in
              record { left = rw (r, h, l, q) (sym (ap wrapped (one_step at room ∙ rw (h, c))) ∙ left) }

-- a wait is no check
pub waits : (f v : ℕ) (second : Option (ℕ × ℕ)) → is_check (wait_for f v second) ≡ false
waits f v None = refl
waits f v (Some s) = refl

-- a list that is ended shows no more
pub ended_stays : (reads : List ℕ) (es : List Entry) (at : ℕ) (room : List ℕ) → record { at = at; down = true; room = room } ≡ show_all reads es (record { at = at; down = true; room = room })
unfolding show_one
ended_stays reads [] at room = refl
ended_stays reads (e ∷ es) at room = ended_stays reads es at room

-- an entry leads no further than by one place, where no values are left
one_near : (reads : List ℕ) → length reads < 2 ^ 61 → (e : Entry) (m i : ℕ) (room : List ℕ) → length reads - i ≡ m → (show_one reads e (showing i room)).at - far ≤ i - far + 1
one_near reads short e zero i room h = rw (passed reads e i room (all_read reads i e (omega arith))) (omega arith)
one_near reads short e (suc m) i room h = rw (one_step reads e i room) (go (λ n. one_near reads short e m (i + 1) (stored_at room (9 * i) (entry_words e)) n) (passed_at reads i e) (is_check e) refl)
  where
    go : (length reads - (i + 1) ≡ m → (show_one reads e (showing (i + 1) (stored_at room (9 * i) (entry_words e)))).at - far ≤ i + 1 - far + 1)
        → (p k : Bool) → passed_at reads i e ≡ p → (cond p (once e false (showing i room)) (cond k (once e true (showing i room)) (show_one reads e (once e false (showing i room))))).at - far ≤ i - far + 1
    go next true k q = omega arith
    go next false true q = omega arith
    go next false false q = let l = not_passed reads i e q in let n = next (omega arith) in omega arith

pub near_by : (reads : List ℕ) → length reads < 2 ^ 61 → (e : Entry) (i : ℕ) (down : Bool) (room : List ℕ) → (show_one reads e (record { at = i; down = down; room = room })).at - far ≤ i - far + 1
unfolding show_one
near_by reads short e i true room = omega arith
near_by reads short e i false room = one_near reads short e (length reads - i) i room refl
