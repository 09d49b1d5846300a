-- A list shown in order is document 01's walk over it: what is stored after each thing shown is what the walk has shown.
use Rattle.std.specs.Prelude.{Result, Ok, Err}
use mathlib.Core.Path.{◌≡◌, refl, ◌∙◌, sym, ap}
use mathlib.Core.Bool.{Bool, true, false, cond}
use mathlib.Core.List.{List, [], ◌∷◌, ◌++◌, append-nil}
use Prim.Native.Nat.{ℕ, zero, suc, ◌+◌, ◌*◌, ◌-◌, ◌≤◌, ◌<◌}
use native.Mathlib.Omega.{arith}
use borrow.Author.Tests.{lt-ltb, le-leb, leb-true, leb-false, ltb-true, ltb-false}
use lib.Dec.{eqb, ltb, leb}
use lib.ListN.{length, get_or, set, take, drop, length-take, length-append, length-set}
use lib.Seq.{get_or-take}
use Rattle.std.proofs.lemmas.List.{set-append_left, take-append-drop, take_all, drop_all}
use Rattle.types.specs.declared.Refusal.{Refusal}
use Rattle.types.specs.declared.Entry.{Entry}
use Rattle.types.specs.declared.Entry.TheVariants.{Set, Set2, Set3, Set4, Wait, Wait2, Check, Read}
use Rattle.types.specs.declared.Refusal.TheVariants.{CsiDown}
use Rattle.types.specs.declared.Plan.{Plan}
use Rattle.rules.specs.Document01.Entries.{plan_entries, entries_of}
use Rattle.rules.specs.Document01.Walk.{Stand, before, ended, shown_of, passes, is_check, stepped_of, fresh_of}
use Rattle.rules.specs.Words.{entry_words, shown_words, three_at, stored_at, stand_after, ran, shown_count}
use Rattle.rules.proofs.Document01.Run.{stored_length, ran_length}
use Rattle.rules.proofs.Document01.Run.{count_bounds as steps_bounds}
use Rattle.listing.specs.Showing.{Showing, showing, seen, passed_at, once, show_one, show_all}
use Rattle.words.specs.Filled.{filled}
use Rattle.listing.specs.Walked.{last_read, end_of}
use Rattle.listing.proofs.Showing.{no_room, not_passed, one_step, ended_stays}

module _ (s₀ : Stand) (reads room₀ : List ℕ) (n : ℕ) (enough : last_read n ≤ length reads) (all : length room₀ ≤ 9 * n) where
  abbrev those : List ℕ
  those = take (last_read n) reads

  those_length : length those ≡ last_read n
  those_length = simp length-take (omega arith)

  -- after thing i
  abbrev after : ℕ → Stand
  after i = stand_after stepped_of s₀ reads i

  abbrev stored : ℕ → List ℕ
  stored i = ran stepped_of s₀ reads room₀ i

  -- what is shown so far is what the walk shows, and it stands at t
  pub record Stands (s : Showing) (t : Stand) : Type 0 where
    pub going : s.at < n → (s.room ≡ stored s.at) × (after s.at ≡ t)
    pub full : n ≤ s.at → s.room ≡ stored n
    pub same : length s.room ≡ length room₀

  pub fresh : Stands (showing 0 room₀) s₀
  fresh = record { going = λ h. (refl, refl); full = λ h. let l : n ≡ 0 = omega arith in rw l; same = refl }

  read_as : (k v : ℕ) → k < last_read n → seen those k v ≡ eqb (get_or reads k 0) v
  unfolding seen
  read_as k v h = let l = those_length in rw (lt-ltb k (length those) (omega arith), get_or-take (last_read n) reads k 0 h)

  -- a step after which something is shown has its two values
  passed_as : (i : ℕ) (e : Entry) → i + 1 < n → passed_at those i e ≡ passes e (get_or reads (2 * i) 0) (get_or reads (2 * i + 1) 0)
  passed_as i (Set f v) h = refl
  passed_as i (Set2 f v g w) h = refl
  passed_as i (Set3 f v g w k x) h = refl
  passed_as i (Set4 f v g w k x l y) h = refl
  passed_as i (Wait f v) h = read_as (2 * i) v (omega arith)
  passed_as i (Wait2 f v g w) h = rw (read_as (2 * i) v (omega arith), read_as (2 * i + 1) w (omega arith))
  passed_as i (Check f v) h = read_as (2 * i) v (omega arith)
  passed_as i (Read f) h = refl

  -- one more thing is stored
  stored_next : {i : ℕ} {room : List ℕ} {t : Stand} (w : List ℕ) → Stands (showing i room) t → w ≡ shown_words (shown_of t) → i < n → stored_at room (9 * i) w ≡ stored (suc i)
  stored_next w g e h = rw (e, (g.going h).0, (g.going h).1)

  next : {i : ℕ} {room : List ℕ} {t : Stand} (w : List ℕ) → Stands (showing i room) t → w ≡ shown_words (shown_of t) → (down : Bool) (u : Stand)
      → (i + 1 < n → stepped_of t (get_or reads (2 * i) 0) (get_or reads (2 * i + 1) 0) ≡ u) → Stands (record { at = i + 1; down = down; room = stored_at room (9 * i) w }) u
  next {i} {room} {t} w g e down u f = record {
    going = λ h.
        let l : i + 1 ≡ suc i = omega arith in
        let b : i < n = omega arith in
        (rw l (stored_next w g e b), rw l (rw (g.going b).1 (f h)));
    full = λ h. go (ltb i n) refl h;
    same = stored_length room (9 * i) w ∙ g.same;
  }
    where
      go : (d : Bool) → ltb i n ≡ d → n ≤ i + 1 → stored_at room (9 * i) w ≡ stored n
      go true p h = let b = ltb-true i n p in let l : suc i ≡ n = omega arith in stored_next w g e b ∙ ap stored l
      go false p h = let b = ltb-false i n p in let k = g.same in sym (no_room i w room (omega arith)) ∙ g.full b

  -- one entry
  module _ (e : Entry) (rest : List Entry) where
    abbrev led : Showing → Stand
    led s = cond s.down (ended CsiDown) (before rest)

    module _ (i : ℕ) (room : List ℕ) (g : Stands (showing i room) (before (e ∷ rest))) where
      as_passed : (d : Bool) → passed_at those i e ≡ d → i + 1 < n → passes e (get_or reads (2 * i) 0) (get_or reads (2 * i + 1) 0) ≡ d
      as_passed d p h = sym (passed_as i e h) ∙ p

      led_by : (passed_at those i e ≡ false → Stands (once e false (showing i room)) (before (e ∷ rest)) → Stands (show_one those e (once e false (showing i room))) (led (show_one those e (once e false (showing i room)))))
          → (p k : Bool) → passed_at those i e ≡ p → is_check e ≡ k
          → Stands (cond p (once e false (showing i room)) (cond k (once e true (showing i room)) (show_one those e (once e false (showing i room)))))
          (led (cond p (once e false (showing i room)) (cond k (once e true (showing i room)) (show_one those e (once e false (showing i room))))))
      led_by again true k p q = next (entry_words e) g refl false (before rest) (λ h. rw (as_passed true p h))
      led_by again false true p q = next (entry_words e) g refl true (ended CsiDown) (λ h. rw (as_passed false p h, q))
      led_by again false false p q = again p (next (entry_words e) g refl false (before (e ∷ rest)) (λ h. rw (as_passed false p h, q)))

    entry_led : (m i : ℕ) (room : List ℕ) → length those - i ≡ m → Stands (showing i room) (before (e ∷ rest)) → Stands (show_one those e (showing i room)) (led (show_one those e (showing i room)))
    entry_led zero i room h g = rw (one_step those e i room) (led_by i room g (λ p s. absurd (let l = not_passed those i e p in omega arith)) (passed_at those i e) (is_check e) refl refl)
    entry_led (suc m) i room h g = rw (one_step those e i room) (led_by i room g (λ p s. entry_led m (i + 1) (stored_at room (9 * i) (entry_words e)) (omega arith) s) (passed_at those i e) (is_check e) refl refl)

  -- a list
  ends_led : (es : List Entry) → ((i : ℕ) (room : List ℕ) → Stands (showing i room) (before es) → Stands (show_all those es (showing i room)) (cond (show_all those es (showing i room)).down (ended CsiDown) (before [])))
      → (i : ℕ) (down : Bool) (room : List ℕ) → Stands (record { at = i; down = down; room = room }) (cond down (ended CsiDown) (before es))
      → Stands (show_all those es (record { at = i; down = down; room = room })) (cond (show_all those es (record { at = i; down = down; room = room })).down (ended CsiDown) (before []))
  ends_led es f i true room g = rw (← ended_stays those es i room) g
  ends_led es f i false room g = f i room g

  list_led : (es : List Entry) (i : ℕ) (room : List ℕ) → Stands (showing i room) (before es) → Stands (show_all those es (showing i room)) (cond (show_all those es (showing i room)).down (ended CsiDown) (before []))
  list_led [] i room g = g
  list_led (e ∷ es) i room g =
      let s = show_one those e (showing i room) in
      ends_led es (λ j r. list_led es j r) s.at s.down s.room (entry_led e es (length those - i) i room refl g)

  -- the rest
  fill_led : (t : Stand) (w : List ℕ) → w ≡ shown_words (shown_of t) → ((a b : ℕ) → stepped_of t a b ≡ t) → (k i : ℕ) (room : List ℕ) → n - i ≡ k → Stands (showing i room) t → filled k i w room ≡ stored n
  fill_led t w e f zero i room h g = g.full (omega arith)
  fill_led t w e f (suc k) i room h g =
      let b : i < n = omega arith in
      fill_led t w e f k (i + 1) (stored_at room (9 * i) w) (omega arith) (next w g e false t (λ l. f (get_or reads (2 * i) 0) (get_or reads (2 * i + 1) 0)))

-- ---- lengths: no more are shown than there is room for, nor than there are values for
pub count_bounds : (reads room : ℕ) → (last_read (shown_count reads room) ≤ reads) × (9 * shown_count reads room ≤ room)
count_bounds reads room = let b = steps_bounds reads room in (omega arith, b.1)

-- ---- of an answer
all_led : (x : Result Plan Refusal) (reads room : List ℕ) (n : ℕ) (enough : last_read n ≤ length reads) (all : length room ≤ 9 * n)
    → Stands (fresh_of x) reads room n enough all (show_all (take (last_read n) reads) (entries_of x) (showing 0 room)) (end_of x (show_all (take (last_read n) reads) (entries_of x) (showing 0 room)).down)
unfolding entries_of
all_led (Ok p) reads room n enough all = list_led (before (plan_entries p)) reads room n enough all (plan_entries p) 0 room (fresh (before (plan_entries p)) reads room n enough all)
all_led (Err r) reads room n enough all = fresh (ended r) reads room n enough all

stays : (x : Result Plan Refusal) (down : Bool) (c d : ℕ) → stepped_of (end_of x down) c d ≡ end_of x down
stays (Ok p) true c d = refl
stays (Ok p) false c d = refl
stays (Err r) down c d = refl

-- ---- a room that is longer
three_behind : (b c : List ℕ) (i x y z : ℕ) → i + 3 ≤ length b → three_at (b ++ c) i x y z ≡ three_at b i x y z ++ c
three_behind b c i x y z h =
    let l : length (set b i x) ≡ length b = simp length-set in
    let m : length (set (set b i x) (i + 1) y) ≡ length b = simp length-set in
    ap (λ r. set (set r (i + 1) y) (i + 2) z) (set-append_left b c i x (omega arith))
    ∙ ap (λ r. set r (i + 2) z) (set-append_left (set b i x) c (i + 1) y (omega arith)) ∙ set-append_left (set (set b i x) (i + 1) y) c (i + 2) z (omega arith)

three_length : (b : List ℕ) (i x y z : ℕ) → length (three_at b i x y z) ≡ length b
three_length b i x y z = simp length-set

behind : (b c : List ℕ) (i : ℕ) (w : List ℕ) → i + 9 ≤ length b → stored_at (b ++ c) i w ≡ stored_at b i w ++ c
unfolding stored_at
behind b c i w h =
    let b₁ = three_at b i (get_or w 0 0) (get_or w 1 0) (get_or w 2 0) in
    let b₂ = three_at b₁ (i + 3) (get_or w 3 0) (get_or w 4 0) (get_or w 5 0) in
    let l = three_length b i (get_or w 0 0) (get_or w 1 0) (get_or w 2 0) in
    let m = three_length b₁ (i + 3) (get_or w 3 0) (get_or w 4 0) (get_or w 5 0) in
    let longer : i + 9 ≤ length (b ++ c) = simp length-append (omega arith) in
    rw (le-leb (i + 9) (length (b ++ c)) longer, le-leb (i + 9) (length b) h)
    (ap (λ r. three_at (three_at r (i + 3) (get_or w 3 0) (get_or w 4 0) (get_or w 5 0)) (i + 6) (get_or w 6 0) (get_or w 7 0) (get_or w 8 0)) (three_behind b c i (get_or w 0 0) (get_or w 1 0) (get_or w 2 0) (omega arith))
    ∙ ap (λ r. three_at r (i + 6) (get_or w 6 0) (get_or w 7 0) (get_or w 8 0)) (three_behind b₁ c (i + 3) (get_or w 3 0) (get_or w 4 0) (get_or w 5 0) (omega arith))
    ∙ three_behind b₂ c (i + 6) (get_or w 6 0) (get_or w 7 0) (get_or w 8 0) (omega arith))

ran_behind : (step : Stand → ℕ → ℕ → Stand) (s : Stand) (reads b c : List ℕ) (i : ℕ) → 9 * i ≤ length b → ran step s reads (b ++ c) i ≡ ran step s reads b i ++ c
ran_behind step s reads b c zero h = refl
ran_behind step s reads b c (suc i) h =
    let w = shown_words (shown_of (stand_after step s reads i)) in
    ap (λ z. stored_at z (9 * i) w) (ran_behind step s reads b c i (omega arith)) ∙ behind (ran step s reads b i) c (9 * i) w (rw (ran_length step s reads b i) (omega arith))

-- in a room for no more things than n
walked_all : (x : Result Plan Refusal) (reads room : List ℕ) (n : ℕ) → last_read n ≤ length reads → length room ≤ 9 * n → {at : ℕ} {down : Bool} {after final : List ℕ}
    → record { at = at; down = down; room = after } ≡ show_all (take (last_read n) reads) (entries_of x) (showing 0 room)
    → final ≡ filled (n - at) at (shown_words (shown_of (end_of x down))) after → final ≡ ran stepped_of (fresh_of x) reads room n
walked_all x reads room n enough all l f =
    let s = show_all (take (last_read n) reads) (entries_of x) (showing 0 room) in
    let g = all_led x reads room n enough all in
    f ∙ ap (λ z. filled (n - z.at) z.at (shown_words (shown_of (end_of x z.down))) z.room) l
    ∙ fill_led (fresh_of x) reads room n enough all (end_of x s.down) (shown_words (shown_of (end_of x s.down))) refl (stays x s.down) (n - s.at) s.at s.room refl (record { going = g.going; full = g.full; same = g.same })

-- what stands behind the first n things stays
ran_part : (x : Result Plan Refusal) (reads room : List ℕ) (n : ℕ) → ran stepped_of (fresh_of x) reads (take (9 * n) room) n ++ drop (9 * n) room ≡ ran stepped_of (fresh_of x) reads room n
ran_part x reads room n = go (leb (9 * n) (length room)) refl
  where
    go : (t : Bool) → leb (9 * n) (length room) ≡ t → ran stepped_of (fresh_of x) reads (take (9 * n) room) n ++ drop (9 * n) room ≡ ran stepped_of (fresh_of x) reads room n
    go true e =
        let h = leb-true (9 * n) (length room) e in
        let k : length (take (9 * n) room) ≡ 9 * n = simp length-take (omega arith) in
        sym (ran_behind stepped_of (fresh_of x) reads (take (9 * n) room) (drop (9 * n) room) n (omega arith))
        ∙ ap (λ z. ran stepped_of (fresh_of x) reads z n) (take-append-drop (9 * n) room)
    go false e =
        let h = leb-false (9 * n) (length room) e in
        let a : take (9 * n) room ≡ room = take_all (9 * n) room (omega arith) in
        let d : drop (9 * n) room ≡ [] = drop_all (9 * n) room (omega arith) in
        rw (a, d) (append-nil (ran stepped_of (fresh_of x) reads room n))

-- in any room: what is shown in its first 9 n words is the walk over it
pub walked : (x : Result Plan Refusal) (reads room : List ℕ) (n : ℕ) → last_read n ≤ length reads → {at : ℕ} {down : Bool} {after final : List ℕ}
    → record { at = at; down = down; room = after } ≡ show_all (take (last_read n) reads) (entries_of x) (showing 0 (take (9 * n) room))
    → final ≡ filled (n - at) at (shown_words (shown_of (end_of x down))) after → final ++ drop (9 * n) room ≡ ran stepped_of (fresh_of x) reads room n
walked x reads room n enough l f =
    let k : length (take (9 * n) room) ≤ 9 * n = simp length-take (omega arith) in
    ap (λ z. z ++ drop (9 * n) room) (walked_all x reads (take (9 * n) room) n enough k l f) ∙ ran_part x reads room n
