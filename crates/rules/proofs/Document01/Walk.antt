-- What a walk of document 01 does over any sequence of reads; and computed on a short list.
use mathlib.Core.Path.{◌≡◌, refl, ◌∙◌, sym, ap}
use mathlib.Core.Logic.{◌⊎◌, inl, inr, ◌≢◌}
use mathlib.Core.Bool.{Bool, true, false, cond, ◌&&◌}
use mathlib.Core.List.{List, [], ◌∷◌, ◌++◌, map}
use Prim.Native.Nat.{ℕ, suc, ◌≤◌}
use native.Mathlib.Omega.{arith}
use lib.Dec.{eqb}
use borrow.Author.Tests.{eq-eqb, ne_eqb, eqb-true, eqb-false}
use lib.ListN.{length}
use Rattle.types.specs.declared.Entry.{Entry}
use Rattle.types.specs.declared.Entry.TheVariants.{Set, Set2, Set3, Set4, Wait, Wait2, Check, Read}
use Rattle.types.specs.declared.Refusal.{Refusal}
use Rattle.types.specs.declared.Refusal.TheVariants.{CsiDown}
use Rattle.types.specs.declared.Shown.TheVariants.{Next, Finished, Stopped}
use Rattle.rules.specs.Document01.Fields
use Rattle.rules.specs.Document01.Walk.{Stand, before, ended, passes, is_check, stepped_by, stepped_of, voltage_fresh, voltage_stepped}
use Rattle.rules.specs.Stated.Walks.{Pair, after, shows, is_wait, Always, Through, once, Satisfy}

-- ---- after finished or a refusal, a step changes nothing, and the same is shown
pub stays_finished : (a b : ℕ) → stepped_of (before []) a b ≡ before []
stays_finished a b = refl

pub stays_ended : (n : Refusal) (a b : ℕ) → stepped_of (ended n) a b ≡ ended n
stays_ended n a b = refl

pub finished_always : (rs : List Pair) → Always Finished (shows stepped_of (before []) rs)
finished_always [] = (refl, tt)
finished_always (r ∷ rs) = (refl, finished_always rs)

pub ended_always : (n : Refusal) (rs : List Pair) → Always (Stopped n) (shows stepped_of (ended n) rs)
ended_always n [] = (refl, tt)
ended_always n (r ∷ rs) = (refl, ended_always n rs)

-- ---- an entry that is not passed is a wait or a check
not_passed : (e : Entry) (a b : ℕ) → passes e a b ≡ false → is_check e ≡ false → is_wait e ≡ true
not_passed (Set f v) a b h c = sym h
not_passed (Set2 f v g w) a b h c = sym h
not_passed (Set3 f v g w p x) a b h c = sym h
not_passed (Set4 f v g w p x k y) a b h c = sym h
not_passed (Wait f v) a b h c = refl
not_passed (Wait2 f v g w) a b h c = refl
not_passed (Check f v) a b h c = sym c
not_passed (Read f) a b h c = sym h

-- ---- what is shown goes through the list, over any reads
onwards : (e : Entry) (es : List Entry) (r : Pair) (rs : List Pair) (p c : Bool) → passes e r.a r.b ≡ p → is_check e ≡ c → ((xs : List Entry) → Through xs (shows stepped_of (before xs) rs))
    → Through es (shows stepped_of (cond p (before es) (cond c (ended CsiDown) (before (e ∷ es)))) rs)
    ⊎ (((is_wait e ≡ true) × Through (e ∷ es) (shows stepped_of (cond p (before es) (cond c (ended CsiDown) (before (e ∷ es)))) rs))
    ⊎ ((is_check e ≡ true) × Always (Stopped CsiDown) (shows stepped_of (cond p (before es) (cond c (ended CsiDown) (before (e ∷ es)))) rs)))
onwards e es r rs true c h k next = inl (next es)
onwards e es r rs false true h k next = inr (inr (k, ended_always CsiDown rs))
onwards e es r rs false false h k next = inr (inl (not_passed e r.a r.b h k, next (e ∷ es)))

pub goes_through : (es : List Entry) (rs : List Pair) → Through es (shows stepped_of (before es) rs)
goes_through [] [] = (refl, tt)
goes_through [] (r ∷ rs) = (refl, finished_always rs)
goes_through (e ∷ es) [] = (refl, inl tt)
goes_through (e ∷ es) (r ∷ rs) = (refl, onwards e es r rs (passes e r.a r.b) (is_check e) refl refl (λ xs. goes_through xs rs))

-- the entries shown, repeats of a waiting entry counted once, are the beginning of the list
pub prefix : (es : List Entry) (rs : List Pair) → (rest : List Entry) × (once (before es) rs ++ rest ≡ es)
prefix [] [] = ([], refl)
prefix [] (r ∷ rs) = ([], refl)
prefix (e ∷ es) [] = (es, refl)
prefix (e ∷ es) (r ∷ rs) = go (passes e r.a r.b) (is_check e) (prefix es rs) (prefix (e ∷ es) rs)
  where
    go : (p c : Bool) → (rest : List Entry) × (once (before es) rs ++ rest ≡ es) → (rest : List Entry) × (once (before (e ∷ es)) rs ++ rest ≡ e ∷ es)
        → (rest : List Entry) × (cond p (e ∷ once (before es) rs) (cond c (e ∷ []) (once (before (e ∷ es)) rs)) ++ rest ≡ e ∷ es)
    go true c next again = (next.0, ap (λ xs. e ∷ xs) next.1)
    go false true next again = (es, refl)
    go false false next again = again

-- ---- with reads that pass each entry, the whole list is shown and then finished, in as many steps as there are entries; and never in fewer
pub whole : (es : List Entry) (rs : List Pair) → Satisfy es rs → shows stepped_of (before es) rs ≡ map Next es ++ (Finished ∷ [])
whole [] [] h = refl
whole [] (r ∷ rs) h = absurd h
whole (e ∷ es) [] h = absurd h
whole (e ∷ es) (r ∷ rs) h = rw h.0 (ap (λ xs. Next e ∷ xs) (whole es rs h.1))

pub whole_steps : (es : List Entry) (rs : List Pair) → Satisfy es rs → length rs ≡ length es
whole_steps [] [] h = refl
whole_steps [] (r ∷ rs) h = absurd h
whole_steps (e ∷ es) [] h = absurd h
whole_steps (e ∷ es) (r ∷ rs) h = ap suc (whole_steps es rs h.1)

after_ended : (n : Refusal) (rs : List Pair) → after stepped_of (ended n) rs ≡ ended n
after_ended n [] = refl
after_ended n (r ∷ rs) = after_ended n rs

pub not_sooner : (es : List Entry) (rs : List Pair) → after stepped_of (before es) rs ≡ before [] → length es ≤ length rs
not_sooner [] rs h = omega arith
not_sooner (e ∷ es) [] h = absurd (let z : ◌≡◌ {A = ℕ} 0 1 = cc in omega arith)
not_sooner (e ∷ es) (r ∷ rs) h = go (passes e r.a r.b) (is_check e) (not_sooner es rs) (not_sooner (e ∷ es) rs) h
  where
    go : (p c : Bool) → (after stepped_of (before es) rs ≡ before [] → length es ≤ length rs) → (after stepped_of (before (e ∷ es)) rs ≡ before [] → suc (length es) ≤ length rs) → after stepped_of (cond p (before es) (cond c (ended CsiDown) (before (e ∷ es)))) rs ≡ before [] → suc (length es) ≤ suc (length rs)
    go true c next again h = let l = next h in omega arith
    go false true next again h = let k : ended CsiDown ≡ before [] = sym (after_ended CsiDown rs) ∙ h in absurd (let z : ◌≡◌ {A = ℕ} 0 1 = cc in omega arith)
    go false false next again h = let l = again h in omega arith

-- ---- a wait is left only when all its values show together
-- of any walk, whatever it leaves after an entry
module _ (left : Entry → ℕ → List Entry → List Entry) (f v : ℕ) (es : List Entry) (a b : ℕ) where
  pub any_left : a ≡ v → stepped_by left (before (Wait f v ∷ es)) a b ≡ before (left (Wait f v) a es)
  any_left h = rw (eq-eqb a v h)

  pub any_again : a ≢ v → stepped_by left (before (Wait f v ∷ es)) a b ≡ before (Wait f v ∷ es)
  any_again h = rw (ne_eqb a v h)

pub wait_left : (f v : ℕ) (es : List Entry) (a b : ℕ) → a ≡ v → stepped_of (before (Wait f v ∷ es)) a b ≡ before es
wait_left = any_left (λ e a es. es)

pub wait_again : (f v : ℕ) (es : List Entry) (a b : ℕ) → a ≢ v → stepped_of (before (Wait f v ∷ es)) a b ≡ before (Wait f v ∷ es)
wait_again = any_again (λ e a es. es)

pub wait2_left : (f v g w : ℕ) (es : List Entry) (a b : ℕ) → a ≡ v → b ≡ w → stepped_of (before (Wait2 f v g w ∷ es)) a b ≡ before es
wait2_left f v g w es a b h k = rw (eq-eqb a v h, eq-eqb b w k)

pub wait2_again : (f v g w : ℕ) (es : List Entry) (a b : ℕ) → (a ≡ v → b ≢ w) → stepped_of (before (Wait2 f v g w ∷ es)) a b ≡ before (Wait2 f v g w ∷ es)
wait2_again f v g w es a b h = go (eqb a v) refl
  where
    go : (p : Bool) → eqb a v ≡ p → cond (p && eqb b w) (before es) (before (Wait2 f v g w ∷ es)) ≡ before (Wait2 f v g w ∷ es)
    go false e = refl
    go true e = rw (ne_eqb b w (h (eqb-true a v e)))

-- ---- 24 exactly at a check whose value is not the one read
pub record DownAt (s : Stand) (a : ℕ) : Type 0 where
  pub field : ℕ
  pub value : ℕ
  pub rest : List Entry
  pub at : s ≡ before (Check field value ∷ rest)
  pub down : a ≢ value

pub check_left : (f v : ℕ) (es : List Entry) (a b : ℕ) → a ≡ v → stepped_of (before (Check f v ∷ es)) a b ≡ before es
check_left f v es a b h = rw (eq-eqb a v h)

pub down_there : (s : Stand) (a b : ℕ) → DownAt s a → stepped_of s a b ≡ ended CsiDown
down_there s a b d = rw (d.at, ne_eqb a d.value d.down)

check_down : (e : Entry) (es : List Entry) (a b : ℕ) → is_check e ≡ true → passes e a b ≡ false → DownAt (before (e ∷ es)) a
check_down (Set f v) es a b c h = absurd (let z : ◌≡◌ {A = ℕ} 0 1 = cc in omega arith)
check_down (Set2 f v g w) es a b c h = absurd (let z : ◌≡◌ {A = ℕ} 0 1 = cc in omega arith)
check_down (Set3 f v g w p x) es a b c h = absurd (let z : ◌≡◌ {A = ℕ} 0 1 = cc in omega arith)
check_down (Set4 f v g w p x k y) es a b c h = absurd (let z : ◌≡◌ {A = ℕ} 0 1 = cc in omega arith)
check_down (Wait f v) es a b c h = absurd (let z : ◌≡◌ {A = ℕ} 0 1 = cc in omega arith)
check_down (Wait2 f v g w) es a b c h = absurd (let z : ◌≡◌ {A = ℕ} 0 1 = cc in omega arith)
check_down (Check f v) es a b c h = record { field = f; value = v; rest = es; at = refl; down = eqb-false a v h }
check_down (Read f) es a b c h = absurd (let z : ◌≡◌ {A = ℕ} 0 1 = cc in omega arith)

pub down_only : (s : Stand) (a b : ℕ) → stepped_of s a b ≡ ended CsiDown → (s ≡ ended CsiDown) ⊎ DownAt s a
down_only (before []) a b h = absurd (let z : ◌≡◌ {A = ℕ} 0 1 = cc in omega arith)
down_only (before (e ∷ es)) a b h = go (passes e a b) (is_check e) refl refl h
  where
    go : (p c : Bool) → passes e a b ≡ p → is_check e ≡ c → cond p (before es) (cond c (ended CsiDown) (before (e ∷ es))) ≡ ended CsiDown → (before (e ∷ es) ≡ ended CsiDown) ⊎ DownAt (before (e ∷ es)) a
    go true c k l h = absurd (let z : ◌≡◌ {A = ℕ} 0 1 = cc in omega arith)
    go false false k l h = absurd (let z : ◌≡◌ {A = ℕ} 0 1 = cc in omega arith)
    go false true k l h = inr (check_down e es a b l k)
down_only (ended n) a b h = inl h

-- ---- computed on a short list
abbrev pub both : ℕ → ℕ → Pair
both a b = record { a = a; b = b }

abbrev list : List Entry
list = Set Fields.CSION 1 ∷ Wait Fields.CSIRDY 1 ∷ Check Fields.CSIRDY 1 ∷ Wait2 Fields.RDY1 1 Fields.RDY2 1 ∷ []

-- a wait is shown again until all its values show together, and the end stays
pub through : shows stepped_of (before list) (both 0 0 ∷ both 0 0 ∷ both 1 0 ∷ both 1 0 ∷ both 1 0 ∷ both 0 1 ∷ both 1 1 ∷ both 0 0 ∷ [])
    ≡ Next (Set Fields.CSION 1) ∷ Next (Wait Fields.CSIRDY 1) ∷ Next (Wait Fields.CSIRDY 1) ∷ Next (Check Fields.CSIRDY 1)
    ∷ Next (Wait2 Fields.RDY1 1 Fields.RDY2 1) ∷ Next (Wait2 Fields.RDY1 1 Fields.RDY2 1) ∷ Next (Wait2 Fields.RDY1 1 Fields.RDY2 1) ∷ Finished ∷ Finished ∷ []
through = refl

-- CSIRDY down at its check
pub down : shows stepped_of (before list) (both 0 0 ∷ both 1 0 ∷ both 0 0 ∷ both 1 1 ∷ [])
    ≡ Next (Set Fields.CSION 1) ∷ Next (Wait Fields.CSIRDY 1) ∷ Next (Check Fields.CSIRDY 1) ∷ Stopped CsiDown ∷ Stopped CsiDown ∷ []
down = refl

-- the voltage walk to Scale0, code 3, from Scale3, code 0, and where it is there already
pub raised : shows (voltage_stepped 0) voltage_fresh (both 1 0 ∷ both 0 0 ∷ both 0 0 ∷ both 1 0 ∷ [])
    ≡ Next (Wait Fields.ACTVOSRDY 1) ∷ Next (Entry.Read Fields.ACTVOS) ∷ Next (Set Fields.VOS 3) ∷ Next (Wait Fields.VOSRDY 1) ∷ Finished ∷ []
raised = refl

pub there : shows (voltage_stepped 0) voltage_fresh (both 1 0 ∷ both 3 0 ∷ [])
    ≡ Next (Wait Fields.ACTVOSRDY 1) ∷ Next (Entry.Read Fields.ACTVOS) ∷ Finished ∷ []
there = refl
