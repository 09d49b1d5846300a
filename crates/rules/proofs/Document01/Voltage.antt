-- What the voltage walk of document 01 does for every target and all values read: what it shows, when a wait is left, when VOS is set, and
-- that it stays where it ended.
use mathlib.Core.Path.{◌≡◌, refl, ap, ◌∙◌}
use mathlib.Core.Bool.{Bool, true, false, cond}
use mathlib.Core.List.{List, [], ◌∷◌, ◌++◌, map}
use Prim.Native.Nat.{ℕ, suc, ◌+◌, ◌<◌, ◌≤◌}
use native.Mathlib.Omega.{arith}
use lib.ListN.{length, length-append}
use lib.Dec.{eqb}
use borrow.Author.Tests.{eq-eqb, ne_eqb, eqb-true, eqb-false, lt-ltb, le-ltb}
use Rattle.types.specs.declared.Entry.{Entry}
use Rattle.types.specs.declared.Entry.TheVariants.{Set, Wait}
use Rattle.types.specs.declared.Refusal.{Refusal}
use Rattle.types.specs.declared.Refusal.TheVariants.{OutsideCodes}
use Rattle.types.specs.declared.Shown.{Shown}
use Rattle.types.specs.declared.Shown.TheVariants.{Next, Finished, Stopped}
use Rattle.rules.specs.Document01.Fields
use Rattle.rules.specs.Document01.Walk.{Stand, before, ended, shown_of, vos_code, voltage_fresh, voltage_to, transition, read_after, voltage_stepped}
use Rattle.rules.specs.Stated.Walks.{Pair, after, shows, Satisfy, VoltageReads}
use Rattle.rules.proofs.Document01.Walk.{both, any_left, any_again}

-- a fresh walk shows the wait for ACTVOSRDY before any step; to a target above 3 it shows refusal 1
pub fresh_shows : (target : ℕ) → target < 4 → shown_of (voltage_to target) ≡ Next (Wait Fields.ACTVOSRDY 1)
fresh_shows target h = rw (lt-ltb target 4 h)

pub fresh_refused : (target : ℕ) → 4 ≤ target → shown_of (voltage_to target) ≡ Stopped OutsideCodes
fresh_refused target h = rw (le-ltb target 4 h)

module _ (target : ℕ) where
  -- a wait is left only when its value shows, and else is shown again
  pub wait_left : (f v : ℕ) (es : List Entry) (a b : ℕ) → a ≡ v → voltage_stepped target (before (Wait f v ∷ es)) a b ≡ before es
  wait_left = any_left (read_after target)

  pub wait_again : (f v : ℕ) (es : List Entry) (a b : ℕ) → (a ≡ v → ⊥) → voltage_stepped target (before (Wait f v ∷ es)) a b ≡ before (Wait f v ∷ es)
  wait_again = any_again (read_after target)

  -- VOS is set exactly where the value read for ACTVOS is not the target's code
  pub not_set : (read : ℕ) → read ≡ vos_code target → transition target read ≡ []
  not_set read e = rw (eq-eqb read (vos_code target) e)

  pub is_set_is : (read : ℕ) → (read ≡ vos_code target → ⊥) → transition target read ≡ Set Fields.VOS (vos_code target) ∷ Wait Fields.VOSRDY 1 ∷ []
  is_set_is read n = rw (ne_eqb read (vos_code target) n)

  -- after finished or a refusal, a step changes nothing
  pub stays_finished : (a b : ℕ) → voltage_stepped target (before []) a b ≡ before []
  stays_finished a b = refl

  pub stays_refused : (n : Refusal) (a b : ℕ) → voltage_stepped target (ended n) a b ≡ ended n
  stays_refused n a b = refl

-- what is left after the read, by whether the code read is the target's
abbrev transition_by : (target : ℕ) → Bool → List Entry
transition_by target t = cond t [] (Set Fields.VOS (vos_code target) ∷ Wait Fields.VOSRDY 1 ∷ [])

module _ (target : ℕ) where
  abbrev step : Stand → (a b : ℕ) → Stand
  step = voltage_stepped target

  after_read : (t : Bool) (rest : List Pair) → Satisfy (transition_by target t) rest
      → shows step (before (transition_by target t)) rest ≡ map Next (transition_by target t) ++ (Finished ∷ [])
  after_read true [] h = refl
  after_read true (r ∷ rs) h = absurd h
  after_read false [] h = absurd h
  after_read false (r ∷ []) h = absurd h.1
  after_read false (r ∷ (q ∷ [])) h = rw h.1.0
  after_read false (r ∷ (q ∷ (p ∷ ps))) h = absurd h.1.1

  -- with ACTVOSRDY at 1, any value read for ACTVOS, and values that pass what is left, the walk shows the wait, the read and what is left, one
  -- after the other, and then finished
  pub whole : (b c read : ℕ) (rest : List Pair) → Satisfy (transition target read) rest
      → shows step voltage_fresh (both 1 b ∷ both read c ∷ rest) ≡ map Next (Wait Fields.ACTVOSRDY 1 ∷ Entry.Read Fields.ACTVOS ∷ transition target read) ++ (Finished ∷ [])
  whole b c read rest h = ap (λ (l : List Shown). Next (Wait Fields.ACTVOSRDY 1) ∷ Next (Entry.Read Fields.ACTVOS) ∷ l) (after_read (eqb read (vos_code target)) rest h)

  -- ---- it is never finished sooner
  few : (t : Bool) (rs : List Pair) → after step (before (transition_by target t)) rs ≡ before [] → length (transition_by target t) ≤ length rs
  few true rs h = omega arith
  few false [] h = absurd (let z : ◌≡◌ {A = ℕ} 0 1 = cc in omega arith)
  few false (r ∷ []) h = absurd (let z : ◌≡◌ {A = ℕ} 0 1 = cc in omega arith)
  few false (r ∷ (q ∷ rs)) h = omega arith

  from_ready : (ready : Pair) (rs : List Pair) → ready.a ≡ 1 → after step (before (Entry.Read Fields.ACTVOS ∷ [])) rs ≡ before [] → VoltageReads target (ready ∷ rs)
  from_ready ready [] u h = absurd (let z : ◌≡◌ {A = ℕ} 0 1 = cc in omega arith)
  from_ready ready (r ∷ rs) u h = record {
    waiting = [];
    ready = ready;
    actvos = r;
    rest = rs;
    all = refl;
    down = tt;
    up = u;
    enough = few (eqb r.a (vos_code target)) rs h;
  }

  pub not_sooner : (rs : List Pair) → after step voltage_fresh rs ≡ before [] → VoltageReads target rs
  not_sooner [] h = absurd (let z : ◌≡◌ {A = ℕ} 0 1 = cc in omega arith)
  not_sooner (r ∷ rs) h = go (eqb r.a 1) refl (not_sooner rs) h
    where
      go : (t : Bool) → eqb r.a 1 ≡ t → (after step voltage_fresh rs ≡ before [] → VoltageReads target rs) → after step (cond t (before (Entry.Read Fields.ACTVOS ∷ [])) voltage_fresh) rs ≡ before [] → VoltageReads target (r ∷ rs)
      go true e next h = from_ready r rs (eqb-true r.a 1 e) h
      go false e next h =
          let v = next h in
          record { waiting = r ∷ v.waiting; ready = v.ready; actvos = v.actvos; rest = v.rest; all = ap (λ (xs : List Pair). r ∷ xs) v.all; down = (eqb-false r.a 1 e, v.down); up = v.up; enough = v.enough }

  -- in steps
  pub steps : (rs : List Pair) (v : VoltageReads target rs) → 2 + length (transition target v.actvos.a) ≤ length rs
  steps rs v = let e : length rs ≡ length v.waiting + suc (suc (length v.rest)) = ap length v.all ∙ length-append v.waiting (v.ready ∷ (v.actvos ∷ v.rest)) in let n = v.enough in omega arith
