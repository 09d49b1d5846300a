-- What stands at a place of a list: the entry there, what is left from there, and that a place with an entry is below the most that a list has.
use Rattle.std.specs.Prelude.{Option, Some, None, Result, Ok, Err, slice_get}
use mathlib.Core.Path.{◌≡◌, refl, sym}
use mathlib.Core.Bool.{Bool, true, false}
use mathlib.Core.List.{List, [], ◌∷◌}
use Prim.Native.Nat.{ℕ, zero, suc, ◌<◌}
use native.Mathlib.Omega.{arith}
use lib.ListN.{length, drop}
use Rattle.types.specs.declared.Entry.{Entry}
use Rattle.types.specs.declared.Plan.{Plan}
use Rattle.types.specs.declared.Refusal.{Refusal}
use Rattle.types.specs.declared.Shown.{Shown}
use Rattle.types.specs.declared.Shown.TheVariants.{Next, Finished}
use Rattle.rules.specs.Document01.Entries.{entries_of, most}
use Rattle.rules.specs.Document01.Walk.{before, shown_of}
use Rattle.rules.proofs.Document01.Length.{at_most}
use Rattle.walk.specs.declared.Walk.{Walk}
use Rattle.walk.specs.Walk.{stand_at, stand_of}

-- what a walk at that place shows
abbrev pub shown_by : Option Entry → Shown
shown_by (Some e) = Next e
shown_by None = Finished

pub shown_at : (es : List Entry) (k : ℕ) → shown_of (before (drop k es)) ≡ shown_by (slice_get es k)
shown_at [] zero = refl
shown_at [] (suc k) = refl
shown_at (e ∷ es) zero = refl
shown_at (e ∷ es) (suc k) = shown_at es k

-- ---- a place with an entry
below : (es : List Entry) (k : ℕ) (e : Entry) → shown_of (before (drop k es)) ≡ Next e → k < length es
below [] zero e h = absurd (let z : ◌≡◌ {A = ℕ} 0 1 = cc in omega arith)
below [] (suc k) e h = absurd (let z : ◌≡◌ {A = ℕ} 0 1 = cc in omega arith)
below (x ∷ es) zero e h = omega arith
below (x ∷ es) (suc k) e h = let b = below es k e h in omega arith

standing : (d : Bool) (a : Result Plan Refusal) (es : List Entry) (k : ℕ) (e : Entry) → shown_of (stand_at d a (drop k es)) ≡ Next e → k < length es
standing true a es k e h = absurd (let z : ◌≡◌ {A = ℕ} 0 1 = cc in omega arith)
standing false (Ok p) es k e h = below es k e h
standing false (Err n) es k e h = absurd (let z : ◌≡◌ {A = ℕ} 0 1 = cc in omega arith)

pub fits : (w : Walk) (e : Entry) → Next e ≡ shown_of (stand_of w) → w.at < most
unfolding stand_of
fits w e h =
    let b = standing w.down w.planned (entries_of w.planned) w.at e (sym h) in
    let s = at_most w.planned in
    omega arith
