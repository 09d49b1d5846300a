-- The record is a walk of document 01: a fresh one stands at the list's beginning, and a step moves it as document 01's step does. So what rules proves
-- of every walk (proofs/Document01/Walk) holds of the records.
use Rattle.std.specs.Prelude.{Result, Ok, Err}
use mathlib.Core.Path.{◌≡◌, refl, ◌∙◌, ap}
use mathlib.Core.Bool.{Bool, true, false, cond}
use mathlib.Core.List.{List, [], ◌∷◌, ◌++◌, map}
use Prim.Native.Nat.{ℕ, zero, suc, ◌+◌}
use native.Mathlib.Omega.{arith}
use lib.ListN.{drop}
use Rattle.types.specs.declared.Refusal.{Refusal}
use Rattle.types.specs.declared.Entry.{Entry}
use Rattle.types.specs.declared.Refusal.TheVariants.{CsiDown}
use Rattle.types.specs.declared.Plan.{Plan}
use Rattle.types.specs.declared.Chip.{Chip}
use Rattle.types.specs.declared.Shown.{Shown}
use Rattle.types.specs.declared.Shown.TheVariants.{Next, Finished}
use Rattle.types.specs.declared.Asked.{Asked}
use Rattle.rules.specs.Document01.Plan.{request_of, plan_of}
use Rattle.rules.specs.Document01.Entries.{entries_of}
use Rattle.rules.specs.Document01.Walk.{Stand, before, ended, shown_of, passes, is_check, stepped_of, fresh_of}
use Rattle.claims.specs.Rust.Run.{ends}
use Rattle.claims.specs.Rust.CoreClocks.{CoreClocks}
use Rattle.claims.specs.Rust.Rcc.{frozen}
use Rattle.claims.specs.Demands.Agreement.{AllowsEachP}
use Rattle.rules.specs.Stated.Walks.{Pair, shows, Satisfy}
use Rattle.claims.proofs.Demands.{demand_2_walk}
use Rattle.walk.specs.declared.Walk.{Walk}
use Rattle.walk.specs.Walk.{fresh_walk, stand_at, stand_of, passed_walk, stepped_by, stepped_walk}

-- a fresh record stands where document 01's does
pub fresh_stands : (x : Result Plan Refusal) → stand_of (fresh_walk x) ≡ fresh_of x
unfolding stand_of entries_of
fresh_stands (Ok p) = refl
fresh_stands (Err n) = refl

next_rest : (es : List Entry) (k : ℕ) (e : Entry) (rest : List Entry) → drop k es ≡ e ∷ rest → drop (suc k) es ≡ rest
next_rest [] zero e rest h = absurd (let z : ◌≡◌ {A = ℕ} 0 1 = cc in omega arith)
next_rest [] (suc k) e rest h = absurd (let z : ◌≡◌ {A = ℕ} 0 1 = cc in omega arith)
next_rest (x ∷ es) zero e rest h = cc
next_rest (x ∷ es) (suc k) e rest h = next_rest es k e rest h

-- where a record stands, by what its fields are
stand_is : (w : Walk) (d : Bool) (x : Result Plan Refusal) (rest : List Entry) → w.down ≡ d → w.planned ≡ x → drop w.at (entries_of w.planned) ≡ rest → stand_of w ≡ stand_at d x rest
unfolding stand_of
stand_is w d x rest p q r =
    ap (λ z. stand_at z w.planned (drop w.at (entries_of w.planned))) p
    ∙ ap (λ z. stand_at d z (drop w.at (entries_of w.planned))) q ∙ ap (λ z. stand_at d x z) r

check_or_wait : (c : Bool) (p : Plan) (rest : List Entry) → stand_at c (Ok p) rest ≡ cond c (ended CsiDown) (before rest)
check_or_wait true p rest = refl
check_or_wait false p rest = refl

module _ (w : Walk) (a b : ℕ) where
  moves : (d : Bool) (x : Result Plan Refusal) (rest : List Entry) → w.down ≡ d → w.planned ≡ x → drop w.at (entries_of w.planned) ≡ rest
      → stand_of (stepped_by (shown_of (stand_at d x rest)) w a b) ≡ stepped_of (stand_at d x rest) a b
  moves true x rest p q r = stand_is w true x rest p q r
  moves false (Err n) rest p q r = stand_is w false (Err n) rest p q r
  moves false (Ok y) [] p q r = stand_is w false (Ok y) [] p q r
  moves false (Ok y) (e ∷ rest) p q r = go (passes e a b)
    where
      go : (t : Bool) → stand_of (cond t (record { planned = w.planned; at = w.at + 1; down = w.down }) (record { planned = w.planned; at = w.at; down = is_check e }))
          ≡ cond t (before rest) (cond (is_check e) (ended CsiDown) (before (e ∷ rest)))
      go true = stand_is (record { planned = w.planned; at = w.at + 1; down = w.down }) false (Ok y) rest p q (let l : w.at + 1 ≡ suc w.at = omega arith in rw l (next_rest (entries_of w.planned) w.at e rest r))
      go false = stand_is (record { planned = w.planned; at = w.at; down = is_check e }) (is_check e) (Ok y) (e ∷ rest) refl q r ∙ check_or_wait (is_check e) y (e ∷ rest)

  -- a step of the record is document 01's step
  pub step_stands : stand_of (stepped_walk w a b) ≡ stepped_of (stand_of w) a b
  unfolding stand_of stepped_walk
  step_stands = moves w.down w.planned (drop w.at (entries_of w.planned)) refl refl refl

-- at the entry that is shown
pub passed_stands : (w : Walk) (e : Entry) (a b : ℕ) → Next e ≡ shown_of (stand_of w) → stand_of (passed_walk e w a b) ≡ stepped_of (stand_of w) a b
unfolding stepped_walk
passed_stands w e a b h = ap (λ s. stand_of (stepped_by s w a b)) h ∙ step_stands w a b

-- what records show over any reads
abbrev pub record_shows : Walk → List Pair → List Shown
record_shows w [] = shown_of (stand_of w) ∷ []
record_shows w (r ∷ rs) = shown_of (stand_of w) ∷ record_shows (stepped_walk w r.a r.b) rs

shows_from : (w : Walk) (s : Stand) (rs : List Pair) → stand_of w ≡ s → record_shows w rs ≡ shows stepped_of s rs
shows_from w s [] e = rw e
shows_from w s (r ∷ rs) e = rw (shows_from (stepped_walk w r.a r.b) (stepped_of s r.a r.b) rs (step_stands w r.a r.b ∙ ap (λ z. stepped_of z r.a r.b) e), e)

-- is what document 01's walk shows
pub shows_as : (x : Result Plan Refusal) (rs : List Pair) → record_shows (fresh_walk x) rs ≡ shows stepped_of (fresh_of x) rs
shows_as x rs = shows_from (fresh_walk x) (fresh_of x) rs (fresh_stands x)

-- ---- and so it ends at the Rust: where freeze ends and the manual allows every P that it wrote, a fresh record shows freeze's own list over reads
-- that pass each of its operations, entry by entry, and then finished
pub shows_freeze : (bytes : List ℕ) (chip : Chip) (a : Asked) → request_of bytes chip ≡ Ok a → (es : List Entry) (k : CoreClocks) → frozen a.request a.chip ≡ ends es k → AllowsEachP a.chip es
    → (rs : List Pair) → Satisfy es rs → record_shows (fresh_walk (plan_of bytes chip)) rs ≡ map Next es ++ (Finished ∷ [])
shows_freeze bytes chip a e es k f l rs p = shows_as (plan_of bytes chip) rs ∙ demand_2_walk bytes chip a e es k f l rs p
