-- The claims of specs/Demands taken at their word, for every request, chip and answer: a premise more, or a part less, and one of these is
-- refused. Nothing is shown here of the planner.
use Rattle.std.specs.Result.{result_ok}
use Rattle.std.specs.Prelude.{None, Result, Ok, Err, IsOk}
use mathlib.Core.Path.{◌≡◌, refl}
use mathlib.Core.Logic.{◌⊎◌, ◌↔◌}
use mathlib.Core.Bool.{Bool, true, false}
use mathlib.Core.List.{List, [], ◌∷◌, ◌++◌, map}
use Prim.Native.Nat.{ℕ, ◌*◌, ◌≤◌, ◌<◌}
use Rattle.types.specs.declared.Request.{Request}
use Rattle.types.specs.declared.Chip.{Chip}
use Rattle.types.specs.declared.Hsidiv.{Hsidiv}
use Rattle.types.specs.declared.ChipState.{ChipState}
use Rattle.types.specs.declared.Scale.TheVariants.{Scale0}
use Rattle.types.specs.declared.Entry.{Entry}
use Rattle.types.specs.declared.Shown.TheVariants.{Next, Finished}
use Rattle.types.specs.declared.Refusal.{Refusal}
use Rattle.types.specs.declared.Plan.{Plan}
use Rattle.rules.specs.Document01.Refusals.{number_of}
use Rattle.rules.specs.Document01.Request.{source_of, asked_of}
use Rattle.types.specs.declared.Asked.{Asked}
use Rattle.rules.specs.Document01.Plan.{request_of}
use Rattle.rules.specs.Document01.Entries.{entries_of, plan_entries, pll_in}
use Rattle.rules.specs.Document01.Bank.{apply_all, reset_bank}
use Rattle.claims.specs.Rust.Run.{Outcome, panics, ends}
use Rattle.claims.specs.Rust.CoreClocks.{CoreClocks}
use Rattle.claims.specs.Rust.Rcc.{frozen}
use Rattle.rules.specs.Manual.Path.{Path, pll_on, num, den, floored, NoRemainder, Near, Readings}
use Rattle.rules.specs.Manual.Tree.{fed_by, Clock, among, along, path_of}
use Rattle.rules.specs.Manual.WaitStates.{rows, highest, waits, asks}
use Rattle.claims.specs.Demands.Report.{reported}
use Rattle.rules.specs.Document01.Walk.{Stand, stepped_of}
use Rattle.rules.specs.Stated.Walks.{Pair, Satisfy, ShowsAll, shows}
use Rattle.claims.specs.Demands.Agreement.{Cause, Departure, EndsAllowed, Agreement}
use Rattle.claims.specs.Demands.Legal.{LegalPll, LegalPlan}
use Rattle.claims.specs.Demands.Readings.{via_of, started, Covered, TwoReadings}
use Rattle.claims.specs.Demands.Calls.{Answered, Kept, AsFreeze, IsLegal, ReadTwice, BankReadTwice}
use Rattle.rules.specs.Document01.Chip.{odd_at}

-- ---- the calls
module _ (bytes : List ℕ) (chip : Chip) (x : Result Plan Refusal) (a : Asked) (e : request_of bytes chip ≡ Ok a) where
  pub as_freeze : AsFreeze bytes chip x → Agreement a.request a.chip x (frozen a.request a.chip)
  as_freeze h = h a e

  pub is_legal : IsLegal bytes chip x → (p : Plan) → x ≡ Ok p → LegalPlan a.request a.chip p
  is_legal h p = h a p e

  pub read_twice : ReadTwice bytes chip x → (p : Plan) → x ≡ Ok p → TwoReadings a.request p (apply_all (entries_of x) reset_bank)
  read_twice h = h a e

  pub bank_read_twice : (b b₁ : List ℕ) → BankReadTwice bytes chip x b b₁ → (p : Plan) → x ≡ Ok p → b ≡ reset_bank → TwoReadings a.request p b₁
  bank_read_twice b b₁ h = h a e

module _ (x : Result Plan Refusal) (n : Refusal) (e : x ≡ Err n) where
  pub listed : (ns : List ℕ) → Answered ns x → among ns (number_of n) ≡ true
  listed ns h = h.refusal n e

  pub blank : (ns : List ℕ) → Answered ns x → result_ok x ≡ None
  blank ns h = h.blank n e

  pub kept : (b b₁ : List ℕ) → Kept x b b₁ → b₁ ≡ b
  kept b b₁ h = h n e

-- ---- demand 2
module _ (q : Request) (c : ChipState) (x : Result Plan Refusal) where
  pub plan_exactly : (o : Outcome CoreClocks) → Agreement q c x o → IsOk x ↔ EndsAllowed c o
  plan_exactly o h = h.exactly

  pub plan_ends : (o : Outcome CoreClocks) → Agreement q c x o → (p : Plan) → x ≡ Ok p → o ≡ ends (plan_entries p) (reported p)
  plan_ends o h = h.planned

  pub panic_refused : Agreement q c x panics → (n : Refusal) × (x ≡ Err n)
  panic_refused h = h.panicked refl

module _ (q : Request) (c : ChipState) (x : Result Plan Refusal) (n : Refusal) (e : x ≡ Err n) where
  pub refused : (o : Outcome CoreClocks) → Agreement q c x o → (number_of n ≡ 14 → ⊥) → (number_of n ≡ 15 → ⊥) → o ≡ panics
  refused o h = h.refused n e

  pub caused : (o : Outcome CoreClocks) → Agreement q c x o → (number_of n ≡ 14) ⊎ (number_of n ≡ 15) → Cause q c n
  caused o h = h.caused n e

  pub departed : (es : List Entry) (k : CoreClocks) → Agreement q c x (ends es k) → Departure q c n es
  departed es k h = h.departed n es k e refl

-- whether a PLL may divide P by an odd number, by its number
pub odd_by_number : (odd1 odd2 odd3 : Bool) → map (odd_at (record { three = true; odd = odd1 ∷ odd2 ∷ odd3 ∷ []; scale = Scale0; hsion = true; hsidiv = Hsidiv.Div2 })) (0 ∷ 1 ∷ 2 ∷ []) ≡ odd1 ∷ odd2 ∷ odd3 ∷ []
odd_by_number odd1 odd2 odd3 = refl

module _ (q : Request) (c : ChipState) (p : Plan) (h : LegalPlan q c p) where
  pub first_pll : LegalPll (odd_at c 0) (source_of q) (asked_of q 0) (pll_in p 0)
  first_pll = h.pll1

  pub second_pll : LegalPll (odd_at c 1) (source_of q) (asked_of q 1) (pll_in p 1)
  second_pll = h.pll2

  pub third_pll : c.three ≡ true → LegalPll (odd_at c 2) (source_of q) (asked_of q 2) (pll_in p 2)
  third_pll e = rw e at h.pll3

  pub no_third_pll : c.three ≡ false → pll_in p 2 ≡ None
  no_third_pll e = rw e at h.pll3

  pub wait_states : p.buses.ahb.clock ≤ highest c.scale * 1_000_000 → asks (rows c.scale) p.buses.ahb.clock ≡ waits p.waits.latency p.waits.delay
  wait_states = h.flash

-- ---- demand 3
module _ (q : Request) (p : Plan) (b : List ℕ) (h : TwoReadings q p b) (k : Clock) where
  pub read : (r : ℕ) → Covered q p (started p) k r → (path : Path) × (path_of b (fed_by q.hse) k ≡ along path) × Readings path r
  read r c = let t = h.reads k r c in (t.path, t.found, t.readings)

  pub same_pll : (path : Path) → path_of b (fed_by q.hse) k ≡ along path → via_of q p k ≡ pll_on path
  same_pll path e = h.via k path e

module _ (p : Path) (r : ℕ) (h : Readings p r) where
  pub reads_floor : r ≡ floored p
  reads_floor = h.floor

  pub reads_equal : (r * den p ≡ num p) ↔ NoRemainder p
  reads_equal = h.equal

  pub reads_lower : ¬ (NoRemainder p) → (r * den p < num p) × Near p r
  reads_lower = h.lower

-- ---- the walks
pub shows_all : (s : Stand) (es : List Entry) → ShowsAll s es → (rs : List Pair) → Satisfy es rs → shows stepped_of s rs ≡ map Next es ++ (Finished ∷ [])
shows_all s es h = h
