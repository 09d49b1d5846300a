-- The walk over a plan shows what freeze does: with reads that let freeze's operations pass, each of them in order, and then finished.
use Rattle.std.specs.Prelude.{Result, Ok, Err, IsOk}
use mathlib.Core.Path.{◌≡◌, refl, sym, ◌∙◌, subst}
use mathlib.Core.List.{List}
use Rattle.types.specs.declared.Refusal.{Refusal}
use Rattle.types.specs.declared.Plan.{Plan}
use Rattle.types.specs.declared.Entry.{Entry}
use Rattle.types.specs.declared.Request.{Request}
use Rattle.types.specs.declared.ChipState.{ChipState}
use Rattle.rules.specs.Document01.Entries.{plan_entries}
use Rattle.rules.specs.Document01.Walk.{fresh_of}
use Rattle.claims.specs.Rust.Run.{Outcome, ends}
use Rattle.claims.specs.Rust.CoreClocks.{CoreClocks}
use Rattle.claims.specs.Demands.Agreement.{AllowsEachP, Agreement}
use Rattle.rules.specs.Stated.Walks.{ShowsAll}
use Rattle.rules.proofs.Document01.Walk.{whole}
use Rattle.laws.proofs.Tests.{never}

-- the operations that freeze ends with are the plan's entries
same_entries : {es fs : List Entry} {k l : CoreClocks} → ends es k ≡ ends fs l → es ≡ fs
same_entries e = cc

-- an answer that is ok is a plan
pub plan_of_ok : (x : Result Plan Refusal) → IsOk x → (p : Plan) × (x ≡ Ok p)
plan_of_ok (Ok p) e = (p, refl)
plan_of_ok (Err n) e = absurd (never (sym e))

-- whose walk shows its list
shows_plan : (x : Result Plan Refusal) (p : Plan) → x ≡ Ok p → ShowsAll (fresh_of x) (plan_entries p)
shows_plan x p e rs h = rw e (whole (plan_entries p) rs h)

pub walk_is_freeze : (q : Request) (c : ChipState) (x : Result Plan Refusal) (o : Outcome CoreClocks) → Agreement q c x o → (es : List Entry) (k : CoreClocks) → o ≡ ends es k → AllowsEachP c es → ShowsAll (fresh_of x) es
walk_is_freeze q c x o a es k f l =
    let y = plan_of_ok x (a.exactly.1 (record { entries = es; clocks = k; end = f; allowed = l })) in
    let s : plan_entries y.0 ≡ es = same_entries (sym (a.planned y.0 y.1) ∙ f) in
    subst (λ (l : List Entry). ShowsAll (fresh_of x) l) s (shows_plan x y.0 y.1)
