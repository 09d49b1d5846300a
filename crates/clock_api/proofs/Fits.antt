-- A plan is answered only where the lent slice has its length.
use Rattle.std.specs.Prelude.{Result, Err, IsOk}
use mathlib.Core.Path.{◌≡◌, sym, ◌∙◌, ap}
use mathlib.Core.Bool.{Bool, true, false, cond, ◌&&◌}
use mathlib.Core.List.{List}
use Prim.Native.Nat.{ℕ}
use lib.Dec.{eqb}
use lib.ListN.{length}
use borrow.Author.Tests.{eqb-true}
use Rattle.std.specs.Prelude.{is_ok}
use Rattle.types.specs.declared.Plan.{Plan}
use Rattle.types.specs.declared.Refusal.{Refusal}
use Rattle.types.specs.declared.Refusal.TheVariants.{OutsideCodes}
use Rattle.laws.proofs.Tests.{by_test, never}
use Rattle.rules.specs.Document01.Plan.{plan_of, bank_plan_of}
use Rattle.chip_bytes.specs.Calls.{chip_from, asked_of, bank_asked}

planned_fits : (t : Bool) (n : ℕ) (p : Result Plan Refusal) {x : Result Plan Refusal} → x ≡ cond (t && eqb n 55) p (Err OutsideCodes) → IsOk x → n ≡ 55
planned_fits true n p e a =
    by_test (eqb n 55) (λ (h : eqb n 55 ≡ true). eqb-true n 55 h) (λ (h : eqb n 55 ≡ false). absurd (never (sym a ∙ ap is_ok (rw h at e))))
planned_fits false n p e a = absurd (never (sym a ∙ ap is_ok e))

module _ (request chip : List ℕ) (n : ℕ) {x : Result Plan Refusal} where
  pub asked_fits : x ≡ asked_of request chip (eqb n 55) → IsOk x → n ≡ 55
  unfolding asked_of
  asked_fits = planned_fits (eqb (length chip) 7) n (plan_of request (chip_from chip))

  pub bank_fits : (words : ℕ) → x ≡ bank_asked request chip (eqb n 55) words → IsOk x → n ≡ 55
  unfolding bank_asked
  bank_fits words = planned_fits (eqb (length chip) 7) n (bank_plan_of request (chip_from chip) words)
