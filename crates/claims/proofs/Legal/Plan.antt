-- Every plan is legal: demand 2, the manuals and IEEE 754.
use Rattle.std.specs.Prelude.{Option, None, Ok}
use mathlib.Core.Path.{◌≡◌, refl, subst}
use mathlib.Core.Bool.{Bool, true, false, cond}
use Rattle.types.specs.declared.PllSettings.{PllSettings}
use Rattle.types.specs.declared.Request.{Request}
use Rattle.types.specs.declared.ChipState.{ChipState}
use Rattle.types.specs.declared.Plan.{Plan}
use Rattle.rules.specs.Document01.Request.{source_of, asked_of, configured}
use Rattle.rules.specs.Document01.OnePll.{pll_of, pll_from}
use Rattle.rules.specs.Document01.Plan.{plls_of, hsi_ready, system_from, buses_of, mcos_of, plan_with, chosen_plan, planned_at}
use Rattle.claims.specs.Demands.Legal.{LegalPll, LegalThird, LegalPlan}
use Rattle.rules.proofs.Document01.Results.{Holds, holds_then, holds_next, holds_known}
use Rattle.claims.proofs.Legal.Flash.{flash_asked}
use Rattle.claims.proofs.Legal.OnePll.{pll_legal}
use Rattle.rules.specs.Document01.Chip.{odd_at}
use mathlib.Core.List.{List}

pub record LegalPlls (q : Request) (c : ChipState) (l : List (Option PllSettings)) : Type 0 where
  pub pll1 : LegalPll (odd_at c 0) (source_of q) (asked_of q 0) (pll_from l 0)
  pub pll2 : LegalPll (odd_at c 1) (source_of q) (asked_of q 1) (pll_from l 1)
  pub pll3 : LegalThird c.three (odd_at c 2) (source_of q) (asked_of q 2) (pll_from l 2)

third_legal : (q : Request) (c : ChipState) → Holds (LegalThird c.three (odd_at c 2) (source_of q) (asked_of q 2)) (planned_at q c 2)
third_legal q c = go c.three
  where
    go : (t : Bool) → Holds (LegalThird t (odd_at c 2) (source_of q) (asked_of q 2)) (cond t (pll_of (odd_at c 2) (source_of q) (asked_of q 2)) (Ok None))
    go true = pll_legal (odd_at c 2) (source_of q) (asked_of q 2)
    go false = refl

pub plls_legal : (q : Request) (c : ChipState) → Holds (LegalPlls q c) (plls_of q c)
unfolding plls_of
plls_legal q c =
    holds_next (LegalPlls q c) (configured q) _
    (holds_known (LegalPlls q c) (LegalPll (odd_at c 0) (source_of q) (asked_of q 0)) (planned_at q c 0) _ (pll_legal (odd_at c 0) (source_of q) (asked_of q 0))
    (λ x1 l1. holds_known (LegalPlls q c) (LegalPll (odd_at c 1) (source_of q) (asked_of q 1)) (planned_at q c 1) _ (pll_legal (odd_at c 1) (source_of q) (asked_of q 1))
    (λ x2 l2. holds_known (LegalPlls q c) (LegalThird c.three (odd_at c 2) (source_of q) (asked_of q 2)) (planned_at q c 2) _ (third_legal q c)
    (λ x3 l3. record { pll1 = l1; pll2 = l2; pll3 = l3 }))))

pub chosen_legal : (q : Request) (c : ChipState) → Holds (LegalPlan q c) (chosen_plan q c)
unfolding chosen_plan plan_with
chosen_legal q c =
    holds_known (LegalPlan q c) (LegalPlls q c) (plls_of q c) _ (plls_legal q c)
    (λ l h. holds_next (LegalPlan q c) (hsi_ready c) _
    (holds_then (LegalPlan q c) (buses_of q (system_from q l)) _
    (λ b. holds_then (LegalPlan q c) (mcos_of q l (system_from q l)) _
    (λ m. record { pll1 = h.pll1; pll2 = h.pll2; pll3 = h.pll3; flash = flash_asked b.ahb.clock c.scale }))))

pub plan_legal : (q : Request) (c : ChipState) (p : Plan) → chosen_plan q c ≡ Ok p → LegalPlan q c p
plan_legal q c p e = subst (Holds (LegalPlan q c)) e (chosen_legal q c)
