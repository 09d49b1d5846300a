-- What is known of a request that is answered with a plan: its source, its PLLs, and how many the chip has.
use Rattle.std.specs.Prelude.{Result, Ok}
use mathlib.Core.Path.{◌≡◌, refl, ◌∙◌, subst, sym}
use mathlib.Core.Bool.{Bool, true, false, ◌||◌, ◌&&◌}
use mathlib.Core.List.{List}
use Prim.Native.Nat.{ℕ, zero, suc, ◌≤◌, ◌<◌}
use native.Mathlib.Omega.{arith}
use lib.Dec.{eqb, ltb}
use borrow.Author.Tests.{eq-eqb, eqb-true}
use Rattle.types.specs.declared.Refusal.{Refusal}
use Rattle.types.specs.declared.Chip.{Chip}
use Rattle.types.specs.declared.Request.{Request}
use Rattle.types.specs.declared.ChipState.{ChipState}
use Rattle.types.specs.declared.Plan.{Plan}
use Rattle.types.specs.declared.Refusal.TheVariants.{OutsideCodes}
use Rattle.rules.specs.Document01.Result.{require}
use Rattle.rules.specs.Document01.Chip.{is_bit, is_hsidiv, permission, chip_of, odd_at}
use Rattle.rules.specs.Document01.Bytes.{request_part}
use Rattle.rules.specs.Document01.Request.{source_of, asked_of}
use Rattle.rules.specs.Document01.Entries.{pll_in}
use Rattle.types.specs.declared.Asked.{Asked}
use Rattle.rules.specs.Document01.Plan.{src_of, plls_of, hsi_ready, system_from, buses_of, mcos_of, plan_with, chosen_plan, request_of, plan_of}
use Rattle.rules.proofs.Document01.Results.{Holds, holds_then, holds_next, holds_tested, holds_known, bind_ok}
use Rattle.claims.specs.Demands.Legal.{LegalPll, LegalThird, LegalPlan}
use Rattle.claims.proofs.Demands.{typed, demand_2_legal}

-- ---- the source that the plan has, and whether there are three PLLs
unfoldable Taken : Request → ChipState → Plan → Type 0
Taken q c p = (p.selectors.src ≡ src_of q.hse) × (p.three ≡ c.three)

chosen_takes : (q : Request) (c : ChipState) → Holds (Taken q c) (chosen_plan q c)
unfolding chosen_plan plan_with Taken
chosen_takes q c =
    holds_then (Taken q c) (plls_of q c) _
    (λ l. holds_next (Taken q c) (hsi_ready c) _
    (holds_then (Taken q c) (buses_of q (system_from q l)) _ (λ b. holds_then (Taken q c) (mcos_of q l (system_from q l)) _ (λ m. (refl, refl)))))

-- ---- the chip's PLLs: two or three
record Counted (plls : ℕ) (three : Bool) : Type 0 where
  most : plls ≤ 3
  third : plls ≡ 3 → three ≡ true

either : (n : ℕ) (a : Bool) → eqb n 2 ≡ a → a || eqb n 3 ≡ true → n ≤ 3
either n true e t = omega (arith, eqb-true n 2 e)
either n false e t = omega (arith, eqb-true n 3 t)

chip_counts : (chip : Chip) → Holds (λ (c : ChipState). Counted chip.plls c.three) (chip_of chip)
unfolding chip_of
chip_counts chip =
    let P : ChipState → Type 0 = λ c. Counted chip.plls c.three in
    holds_tested P (eqb chip.plls 2 || eqb chip.plls 3) OutsideCodes _
    (λ t. holds_next P (require (is_bit (permission chip 0) && (is_bit (permission chip 1) && is_bit (permission chip 2))) OutsideCodes) _
    (holds_next P (require (ltb chip.scale 4) OutsideCodes) _
    (holds_next P (require (is_bit chip.hsion) OutsideCodes) _
    (holds_next P (require (is_hsidiv chip.hsidiv) OutsideCodes) _
    (record { most = either chip.plls (eqb chip.plls 2) refl t; third = λ e. eq-eqb chip.plls 3 e })))))

asked_counts : (bytes : List ℕ) (chip : Chip) → Holds (λ a. Counted chip.plls a.chip.three) (request_of bytes chip)
unfolding request_of
asked_counts bytes chip =
    holds_known _ (λ c. Counted chip.plls c.three) (chip_of chip) _ (chip_counts chip) (λ c h. holds_then _ (request_part c.three bytes) _ (λ q. h))

counted : (bytes : List ℕ) (chip : Chip) (r : Result Asked Refusal) (a : Asked) → Holds (λ x. Counted chip.plls x.chip.three) r → r ≡ Ok a → Counted chip.plls a.chip.three
counted bytes chip r a h e = subst (Holds (λ x. Counted chip.plls x.chip.three)) e h

-- ---- all of it
pub record Known (chip : Chip) (a : Asked) (p : Plan) : Type 0 where
  pub src : p.selectors.src ≡ src_of a.request.hse
  pub three : (k : ℕ) → k < chip.plls → k ≡ 2 → p.three ≡ true
  pub below : (k : ℕ) → k < chip.plls → k < 3
  pub legal : (k : ℕ) → k < chip.plls → LegalPll (odd_at a.chip k) (source_of a.request) (asked_of a.request k) (pll_in p k)

third_legal : (three odd : Bool) (source : ℕ) (a : Asked) (p : Plan) → three ≡ true → LegalThird three odd source (asked_of a.request 2) (pll_in p 2) → LegalPll odd source (asked_of a.request 2) (pll_in p 2)
third_legal true odd source a p t l = l
third_legal false odd source a p t l = absurd (let z : ◌≡◌ {A = ℕ} 0 1 = cc in omega arith)

module _ (bytes : List ℕ) (chip : Chip) where
  -- an answer with a plan is that of a request
  pub asked : (p : Plan) → plan_of bytes chip ≡ Ok p → (a : Asked) × (request_of bytes chip ≡ Ok a)
  unfolding plan_of
  asked p e = let t = bind_ok (request_of bytes chip) (λ a. chosen_plan a.request a.chip) p e in (t.0, t.1)

  module _ (a : Asked) (is : request_of bytes chip ≡ Ok a) (p : Plan) (accepted : plan_of bytes chip ≡ Ok p) where
    legal_plan : LegalPlan a.request a.chip p
    legal_plan = demand_2_legal bytes chip a p is accepted

    taken : Taken a.request a.chip p
    taken = subst (Holds (Taken a.request a.chip)) (sym (typed bytes chip a is) ∙ accepted) (chosen_takes a.request a.chip)

    counts : Counted chip.plls a.chip.three
    counts = counted bytes chip (request_of bytes chip) a (asked_counts bytes chip) is

    legal_at : (k : ℕ) → k < chip.plls → LegalPll (odd_at a.chip k) (source_of a.request) (asked_of a.request k) (pll_in p k)
    legal_at zero h = legal_plan.pll1
    legal_at (suc zero) h = legal_plan.pll2
    legal_at (suc (suc zero)) h =
        third_legal a.chip.three (odd_at a.chip 2) (source_of a.request) a p (counts.third (omega (arith, h, counts.most))) legal_plan.pll3
    legal_at (suc (suc (suc k))) h = absurd (omega (arith, h, counts.most))

    pub known : Known chip a p
    unfolding Taken
    known = record {
      src = taken.0;
      three = λ k h e. taken.1 ∙ counts.third (omega (arith, h, e, counts.most));
      below = λ k h. omega (arith, h, counts.most);
      legal = legal_at;
    }
