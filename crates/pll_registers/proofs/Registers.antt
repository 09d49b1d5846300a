-- Document 02, Item 1: the theorems.
use Rattle.std.specs.Prelude.{Option, Some, None, Ok}
use mathlib.Core.Path.{◌≡◌, refl, sym, ◌∙◌, ap, subst}
use mathlib.Core.Bool.{Bool, true, false, cond}
use mathlib.Core.List.{List, [], ◌∷◌, ◌++◌}
use Prim.Native.Nat.{ℕ, zero, suc, ◌+◌, ◌*◌, ◌≤◌, ◌<◌}
use native.Mathlib.Nat.{mod-eq_of_lt}
use native.Mathlib.Omega.{arith}
use lib.ListN.{length, get_or}
use Rattle.types.specs.declared.PllSettings.{PllSettings}
use Rattle.types.specs.declared.Chip.{Chip}
use Rattle.types.specs.declared.PllRequest.{PllRequest}
use Rattle.types.specs.declared.Plan.{Plan}
use Rattle.laws.proofs.Tests.{never}
use Rattle.rules.specs.Document01.Fields.{of_pll}
use Rattle.rules.specs.Document01.Request.{source_of, asked_of}
use Rattle.rules.specs.Document01.OnePll.{wanted}
use Rattle.rules.specs.Document01.Entries.{pll_in, entries_of}
use Rattle.rules.specs.Document01.Bank.{apply_all, reset_bank}
use Rattle.rules.specs.Document01.Chip.{odd_at}
use Rattle.types.specs.declared.Asked.{Asked}
use Rattle.rules.specs.Document01.Plan.{src_of, request_of, plan_of}
use Rattle.rules.specs.Words.{stored_from}
use Rattle.rules.specs.Manual.Tree.{word}
use Rattle.claims.proofs.Readings.Words.{bank_of}
use Rattle.claims.specs.Demands.Legal.{LegalPll}
use Rattle.pll_registers.specs.declared.PllFields.{PllFields}
use Rattle.pll_registers.specs.Fields.{fields_of}
use Rattle.pll_registers.specs.Registers.{cfgr_of, divr_of, fracr_of, packed}
use Rattle.pll_registers.specs.Calls.{registers_at, plan_registers}
use Rattle.pll_registers.specs.Stated.{Hold, Fit}
use Rattle.pll_registers.proofs.Bits.{hold}
use Rattle.pll_registers.proofs.Fit.{src_fits, pll_fits}
use Rattle.pll_registers.proofs.Bank.{are}
use Rattle.pll_registers.proofs.Planned.{Known, asked, known}
use Rattle.pll_registers.proofs.Stored.{stored_at}

-- ---- the three words of PLL k, among those of a plan
record At (p : Plan) (k : ℕ) : Type 0 where
  cfgr : get_or (plan_registers p) (3 * k) 0 ≡ cfgr_of (fields_of p.selectors.src (pll_in p k))
  divr : get_or (plan_registers p) (3 * k + 1) 0 ≡ divr_of (fields_of p.selectors.src (pll_in p k))
  fracr : get_or (plan_registers p) (3 * k + 2) 0 ≡ fracr_of (fields_of p.selectors.src (pll_in p k))
  there : 3 * k + 2 < length (plan_registers p)

at : (p : Plan) (k : ℕ) → k < 3 → (k ≡ 2 → p.three ≡ true) → At p k
at p zero h t = record { cfgr = refl; divr = refl; fracr = refl; there = omega arith }
at p (suc zero) h t = record { cfgr = refl; divr = refl; fracr = refl; there = omega arith }
at p (suc (suc zero)) h t = rw (t refl) (record { cfgr = refl; divr = refl; fracr = refl; there = omega arith })
at p (suc (suc (suc k))) h t = absurd (omega arith)

few : (p : Plan) → length (plan_registers p) ≤ 9
few p = go p.three
  where
    go : (t : Bool) → length (registers_at p 0 ++ (registers_at p 1 ++ cond t (registers_at p 2) [])) ≤ 9
    go true = omega arith
    go false = omega arith

-- ---- an idle PLL
pub idle_words : (src : ℕ) → src < 4 → packed (fields_of src None) ≡ src ∷ 0 ∷ 0 ∷ []
unfolding cfgr_of divr_of fracr_of
idle_words src h = rw (mod-eq_of_lt h) (ap (λ (x : ℕ). x ∷ 0 ∷ 0 ∷ []) (let n : src * 1 + 0 + 0 + 0 + 0 + 0 + 0 + 0 ≡ src = omega arith in n))

idle_of : (odd : Bool) (source : ℕ) (a : PllRequest) (x : Option PllSettings) → wanted a ≡ false → LegalPll odd source a x → x ≡ None
idle_of odd source a None w l = refl
idle_of odd source a (Some s) w l = absurd (never (sym l.asked ∙ w))

module _ (bytes : List ℕ) (chip : Chip) (plan : Plan) (accepted : plan_of bytes chip ≡ Ok plan) where
  -- what is chosen for PLL k
  abbrev chosen : ℕ → PllFields
  chosen k = fields_of plan.selectors.src (pll_in plan k)

  -- its three words hold its fields of a bank
  abbrev Holds : ℕ → List ℕ → Type 0
  Holds k b = Hold (cfgr_of (chosen k)) (divr_of (chosen k)) (fracr_of (chosen k)) (λ f. word b (of_pll k f))

  by_list : bank_of plan ≡ apply_all (entries_of (plan_of bytes chip)) reset_bank
  unfolding bank_of entries_of
  by_list = rw accepted

  module _ (k : ℕ) (h : k < chip.plls) where
    fit_of : (a : Asked) → Known chip a plan → Fit (chosen k)
    fit_of a g =
        pll_fits _ (odd_at a.chip k) (source_of a.request) (asked_of a.request k) (pll_in plan k) (rw g.src (src_fits a.request.hse)) (g.legal k h)

    hold_of : (a : Asked) → Known chip a plan → Holds k (apply_all (entries_of (plan_of bytes chip)) reset_bank)
    hold_of a g =
        subst (Holds k) by_list
        (hold (chosen k) (fit_of a g) (λ f. word (bank_of plan) (of_pll k f))
        (are plan k (g.below k h) (g.three k h) (odd_at a.chip k) (source_of a.request) (asked_of a.request k) (pll_in plan k) refl (g.legal k h)))

    -- every field of a plan fits its bits: nothing is lost by a mask
    pub fields_fit : Fit (chosen k)
    fields_fit = let x = asked bytes chip plan accepted in fit_of x.0 (known bytes chip x.0 x.1 plan accepted)

    -- each field in the words is the bank's word of that field after the whole list from reset values
    pub words_hold : Holds k (apply_all (entries_of (plan_of bytes chip)) reset_bank)
    words_hold = let x = asked bytes chip plan accepted in hold_of x.0 (known bytes chip x.0 x.1 plan accepted)

    -- where nine words are lent and a plan's are stored
    pub stored_hold : (b b₁ : List ℕ) → length b ≡ 9 → b₁ ≡ stored_from b 0 (plan_registers plan) → Hold (word b₁ (3 * k)) (word b₁ (3 * k + 1)) (word b₁ (3 * k + 2)) (λ f. word (apply_all (entries_of (plan_of bytes chip)) reset_bank) (of_pll k f))
    stored_hold b b₁ n e =
        let x = asked bytes chip plan accepted in
        let g = known bytes chip x.0 x.1 plan accepted in
        let t = at plan k (g.below k h) (g.three k h) in
        let room : length (plan_registers plan) ≤ length b = rw n (few plan) in
        let w = plan_registers plan in
        rw (
          e,
          stored_at b w (3 * k) (omega (arith, t.there)) room,
          stored_at b w (3 * k + 1) (omega (arith, t.there)) room,
          stored_at b w (3 * k + 2) t.there room,
          t.cfgr,
          t.divr,
          t.fracr,
        ) words_hold

    -- a PLL with no output requested has its source bits alone: 1 HSI, 3 HSE
    pub idle_alone : (a : Asked) → request_of bytes chip ≡ Ok a → wanted (asked_of a.request k) ≡ false → registers_at plan k ≡ src_of a.request.hse ∷ 0 ∷ 0 ∷ []
    idle_alone a is w =
        let g = known bytes chip a is plan accepted in
        rw (idle_of (odd_at a.chip k) (source_of a.request) (asked_of a.request k) (pll_in plan k) w (g.legal k h), g.src) (idle_words (src_of a.request.hse) (src_fits a.request.hse))
