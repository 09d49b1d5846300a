-- Demand 3 covers these clocks, and rules these readings out. Lists and banks that break it are in proofs/Readings/NonVacuous.
use Rattle.std.specs.Prelude.{Some, None, Result}
use mathlib.Core.Path.{◌≡◌, refl, sym, ap, ◌∙◌}
use mathlib.Core.Bool.{true, false}
use mathlib.Core.List.{[], ◌∷◌}
use Prim.Native.Nat.{ℕ, ◌≤◌}
use native.Mathlib.Omega.{arith}
use lib.ListN.{set}
use Rattle.types.specs.declared.Refusal.{Refusal}
use Rattle.types.specs.declared.Strategy.TheVariants.{Integer, Fractional}
use Rattle.types.specs.declared.Mco1Source.{Mco1Source}
use Rattle.types.specs.declared.Mco2Source.{Mco2Source}
use Rattle.types.specs.declared.Request.{Request}
use Rattle.types.specs.declared.Plan.{Plan}
use Rattle.rules.specs.Document01.Request.{pll_at}
use Rattle.rules.specs.Document01.Plan.{chosen_plan}
use Rattle.rules.specs.Document01.Entries.{entries_of}
use Rattle.rules.specs.Document01.Bank.{apply_all, reset_bank}
use Rattle.rules.specs.Manual.Path.{PllName, pll1, pll2, no_pll, by, whole, part, direct, through, den, floored, Near, Readings}
use Rattle.rules.specs.Manual.Tree.{fed_by, along, P, Q, Clock, sys, hclk, pclk1, pclk2, pclk3, timx, timy, per, hsi, csi, hsi48, lsi, hse, mco1, mco2, output, number, path_of}
use Rattle.claims.specs.Demands.Report.{reported, hertz_of}
use Rattle.claims.specs.Demands.Readings.{via_of, started, steady, Covered, TwoReadings}
use Rattle.rules.proofs.Computes.{by_rules, by_tree}
use Rattle.rules.proofs.Samples.{pll, asking, nothing, state, a, plan_in}
use Rattle.rules.proofs.Samples as Samples
use Rattle.claims.proofs.Unweakened.Wrong.{slower_a, planned}

-- ---- covered, whatever the rest of the request: every clock reported whose path has no PLL, or one that is started and in Integer strategy
module _ (q : Request) (p : Plan) (k : Clock) (r : ℕ) (report : hertz_of (reported p) k ≡ Some r) where
  pub without_pll : via_of q p k ≡ no_pll → Covered q p (started p) k r
  without_pll v = record { report = report; steady_path = rw v }

  pub by_its_pll : (j : PllName) → via_of q p k ≡ by j → started p j ≡ true → (pll_at q (number j)).strategy ≡ Integer → Covered q p (started p) k r
  by_its_pll j v s i = record { report = report; steady_path = rw (v, s, i) }

-- the path that a clock is said to have, by the request and the plan
pub via_buses : (q : Request) (p : Plan) → p.selectors.sw ≡ 0 → via_of q p sys ∷ via_of q p hclk ∷ via_of q p pclk1 ∷ via_of q p pclk2 ∷ via_of q p pclk3 ∷ via_of q p timx ∷ via_of q p timy ∷ [] ≡ no_pll ∷ no_pll ∷ no_pll ∷ no_pll ∷ no_pll ∷ no_pll ∷ no_pll ∷ []
via_buses q p e = rw e

pub via_none : (q : Request) (p : Plan) → via_of q p per ∷ via_of q p hsi ∷ via_of q p csi ∷ via_of q p hsi48 ∷ via_of q p lsi ∷ via_of q p hse ∷ [] ≡ no_pll ∷ no_pll ∷ no_pll ∷ no_pll ∷ no_pll ∷ no_pll ∷ []
via_none q p = refl

-- ---- a request for nothing, on HSI: a clock with no PLL covered only with an HSE, an LSE or anything else that is requested
abbrev idle : Result Plan Refusal
idle = chosen_plan nothing (state true)

abbrev InIdle : Clock → ℕ → Type 0
InIdle k r = Covered nothing (plan_in idle) (started (plan_in idle)) k r

pub record HsiAlone : Type 0 where
  pub sysck : InIdle sys 32_000_000
  pub ahb : InIdle hclk 32_000_000
  pub apb1 : InIdle pclk1 32_000_000
  pub apb2 : InIdle pclk2 32_000_000
  pub apb3 : InIdle pclk3 32_000_000
  pub timerx : InIdle timx 32_000_000
  pub timery : InIdle timy 32_000_000
  pub peripheral : InIdle per 32_000_000
  pub hsick : InIdle hsi 32_000_000
  pub csick : InIdle csi 4_000_000
  pub hsi48ck : InIdle hsi48 48_000_000
  pub lsick : InIdle lsi 32_000

pub hsi_alone : HsiAlone
unfolding by_rules
hsi_alone = record {
  sysck = record { report = refl; steady_path = refl };
  ahb = record { report = refl; steady_path = refl };
  apb1 = record { report = refl; steady_path = refl };
  apb2 = record { report = refl; steady_path = refl };
  apb3 = record { report = refl; steady_path = refl };
  timerx = record { report = refl; steady_path = refl };
  timery = record { report = refl; steady_path = refl };
  peripheral = record { report = refl; steady_path = refl };
  hsick = record { report = refl; steady_path = refl };
  csick = record { report = refl; steady_path = refl };
  hsi48ck = record { report = refl; steady_path = refl };
  lsick = record { report = refl; steady_path = refl };
}

-- ---- PLL2 in Integer strategy, PLL1 Fractional: a PLL's clock covered only where another is Integer too. MCO2 from PLL2 P
abbrev mixed : Request
mixed = asking None None None None Mco1Source.Hsi (Some 4_000_000) Mco2Source.Pll2P (Some 6_000_000) (pll Fractional (Some 12_288_000) None) (pll Integer (Some 30_000_000) (Some 100_000_000))

abbrev plan_mixed : Result Plan Refusal
plan_mixed = chosen_plan mixed (state true)

abbrev InMixed : Clock → ℕ → Type 0
InMixed k r = Covered mixed (plan_in plan_mixed) (started (plan_in plan_mixed)) k r

pub record Pll2Alone : Type 0 where
  pub p : InMixed (output pll2 P) 30_769_230
  pub q : InMixed (output pll2 Q) 100_000_000
  pub second : InMixed mco2 5_128_205
  pub first : InMixed mco1 4_000_000
  pub sysck : InMixed sys 32_000_000
  -- and of PLL1 none
  pub fractional : steady mixed (started (plan_in plan_mixed)) (by pll1) ≡ false

pub pll2_alone : Pll2Alone
unfolding by_rules
pll2_alone = record {
  p = record { report = refl; steady_path = refl };
  q = record { report = refl; steady_path = refl };
  second = record { report = refl; steady_path = refl };
  first = record { report = refl; steady_path = refl };
  sysck = record { report = refl; steady_path = refl };
  fractional = refl;
}

-- ---- readings
-- a report 1 Hz below what the tree gives: hertz that need not be what the divisions end with
pub slower_a_is : TwoReadings a slower_a (apply_all (entries_of (planned slower_a)) reset_bank) → ⊥
unfolding by_tree floored
slower_a_is h =
    let t = h.reads sys 249_999_999 (record { report = refl; steady_path = refl }) in
    let e : path_of (apply_all (entries_of (planned slower_a)) reset_bank) (fed_by None) sys ≡ along (through pll1 32_000_000 8 (whole 125) (2 ∷ [])) = refl in
    let f : along (through pll1 32_000_000 8 (whole 125) (2 ∷ [])) ≡ along t.path = sym e ∙ t.found in
    let same : through pll1 32_000_000 8 (whole 125) (2 ∷ []) ≡ t.path = cc in
    let z : ◌≡◌ {A = ℕ} 250_000_000 249_999_999 = ap floored same ∙ sym t.readings.floor in
    omega arith

-- a clock that is not covered, through another PLL than its path: MCO2SEL 4, CSI, for PLL2 P in Fractional strategy
abbrev mco_fractional : Request
mco_fractional = asking None None None None Mco1Source.Hsi None Mco2Source.Pll2P (Some 6_000_000) Samples.none (pll Fractional (Some 12_288_000) None)

abbrev plan_fractional : Result Plan Refusal
plan_fractional = chosen_plan mco_fractional (state true)

pub another_way : TwoReadings mco_fractional (plan_in plan_fractional) (set (apply_all (entries_of plan_fractional) reset_bank) 56 4) → ⊥
unfolding by_tree
another_way h =
    let e : by pll2 ≡ no_pll = h.via mco2 (direct 4_000_000 (3 ∷ [])) refl in
    let z : ◌≡◌ {A = ℕ} 0 1 = cc in
    omega arith

-- of a path: a report 1 Hz above; a fraction over 0
pub higher_d : Readings (through pll2 32_000_000 18 (whole 235) (34 ∷ [])) 12_287_577 → ⊥
unfolding floored
higher_d h = let z : ◌≡◌ {A = ℕ} 12_287_577 12_287_576 = h.floor in omega arith

pub over_0 : Readings (direct 0 (0 ∷ [])) 0 → ⊥
unfolding den
over_0 h = let z : 1 ≤ 0 = h.proper in omega arith

-- the bound wider by 1 Hz: with N, with FRACN, without a PLL, each as low as it may be and 1 Hz lower
pub near_whole : Near (through pll2 32_000_000 18 (whole 235) (34 ∷ [])) 12_287_574 × (Near (through pll2 32_000_000 18 (whole 235) (34 ∷ [])) 12_287_573 → ⊥)
unfolding Near
near_whole = (omega arith, λ h. omega (arith, h))

pub near_part : Near (through pll2 32_000_000 18 (part 235 66) (34 ∷ [])) 12_287_996 × (Near (through pll2 32_000_000 18 (part 235 66) (34 ∷ [])) 12_287_995 → ⊥)
unfolding Near
near_part = (omega arith, λ h. omega (arith, h))

pub near_direct : Near (direct 32_000_000 (3 ∷ 7 ∷ [])) 1_523_809 × (Near (direct 32_000_000 (3 ∷ 7 ∷ [])) 1_523_808 → ⊥)
unfolding Near
near_direct = (omega arith, λ h. omega (arith, h))
