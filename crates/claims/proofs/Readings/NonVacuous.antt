-- Demand 3 says something: a plan that covers every clock, a report that is lower, and lists and banks that break the claim.
use Rattle.std.specs.Prelude.{Some, None, Result}
use mathlib.Core.Path.{◌≡◌, refl, sym, ◌∙◌, ap}
use mathlib.Core.Bool.{true, false, cond}
use mathlib.Core.List.{List, [], ◌∷◌}
use Prim.Native.Nat.{ℕ, ◌*◌, ◌/◌, ◌%◌, ◌<◌}
use native.Mathlib.Omega.{arith}
use lib.Dec.{eqb}
use Rattle.types.specs.declared.Refusal.{Refusal}
use Rattle.types.specs.declared.Plan.{Plan}
use Rattle.types.specs.declared.Strategy.TheVariants.{Integer, Fractional}
use Rattle.types.specs.declared.Request.{Request}
use Rattle.types.specs.declared.Entry.{Entry}
use Rattle.types.specs.declared.Entry.TheVariants.{Set, Set2, Set3, Set4, Wait, Wait2, Check, Read}
use Rattle.rules.specs.Document01.Plan.{chosen_plan}
use Rattle.rules.specs.Document01.Entries.{entries_of}
use Rattle.rules.specs.Document01.Bank.{apply_all, reset_bank}
use Rattle.rules.specs.Manual.Path.{pll1, pll2, pll3, by, whole, Path, direct, through, num, den, floored, NoRemainder, Near}
use Rattle.rules.specs.Manual.Tree.{fed_by, none, along, P, Q, R, Clock, sys, hclk, pclk1, pclk2, pclk3, timx, timy, per, hsi, csi, hsi48, lsi, hse, mco1, mco2, output, path_of}
use Rattle.claims.specs.Demands.Report.{reported, hertz_of}
use Rattle.claims.specs.Demands.Readings.{started, steady, Covered, TreeReads, TwoReadings}
use Rattle.rules.proofs.Computes.{by_rules, by_tree}
use Rattle.rules.proofs.Samples.{pll, on_hsi, fullest, state, state3, a, plan_a, plan_in}
use Rattle.claims.proofs.Readings.Link.{plan_reads}

-- D: PLL2 P 12,288,000 in Integer strategy
abbrev d : Request
d = on_hsi (pll Integer (Some 12_288_000) None)

abbrev plan_d : Result Plan Refusal
plan_d = chosen_plan d (state true)

-- ---- clocks covered
pub record SettingA : Type 0 where
  pub sysck : Covered a (plan_in plan_a) (started (plan_in plan_a)) sys 250_000_000
  pub ahb : Covered a (plan_in plan_a) (started (plan_in plan_a)) hclk 250_000_000
  pub apb1 : Covered a (plan_in plan_a) (started (plan_in plan_a)) pclk1 250_000_000
  pub pll1p : Covered a (plan_in plan_a) (started (plan_in plan_a)) (output pll1 P) 250_000_000

pub setting_a : SettingA
unfolding by_rules
setting_a = record {
  sysck = record { report = refl; steady_path = refl };
  ahb = record { report = refl; steady_path = refl };
  apb1 = record { report = refl; steady_path = refl };
  pll1p = record { report = refl; steady_path = refl };
}

-- ---- what the tree gives from the banks of A and D
pub path_a : path_of (apply_all (entries_of plan_a) reset_bank) (fed_by None) pclk1 ≡ along (through pll1 32_000_000 8 (whole 125) (2 ∷ 1 ∷ 1 ∷ []))
unfolding by_tree
path_a = refl

pub path_d : path_of (apply_all (entries_of plan_d) reset_bank) (fed_by None) (output pll2 P) ≡ along (through pll2 32_000_000 18 (whole 235) (34 ∷ []))
unfolding by_tree
path_d = refl

-- D is covered, M leaves a remainder, and the report is lower: 12,287,576 × 612 against 32,000,000 × 235
pub covered_d : Covered d (plan_in plan_d) (started (plan_in plan_d)) (output pll2 P) 12_287_576
unfolding by_rules
covered_d = record { report = refl; steady_path = refl }

pub remainder_d : ¬ (NoRemainder (through pll2 32_000_000 18 (whole 235) (34 ∷ [])))
unfolding NoRemainder
remainder_d h = let z : ◌≡◌ {A = ℕ} (32_000_000 % 18) 0 = h.0 in omega arith

pub lower_d : (12_287_576 * den (through pll2 32_000_000 18 (whole 235) (34 ∷ [])) < num (through pll2 32_000_000 18 (whole 235) (34 ∷ []))) × Near (through pll2 32_000_000 18 (whole 235) (34 ∷ [])) 12_287_576
unfolding by_rules
lower_d =
    let t : TreeReads (apply_all (entries_of plan_d) reset_bank) (fed_by None) (output pll2 P) 12_287_576 = (plan_reads d (state true) (plan_in plan_d) refl).reads (output pll2 P) 12_287_576 covered_d in
    let same : through pll2 32_000_000 18 (whole 235) (34 ∷ []) ≡ t.path = along_same _ _ (sym path_d ∙ t.found) in
    rw same (t.readings.lower (rw (← same) remainder_d))
  where
    along_same : (x y : Path) → along x ≡ along y → x ≡ y
    along_same x y e = cc

-- 1 Hz would not do with a PLL
pub more_than_one_d : 12_287_577 * (18 * 34) < 32_000_000 * 235
more_than_one_d = omega arith

-- ---- clocks that are reported and not covered: PLL2 P in Fractional strategy (C), and PLL2 Q alone, whose PLL is not started: the tree gives it none
abbrev c : Request
c = on_hsi (pll Fractional (Some 12_288_000) None)

abbrev q_alone : Request
q_alone = on_hsi (pll Integer None (Some 48_000_000))

abbrev plan_on : Request → Result Plan Refusal
plan_on q = chosen_plan q (state true)

pub fractional_left_out : hertz_of (reported (plan_in (plan_on c))) (output pll2 P) ≡ Some 12_287_997
unfolding by_rules
fractional_left_out = refl

pub fractional_not_steady : steady c (started (plan_in (plan_on c))) (by pll2) ≡ false
unfolding by_rules
fractional_not_steady = refl

pub q_alone_left_out : hertz_of (reported (plan_in (plan_on q_alone))) (output pll2 Q) ≡ Some 48_000_000
unfolding by_rules
q_alone_left_out = refl

pub q_alone_not_steady : steady q_alone (started (plan_in (plan_on q_alone))) (by pll2) ≡ false
unfolding by_rules
q_alone_not_steady = refl

pub q_alone_dark : path_of (apply_all (entries_of (plan_on q_alone)) reset_bank) (fed_by None) (output pll2 Q) ≡ none
unfolding by_tree
q_alone_dark = refl

-- ---- a plan that covers every clock there is: HSE 8,000,000, three PLLs with all their outputs, both MCOs
abbrev all : Request
all = fullest None None (Some 48_000_000)

abbrev plan_all : Result Plan Refusal
plan_all = chosen_plan all (state3 true true true)

pub all_covered : (k : Clock) → (r : ℕ) × Covered all (plan_in plan_all) (started (plan_in plan_all)) k r
unfolding by_rules
all_covered sys = (250_000_000, record { report = refl; steady_path = refl })
all_covered hclk = (125_000_000, record { report = refl; steady_path = refl })
all_covered pclk1 = (31_250_000, record { report = refl; steady_path = refl })
all_covered pclk2 = (15_625_000, record { report = refl; steady_path = refl })
all_covered pclk3 = (7_812_500, record { report = refl; steady_path = refl })
all_covered timx = (62_500_000, record { report = refl; steady_path = refl })
all_covered timy = (31_250_000, record { report = refl; steady_path = refl })
all_covered per = (8_000_000, record { report = refl; steady_path = refl })
all_covered hsi = (32_000_000, record { report = refl; steady_path = refl })
all_covered csi = (4_000_000, record { report = refl; steady_path = refl })
all_covered hsi48 = (48_000_000, record { report = refl; steady_path = refl })
all_covered lsi = (32_000, record { report = refl; steady_path = refl })
all_covered hse = (8_000_000, record { report = refl; steady_path = refl })
all_covered mco1 = (12_500_000, record { report = refl; steady_path = refl })
all_covered mco2 = (25_000_000, record { report = refl; steady_path = refl })
all_covered (output pll1 P) = (250_000_000, record { report = refl; steady_path = refl })
all_covered (output pll1 Q) = (125_000_000, record { report = refl; steady_path = refl })
all_covered (output pll1 R) = (50_000_000, record { report = refl; steady_path = refl })
all_covered (output pll2 P) = (12_282_352, record { report = refl; steady_path = refl })
all_covered (output pll2 Q) = (24_564_705, record { report = refl; steady_path = refl })
all_covered (output pll2 R) = (6_141_176, record { report = refl; steady_path = refl })
all_covered (output pll3 P) = (30_769_230, record { report = refl; steady_path = refl })
all_covered (output pll3 Q) = (100_000_000, record { report = refl; steady_path = refl })
all_covered (output pll3 R) = (50_000_000, record { report = refl; steady_path = refl })

-- ---- lists that break the claim at A
-- a list without the entries that set field f alone
abbrev without : ℕ → List Entry → List Entry
without f [] = []
without f (Set g v ∷ es) = cond (eqb f g) (without f es) (Set g v ∷ without f es)
without f (Set2 g v h w ∷ es) = Set2 g v h w ∷ without f es
without f (Set3 g v h w k x ∷ es) = Set3 g v h w k x ∷ without f es
without f (Set4 g v h w k x l y ∷ es) = Set4 g v h w k x l y ∷ without f es
without f (Wait g v ∷ es) = Wait g v ∷ without f es
without f (Wait2 g v h w ∷ es) = Wait2 g v h w ∷ without f es
without f (Check g v ∷ es) = Check g v ∷ without f es
without f (Read g ∷ es) = Read g ∷ without f es

-- a list with fields f and g in each other's place
abbrev swap : ℕ → ℕ → ℕ → ℕ
swap f g h = cond (eqb h f) g (cond (eqb h g) f h)

abbrev exchanged : ℕ → ℕ → List Entry → List Entry
exchanged f g [] = []
exchanged f g (Set h v ∷ es) = Set (swap f g h) v ∷ exchanged f g es
exchanged f g (Set2 h v i w ∷ es) = Set2 (swap f g h) v (swap f g i) w ∷ exchanged f g es
exchanged f g (Set3 h v i w k x ∷ es) = Set3 (swap f g h) v (swap f g i) w (swap f g k) x ∷ exchanged f g es
exchanged f g (Set4 h v i w k x l y ∷ es) = Set4 (swap f g h) v (swap f g i) w (swap f g k) x (swap f g l) y ∷ exchanged f g es
exchanged f g (Wait h v ∷ es) = Wait h v ∷ exchanged f g es
exchanged f g (Wait2 h v i w ∷ es) = Wait2 h v i w ∷ exchanged f g es
exchanged f g (Check h v ∷ es) = Check h v ∷ exchanged f g es
exchanged f g (Read h ∷ es) = Read h ∷ exchanged f g es

-- the tree gives a clock that is covered none
lost : (b : List ℕ) → path_of b (fed_by None) sys ≡ none → TwoReadings a (plan_in plan_a) b → ⊥
lost b e h =
    let t = h.reads sys 250_000_000 setting_a.sysck in
    let f : none ≡ along t.path = sym e ∙ t.found in
    let z : ◌≡◌ {A = ℕ} 0 1 = cc in
    omega arith

-- the tree gives it a path that ends with other hertz
differs : (b : List ℕ) (path : Path) → path_of b (fed_by None) sys ≡ along path → (floored path ≡ 250_000_000 → ⊥) → TwoReadings a (plan_in plan_a) b → ⊥
differs b path e n h =
    let t = h.reads sys 250_000_000 setting_a.sysck in
    let f : along path ≡ along t.path = sym e ∙ t.found in
    let same : path ≡ t.path = cc in
    n (ap floored same ∙ sym t.readings.floor)

-- PLL1 ON left out: word 13
pub without_on : TwoReadings a (plan_in plan_a) (apply_all (without 13 (entries_of plan_a)) reset_bank) → ⊥
unfolding by_tree
without_on = lost _ refl

-- PLL1 PEN left out: word 7
pub without_pen : TwoReadings a (plan_in plan_a) (apply_all (without 7 (entries_of plan_a)) reset_bank) → ⊥
unfolding by_tree
without_pen = lost _ refl

-- SW left out: word 67, so that the system clock stays at HSI
pub without_sw : TwoReadings a (plan_in plan_a) (apply_all (without 67 (entries_of plan_a)) reset_bank) → ⊥
unfolding by_tree floored
without_sw = differs _ (direct 32_000_000 []) refl (λ e. let z : ◌≡◌ {A = ℕ} 32_000_000 250_000_000 = e in omega arith)

-- M and N in each other's place: words 2 and 3
pub m_for_n : TwoReadings a (plan_in plan_a) (apply_all (exchanged 2 3 (entries_of plan_a)) reset_bank) → ⊥
unfolding by_tree floored
m_for_n = differs _ (through pll1 32_000_000 124 (whole 9) (2 ∷ [])) refl (λ e. let z : ◌≡◌ {A = ℕ} (32_000_000 / 124 * 9 / 2) 250_000_000 = e in omega arith)

-- a bank call that writes nothing
pub nothing_written : TwoReadings a (plan_in plan_a) reset_bank → ⊥
unfolding by_tree floored
nothing_written = differs _ (direct 32_000_000 []) refl (λ e. let z : ◌≡◌ {A = ℕ} 32_000_000 250_000_000 = e in omega arith)
