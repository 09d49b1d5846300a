-- Where a plan and Rcc::freeze could part: what freeze does of its own with a plan's numbers, from rcc.rs, stated apart from document 01's
-- definitions. Today both are the same for every plan (`freezes_as_planned`, proofs/Agreement/Freezes): only 14 and 15 depart.
use Rattle.std.specs.Prelude.{List, [], ◌∷◌, ◌++◌, ℕ, ◌/◌, Option, Some, None, unwrap_or}
use Rattle.types.specs.declared.PllSettings.{PllSettings}
use Rattle.types.specs.declared.Entry.{Entry}
use Rattle.types.specs.declared.Entry.TheVariants.{Set, Wait}
use Rattle.types.specs.declared.Bus.{Bus}
use Rattle.types.specs.declared.Buses.{Buses}
use Rattle.types.specs.declared.Plan.{Plan}
use Rattle.types.specs.declared.Request.{Request}
use Rattle.types.specs.declared.ChipState.{ChipState}
use Rattle.rules.specs.Document01.Hertz.{ratio_of}
use Rattle.rules.specs.Document01.OnePll.{pll_from, p_clock}
use Rattle.rules.specs.Document01.Buses.{RatioRow, ◌gives◌, divisor_by}
use Rattle.rules.specs.Document01.Plan.{plan_with}
use Rattle.rules.specs.Document01.Fields
use Rattle.rules.specs.Document01.Fields.{of_pll}
use Rattle.rules.specs.Document01.Entries.{list_with, plan_entries}
use Rattle.claims.specs.Rust.CoreClocks.{CoreClocks}
use Rattle.claims.specs.Demands.Report.{reported}

-- what comes out of freeze: its operations in order, and its clocks
pub record Freezes : Type 0 where
  pub entries : List Entry
  pub clocks : CoreClocks

-- ---- freeze's own bus divisors
-- match sys_ck.div_ceil(rcc_hclk)
abbrev pub freeze_ahb_rows : List RatioRow
freeze_ahb_rows = 1 gives 1 ∷ 2 gives 2 ∷ 5 gives 4 ∷ 11 gives 8 ∷ 39 gives 16 ∷ 95 gives 64 ∷ 191 gives 128 ∷ 383 gives 256 ∷ []

-- and _ => 512
abbrev pub freeze_hpre : (ratio : ℕ) → ℕ
freeze_hpre = divisor_by freeze_ahb_rows 512

-- ppre_calculate!
abbrev pub freeze_apb_rows : List RatioRow
freeze_apb_rows = 1 gives 1 ∷ 2 gives 2 ∷ 5 gives 4 ∷ 11 gives 8 ∷ []

-- and _ => Div16
abbrev pub freeze_ppre : (ratio : ℕ) → ℕ
freeze_ppre = divisor_by freeze_apb_rows 16

-- a bus by its rows; unset means the clock before it
abbrev pub freeze_bus : (divisor_of : ℕ → ℕ) → (clock : ℕ) → Option ℕ → Bus
freeze_bus divisor_of clock h = record { pre = divisor_of (ratio_of clock (unwrap_or h clock)); clock = clock / divisor_of (ratio_of clock (unwrap_or h clock)) }

-- rcc_hclk, then each rcc_pclk from it
abbrev pub freeze_buses : Request → (system : ℕ) → Buses
freeze_buses q system = record {
  ahb = freeze_bus freeze_hpre system q.ahb;
  apb1 = freeze_bus freeze_ppre (freeze_bus freeze_hpre system q.ahb).clock q.apb1;
  apb2 = freeze_bus freeze_ppre (freeze_bus freeze_hpre system q.ahb).clock q.apb2;
  apb3 = freeze_bus freeze_ppre (freeze_bus freeze_hpre system q.ahb).clock q.apb3;
}

-- ---- freeze's own starts
-- if pllX_p_ck.is_some()
abbrev pub started_by_p : (k : ℕ) → (p : Option ℕ) → List Entry
started_by_p k None = []
started_by_p k (Some h) = Set (of_pll k Fields.ON) 1 ∷ Wait (of_pll k Fields.RDY) 1 ∷ []

-- PLL1, PLL2, PLL3
abbrev pub freeze_starts : List (Option PllSettings) → List Entry
freeze_starts l = started_by_p 0 (p_clock (pll_from l 0)) ++ (started_by_p 1 (p_clock (pll_from l 1)) ++ started_by_p 2 (p_clock (pll_from l 2)))

-- ---- both
-- a plan with freeze's own buses in it
abbrev pub freeze_plan : Request → ChipState → Plan → Plan
freeze_plan q c p = plan_with q c p.plls (freeze_buses q p.clocks.sys) p.mcos

-- what freeze makes of a plan
abbrev pub freezes_of : Request → ChipState → Plan → Freezes
freezes_of q c p = record { entries = list_with freeze_starts (freeze_plan q c p); clocks = reported (freeze_plan q c p) }

-- a plan's own list and clocks: as long as nothing departs
abbrev pub as_planned : Plan → Freezes
as_planned p = record { entries = plan_entries p; clocks = reported p }
