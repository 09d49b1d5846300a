-- Document 01, Register entries: the list of a plan, in order, segment by segment.
use Rattle.std.specs.Prelude.{List, [], ◌∷◌, ◌++◌, Bool, true, false, cond, ℕ, ◌-◌, ltb, Option, Some, None, Result, Ok, Err}
use Rattle.types.specs.declared.Refusal.{Refusal}
use Rattle.types.specs.declared.Entry.{Entry}
use Rattle.types.specs.declared.Entry.TheVariants.{Set, Set2, Set3, Set4, Wait, Wait2, Check}
use Rattle.types.specs.declared.PllOutput.{PllOutput}
use Rattle.types.specs.declared.PllSettings.{PllSettings}
use Rattle.types.specs.declared.Waits.{Waits}
use Rattle.types.specs.declared.Selectors.{Selectors}
use Rattle.types.specs.declared.Buses.{Buses}
use Rattle.types.specs.declared.Mcos.{Mcos}
use Rattle.types.specs.declared.Plan.{Plan}
use Rattle.rules.specs.Document01.OnePll.{pll_from}
use Rattle.rules.specs.Document01.Fields.{of_pll}
use Rattle.rules.specs.Document01.Fields

-- for P, Q, R: divider − 1 then enable, or disable alone
abbrev pub output_entries : (divider enable : ℕ) → Option PllOutput → List Entry
output_entries divider enable None = Set enable 0 ∷ []
output_entries divider enable (Some o) = Set divider (o.divider - 1) ∷ Set enable 1 ∷ []

-- if Fractional FRACN, FRACEN 0, FRACEN 1
abbrev pub fraction_entries : (k : ℕ) → Option ℕ → List Entry
fraction_entries k None = []
fraction_entries k (Some f) = Set (of_pll k Fields.FRACN) f ∷ Set (of_pll k Fields.FRACEN) 0 ∷ Set (of_pll k Fields.FRACEN) 1 ∷ []

-- VCOSEL; RGE; M; N − 1
abbrev pub base_entries : (k : ℕ) → PllSettings → List Entry
base_entries k s =
    Set (of_pll k Fields.VCOSEL) s.vcosel ∷ Set (of_pll k Fields.RGE) s.rge ∷ Set (of_pll k Fields.M) s.m
    ∷ Set (of_pll k Fields.N) (s.n - 1) ∷ []

-- what sets PLL k up, from 0
unfoldable pub setting_entries : (k : ℕ) → PllSettings → List Entry
setting_entries k s =
    base_entries k s
    ++ (fraction_entries k s.fraction
    ++ (output_entries (of_pll k Fields.P) (of_pll k Fields.PEN) s.p
    ++ (output_entries (of_pll k Fields.Q) (of_pll k Fields.QEN) s.q
    ++ output_entries (of_pll k Fields.R) (of_pll k Fields.REN) s.r)))

-- a PLL that is skipped adds none
abbrev pub setup_entries : (k : ℕ) → Option PllSettings → List Entry
setup_entries k None = []
setup_entries k (Some s) = setting_entries k s

-- PLL k of a plan, from 0
abbrev pub pll_in : Plan → ℕ → Option PllSettings
pll_in p k = pll_from p.plls k

-- PRFTEN: 1 if latency is above 0
abbrev pub prften_of : ℕ → ℕ
prften_of latency = cond (ltb 0 latency) 1 0

-- for each PLL, what sets it up
abbrev pub setups : List (Option PllSettings) → List Entry
setups l = setup_entries 0 (pll_from l 0) ++ (setup_entries 1 (pll_from l 1) ++ setup_entries 2 (pll_from l 2))

-- LSI; flash
abbrev pub flash_entries : Waits → List Entry
flash_entries w =
    Set Fields.LSION 1 ∷ Wait Fields.LSIRDY 1
    ∷ Set3 Fields.WRHIGHFREQ w.delay Fields.LATENCY w.latency Fields.PRFTEN (prften_of w.latency) ∷ Wait Fields.LATENCY w.latency ∷ []

-- CSI; HSI48; the MCOs
abbrev pub oscillator_entries : Selectors → Mcos → List Entry
oscillator_entries s m =
    Set Fields.CSION 1 ∷ Wait Fields.CSIRDY 1
    ∷ Set Fields.HSI48ON 1 ∷ Wait Fields.HSI48RDY 1
    ∷ Set4 Fields.MCO1SEL s.mco1sel Fields.MCO1PRE m.mco1.pre Fields.MCO2SEL s.mco2sel Fields.MCO2PRE m.mco2.pre ∷ []

-- LSI, flash, CSI, HSI48 and the MCOs
unfoldable pub clock_entries : Waits → Selectors → Mcos → List Entry
clock_entries w s m = flash_entries w ++ oscillator_entries s m

-- HSEBYP: 1 with bypass
abbrev pub bit : Bool → ℕ
bit true = 1
bit false = 0

-- with HSE: HSEON, HSEBYP together, wait HSERDY
abbrev pub hse_entries : Option ℕ → (bypass : Bool) → List Entry
hse_entries None bypass = []
hse_entries (Some h) bypass = Set2 Fields.HSEON 1 Fields.HSEBYP (bit bypass) ∷ Wait Fields.HSERDY 1 ∷ []

-- each PLL's SRC, all of them: three on a chip with three PLLs
abbrev pub source_entries : (three : Bool) → (src : ℕ) → List Entry
source_entries true src = Set (of_pll 0 Fields.SRC) src ∷ Set (of_pll 1 Fields.SRC) src ∷ Set (of_pll 2 Fields.SRC) src ∷ []
source_entries false src = Set (of_pll 0 Fields.SRC) src ∷ Set (of_pll 1 Fields.SRC) src ∷ []

-- the start of PLL k: ON, wait RDY
abbrev pub on_entries : (k : ℕ) → List Entry
on_entries k = Set (of_pll k Fields.ON) 1 ∷ Wait (of_pll k Fields.RDY) 1 ∷ []

-- a PLL is started when it has P
abbrev pub output_start : (k : ℕ) → Option PllOutput → List Entry
output_start k None = []
output_start k (Some o) = on_entries k

-- PLL k, where it runs
abbrev pub start_entries : (k : ℕ) → Option PllSettings → List Entry
start_entries k None = []
start_entries k (Some s) = output_start k s.p

-- the starts in PLL order
abbrev pub starts : List (Option PllSettings) → List Entry
starts l = start_entries 0 (pll_from l 0) ++ (start_entries 1 (pll_from l 1) ++ start_entries 2 (pll_from l 2))

-- the prescalers and the selectors
abbrev pub prescaler_entries : Buses → Selectors → List Entry
prescaler_entries b s =
    Set4 Fields.HPRE b.ahb.pre Fields.PPRE1 b.apb1.pre Fields.PPRE2 b.apb2.pre Fields.PPRE3 b.apb3.pre ∷ Wait Fields.HPRE b.ahb.pre
    ∷ Set Fields.CKPERSEL s.ckpersel
    ∷ Set Fields.TIMPRE 0
    ∷ Set Fields.SW s.sw ∷ Wait Fields.SWS s.sw ∷ []

-- the check of CSIRDY
abbrev pub check_entries : List Entry
check_entries = Check Fields.CSIRDY 1 ∷ []

-- the compensation cell
abbrev pub cell_entries : List Entry
cell_entries =
    Set Fields.SBSEN 1
    ∷ Set4 Fields.EN1 1 Fields.CS1 0 Fields.EN2 1 Fields.CS2 0 ∷ Wait2 Fields.RDY1 1 Fields.RDY2 1 ∷ []

-- the prescalers, the selectors, the check and the compensation cell
unfoldable pub bus_entries : Buses → Selectors → List Entry
bus_entries b s = prescaler_entries b s ++ (check_entries ++ cell_entries)

-- the whole list of a plan, with these starts
unfoldable pub list_with : (starts : List (Option PllSettings) → List Entry) → Plan → List Entry
list_with starts p =
    setups p.plls
    ++ (clock_entries p.waits p.selectors p.mcos
    ++ (hse_entries p.clocks.hse p.bypass
    ++ (source_entries p.three p.selectors.src
    ++ (starts p.plls
    ++ bus_entries p.buses p.selectors))))

-- the whole list of a plan
abbrev pub plan_entries : Plan → List Entry
plan_entries = list_with starts

-- a list has at most 69; the shortest is that of a request for nothing on a chip with two PLLs
abbrev pub most : ℕ
most = 69

abbrev pub fewest : ℕ
fewest = 21

-- the list of an answer: a refused request has no entry
unfoldable pub entries_of : Result Plan Refusal → List Entry
entries_of (Ok p) = plan_entries p
entries_of (Err n) = []
