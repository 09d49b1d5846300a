-- Demand 2, the manuals and IEEE 754: what holds of every PLL that a plan runs, and of its wait states. The spans, fields and rows are the
-- manual's (specs/Manual), the f32 steps those of crates/ieee754 over whole numbers.
use Rattle.std.specs.Prelude.{◌≡◌, Bool, true, false, ℕ, ◌+◌, ◌-◌, ◌*◌, ◌/◌, ◌≤◌, ◌<◌, Option, Some, None}
use Rattle.types.specs.declared.Strategy.{Strategy}
use Rattle.types.specs.declared.Strategy.TheVariants.{Integer, Fractional}
use Rattle.types.specs.declared.PllOutput.{PllOutput}
use Rattle.types.specs.declared.PllRequest.{PllRequest}
use Rattle.types.specs.declared.PllSettings.{PllSettings}
use Rattle.types.specs.declared.Request.{Request}
use Rattle.types.specs.declared.ChipState.{ChipState}
use Rattle.types.specs.declared.Plan.{Plan}
use Rattle.ieee754.specs.Whole.{fracn_whole, vco_whole}
use Rattle.rules.specs.Document01.Chip.{odd_at}
use Rattle.rules.specs.Document01.Request.{source_of, asked_of}
use Rattle.rules.specs.Document01.OnePll.{wanted, first_of}
use Rattle.rules.specs.Document01.Entries.{pll_in}
use Rattle.rules.specs.Manual.PllFields.{rge_span, vco_span, input_span, Within, FieldM, FieldN, FieldFracn, FieldDivider, allows_p}
use Rattle.rules.specs.Manual.WaitStates.{rows, highest, waits, asks}

-- an output's divider is at least 1, its field, one less, fits, and the hertz reported are VCO / divider
pub record LegalDivider (vco d h : ℕ) : Type 0 where
  pub some : 1 ≤ d
  pub field : FieldDivider (d - 1)
  pub hertz : h ≡ vco / d

-- an output: on exactly where it is requested
abbrev pub LegalOutput : (vco : ℕ) → (requested : Option ℕ) → Option PllOutput → Type 0
LegalOutput vco None None = Unit {0}
LegalOutput vco None (Some o) = ⊥
LegalOutput vco (Some w) None = ⊥
LegalOutput vco (Some w) (Some o) = LegalDivider vco o.divider o.clock

-- P's field, by the permission for odd dividers
abbrev pub LegalP : (odd : Bool) → Option PllOutput → Type 0
LegalP odd None = Unit {0}
LegalP odd (Some o) = allows_p odd (o.divider - 1) ≡ true

-- Integer: VCO = reference × N. It is not above VCOSEL's span, and above its lower end less one reference step: the Rust tests the target
-- and not the VCO (docs/DIFFERENCES.md). The same of source / M × N, the manual's VCO, by cross products: above the lower end less one step of
-- source / M, and less than N hertz above the upper end
pub record IntegerVco (source : ℕ) (s : PllSettings) : Type 0 where
  pub product : s.vco ≡ s.reference * s.n
  pub from : (vco_span s.vcosel).low < s.vco + s.reference
  pub to : s.vco ≤ (vco_span s.vcosel).high
  pub exact_from : (vco_span s.vcosel).low * s.m < source * s.n + source
  pub exact_to : source * s.n < ((vco_span s.vcosel).high + s.n) * s.m

-- an output's divider, where it is on, else another
abbrev pub divider_or : Option PllOutput → ℕ → ℕ
divider_or None other = other
divider_or (Some o) other = o.divider

-- the divider of the first of P, Q, R that is on
abbrev pub first_divider : PllSettings → ℕ
first_divider s = divider_or s.p (divider_or s.q (divider_or s.r 0))

-- Fractional: FRACN, for the first requested output and its divider, and VCO are those of the IEEE 754 steps. The manual's VCO,
-- source / M × (N + FRACN / 8192), by cross products: above the lower end of VCOSEL's span less one step of source / M, and less than
-- N + FRACN / 8192 and 98 hertz above the upper end. The reference is cut to whole hertz, and the f32 steps round
pub record FractionalVco (source first : ℕ) (s : PllSettings) (f : ℕ) : Type 0 where
  pub field : FieldFracn f
  pub fracn : fracn_whole s.reference s.n (first_divider s) first ≡ Some f
  pub vco : s.vco ≡ vco_whole s.reference s.n f
  pub exact_from : 8192 * ((vco_span s.vcosel).low * s.m) < source * (8192 * s.n + f) + 8192 * source
  pub exact_to : source * (8192 * s.n + f) < (8192 * ((vco_span s.vcosel).high + 98) + (8192 * s.n + f)) * s.m

-- by the strategy that is requested
abbrev pub LegalVco : Strategy → (source first : ℕ) → PllSettings → Option ℕ → Type 0
LegalVco Integer source first s None = IntegerVco source s
LegalVco Integer source first s (Some f) = ⊥
LegalVco Fractional source first s None = ⊥
LegalVco Fractional source first s (Some f) = FractionalVco source first s f

-- a running PLL of a source of so many hertz, asked for a
pub record Legal (odd : Bool) (source : ℕ) (a : PllRequest) (s : PllSettings) : Type 0 where
  -- it runs only where an output is requested
  pub asked : wanted a ≡ true
  -- M divides the source; source / M, exactly, lies where RGE says, and where the VCO chosen takes it
  pub m : FieldM s.m
  pub rge : Within (rge_span s.rge) source s.m
  pub input : Within (input_span s.vcosel) source s.m
  -- in whole hertz
  pub reference : s.reference ≡ source / s.m
  -- N multiplies it; the target lies in VCOSEL's span
  pub n : FieldN (s.n - 1)
  pub target : Within (vco_span s.vcosel) s.target 1
  -- FRACN, and the VCO
  pub vco : LegalVco a.strategy source (first_of a) s s.fraction
  -- the outputs
  pub p : LegalOutput s.vco a.p s.p
  pub q : LegalOutput s.vco a.q s.q
  pub r : LegalOutput s.vco a.r s.r
  pub odd_p : LegalP odd s.p

-- a PLL that runs; one is idle only where nothing is requested of it
abbrev pub LegalPll : (odd : Bool) → (source : ℕ) → PllRequest → Option PllSettings → Type 0
LegalPll odd source a None = wanted a ≡ false
LegalPll odd source a (Some s) = Legal odd source a s

-- the third, which a chip with two does not have
abbrev pub LegalThird : (three odd : Bool) → (source : ℕ) → PllRequest → Option PllSettings → Type 0
LegalThird true odd source a x = LegalPll odd source a x
LegalThird false odd source a x = x ≡ None

-- all PLLs of a plan, and its wait states up to the highest AHB clock of the manual's rows
pub record LegalPlan (q : Request) (c : ChipState) (p : Plan) : Type 0 where
  pub pll1 : LegalPll (odd_at c 0) (source_of q) (asked_of q 0) (pll_in p 0)
  pub pll2 : LegalPll (odd_at c 1) (source_of q) (asked_of q 1) (pll_in p 1)
  pub pll3 : LegalThird c.three (odd_at c 2) (source_of q) (asked_of q 2) (pll_in p 2)
  pub flash : p.buses.ahb.clock ≤ highest c.scale * 1_000_000 → asks (rows c.scale) p.buses.ahb.clock ≡ waits p.waits.latency p.waits.delay
