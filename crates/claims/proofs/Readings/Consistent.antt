-- What the rules settle of a plan and its clocks need: dividers of at least 1, PPREs that registers hold, and hertz that are the floors of the
-- numbers chosen.
use Rattle.std.specs.Prelude.{Option, Some, None, Result, Ok, is_some}
use mathlib.Core.Path.{◌≡◌, refl, sym}
use mathlib.Core.Bool.{true, false, not, ◌||◌}
use Prim.Native.Nat.{ℕ, ◌*◌, ◌/◌, ◌≤◌, ◌<◌}
use Rattle.types.specs.declared.Refusal.{Refusal}
use Rattle.types.specs.declared.Strategy.{Strategy}
use Rattle.types.specs.declared.Strategy.TheVariants.{Integer, Fractional}
use Rattle.types.specs.declared.Request.{Request}
use Rattle.types.specs.declared.PllOutput.{PllOutput}
use Rattle.types.specs.declared.PllSettings.{PllSettings}
use Rattle.types.specs.declared.Plan.{Plan}
use Rattle.rules.specs.Document01.Request.{pll_at, source_of, from_hse1, from_hse2}
use Rattle.rules.specs.Document01.OnePll.{clock_of, p_clock, q_clock}
use Rattle.rules.specs.Document01.Buses.{timer_of}
use Rattle.rules.specs.Document01.Mco.{mco1_input, mco2_input, mco1_code, mco2_code}
use Rattle.rules.specs.Document01.Plan.{src_of, sw_of}
use Rattle.rules.specs.Document01.Entries.{pll_in}
use Rattle.rules.specs.Manual.Path.{PllName, Via, no_pll, by}
use Rattle.rules.specs.Manual.Tree.{Output, P, Q, R, output, number, among}
use Rattle.claims.specs.Demands.Report.{reported, hertz_of}
use Rattle.claims.specs.Demands.Readings.{started, is_integer, steady}
use Rattle.laws.proofs.Tests.{never, and_left, and_right}
use Rattle.rules.proofs.Manual.Chains.{ppres}

-- an output's settings, and what a PLL reports of it
abbrev pub setting_of : Output → PllSettings → Option PllOutput
setting_of P s = s.p
setting_of Q s = s.q
setting_of R s = s.r

abbrev pub pll_hertz : Output → Option PllSettings → Option ℕ
pll_hertz o None = None
pll_hertz o (Some s) = clock_of (setting_of o s)

-- PLL j is started and in Integer strategy, as facts
pub record StartedInteger (q : Request) (p : Plan) (j : PllName) : Type 0 where
  pub hertz : ℕ
  pub started : hertz_of (reported p) (output j P) ≡ Some hertz
  pub integer : (pll_at q (number j)).strategy ≡ Integer

abbrev pub Steady : Request → Plan → Via → Type 0
Steady q p no_pll = Unit {0}
Steady q p (by j) = StartedInteger q p j

-- the tests of a clock covered, as these facts
is_integer_is : (s : Strategy) → is_integer s ≡ true → s ≡ Integer
is_integer_is Integer t = refl
is_integer_is Fractional t = absurd (never (sym t))

is_set_is : (h : Option ℕ) → is_some h ≡ true → (r : ℕ) × (h ≡ Some r)
is_set_is None t = absurd (never (sym t))
is_set_is (Some r) t = (r, refl)

pub steady_is : (q : Request) (p : Plan) (v : Via) → steady q (started p) v ≡ true → Steady q p v
steady_is q p no_pll t = tt
steady_is q p (by j) t =
    let on = is_set_is (hertz_of (reported p) (output j P)) (and_left (started p j) _ t) in
    record { hertz = on.0; started = on.1; integer = is_integer_is (pll_at q (number j)).strategy (and_right (started p j) _ t) }

-- a PLL that runs, from a source of so many hertz
pub record GoodPll (strategy : Strategy) (source : ℕ) (s : PllSettings) : Type 0 where
  pub m : 1 ≤ s.m
  pub n : 1 ≤ s.n
  pub divider : (o : Output) (d h : ℕ) → setting_of o s ≡ Some (record { divider = d; clock = h }) → 1 ≤ d
  pub whole : strategy ≡ Integer → s.fraction ≡ None
  pub hertz : strategy ≡ Integer → (o : Output) (d h : ℕ) → setting_of o s ≡ Some (record { divider = d; clock = h }) → h ≡ source / s.m * s.n / d

-- where the system clock comes from
pub data System (q : Request) (p : Plan) : Type 0 where
  source : p.selectors.sw ≡ sw_of false q.hse → p.clocks.sys ≡ source_of q → System q p
  pll1_p : p.selectors.sw ≡ 3 → p_clock (pll_in p 0) ≡ Some p.clocks.sys → System q p

-- where the peripheral clock comes from
pub data Peripheral (q : Request) (p : Plan) : Type 0 where
  from_hsi : p.selectors.ckpersel ≡ 0 → p.clocks.per ≡ 32_000_000 → Peripheral q p
  from_csi : p.selectors.ckpersel ≡ 1 → p.clocks.per ≡ 4_000_000 → Peripheral q p
  from_hse : p.selectors.ckpersel ≡ 2 → q.hse ≡ Some p.clocks.per → Peripheral q p

-- an MCO that is reported as r hertz, from its source's clock and its prescaler
pub record Divided (input : Result ℕ Refusal) (pre r : ℕ) : Type 0 where
  pub clock : ℕ
  pub is : input ≡ Ok clock
  pub above : 1 ≤ pre
  pub hertz : r ≡ clock / pre

pub record Consistent (q : Request) (p : Plan) : Type 0 where
  pub hse : p.clocks.hse ≡ q.hse
  pub hsi : p.clocks.hsi ≡ 32_000_000
  pub csi : p.clocks.csi ≡ 4_000_000
  pub hsi48 : p.clocks.hsi48 ≡ 48_000_000
  pub lsi : p.clocks.lsi ≡ 32_000
  pub src : p.selectors.src ≡ src_of q.hse
  pub plls : (j : ℕ) → j < 3 → (s : PllSettings) → pll_in p j ≡ Some s → GoodPll (pll_at q j).strategy (source_of q) s
  pub third : (s : PllSettings) → pll_in p 2 ≡ Some s → p.three ≡ true
  pub system : System q p
  pub hpre : 1 ≤ p.buses.ahb.pre
  pub hclk : p.buses.ahb.clock ≡ p.clocks.sys / p.buses.ahb.pre
  pub ppre1 : among ppres p.buses.apb1.pre ≡ true
  pub ppre2 : among ppres p.buses.apb2.pre ≡ true
  pub ppre3 : among ppres p.buses.apb3.pre ≡ true
  pub pclk1 : p.buses.apb1.clock ≡ p.buses.ahb.clock / p.buses.apb1.pre
  pub pclk2 : p.buses.apb2.clock ≡ p.buses.ahb.clock / p.buses.apb2.pre
  pub pclk3 : p.buses.apb3.clock ≡ p.buses.ahb.clock / p.buses.apb3.pre
  pub timx : p.clocks.timx ≡ timer_of p.buses.ahb.clock p.buses.apb1.pre
  pub timy : p.clocks.timy ≡ timer_of p.buses.ahb.clock p.buses.apb2.pre
  pub per : Peripheral q p
  pub stated : is_some q.hse || not (from_hse1 q.mco1source || from_hse2 q.mco2source) ≡ true
  pub mco1sel : p.selectors.mco1sel ≡ mco1_code q.mco1source
  pub mco2sel : p.selectors.mco2sel ≡ mco2_code q.mco2source
  pub mco1 : (r : ℕ) → p.mcos.mco1.clock ≡ Some r → Divided (mco1_input q.mco1source q.hse (q_clock (pll_in p 0))) p.mcos.mco1.pre r
  pub mco2 : (r : ℕ) → p.mcos.mco2.clock ≡ Some r
      → Divided (mco2_input q.mco2source p.clocks.sys q.hse (p_clock (pll_in p 0)) (p_clock (pll_in p 1))) p.mcos.mco2.pre r
