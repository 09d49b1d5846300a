-- rcc.rs, from the setters to the frozen clocks, with its names.
use Rattle.std.specs.Prelude.{[], Bool, true, false, not, cond, ◌&&◌, ℕ, ◌/◌, leb, ltb, eqb, Option, Some, None, unwrap_or, is_some}
use Rattle.std.specs.Option.{option_or}
use Rattle.types.specs.declared.Entry.TheVariants.{Set, Set2, Set3, Set4, Wait, Wait2, Check}
use Rattle.types.specs.declared.Mco1Source.{Mco1Source}
use Rattle.types.specs.declared.Mco2Source.{Mco2Source}
use Rattle.types.specs.declared.PllRequest.{PllRequest}
use Rattle.types.specs.declared.Request.{Request}
use Rattle.types.specs.declared.Scale.{Scale}
use Rattle.types.specs.declared.Scale.TheVariants.{Scale0, Scale1, Scale2, Scale3}
use Rattle.types.specs.declared.Hsidiv.{Hsidiv}
use Rattle.types.specs.declared.ChipState.{ChipState}
use Rattle.rules.specs.Document01.Chip.{odd_at}
use Rattle.rules.specs.Document01.Fields
use Rattle.rules.specs.Document01.Fields.{of_pll}
use Rattle.rules.specs.Document01.Request.{pll_at}
use Rattle.rules.specs.Document01.Mco.{mco1_code, mco2_code}
use Rattle.claims.specs.Rust.Run as Rust
use Rattle.claims.specs.Rust.Run.{Outcome, Run, ◌>>=◌, ◌>>◌, return, panic, assert, modify, poll, assert_reads, unwrap, div_ceil}
use Rattle.claims.specs.Rust.CoreClocks.{PllClocks, CoreClocks}
use Rattle.claims.specs.Rust.Pll.{PllConfig, pll_setup}
use Rattle.claims.specs.Rust.Mco.{MCO1Config, MCO2Config, Prescaled, calculate_prescaler}

-- const HSI
abbrev pub HSI : ℕ
HSI = 32_000_000

-- const CSI
abbrev pub CSI : ℕ
CSI = 4_000_000

-- const HSI48
abbrev pub HSI48 : ℕ
HSI48 = 48_000_000

-- const LSI
abbrev pub LSI : ℕ
LSI = 32_000

-- const MAX_SYSCLK_FREQ_HZ
abbrev pub MAX-SYSCLK-FREQ-HZ : ℕ
MAX-SYSCLK-FREQ-HZ = 250_000_000

-- struct Config
pub record Config : Type 0 where
  pub hse : Option ℕ
  pub bypass_hse : Bool
  pub lse : Option ℕ
  pub sys_ck : Option ℕ
  pub per_ck : Option ℕ
  pub audio_ck : Option ℕ
  pub rcc_hclk : Option ℕ
  pub rcc_pclk1 : Option ℕ
  pub rcc_pclk2 : Option ℕ
  pub rcc_pclk3 : Option ℕ
  pub mco1 : MCO1Config
  pub mco2 : MCO2Config
  pub pll1 : PllConfig
  pub pll2 : PllConfig
  pub pll3 : PllConfig

-- ---- the setters: one is called where the request has its hertz, and a default stays where not

-- fn sys_ck, hclk, pclk1, pclk2, pclk3: assert!(freq.to_raw() <= MAX_SYSCLK_FREQ_HZ)
abbrev pub set_capped : Option ℕ → Run (Unit {0})
set_capped None = return tt
set_capped (Some freq) = assert (leb freq MAX-SYSCLK-FREQ-HZ)

-- pllX_strategy, pllX_p_ck, pllX_q_ck, pllX_r_ck
abbrev pub pll_config : PllRequest → PllConfig
pll_config a = record { strategy = a.strategy; p_ck = a.p; q_ck = a.q; r_ck = a.r }

-- all that the setters store
abbrev pub config_of : Request → Config
config_of q = record {
  hse = q.hse;
  bypass_hse = q.bypass;
  lse = q.lse;
  sys_ck = q.system;
  per_ck = q.peripheral;
  audio_ck = q.audio;
  rcc_hclk = q.ahb;
  rcc_pclk1 = q.apb1;
  rcc_pclk2 = q.apb2;
  rcc_pclk3 = q.apb3;
  mco1 = record { source = q.mco1source; frequency = q.mco1 };
  mco2 = record { source = q.mco2source; frequency = q.mco2 };
  pll1 = pll_config (pll_at q 0);
  pll2 = pll_config (pll_at q 1);
  pll3 = pll_config (pll_at q 2);
}

-- the setters that assert, and the config
unfoldable pub setters : Request → Run Config
setters q = do
  set_capped q.system
  set_capped q.ahb
  set_capped q.apb1
  set_capped q.apb2
  set_capped q.apb3
  return (config_of q)

-- ---- fn mco1_setup, fn mco2_setup (mco.rs), fn sys_ck_setup: they change the config

-- self.config.pll1.q_ck = .., self.config.pll1.p_ck = ..
abbrev pub with_q_ck : PllConfig → Option ℕ → PllConfig
with_q_ck pll q_ck = record { strategy = pll.strategy; p_ck = pll.p_ck; q_ck = q_ck; r_ck = pll.r_ck }

-- self.config.pll1.p_ck = ..
abbrev pub with_p_ck : PllConfig → Option ℕ → PllConfig
with_p_ck pll p_ck = record { strategy = pll.strategy; p_ck = p_ck; q_ck = pll.q_ck; r_ck = pll.r_ck }

-- self.config.pll1 = ..
abbrev pub with_pll1 : Config → PllConfig → Config
with_pll1 c pll = record {
  hse = c.hse;
  bypass_hse = c.bypass_hse;
  lse = c.lse;
  sys_ck = c.sys_ck;
  per_ck = c.per_ck;
  audio_ck = c.audio_ck;
  rcc_hclk = c.rcc_hclk;
  rcc_pclk1 = c.rcc_pclk1;
  rcc_pclk2 = c.rcc_pclk2;
  rcc_pclk3 = c.rcc_pclk3;
  mco1 = c.mco1;
  mco2 = c.mco2;
  pll1 = pll;
  pll2 = c.pll2;
  pll3 = c.pll3;
}

-- self.config.pll2 = ..
abbrev pub with_pll2 : Config → PllConfig → Config
with_pll2 c pll = record {
  hse = c.hse;
  bypass_hse = c.bypass_hse;
  lse = c.lse;
  sys_ck = c.sys_ck;
  per_ck = c.per_ck;
  audio_ck = c.audio_ck;
  rcc_hclk = c.rcc_hclk;
  rcc_pclk1 = c.rcc_pclk1;
  rcc_pclk2 = c.rcc_pclk2;
  rcc_pclk3 = c.rcc_pclk3;
  mco1 = c.mco1;
  mco2 = c.mco2;
  pll1 = c.pll1;
  pll2 = pll;
  pll3 = c.pll3;
}

-- self.config.sys_ck = ..
abbrev pub with_sys_ck : Config → Option ℕ → Config
with_sys_ck c sys_ck = record {
  hse = c.hse;
  bypass_hse = c.bypass_hse;
  lse = c.lse;
  sys_ck = sys_ck;
  per_ck = c.per_ck;
  audio_ck = c.audio_ck;
  rcc_hclk = c.rcc_hclk;
  rcc_pclk1 = c.rcc_pclk1;
  rcc_pclk2 = c.rcc_pclk2;
  rcc_pclk3 = c.rcc_pclk3;
  mco1 = c.mco1;
  mco2 = c.mco2;
  pll1 = c.pll1;
  pll2 = c.pll2;
  pll3 = c.pll3;
}

-- if source == Hse { assert!(hse.is_some()) }; if source == Pll1Q && q_ck.is_none() { q_ck = frequency }
abbrev pub mco1_source : Mco1Source → Config → Run Config
mco1_source Mco1Source.Hsi c = return c
mco1_source Mco1Source.Lse c = return c
mco1_source Mco1Source.Hse c = do
  assert (is_some c.hse)
  return c
mco1_source Mco1Source.Pll1Q c = return (with_pll1 c (with_q_ck c.pll1 (option_or c.pll1.q_ck c.mco1.frequency)))
mco1_source Mco1Source.Hsi48 c = return c

-- fn mco1_setup
unfoldable pub mco1_setup : Config → Run Config
mco1_setup c = mco1_source c.mco1.source c

-- Sysclk, Pll2P, Pll1P: filled if none; Hse: assert!(hse.is_some())
abbrev pub mco2_source : Mco2Source → Config → Run Config
mco2_source Mco2Source.Sysclk c = return (with_sys_ck c (option_or c.sys_ck c.mco2.frequency))
mco2_source Mco2Source.Pll2P c = return (with_pll2 c (with_p_ck c.pll2 (option_or c.pll2.p_ck c.mco2.frequency)))
mco2_source Mco2Source.Hse c = do
  assert (is_some c.hse)
  return c
mco2_source Mco2Source.Pll1P c = return (with_pll1 c (with_p_ck c.pll1 (option_or c.pll1.p_ck c.mco2.frequency)))
mco2_source Mco2Source.Csi c = return c
mco2_source Mco2Source.Lsi c = return c

-- fn mco2_setup
unfoldable pub mco2_setup : Config → Run Config
mco2_setup c = mco2_source c.mco2.source c

-- match self.config.pll1.p_ck
abbrev pub pll1_p_for : (sys_ck : ℕ) → Option ℕ → Run (Option ℕ)
pll1_p_for sys_ck (Some p_ck) = do
  assert (eqb p_ck sys_ck)
  return (Some p_ck)
pll1_p_for sys_ck None = return (Some sys_ck)

-- (Hertz, bool), and the config
pub record SysCk : Type 0 where
  pub config : Config
  pub sys_ck : ℕ
  pub sys_use_pll1_p : Bool

-- let srcclk = self.config.hse.unwrap_or(HSI)
abbrev pub srcclk : Config → ℕ
srcclk c = unwrap_or c.hse HSI

-- if sys_ck != srcclk
unfoldable pub sys_ck_from : (sys_ck : ℕ) → Config → Run SysCk
sys_ck_from sys_ck c =
    cond (not (eqb sys_ck (srcclk c)))
    (pll1_p_for sys_ck c.pll1.p_ck >>= λ pll1-p-ck. return (record { config = with_pll1 c (with_p_ck c.pll1 pll1-p-ck); sys_ck = sys_ck; sys_use_pll1_p = true }))
    (return (record { config = c; sys_ck = sys_ck; sys_use_pll1_p = false }))

-- fn sys_ck_setup
unfoldable pub sys_ck_setup : Config → Run SysCk
sys_ck_setup c = sys_ck_from (unwrap_or c.sys_ck (srcclk c)) c

-- ---- the prescalers

-- match sys_ck.div_ceil(rcc_hclk)
abbrev pub match_hpre : ℕ → Run ℕ
match_hpre x =
    cond (eqb x 0) panic
    (cond (eqb x 1) (return 1)
    (cond (eqb x 2) (return 2)
    (cond (leb 3 x && leb x 5) (return 4)
    (cond (leb 6 x && leb x 11) (return 8)
    (cond (leb 12 x && leb x 39) (return 16)
    (cond (leb 40 x && leb x 95) (return 64)
    (cond (leb 96 x && leb x 191) (return 128)
    (cond (leb 192 x && leb x 383) (return 256) (return 512)))))))))

-- enum PPRE of the register crate
pub data PPRE : Type 0 where
  Div1 Div2 Div4 Div8 Div16 : PPRE

-- its divisor
abbrev pub ppre_div : PPRE → ℕ
ppre_div Div1 = 1
ppre_div Div2 = 2
ppre_div Div4 = 4
ppre_div Div8 = 8
ppre_div Div16 = 16

-- enum TIMPRE of the register crate
pub data TIMPRE : Type 0 where
  DefaultX2 DefaultX4 : TIMPRE

-- ppre_calculate!
abbrev pub match_ppre : ℕ → Run PPRE
match_ppre x =
    cond (eqb x 0) panic
    (cond (eqb x 1) (return Div1)
    (cond (eqb x 2) (return Div2)
    (cond (leb 3 x && leb x 5) (return Div4)
    (cond (leb 6 x && leb x 11) (return Div8) (return Div16)))))

-- (bits, pclk)
pub record Pclk : Type 0 where
  pub bits : PPRE
  pub pclk : ℕ

-- the whole macro, for one bus
unfoldable pub ppre_calculate : (hclk : ℕ) → (pclk : Option ℕ) → Run Pclk
ppre_calculate hclk pclk = do
  ratio ← div_ceil hclk (unwrap_or pclk hclk)
  bits ← match_ppre ratio
  hz ← Rust.div hclk (ppre_div bits)
  return (record { bits = bits; pclk = hz })

-- match ($bits, &$timpre)
abbrev pub rcc_tim_ker_clk : PPRE → TIMPRE → (hclk : ℕ) → ℕ
rcc_tim_ker_clk Div1 DefaultX2 hclk = hclk
rcc_tim_ker_clk Div1 DefaultX4 hclk = hclk
rcc_tim_ker_clk Div2 DefaultX2 hclk = hclk
rcc_tim_ker_clk Div2 DefaultX4 hclk = hclk
rcc_tim_ker_clk Div4 DefaultX2 hclk = hclk / 2
rcc_tim_ker_clk Div4 DefaultX4 hclk = hclk
rcc_tim_ker_clk Div8 DefaultX2 hclk = hclk / 4
rcc_tim_ker_clk Div8 DefaultX4 hclk = hclk / 2
rcc_tim_ker_clk Div16 DefaultX2 hclk = hclk / 8
rcc_tim_ker_clk Div16 DefaultX4 hclk = hclk / 4

-- the bit of a TIMPRE
abbrev pub timpre_bits : TIMPRE → ℕ
timpre_bits DefaultX2 = 0
timpre_bits DefaultX4 = 1

-- ---- fn flash_setup

-- (wait_states, progr_delay)
pub record WaitStates : Type 0 where
  pub wait_states : ℕ
  pub progr_delay : ℕ

abbrev states : ℕ → ℕ → WaitStates
states w d = record { wait_states = w; progr_delay = d }

-- match vos { .. => match rcc_hclk_mhz { .. } }
unfoldable pub match_vos : Scale → (rcc-hclk-mhz : ℕ) → WaitStates
match_vos Scale0 mhz =
    cond (leb mhz 41) (states 0 0)
    (cond (leb 42 mhz && leb mhz 83) (states 1 0)
    (cond (leb 84 mhz && leb mhz 125) (states 2 1)
    (cond (leb 126 mhz && leb mhz 167) (states 3 1)
    (cond (leb 168 mhz && leb mhz 209) (states 4 2)
    (cond (leb 210 mhz && leb mhz 250) (states 5 2) (states 7 3))))))
match_vos Scale1 mhz =
    cond (leb mhz 33) (states 0 0)
    (cond (leb 34 mhz && leb mhz 67) (states 1 0)
    (cond (leb 68 mhz && leb mhz 101) (states 2 1)
    (cond (leb 102 mhz && leb mhz 135) (states 3 1)
    (cond (leb 136 mhz && leb mhz 169) (states 4 2)
    (cond (leb 170 mhz && leb mhz 200) (states 5 2) (states 7 3))))))
match_vos Scale2 mhz =
    cond (leb mhz 29) (states 0 0)
    (cond (leb 30 mhz && leb mhz 59) (states 1 0)
    (cond (leb 60 mhz && leb mhz 89) (states 2 1)
    (cond (leb 90 mhz && leb mhz 119) (states 3 1)
    (cond (leb 120 mhz && leb mhz 150) (states 4 2) (states 7 3)))))
match_vos Scale3 mhz =
    cond (leb mhz 19) (states 0 0)
    (cond (leb 20 mhz && leb mhz 39) (states 1 0)
    (cond (leb 40 mhz && leb mhz 59) (states 2 1)
    (cond (leb 60 mhz && leb mhz 79) (states 3 1)
    (cond (leb 80 mhz && leb mhz 100) (states 4 2) (states 7 3)))))

-- flash.acr().write(..), and the poll
unfoldable pub flash_acr : WaitStates → Run (Unit {0})
flash_acr w = do
  modify (Set3 Fields.WRHIGHFREQ w.progr_delay Fields.LATENCY w.wait_states Fields.PRFTEN (cond (ltb 0 w.wait_states) 1 0))
  poll (Wait Fields.LATENCY w.wait_states)

-- fn flash_setup
unfoldable pub flash_setup : (rcc_hclk : ℕ) → Scale → Run (Unit {0})
flash_setup rcc_hclk vos = do
  less ← Rust.sub rcc_hclk 1
  flash_acr (match_vos vos (less / 1_000_000))

-- ---- fn freeze

-- the PLLs' clocks; pll3 is there with the feature rm0481
pub record Plls : Type 0 where
  pub pll1 : PllClocks
  pub pll2 : PllClocks
  pub pll3 : PllClocks

-- (None, None, None)
abbrev pub no_pll : PllClocks
no_pll = record { p_ck = None; q_ck = None; r_ck = None }

-- #[cfg(feature = "rm0481")]
abbrev pub if_rm0481 : {A : Type 0} → Bool → Run A → A → Run A
if_rm0481 true run a = run
if_rm0481 false run a = return a

-- Configure PLL1, PLL2, PLL3. Whether P may be odd is each `pll_setup!` call's
unfoldable pub plls_setup : ChipState → Config → Run Plls
plls_setup chip c = do
  pll1 ← pll_setup 0 (odd_at chip 0) (srcclk c) c.pll1
  pll2 ← pll_setup 1 (odd_at chip 1) (srcclk c) c.pll2
  pll3 ← if_rm0481 chip.three (pll_setup 2 (odd_at chip 2) (srcclk c) c.pll3) no_pll
  return (record { pll1 = pll1; pll2 = pll2; pll3 = pll3 })

-- let sys_ck = if sys_use_pll1_p { pll1_p_ck.unwrap() } else { sys_ck }
abbrev pub sys_ck_of : SysCk → Plls → Run ℕ
sys_ck_of s l = cond s.sys_use_pll1_p (unwrap l.pll1.p_ck) (return s.sys_ck)

-- match (per_ck == hse, per_ck): the clock and CKPERSEL
pub record PerCk : Type 0 where
  pub per_ck : ℕ
  pub ckpersel : ℕ

-- (_, Some(CSI)), or _
abbrev pub csi_or_hsi : ℕ → PerCk
csi_or_hsi ck = cond (eqb ck CSI) (record { per_ck = CSI; ckpersel = 1 }) (record { per_ck = HSI; ckpersel = 0 })

-- the whole match
unfoldable pub match_per_ck : (per_ck hse : Option ℕ) → PerCk
match_per_ck None hse = record { per_ck = HSI; ckpersel = 0 }
match_per_ck (Some ck) None = csi_or_hsi ck
match_per_ck (Some ck) (Some hse) = cond (eqb ck hse) (record { per_ck = ck; ckpersel = 2 }) (csi_or_hsi ck)

-- (hpre_div, rcc_hclk)
pub record Hclk : Type 0 where
  pub hpre_div : ℕ
  pub rcc_hclk : ℕ

-- rcc_hclk, its divisor, and sys_ck / hpre_div
unfoldable pub hclk_calculate : (sys_ck : ℕ) → (rcc_hclk : Option ℕ) → Run Hclk
hclk_calculate sys_ck rcc_hclk = do
  ratio ← div_ceil sys_ck (unwrap_or rcc_hclk sys_ck)
  hpre_div ← match_hpre ratio
  hz ← Rust.div sys_ck hpre_div
  return (record { hpre_div = hpre_div; rcc_hclk = hz })

-- AHB and APB1 to 3
pub record Buses : Type 0 where
  pub hclk : Hclk
  pub pclk1 : Pclk
  pub pclk2 : Pclk
  pub pclk3 : Pclk

-- from rcc_hclk to ppre_calculate!
unfoldable pub buses_calculate : (sys_ck : ℕ) → Config → Run Buses
buses_calculate sys_ck c = do
  hclk ← hclk_calculate sys_ck c.rcc_hclk
  pclk1 ← ppre_calculate hclk.rcc_hclk c.rcc_pclk1
  pclk2 ← ppre_calculate hclk.rcc_hclk c.rcc_pclk2
  pclk3 ← ppre_calculate hclk.rcc_hclk c.rcc_pclk3
  return (record { hclk = hclk; pclk1 = pclk1; pclk2 = pclk2; pclk3 = pclk3 })

-- match self.config.mco1.source, self.config.mco2.source
unfoldable pub mco1_in : Mco1Source → Config → Plls → Run ℕ
mco1_in Mco1Source.Hsi c l = return HSI
mco1_in Mco1Source.Lse c l = panic
mco1_in Mco1Source.Hse c l = unwrap c.hse
mco1_in Mco1Source.Pll1Q c l = unwrap l.pll1.q_ck
mco1_in Mco1Source.Hsi48 c l = return HSI48

-- let mco2_in
unfoldable pub mco2_in : Mco2Source → (sys_ck : ℕ) → Config → Plls → Run ℕ
mco2_in Mco2Source.Sysclk sys_ck c l = return sys_ck
mco2_in Mco2Source.Pll2P sys_ck c l = unwrap l.pll2.p_ck
mco2_in Mco2Source.Hse sys_ck c l = unwrap c.hse
mco2_in Mco2Source.Pll1P sys_ck c l = unwrap l.pll1.p_ck
mco2_in Mco2Source.Csi sys_ck c l = return CSI
mco2_in Mco2Source.Lsi sys_ck c l = return LSI

-- MCO1 and MCO2
pub record Mcos : Type 0 where
  pub mco1 : Prescaled
  pub mco2 : Prescaled

-- mco1_in and mco2_in, and calculate_prescaler of each
unfoldable pub mcos_calculate : (sys_ck : ℕ) → Config → Plls → Run Mcos
mcos_calculate sys_ck c l = do
  in1 ← mco1_in c.mco1.source c l
  mco1 ← calculate_prescaler in1 c.mco1.frequency
  in2 ← mco2_in c.mco2.source sys_ck c l
  mco2 ← calculate_prescaler in2 c.mco2.frequency
  return (record { mco1 = mco1; mco2 = mco2 })

-- match self.config.hse
abbrev pub enable_hse : Option ℕ → Bool → Run (Unit {0})
enable_hse None bypass = return tt
enable_hse (Some hse) bypass = do
  modify (Set2 Fields.HSEON 1 Fields.HSEBYP (cond bypass 1 0))
  poll (Wait Fields.HSERDY 1)

-- PLLxSRC: Hse or Hsi
abbrev pub pllsrc : Option ℕ → ℕ
pllsrc hse = cond (is_some hse) 3 1

-- if pllX_p_ck.is_some()
abbrev pub enable_pll : (k : ℕ) → Option ℕ → Run (Unit {0})
enable_pll k None = return tt
enable_pll k (Some p_ck) = do
  modify (Set (of_pll k Fields.ON) 1)
  poll (Wait (of_pll k Fields.RDY) 1)

-- match (sys_use_pll1_p, self.config.hse.is_some())
abbrev pub swbits : Bool → Bool → ℕ
swbits true hse = 3
swbits false true = 2
swbits false false = 0

-- from `Start switching clocks here!` to the oscillators
unfoldable pub start_clocks : Scale → Config → Buses → Mcos → Run (Unit {0})
start_clocks vos c b m = do
  flash_setup b.hclk.rcc_hclk vos
  modify (Set Fields.CSION 1)
  poll (Wait Fields.CSIRDY 1)
  modify (Set Fields.HSI48ON 1)
  poll (Wait Fields.HSI48RDY 1)
  modify (Set4 Fields.MCO1SEL (mco1_code c.mco1.source) Fields.MCO1PRE m.mco1.prescaler Fields.MCO2SEL (mco2_code c.mco2.source) Fields.MCO2PRE m.mco2.prescaler)
  enable_hse c.hse c.bypass_hse

-- the PLLs' sources, and the PLLs
unfoldable pub start_plls : ChipState → Config → Plls → Run (Unit {0})
start_plls chip c l = do
  modify (Set (of_pll 0 Fields.SRC) (pllsrc c.hse))
  modify (Set (of_pll 1 Fields.SRC) (pllsrc c.hse))
  if_rm0481 chip.three (modify (Set (of_pll 2 Fields.SRC) (pllsrc c.hse))) tt
  enable_pll 0 l.pll1.p_ck
  enable_pll 1 l.pll2.p_ck
  if_rm0481 chip.three (enable_pll 2 l.pll3.p_ck) tt

-- from the prescalers to the compensation cell
unfoldable pub switch_clocks : Config → Bool → Buses → (ckpersel : ℕ) → TIMPRE → Run (Unit {0})
switch_clocks c sys_use_pll1_p b ckpersel timpre = do
  modify (Set4 Fields.HPRE b.hclk.hpre_div Fields.PPRE1 (ppre_div b.pclk1.bits) Fields.PPRE2 (ppre_div b.pclk2.bits) Fields.PPRE3 (ppre_div b.pclk3.bits))
  poll (Wait Fields.HPRE b.hclk.hpre_div)
  modify (Set Fields.CKPERSEL ckpersel)
  modify (Set Fields.TIMPRE (timpre_bits timpre))
  modify (Set Fields.SW (swbits sys_use_pll1_p (is_some c.hse)))
  poll (Wait Fields.SWS (swbits sys_use_pll1_p (is_some c.hse)))
  assert_reads (Check Fields.CSIRDY 1)
  modify (Set Fields.SBSEN 1)
  modify (Set4 Fields.EN1 1 Fields.CS1 0 Fields.EN2 1 Fields.CS2 0)
  poll (Wait2 Fields.RDY1 1 Fields.RDY2 1)

-- clocks: CoreClocks { .. }
unfoldable pub core_clocks_of : (sys_ck : ℕ) → Config → Plls → Buses → Mcos → TIMPRE → CoreClocks
core_clocks_of sys_ck c l b m timpre = record {
  hclk = b.hclk.rcc_hclk;
  pclk1 = b.pclk1.pclk;
  pclk2 = b.pclk2.pclk;
  pclk3 = b.pclk3.pclk;
  ppre1 = ppre_div b.pclk1.bits;
  ppre2 = ppre_div b.pclk2.bits;
  ppre3 = ppre_div b.pclk3.bits;
  csi_ck = Some CSI;
  hsi_ck = Some HSI;
  hsi48_ck = Some HSI48;
  lsi_ck = Some LSI;
  per_ck = Some (match_per_ck c.per_ck c.hse).per_ck;
  hse_ck = c.hse;
  lse_ck = c.lse;
  audio_ck = c.audio_ck;
  mco1_ck = m.mco1.ck;
  mco2_ck = m.mco2.ck;
  pll1 = l.pll1;
  pll2 = l.pll2;
  pll3 = l.pll3;
  timx_ker_ck = rcc_tim_ker_clk b.pclk1.bits timpre b.hclk.rcc_hclk;
  timy_ker_ck = rcc_tim_ker_clk b.pclk2.bits timpre b.hclk.rcc_hclk;
  sys_ck = sys_ck;
}

-- hsidiv().is_div2()
abbrev pub is_div2 : Hsidiv → Bool
is_div2 Hsidiv.Div1 = false
is_div2 Hsidiv.Div2 = true
is_div2 Hsidiv.Div4 = false
is_div2 Hsidiv.Div8 = false

-- pub fn freeze(mut self, pwrcfg, sbs) -> Ccdr, over the config that the setters made
unfoldable pub freeze : ChipState → Config → Run CoreClocks
freeze chip config = do
  config ← mco1_setup config
  config ← mco2_setup config
  s ← sys_ck_setup config
  plls ← plls_setup chip s.config
  sys_ck ← sys_ck_of s plls
  assert chip.hsion
  assert (is_div2 chip.hsidiv)
  modify (Set Fields.LSION 1)
  poll (Wait Fields.LSIRDY 1)
  buses ← buses_calculate sys_ck s.config
  mcos ← mcos_calculate sys_ck s.config plls
  start_clocks chip.scale s.config buses mcos
  start_plls chip s.config plls
  switch_clocks s.config s.sys_use_pll1_p buses (match_per_ck s.config.per_ck s.config.hse).ckpersel DefaultX2
  return (core_clocks_of sys_ck s.config plls buses mcos DefaultX2)

-- the setters, then freeze, from no operation
unfoldable pub frozen : Request → ChipState → Outcome CoreClocks
frozen q chip = (setters q >>= freeze chip) []
