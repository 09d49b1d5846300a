-- What a plan reports: the same clocks as Rcc::freeze, in the form of core_clocks.rs.
use Rattle.std.specs.Prelude.{Option, Some, ℕ}
use Rattle.types.specs.declared.PllSettings.{PllSettings}
use Rattle.types.specs.declared.Plan.{Plan}
use Rattle.rules.specs.Document01.OnePll.{p_clock, q_clock, r_clock}
use Rattle.rules.specs.Document01.Entries.{pll_in}
use Rattle.claims.specs.Rust.CoreClocks.{PllClocks, CoreClocks}
use Rattle.rules.specs.Manual.Path.{PllName, pll1, pll2, pll3}
use Rattle.rules.specs.Manual.Tree.{Output, P, Q, R, Clock, sys, hclk, pclk1, pclk2, pclk3, timx, timy, per, hsi, csi, hsi48, lsi, hse, mco1, mco2, output}

-- the clocks of one PLL
abbrev pub pll_clocks : Option PllSettings → PllClocks
pll_clocks x = record { p_ck = p_clock x; q_ck = q_clock x; r_ck = r_clock x }

-- the clocks of a plan
abbrev pub reported : Plan → CoreClocks
reported p = record {
  hclk = p.buses.ahb.clock;
  pclk1 = p.buses.apb1.clock;
  pclk2 = p.buses.apb2.clock;
  pclk3 = p.buses.apb3.clock;
  ppre1 = p.buses.apb1.pre;
  ppre2 = p.buses.apb2.pre;
  ppre3 = p.buses.apb3.pre;
  csi_ck = Some p.clocks.csi;
  hsi_ck = Some p.clocks.hsi;
  hsi48_ck = Some p.clocks.hsi48;
  lsi_ck = Some p.clocks.lsi;
  per_ck = Some p.clocks.per;
  hse_ck = p.clocks.hse;
  lse_ck = p.clocks.lse;
  audio_ck = p.clocks.audio;
  mco1_ck = p.mcos.mco1.clock;
  mco2_ck = p.mcos.mco2.clock;
  pll1 = pll_clocks (pll_in p 0);
  pll2 = pll_clocks (pll_in p 1);
  pll3 = pll_clocks (pll_in p 2);
  timx_ker_ck = p.clocks.timx;
  timy_ker_ck = p.clocks.timy;
  sys_ck = p.clocks.sys;
}

-- ---- one clock of those reported, for each that has a path: all but LSE and audio, which are passed through (document 01, One call)
abbrev pub clocks_of : CoreClocks → PllName → PllClocks
clocks_of k pll1 = k.pll1
clocks_of k pll2 = k.pll2
clocks_of k pll3 = k.pll3

-- P, Q or R of a PLL
abbrev pub output_of : PllClocks → Output → Option ℕ
output_of x P = x.p_ck
output_of x Q = x.q_ck
output_of x R = x.r_ck

-- each clock
abbrev pub hertz_of : CoreClocks → Clock → Option ℕ
hertz_of k sys = Some k.sys_ck
hertz_of k hclk = Some k.hclk
hertz_of k pclk1 = Some k.pclk1
hertz_of k pclk2 = Some k.pclk2
hertz_of k pclk3 = Some k.pclk3
hertz_of k timx = Some k.timx_ker_ck
hertz_of k timy = Some k.timy_ker_ck
hertz_of k per = k.per_ck
hertz_of k hsi = k.hsi_ck
hertz_of k csi = k.csi_ck
hertz_of k hsi48 = k.hsi48_ck
hertz_of k lsi = k.lsi_ck
hertz_of k hse = k.hse_ck
hertz_of k mco1 = k.mco1_ck
hertz_of k mco2 = k.mco2_ck
hertz_of k (output j o) = output_of (clocks_of k j) o
