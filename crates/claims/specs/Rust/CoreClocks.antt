-- core_clocks.rs, with its names: the clocks that freeze reports. An Option<Hertz> is a Hertz here.
use Rattle.std.specs.Prelude.{ℕ, Option}

-- struct PllClocks
pub record PllClocks : Type 0 where
  pub p_ck : Option ℕ
  pub q_ck : Option ℕ
  pub r_ck : Option ℕ

-- struct CoreClocks
pub record CoreClocks : Type 0 where
  pub hclk : ℕ
  pub pclk1 : ℕ
  pub pclk2 : ℕ
  pub pclk3 : ℕ
  pub ppre1 : ℕ
  pub ppre2 : ℕ
  pub ppre3 : ℕ
  pub csi_ck : Option ℕ
  pub hsi_ck : Option ℕ
  pub hsi48_ck : Option ℕ
  pub lsi_ck : Option ℕ
  pub per_ck : Option ℕ
  pub hse_ck : Option ℕ
  pub lse_ck : Option ℕ
  pub audio_ck : Option ℕ
  pub mco1_ck : Option ℕ
  pub mco2_ck : Option ℕ
  pub pll1 : PllClocks
  pub pll2 : PllClocks
  pub pll3 : PllClocks
  pub timx_ker_ck : ℕ
  pub timy_ker_ck : ℕ
  pub sys_ck : ℕ
