-- No run of the Rust takes an operation back: what holds of the operations before it, and goes on to hold with each one more, holds where it ends.
use Rattle.std.specs.Prelude.{Option, Some, None}
use mathlib.Core.List.{List, [], ◌∷◌, ◌++◌}
use mathlib.Core.Bool.{Bool, true, false, cond}
use Prim.Native.Nat.{ℕ, zero, suc}
use lib.IntN.{ℤ}
use lib.Ieee.{Float}
use Rattle.types.specs.declared.Entry.{Entry}
use Rattle.types.specs.declared.Strategy.{Strategy}
use Rattle.types.specs.declared.Strategy.TheVariants.{Integer, Fractional}
use Rattle.types.specs.declared.Mco1Source.{Mco1Source}
use Rattle.types.specs.declared.Mco2Source.{Mco2Source}
use Rattle.types.specs.declared.Scale.{Scale}
use Rattle.types.specs.declared.ChipState.{ChipState}
use Rattle.claims.specs.Rust.Run.{Outcome, panics, ends, Run, continue, assert, unwrap}
use Rattle.claims.specs.Rust.Pll.{PllConfig, VcoRange, PllOutput, PllSetup, mapped, output_div, key_of, min_from, min_by_key, search_m, target_setup, divider_setup, range_setup, vco_output_divider_setup, pll_divider_setup, calc_fracn, vco_ck_of, write_pll, pll_setup}
use Rattle.claims.specs.Rust.Mco.{calculate_prescaler}
use Rattle.claims.specs.Rust.Rcc.{Config, Plls, Buses, Mcos, TIMPRE, if_rm0481, hclk_calculate, ppre_calculate, buses_calculate, mco1_in, mco2_in, mcos_calculate, flash_acr, flash_setup, enable_hse, start_clocks, enable_pll, start_plls, switch_clocks}

-- where a run ends, P holds of its operations
pub data Keeps {A : Type 0} (P : List Entry → Type 0) : Outcome A → Type 0 where
  panicking : Keeps P panics
  ending : {es : List Entry} {a : A} → P es → Keeps P (ends es a)

module _ (P : List Entry → Type 0) (more : (e : Entry) (es : List Entry) → P es → P (es ++ (e ∷ []))) where
  -- ---- laws of runs
  pub follows : {A B : Type 0} {o : Outcome A} (k : A → Run B) → Keeps P o → ((a : A) (es : List Entry) → P es → Keeps P (k a es)) → Keeps P (continue o k)
  follows k panicking f = panicking
  follows k (ending p) f = f _ _ p

  pub either : {A : Type 0} (t : Bool) {x y : Outcome A} → Keeps P x → Keeps P y → Keeps P (cond t x y)
  either true p q = p
  either false p q = q

  pub either_run : {A : Type 0} (t : Bool) (x y : Run A) (es : List Entry) → Keeps P (x es) → Keeps P (y es) → Keeps P (cond t x y es)
  either_run true x y es p q = p
  either_run false x y es p q = q

  pub asserts : (t : Bool) (es : List Entry) → P es → Keeps P (assert t es)
  asserts true es p = ending p
  asserts false es p = panicking

  pub unwraps : (h : Option ℕ) (es : List Entry) → P es → Keeps P (unwrap h es)
  unwraps None es p = panicking
  unwraps (Some h) es p = ending p

  pub third : {A : Type 0} (three : Bool) (m : Run A) (a : A) (es : List Entry) → P es → Keeps P (m es) → Keeps P (if_rm0481 three m a es)
  third true m a es p h = h
  third false m a es p h = ending p

  pub ruleset laws = (panicking, ending, follows, either, either_run, asserts, unwraps, third)

  -- ---- pll.rs
  maps : (h : Option ℕ) (odd : Bool) (es : List Entry) → P es → Keeps P (mapped h odd es)
  maps None odd es p = search laws
  maps (Some h) true es p = search laws
  maps (Some h) false es p = search laws

  divides : (target : ℕ) (h : Option ℕ) (es : List Entry) → P es → Keeps P (output_div target h es)
  divides target None es p = search laws
  divides target (Some h) es p = search laws

  key : (source target m : ℕ) (es : List Entry) → P es → Keeps P (key_of source target m es)
  unfolding key_of
  key source target m es p = search laws

  goes_on : (source target from count best : ℕ) (least : ℤ) (es : List Entry) → P es → Keeps P (min_from source target best least from count es)
  unfolding min_from
  goes_on source target from zero best least es p = ending p
  goes_on source target from (suc count) best least es p = follows _ (key source target from es p) (λ k. goes_on source target (suc from) count _ _)

  least_key : (source target from count : ℕ) (es : List Entry) → P es → Keeps P (min_by_key source target from count es)
  unfolding min_by_key
  least_key source target from zero es p = panicking
  least_key source target from (suc count) es p = search (laws, key, goes_on)

  chooses : (source : ℕ) (g : VcoRange) (target : ℕ) (es : List Entry) → P es → Keeps P (search_m source g target es)
  unfolding search_m
  chooses source g target es p = search (laws, least_key)

  targets : (low most : ℕ) (g : VcoRange) (es : List Entry) → P es → Keeps P (target_setup low most g es)
  unfolding target_setup
  targets low most g es p = search laws depth 12

  dividers : (source : ℕ) (a : PllConfig) (g : VcoRange) (target : ℕ) (es : List Entry) → P es → Keeps P (divider_setup source a g target es)
  unfolding divider_setup
  dividers source a g target es p = search (laws, divides, chooses) depth 12

  ranges : (source : ℕ) (a : PllConfig) (low most : ℕ) (es : List Entry) → P es → Keeps P (range_setup source a low most es)
  unfolding range_setup
  ranges source a low most es p = search (laws, targets, dividers)

  vco : (source : ℕ) (a : PllConfig) (odd : Bool) (es : List Entry) → P es → Keeps P (vco_output_divider_setup source a odd es)
  unfolding vco_output_divider_setup
  vco source a odd es p = search (laws, maps, ranges)

  pub output : (field enable clock : ℕ) (o : Option PllOutput) (es : List Entry) → P es → Keeps P (pll_divider_setup field enable clock o es)
  unfolding pll_divider_setup
  output field enable clock None es p = search laws
  output field enable clock (Some o) es p = search laws depth 12

  fracn : (ref n d o : Float) (es : List Entry) → P es → Keeps P (calc_fracn ref n d o es)
  unfolding calc_fracn
  fracn ref n d o es p = search laws

  vco_clock : (k : ℕ) (s : Strategy) (ref n : ℕ) (o : Option PllOutput) (es : List Entry) → P es → Keeps P (vco_ck_of k s ref n o es)
  unfolding vco_ck_of
  vco_clock k Integer ref n o es p = search laws
  vco_clock k Fractional ref n None es p = search laws
  vco_clock k Fractional ref n (Some o) es p = search (laws, fracn)

  writes : (k : ℕ) (s : Strategy) (x : PllSetup) (es : List Entry) → P es → Keeps P (write_pll k s x es)
  unfolding write_pll
  writes k s x es p = search (laws, vco_clock, output) depth 12

  pub sets_up : (k : ℕ) (odd : Bool) (source : ℕ) (a : PllConfig) (es : List Entry) → P es → Keeps P (pll_setup k odd source a es)
  unfolding pll_setup
  sets_up k odd source a es p = search (laws, vco, writes) depth 12

  -- ---- rcc.rs and mco.rs, after the PLLs
  ahb : (system : ℕ) (h : Option ℕ) (es : List Entry) → P es → Keeps P (hclk_calculate system h es)
  unfolding hclk_calculate
  ahb system h es p = search laws depth 20

  apb : (clock : ℕ) (h : Option ℕ) (es : List Entry) → P es → Keeps P (ppre_calculate clock h es)
  unfolding ppre_calculate
  apb clock h es p = search laws depth 20

  pub buses : (system : ℕ) (c : Config) (es : List Entry) → P es → Keeps P (buses_calculate system c es)
  unfolding buses_calculate
  buses system c es p = search (laws, ahb, apb)

  mco1 : (s : Mco1Source) (c : Config) (l : Plls) (es : List Entry) → P es → Keeps P (mco1_in s c l es)
  unfolding mco1_in
  mco1 Mco1Source.Hsi c l es p = search laws
  mco1 Mco1Source.Lse c l es p = search laws
  mco1 Mco1Source.Hse c l es p = search laws
  mco1 Mco1Source.Pll1Q c l es p = search laws
  mco1 Mco1Source.Hsi48 c l es p = search laws

  mco2 : (s : Mco2Source) (system : ℕ) (c : Config) (l : Plls) (es : List Entry) → P es → Keeps P (mco2_in s system c l es)
  unfolding mco2_in
  mco2 Mco2Source.Sysclk system c l es p = search laws
  mco2 Mco2Source.Pll2P system c l es p = search laws
  mco2 Mco2Source.Hse system c l es p = search laws
  mco2 Mco2Source.Pll1P system c l es p = search laws
  mco2 Mco2Source.Csi system c l es p = search laws
  mco2 Mco2Source.Lsi system c l es p = search laws

  prescaler : (clock : ℕ) (h : Option ℕ) (es : List Entry) → P es → Keeps P (calculate_prescaler clock h es)
  unfolding calculate_prescaler
  prescaler clock None es p = search laws
  prescaler clock (Some h) es p = search laws

  pub mcos : (system : ℕ) (c : Config) (l : Plls) (es : List Entry) → P es → Keeps P (mcos_calculate system c l es)
  unfolding mcos_calculate
  mcos system c l es p = search (laws, mco1, mco2, prescaler)

  flash : (clock : ℕ) (s : Scale) (es : List Entry) → P es → Keeps P (flash_setup clock s es)
  unfolding flash_setup flash_acr
  flash clock s es p = search laws

  hse : (h : Option ℕ) (bypass : Bool) (es : List Entry) → P es → Keeps P (enable_hse h bypass es)
  hse None bypass es p = search laws
  hse (Some h) bypass es p = search laws

  pub clocks : (s : Scale) (c : Config) (b : Buses) (m : Mcos) (es : List Entry) → P es → Keeps P (start_clocks s c b m es)
  unfolding start_clocks
  clocks s c b m es p = search (laws, flash, hse) depth 12

  enables : (k : ℕ) (h : Option ℕ) (es : List Entry) → P es → Keeps P (enable_pll k h es)
  enables k None es p = search laws
  enables k (Some h) es p = search laws

  pub plls : (chip : ChipState) (c : Config) (l : Plls) (es : List Entry) → P es → Keeps P (start_plls chip c l es)
  unfolding start_plls
  plls chip c l es p = search (laws, enables) depth 12

  pub switches : (c : Config) (pll1 : Bool) (b : Buses) (sel : ℕ) (t : TIMPRE) (es : List Entry) → P es → Keeps P (switch_clocks c pll1 b sel t es)
  unfolding switch_clocks
  switches c pll1 b sel t es p = search laws depth 12
