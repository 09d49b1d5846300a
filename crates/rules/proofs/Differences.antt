-- Inputs of docs/DIFFERENCES.md at which a plan goes beyond the manual, as the Rust does, computed. The dividers that 14 and 15 refuse, and
-- what freeze writes there, are in Agreement/Departures.
use Rattle.std.specs.Prelude.{Option, Some, None}
use mathlib.Core.Path.{◌≡◌, refl}
use mathlib.Core.List.{List, [], ◌∷◌}
use mathlib.Core.Bool.{true, false}
use Prim.Native.Nat.{ℕ, ◌+◌, ◌*◌, ◌<◌}
use native.Mathlib.Omega.{arith}
use Rattle.types.specs.declared.Strategy.TheVariants.{Integer, Fractional}
use Rattle.types.specs.declared.Mco1Source.{Mco1Source}
use Rattle.types.specs.declared.Mco2Source.{Mco2Source}
use Rattle.types.specs.declared.PllSettings.{PllSettings}
use Rattle.types.specs.declared.Scale.{Scale}
use Rattle.types.specs.declared.Scale.TheVariants.{Scale0, Scale3}
use Rattle.types.specs.declared.Hsidiv.{Hsidiv}
use Rattle.types.specs.declared.ChipState.{ChipState}
use Rattle.types.specs.declared.Plan.{Plan}
use Rattle.rules.specs.Document01.Plan.{chosen_plan}
use Rattle.rules.proofs.Computes.{by_rules}
use Rattle.rules.proofs.Samples.{pll, none, asking, on_hse, state, plan, look, in_pll2}

-- VCOSEL, M, N, VCO of PLL2
abbrev vco : PllSettings → List ℕ
vco s = s.vcosel ∷ s.m ∷ s.n ∷ s.vco ∷ []

-- system, AHB, latency, delay
abbrev clocks : Plan → List ℕ
clocks p = p.clocks.sys ∷ p.buses.ahb.clock ∷ p.waits.latency ∷ p.waits.delay ∷ []

abbrev at : Scale → ChipState
at s = record { three = false; odd = true ∷ true ∷ true ∷ []; scale = s; hsion = true; hsidiv = Hsidiv.Div2 }

-- the medium VCO below 150,000,000: the target, 150,000,001, is what is tested
pub vco_below_its_range : look (in_pll2 vco) (chosen_plan (on_hse 1_999_999 (pll Integer (Some 1_171_876) (Some 150_000_001))) (state true)) ≡ plan (1 ∷ 1 ∷ 75 ∷ 149_999_925 ∷ [])
unfolding by_rules
vco_below_its_range = refl

-- the medium VCO above 420,000,000: M leaves a remainder, and 3,500,001 / 2 × 240 is 420,000,120
pub vco_above_its_range : look (in_pll2 vco) (chosen_plan (on_hse 3_500_001 (pll Integer (Some 210_000_000) None)) (state true)) ≡ plan (1 ∷ 2 ∷ 240 ∷ 420_000_000 ∷ [])
unfolding by_rules
vco_above_its_range = refl

pub above_by_120 : 420_000_000 * 2 < 3_500_001 * 240
above_by_120 = omega arith

-- the wide VCO above 560,000,000 in Fractional, by more than N + FRACN / 8192: the f32 steps round
abbrev parts : PllSettings → List ℕ
parts s = s.vcosel ∷ s.m ∷ s.n ∷ fracn_or s.fraction ∷ []
  where
    fracn_or : Option ℕ → ℕ
    fracn_or None = 0
    fracn_or (Some f) = f

pub fractional_above_its_range : look (in_pll2 parts) (chosen_plan (on_hse 40_282_899 (pll Fractional (Some 14_736_842) (Some 559_999_999))) (state true)) ≡ plan (0 ∷ 10 ∷ 139 ∷ 138 ∷ [])
unfolding by_rules
fractional_above_its_range = refl

pub above_by_rounding : (8192 * 560_000_000 + (8192 * 139 + 138)) * 10 < 40_282_899 * (8192 * 139 + 138)
above_by_rounding = omega arith

-- AHB above the manual's last row: Scale0 ends at 250 MHz, Scale3 at 100 MHz; the Rust's columns go one MHz further before latency 7
pub waits_beyond_scale0 : look clocks (chosen_plan (on_hse 250_000_001 none) (at Scale0)) ≡ plan (250_000_001 ∷ 250_000_001 ∷ 5 ∷ 2 ∷ [])
unfolding by_rules
waits_beyond_scale0 = refl

pub waits_beyond_scale3 : look clocks (chosen_plan (on_hse 101_000_000 none) (at Scale3)) ≡ plan (101_000_000 ∷ 101_000_000 ∷ 4 ∷ 2 ∷ [])
unfolding by_rules
waits_beyond_scale3 = refl

pub waits_seven : look clocks (chosen_plan (on_hse 101_000_001 none) (at Scale3)) ≡ plan (101_000_001 ∷ 101_000_001 ∷ 7 ∷ 3 ∷ [])
unfolding by_rules
waits_seven = refl

-- a system clock filled by MCO2 may be above 250,000,000
pub mco2_fills : look clocks (chosen_plan (asking None None None None Mco1Source.Hsi None Mco2Source.Sysclk (Some 300_000_000) none none) (state true)) ≡ plan (300_000_000 ∷ 300_000_000 ∷ 7 ∷ 3 ∷ [])
unfolding by_rules
mco2_fills = refl
