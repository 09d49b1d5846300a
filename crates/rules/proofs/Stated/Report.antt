-- The report's 55 words in the order of docs/CODES.md, in numbers: 26 clocks, each as (0 or 1, hertz), then PPRE1 to PPRE3.
use Rattle.std.specs.Prelude.{Option, Some, None}
use mathlib.Core.Path.{◌≡◌, refl}
use mathlib.Core.Bool.{true, false}
use mathlib.Core.List.{List, [], ◌∷◌, ◌++◌}
use Prim.Native.Nat.{ℕ}
use lib.ListN.{replicate}
use Rattle.types.specs.declared.Clocks.{Clocks}
use Rattle.types.specs.declared.Bus.{Bus}
use Rattle.types.specs.declared.Mco.{Mco}
use Rattle.types.specs.declared.Plan.{Plan}
use Rattle.rules.specs.Document01.Plan.{chosen_plan}
use Rattle.rules.specs.Document01.Entries.{bit}
use Rattle.rules.specs.Words.{report_words}
use Rattle.rules.proofs.Computes.{by_rules}
use Rattle.rules.proofs.Samples.{fullest, state3, look, plan}

-- HSE 8,000,000, LSE, audio, three PLLs with all their outputs but one, both MCOs
pub fifty_five : look report_words (chosen_plan (fullest (Some 32_768) (Some 49_152_000) None) (state3 true true true))
    ≡ plan (1 ∷ 250_000_000 ∷ 1 ∷ 125_000_000 ∷ 1 ∷ 31_250_000 ∷ 1 ∷ 15_625_000 ∷ 1 ∷ 7_812_500 ∷ 1 ∷ 62_500_000 ∷ 1 ∷ 31_250_000 ∷ 1 ∷ 8_000_000
    ∷ 1 ∷ 32_000_000 ∷ 1 ∷ 4_000_000 ∷ 1 ∷ 48_000_000 ∷ 1 ∷ 32_000 ∷ 1 ∷ 8_000_000 ∷ 1 ∷ 32_768 ∷ 1 ∷ 49_152_000 ∷ 1 ∷ 12_500_000 ∷ 1 ∷ 25_000_000
    ∷ 1 ∷ 250_000_000 ∷ 1 ∷ 125_000_000 ∷ 1 ∷ 50_000_000
    ∷ 1 ∷ 12_282_352 ∷ 1 ∷ 24_564_705 ∷ 1 ∷ 6_141_176
    ∷ 1 ∷ 30_769_230 ∷ 1 ∷ 100_000_000 ∷ 0 ∷ 0
    ∷ 4 ∷ 8 ∷ 16 ∷ [])
unfolding by_rules
fifty_five = refl

-- a clock: not there, or its hertz
abbrev pub clock : Option ℕ → List ℕ
clock None = 0 ∷ 0 ∷ []
clock (Some h) = 1 ∷ h ∷ []

abbrev pub all : List (Option ℕ) → List ℕ
all [] = []
all (h ∷ hs) = clock h ++ all hs

-- a plan of zeros: no clock, no number
abbrev no_clocks : Clocks
no_clocks = record { sys = 0; timx = 0; timy = 0; per = 0; hsi = 0; csi = 0; hsi48 = 0; lsi = 0; hse = None; lse = None; audio = None }

abbrev no_bus : Bus
no_bus = record { pre = 0; clock = 0 }

abbrev no_mco : Mco
no_mco = record { pre = 0; clock = None }

unfoldable pub blank_plan : Plan
blank_plan = record {
  clocks = no_clocks;
  buses = record { ahb = no_bus; apb1 = no_bus; apb2 = no_bus; apb3 = no_bus };
  mcos = record { mco1 = no_mco; mco2 = no_mco };
  waits = record { latency = 0; delay = 0 };
  selectors = record { src = 0; sw = 0; ckpersel = 0; mco1sel = 0; mco2sel = 0 };
  bypass = false;
  three = false;
  plls = replicate 3 None;
}

-- 0 Hz where a plan always has a clock, no other clock, and 0 in every field
pub blank_report : report_words blank_plan ≡ all (replicate 12 (Some 0)) ++ replicate 31 0
unfolding blank_plan
blank_report = refl

pub blank_fields :
    blank_plan.selectors.src ∷ blank_plan.selectors.sw ∷ blank_plan.buses.ahb.pre ∷ blank_plan.selectors.ckpersel ∷ blank_plan.selectors.mco1sel ∷ blank_plan.mcos.mco1.pre ∷ blank_plan.selectors.mco2sel
    ∷ blank_plan.mcos.mco2.pre ∷ blank_plan.waits.latency ∷ blank_plan.waits.delay ∷ bit blank_plan.three ∷ bit blank_plan.bypass ∷ []
    ≡ replicate 12 0
unfolding blank_plan
blank_fields = refl
