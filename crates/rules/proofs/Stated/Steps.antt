-- The tables of document 01, One call and Flash, at the ends of their rows, and the sources' codes of docs/CODES.md, in numbers.
use Rattle.std.specs.Prelude.{Some, None}
use mathlib.Core.Path.{◌≡◌, refl}
use mathlib.Core.List.{List, [], ◌∷◌, map}
use Prim.Native.Nat.{ℕ, ◌+◌, ◌*◌}
use Rattle.types.specs.declared.Scale.{Scale}
use Rattle.types.specs.declared.Scale.TheVariants.{Scale0, Scale1, Scale2, Scale3}
use Rattle.types.specs.declared.Mco1Source.{Mco1Source}
use Rattle.types.specs.declared.Mco2Source.{Mco2Source}
use Rattle.rules.specs.Document01.Bytes.{mco1_sources, mco2_sources}
use Rattle.rules.specs.Document01.Mco.{mco1_code, mco2_code}
use Rattle.rules.specs.Document01.Hertz.{ratio_of}
use Rattle.rules.specs.Document01.Buses.{peripheral_of, hpre_of, ppre_of, timer_of}
use Rattle.rules.specs.Document01.Walk.{vos_code}
use Rattle.types.specs.declared.Waits.{Waits}
use Rattle.rules.specs.Document01.Flash.{at_column, flash_of}
use Rattle.rules.proofs.Stated.Bank.{counted}
use Rattle.types.specs.declared.Selected.{Selected}

-- ---- the codes of the MCO sources, as they are read and as they are written
pub mco1_codes : mco1_sources ≡ Mco1Source.Hsi ∷ Mco1Source.Lse ∷ Mco1Source.Hse ∷ Mco1Source.Pll1Q ∷ Mco1Source.Hsi48 ∷ []
mco1_codes = refl

pub mco2_codes : mco2_sources ≡ Mco2Source.Sysclk ∷ Mco2Source.Pll2P ∷ Mco2Source.Hse ∷ Mco2Source.Pll1P ∷ Mco2Source.Csi ∷ Mco2Source.Lsi ∷ []
mco2_codes = refl

pub mco_written : map mco1_code mco1_sources ∷ map mco2_code mco2_sources ∷ [] ≡ counted 5 0 ∷ counted 6 0 ∷ []
mco_written = refl

-- ---- step 5: HSE if requested equal to it, else CSI if 4,000,000, else HSI
abbrev selected : Selected → List ℕ
selected s = s.sel ∷ s.clock ∷ []

pub peripherals :
    map selected
    (peripheral_of None (Some 8_000_000) ∷ peripheral_of (Some 8_000_000) (Some 8_000_000) ∷ peripheral_of (Some 4_000_000) (Some 4_000_000) ∷ peripheral_of (Some 4_000_000) (Some 8_000_000)
    ∷ peripheral_of (Some 4_000_000) None ∷ peripheral_of (Some 5_000_000) None ∷ peripheral_of (Some 5_000_000) (Some 8_000_000) ∷ [])
    ≡ (0 ∷ 32_000_000 ∷ []) ∷ (2 ∷ 8_000_000 ∷ []) ∷ (2 ∷ 4_000_000 ∷ []) ∷ (1 ∷ 4_000_000 ∷ []) ∷ (1 ∷ 4_000_000 ∷ []) ∷ (0 ∷ 32_000_000 ∷ []) ∷ (0 ∷ 32_000_000 ∷ []) ∷ []
unfolding peripheral_of
peripherals = refl

-- ---- steps 6 and 7: a ratio rounded up; 1, 2, 3–5, 6–11, 12–39, 40–95, 96–191, 192–383, more
pub ratios : ratio_of 100 100 ∷ ratio_of 101 100 ∷ ratio_of 200 100 ∷ ratio_of 201 100 ∷ ratio_of 99 100 ∷ [] ≡ 1 ∷ 2 ∷ 2 ∷ 3 ∷ 1 ∷ []
unfolding ratio_of
ratios = refl

abbrev ends : List ℕ
ends = 1 ∷ 2 ∷ 3 ∷ 5 ∷ 6 ∷ 11 ∷ 12 ∷ 39 ∷ 40 ∷ 95 ∷ 96 ∷ 191 ∷ 192 ∷ 383 ∷ 384 ∷ 4_000_000 ∷ []

pub divisors : map hpre_of ends ∷ map ppre_of ends ∷ []
    ≡ (1 ∷ 2 ∷ 4 ∷ 4 ∷ 8 ∷ 8 ∷ 16 ∷ 16 ∷ 64 ∷ 64 ∷ 128 ∷ 128 ∷ 256 ∷ 256 ∷ 512 ∷ 512 ∷ [])
    ∷ (1 ∷ 2 ∷ 4 ∷ 4 ∷ 8 ∷ 8 ∷ 16 ∷ 16 ∷ 16 ∷ 16 ∷ 16 ∷ 16 ∷ 16 ∷ 16 ∷ 16 ∷ 16 ∷ []) ∷ []
divisors = refl

-- timers: AHB / 2, / 4, / 8 under divisors 4, 8, 16, else AHB
pub timers : map (timer_of 80) (1 ∷ 2 ∷ 4 ∷ 8 ∷ 16 ∷ []) ≡ 80 ∷ 80 ∷ 40 ∷ 20 ∷ 10 ∷ []
unfolding timer_of
timers = refl

-- ---- Flash: latency × 10 + delay, at so many MHz and 1 Hz above: where it rises, and beyond the last column, which ends 1 MHz above the manual's
-- row
abbrev waits : Waits → ℕ
waits w = w.latency * 10 + w.delay

abbrev around : Scale → ℕ → List ℕ
around s mhz = waits (flash_of s (mhz * 1_000_000)) ∷ waits (flash_of s (mhz * 1_000_000 + 1)) ∷ []

pub at_scale0 : (waits (flash_of Scale0 0) ∷ waits (flash_of Scale0 1) ∷ []) ∷ map (around Scale0) (42 ∷ 84 ∷ 126 ∷ 168 ∷ 210 ∷ 250 ∷ 251 ∷ [])
    ≡ (0 ∷ 0 ∷ []) ∷ (0 ∷ 10 ∷ []) ∷ (10 ∷ 21 ∷ []) ∷ (21 ∷ 31 ∷ []) ∷ (31 ∷ 42 ∷ []) ∷ (42 ∷ 52 ∷ []) ∷ (52 ∷ 52 ∷ []) ∷ (52 ∷ 73 ∷ []) ∷ []
unfolding flash_of at_column
at_scale0 = refl

pub at_scale1 : map (around Scale1) (34 ∷ 68 ∷ 102 ∷ 136 ∷ 170 ∷ 200 ∷ 201 ∷ [])
    ≡ (0 ∷ 10 ∷ []) ∷ (10 ∷ 21 ∷ []) ∷ (21 ∷ 31 ∷ []) ∷ (31 ∷ 42 ∷ []) ∷ (42 ∷ 52 ∷ []) ∷ (52 ∷ 52 ∷ []) ∷ (52 ∷ 73 ∷ []) ∷ []
unfolding flash_of at_column
at_scale1 = refl

pub at_scale2 : map (around Scale2) (30 ∷ 60 ∷ 90 ∷ 120 ∷ 150 ∷ 151 ∷ [])
    ≡ (0 ∷ 10 ∷ []) ∷ (10 ∷ 21 ∷ []) ∷ (21 ∷ 31 ∷ []) ∷ (31 ∷ 42 ∷ []) ∷ (42 ∷ 42 ∷ []) ∷ (42 ∷ 73 ∷ []) ∷ []
unfolding flash_of at_column
at_scale2 = refl

pub at_scale3 : map (around Scale3) (20 ∷ 40 ∷ 60 ∷ 80 ∷ 100 ∷ 101 ∷ [])
    ≡ (0 ∷ 10 ∷ []) ∷ (10 ∷ 21 ∷ []) ∷ (21 ∷ 31 ∷ []) ∷ (31 ∷ 42 ∷ []) ∷ (42 ∷ 42 ∷ []) ∷ (42 ∷ 73 ∷ []) ∷ []
unfolding flash_of at_column
at_scale3 = refl

-- ---- VOS and ACTVOS: 3 less the scale
pub vos_codes : map vos_code (0 ∷ 1 ∷ 2 ∷ 3 ∷ []) ≡ 3 ∷ 2 ∷ 1 ∷ 0 ∷ []
vos_codes = refl
