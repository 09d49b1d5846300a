-- Document 01, One call, step 8, with refusals 20 to 23: the clocks that the chip puts out.
use Rattle.std.specs.Prelude.{ℕ, ◌/◌, not, ◌&&◌, leb, eqb, Option, Some, None, Result, Ok, Err, unwrap_or}
use Rattle.types.specs.declared.Refusal.{Refusal}
use Rattle.types.specs.declared.Mco.{Mco}
use Rattle.types.specs.declared.Mco1Source.{Mco1Source}
use Rattle.types.specs.declared.Mco2Source.{Mco2Source}
use Rattle.types.specs.declared.Refusal.TheVariants.{Mco1Lse, McoNoOutput, McoZero, McoRatio}
use Rattle.rules.specs.Document01.Result.{◌>>◌, require}
use Rattle.rules.specs.Document01.Hertz.{ratio_of}

-- refusal 21
abbrev pub planned : Option ℕ → Result ℕ Refusal
planned None = Err McoNoOutput
planned (Some h) = Ok h

-- the clock of MCO1's source, with refusals 20 and 21. HSE is stated, or it was refused by 4
unfoldable pub mco1_input : Mco1Source → (hse pll1Q : Option ℕ) → Result ℕ Refusal
mco1_input Mco1Source.Hsi hse pll1Q = Ok 32_000_000
mco1_input Mco1Source.Lse hse pll1Q = Err Mco1Lse
mco1_input Mco1Source.Hse hse pll1Q = Ok (unwrap_or hse 0)
mco1_input Mco1Source.Pll1Q hse pll1Q = planned pll1Q
mco1_input Mco1Source.Hsi48 hse pll1Q = Ok 48_000_000

-- the clock of MCO2's source, with refusal 21
unfoldable pub mco2_input : Mco2Source → (system : ℕ) → (hse pll1_p pll2P : Option ℕ) → Result ℕ Refusal
mco2_input Mco2Source.Sysclk system hse pll1_p pll2P = Ok system
mco2_input Mco2Source.Pll2P system hse pll1_p pll2P = planned pll2P
mco2_input Mco2Source.Hse system hse pll1_p pll2P = Ok (unwrap_or hse 0)
mco2_input Mco2Source.Pll1P system hse pll1_p pll2P = planned pll1_p
mco2_input Mco2Source.Csi system hse pll1_p pll2P = Ok 4_000_000
mco2_input Mco2Source.Lsi system hse pll1_p pll2P = Ok 32_000

-- step 8: a ratio rounded up, 1 to 15, with refusals 22 and 23. Without hertz the prescaler is 0 and no clock is reported
unfoldable pub mco_of : (clock : ℕ) → Option ℕ → Result Mco Refusal
mco_of clock None = Ok (record { pre = 0; clock = None })
mco_of clock (Some h) = do
  require (not (eqb h 0)) McoZero
  require (leb 1 (ratio_of clock h) && leb (ratio_of clock h) 15) McoRatio
  Ok (record { pre = ratio_of clock h; clock = Some (clock / ratio_of clock h) })

-- the codes of the selectors
abbrev pub mco1_code : Mco1Source → ℕ
mco1_code Mco1Source.Hsi = 0
mco1_code Mco1Source.Lse = 1
mco1_code Mco1Source.Hse = 2
mco1_code Mco1Source.Pll1Q = 3
mco1_code Mco1Source.Hsi48 = 4

-- MCO2SEL and the byte form
abbrev pub mco2_code : Mco2Source → ℕ
mco2_code Mco2Source.Sysclk = 0
mco2_code Mco2Source.Pll2P = 1
mco2_code Mco2Source.Hse = 2
mco2_code Mco2Source.Pll1P = 3
mco2_code Mco2Source.Csi = 4
mco2_code Mco2Source.Lsi = 5
