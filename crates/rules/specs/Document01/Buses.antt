-- Document 01, One call, steps 5 to 7: the peripheral clock, AHB, APB and the timers.
use Rattle.std.specs.Prelude.{ℕ, ◌/◌, not, cond, List, [], ◌∷◌, leb, eqb, Option, Some, None, Result, Ok, unwrap_or}
use Rattle.types.specs.declared.Refusal.{Refusal}
use Rattle.types.specs.declared.Bus.{Bus}
use Rattle.types.specs.declared.Selected.{Selected}
use Rattle.types.specs.declared.Refusal.TheVariants.{BusZero, AhbZero}
use Rattle.rules.specs.Document01.Result.{◌>>◌, require}
use Rattle.rules.specs.Document01.Hertz.{ratio_of, not_zero}

-- step 5: CSI if 4,000,000, else HSI
abbrev pub csi_or_hsi : ℕ → Selected
csi_or_hsi h = cond (eqb h 4_000_000) (record { sel = 1; clock = 4_000_000 }) (record { sel = 0; clock = 32_000_000 })

-- step 5: HSE if requested equal to it
unfoldable pub peripheral_of : (requested hse : Option ℕ) → Selected
peripheral_of None hse = record { sel = 0; clock = 32_000_000 }
peripheral_of (Some h) None = csi_or_hsi h
peripheral_of (Some h) (Some e) = cond (eqb h e) (record { sel = 2; clock = h }) (csi_or_hsi h)

-- ---- steps 6 and 7: ratios up to a bound, and the divisor that they give
pub record RatioRow : Type 0 where
  pub bound : ℕ
  pub divisor : ℕ

infix 70 ◌gives◌
-- a row, as it is written
abbrev pub ◌gives◌ : ℕ → ℕ → RatioRow
bound gives divisor = record { bound = bound; divisor = divisor }

-- the divisor of a ratio: of the first row that reaches up to it, else the last divisor
abbrev pub divisor_by : List RatioRow → (last ratio : ℕ) → ℕ
divisor_by [] last ratio = last
divisor_by (r ∷ rs) last ratio = cond (leb ratio r.bound) r.divisor (divisor_by rs last ratio)

-- step 6: 1, 2, 3–5, 6–11, 12–39, 40–95, 96–191, 192–383, more
abbrev pub ahb_rows : List RatioRow
ahb_rows = 1 gives 1 ∷ 2 gives 2 ∷ 5 gives 4 ∷ 11 gives 8 ∷ 39 gives 16 ∷ 95 gives 64 ∷ 191 gives 128 ∷ 383 gives 256 ∷ []

-- and more gives 512
abbrev pub hpre_of : (ratio : ℕ) → ℕ
hpre_of = divisor_by ahb_rows 512

-- step 7: 1, 2, 3–5, 6–11, more
abbrev pub apb_rows : List RatioRow
apb_rows = 1 gives 1 ∷ 2 gives 2 ∷ 5 gives 4 ∷ 11 gives 8 ∷ []

-- and more gives 16
abbrev pub ppre_of : (ratio : ℕ) → ℕ
ppre_of = divisor_by apb_rows 16

-- step 6: the divisor. Unset means the system clock
abbrev pub hpre_for : (system : ℕ) → Option ℕ → ℕ
hpre_for system h = hpre_of (ratio_of system (unwrap_or h system))

-- with refusals 18 and 19
unfoldable pub ahb_of : (system : ℕ) → Option ℕ → Result Bus Refusal
ahb_of system h = do
  require (not_zero h) BusZero
  require (not (eqb (system / hpre_for system h) 0)) AhbZero
  Ok (record { pre = hpre_for system h; clock = system / hpre_for system h })

-- step 7: the divisor. Unset means the AHB clock
abbrev pub ppre_for : (ahb : ℕ) → Option ℕ → ℕ
ppre_for ahb h = ppre_of (ratio_of ahb (unwrap_or h ahb))

-- with refusal 18
unfoldable pub apb_of : (ahb : ℕ) → Option ℕ → Result Bus Refusal
apb_of ahb h = do
  require (not_zero h) BusZero
  Ok (record { pre = ppre_for ahb h; clock = ahb / ppre_for ahb h })

-- step 7: a timer gets AHB / 2, / 4, / 8 under divisors 4, 8, 16, else AHB
unfoldable pub timer_of : (ahb ppre : ℕ) → ℕ
timer_of ahb ppre = cond (eqb ppre 4) (ahb / 2) (cond (eqb ppre 8) (ahb / 4) (cond (eqb ppre 16) (ahb / 8) ahb))
