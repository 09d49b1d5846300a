-- What the conditions of specs/Demands/Refused speak of: each quantity has a value whatever the request. Where one is missing, as M where none is
-- admissible, 0 stands for it, and an earlier row of the list holds.
use Rattle.std.specs.Prelude.{ℕ, zero, suc, ◌/◌, ◌*◌, List, [], ◌∷◌, Bool, true, false, not, cond, ◌||◌, ltb, eqb, Float, Option, Some, None, unwrap_or, is_some}
use Rattle.std.specs.Float.Ieee.{to_unsigned}
use Rattle.types.specs.declared.Strategy.{Strategy}
use Rattle.types.specs.declared.Strategy.TheVariants.{Integer, Fractional}
use Rattle.types.specs.declared.Mco1Source.{Mco1Source}
use Rattle.types.specs.declared.Mco2Source.{Mco2Source}
use Rattle.types.specs.declared.PllRequest.{PllRequest}
use Rattle.types.specs.declared.Request.{Request}
use Rattle.types.specs.declared.ChipState.{ChipState}
use Rattle.ieee754.specs.Steps.{float, fracn_float, vco_of}
use Rattle.rules.specs.Document01.Chip.{odd_at}
use Rattle.rules.specs.Document01.Hertz.{ratio_of}
use Rattle.rules.specs.Document01.Request.{source_of, needs_pll1, asked_of}
use Rattle.rules.specs.Document01.ChoiceOfM.{chosen_m}
use Rattle.rules.specs.Document01.OnePll.{counted_outputs, least, largest, Range, range_for, target_for, first_of}

-- ---- requested hertz
-- a test holds of one of some hertz
abbrev pub any : (Option ℕ → Bool) → List (Option ℕ) → Bool
any t [] = false
any t (h ∷ hs) = t h || any t hs

-- requested, and 0
abbrev pub is_zero : Option ℕ → Bool
is_zero None = false
is_zero (Some h) = eqb h 0

-- requested, and above a limit
abbrev pub above : (limit : ℕ) → Option ℕ → Bool
above limit None = false
above limit (Some h) = ltb limit h

-- requested, and unlike another
abbrev pub unlike : ℕ → Option ℕ → Bool
unlike s None = false
unlike s (Some h) = not (eqb h s)

-- ---- one PLL
-- some number of 1 to n passes a test
unfoldable pub any_to : (ℕ → Bool) → ℕ → Bool
any_to t zero = false
any_to t (suc n) = any_to t n || t (suc n)

-- M, 0 where there is none
abbrev pub number_m : Option ℕ → ℕ
number_m None = 0
number_m (Some m) = m

-- the strategy is Fractional
abbrev pub is_fractional : Strategy → Bool
is_fractional Integer = false
is_fractional Fractional = true

-- document 01, One PLL: whether odd P is allowed, the source's hertz, and what is asked for
module _ (odd : Bool) (source : ℕ) (a : PllRequest) where
  -- the least counted output
  abbrev pub min : ℕ
  min = least (counted_outputs odd a)

  -- the largest
  abbrev pub max : ℕ
  max = largest (counted_outputs odd a)

  -- the first VCO range whose end is strictly above max
  abbrev pub range : Range
  range = range_for odd a

  -- max × (end / max), divided where target / min is over 128
  abbrev pub target : ℕ
  target = target_for odd a

  -- the smallest M with the least shortfall
  abbrev pub m : ℕ
  m = number_m (chosen_m source target range.low range.high)

  -- ref = source / M
  abbrev pub ref : ℕ
  ref = source / m

  -- N = target / ref
  abbrev pub n : ℕ
  n = target / ref

  -- FRACN before cutting, for the first requested of P, Q, R
  abbrev pub fracn : Float
  fracn = fracn_float (float ref) (float n) (float (target / first_of a)) (float (first_of a))

  -- P's divider = target / output
  abbrev pub divider_p : ℕ
  divider_p = target / unwrap_or a.p 0

  -- VCO is ref × N in Integer, ref × (N + FRACN / 8192) in f32 in Fractional
  abbrev pub vco : ℕ
  vco = cond (is_fractional a.strategy) (vco_of ref n (to_unsigned 16 fracn)) (ref * n)

  -- an output's hertz: VCO / divider
  abbrev pub clock_at : Option ℕ → ℕ
  clock_at None = 0
  clock_at (Some h) = vco / (target / h)

-- those that the rows of one PLL name
pub record OfPll : Type 0 where
  pub min : ℕ
  pub max : ℕ
  pub range : Range
  pub target : ℕ
  pub n : ℕ
  pub fracn : Float
  pub divider_p : ℕ

-- the same, of a PLL
abbrev pub of_pll : (odd : Bool) → (source : ℕ) → PllRequest → OfPll
of_pll odd source a = record {
  min = min odd source a;
  max = max odd source a;
  range = range odd source a;
  target = target odd source a;
  n = n odd source a;
  fracn = fracn odd source a;
  divider_p = divider_p odd source a;
}

-- ---- the system clock
-- PLL1 P as planned
abbrev pub pll1_p : Request → ChipState → ℕ
pll1_p q c = clock_at (odd_at c 0) (source_of q) (asked_of q 0) (asked_of q 0).p

-- the system clock: PLL1 P as reported where it is needed, else the source
abbrev pub system : Request → ChipState → ℕ
system q c = cond (needs_pll1 q) (pll1_p q c) (source_of q)

-- ---- the MCOs
-- what an MCO comes from: whether it is LSE, whether it is a PLL output that is not planned, and its hertz
pub record Input : Type 0 where
  pub lse : Bool
  pub unplanned : Bool
  pub clock : ℕ

-- a clock that is there
abbrev pub running : ℕ → Input
running h = record { lse = false; unplanned = false; clock = h }

-- a PLL output, which is planned where it is requested
abbrev pub output : (requested : Option ℕ) → ℕ → Input
output requested h = record { lse = false; unplanned = not (is_some requested); clock = h }

-- MCO1's sources
abbrev pub input1 : Request → ChipState → Mco1Source → Input
input1 q c Mco1Source.Hsi = running 32_000_000
input1 q c Mco1Source.Lse = record { lse = true; unplanned = false; clock = 0 }
input1 q c Mco1Source.Hse = running (unwrap_or q.hse 0)
input1 q c Mco1Source.Pll1Q = output (asked_of q 0).q (clock_at (odd_at c 0) (source_of q) (asked_of q 0) (asked_of q 0).q)
input1 q c Mco1Source.Hsi48 = running 48_000_000

-- MCO2's
abbrev pub input2 : Request → ChipState → Mco2Source → Input
input2 q c Mco2Source.Sysclk = running (system q c)
input2 q c Mco2Source.Pll2P = output (asked_of q 1).p (clock_at (odd_at c 1) (source_of q) (asked_of q 1) (asked_of q 1).p)
input2 q c Mco2Source.Hse = running (unwrap_or q.hse 0)
input2 q c Mco2Source.Pll1P = output (asked_of q 0).p (pll1_p q c)
input2 q c Mco2Source.Csi = running 4_000_000
input2 q c Mco2Source.Lsi = running 32_000

-- requested, and its ratio above 15
abbrev pub ratio_above15 : (clock : ℕ) → Option ℕ → Bool
ratio_above15 clock None = false
ratio_above15 clock (Some h) = ltb 15 (ratio_of clock h)
