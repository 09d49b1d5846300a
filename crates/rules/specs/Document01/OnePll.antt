-- Document 01, One PLL: from its request to its settings, or a refusal of 7 to 15.
use Rattle.std.specs.Prelude.{ℕ, ◌*◌, ◌/◌, ◌%◌, min, max, List, [], ◌∷◌, ◌++◌, Bool, true, false, ◌&&◌, ◌||◌, cond, leb, ltb, eqb, get_or, Float, Option, Some, None, Result, Ok, Err, unwrap_or, is_some}
use Rattle.std.specs.Option.{option_or}
use Rattle.types.specs.declared.Refusal.{Refusal}
use Rattle.types.specs.declared.Strategy.{Strategy}
use Rattle.types.specs.declared.Strategy.TheVariants.{Integer, Fractional}
use Rattle.types.specs.declared.PllRequest.{PllRequest}
use Rattle.types.specs.declared.PllOutput.{PllOutput}
use Rattle.types.specs.declared.PllSettings.{PllSettings}
use Rattle.types.specs.declared.Refusal.TheVariants.{OutputZero, OutputsTooFarApart, OutputTooHigh, TargetOutside, NoM, NOutside, FracnOutside, PDividerAbove128, PDividerOdd}
use Rattle.rules.specs.Document01.ChoiceOfM.{chosen_m}
use Rattle.rules.specs.Document01.Target.{target_of}
use Rattle.std.specs.Float.Ieee.{le, to_unsigned}
use Rattle.ieee754.specs.Steps.{float, fracn_float, fracn_of, vco_of}
use Rattle.rules.specs.Document01.Result.{◌>>=◌, ◌>>◌, require}
use Rattle.rules.specs.Document01.Hertz.{not_zero}

-- step 4: a PLL with no output requested is skipped
abbrev pub wanted : PllRequest → Bool
wanted a = is_some a.p || (is_some a.q || is_some a.r)

-- refusal 7 is an output of 0 Hz
abbrev pub none_zero : PllRequest → Bool
none_zero a = not_zero a.p && (not_zero a.q && not_zero a.r)

-- P counts doubled where odd P is forbidden
abbrev pub counted_p : (odd : Bool) → ℕ → ℕ
counted_p true h = h
counted_p false h = h * 2

-- an output that is requested, as it counts
abbrev pub counted : (ℕ → ℕ) → Option ℕ → List ℕ
counted f None = []
counted f (Some h) = f h ∷ []

-- all that are requested, P first
abbrev pub counted_outputs : (odd : Bool) → PllRequest → List ℕ
counted_outputs odd a = counted (counted_p odd) a.p ++ (counted (λ h. h) a.q ++ counted (λ h. h) a.r)

-- the least and the largest of some outputs
abbrev pub least_from : ℕ → List ℕ → ℕ
least_from x [] = x
least_from x (y ∷ ys) = least_from (min x y) ys

-- min
abbrev pub least : List ℕ → ℕ
least [] = 0
least (x ∷ xs) = least_from x xs

-- the largest of a number and some outputs
abbrev pub largest_from : ℕ → List ℕ → ℕ
largest_from x [] = x
largest_from x (y ∷ ys) = largest_from (max x y) ys

-- max
abbrev pub largest : List ℕ → ℕ
largest xs = largest_from 0 xs

-- a VCO range: VCOSEL, the ends of its outputs, and the ends of the reference
pub record Range : Type 0 where
  pub vcosel : ℕ
  pub start : ℕ
  pub end : ℕ
  pub low : ℕ
  pub high : ℕ

-- medium: 150,000,000–420,000,000 with reference 1–2 MHz
abbrev pub medium : Range
medium = record { vcosel = 1; start = 150_000_000; end = 420_000_000; low = 1_000_000; high = 2_000_000 }

-- wide: 128,000,000–560,000,000 with reference 2–16 MHz
abbrev pub wide : Range
wide = record { vcosel = 0; start = 128_000_000; end = 560_000_000; low = 2_000_000; high = 16_000_000 }

-- the first whose end is strictly above max
abbrev pub range_of : ℕ → Range
range_of top = cond (ltb top 420_000_000) medium wide

-- M, or refusal 11
abbrev pub admissible : Option ℕ → Result ℕ Refusal
admissible None = Err NoM
admissible (Some m) = Ok m

-- RGE: range 1, 2, 4, 8 from a reference of 1, 2, 4, 8 MHz, as its code
abbrev pub rge_of : ℕ → ℕ
rge_of ref = cond (ltb ref 2_000_000) 0 (cond (ltb ref 4_000_000) 1 (cond (ltb ref 8_000_000) 2 3))

-- the first requested of P, Q, R
abbrev pub first_of : PllRequest → ℕ
first_of a = unwrap_or (option_or a.p (option_or a.q a.r)) 0

-- FRACN = 8192 × ((output × divider) / ref − N) in f32: refusal 13 outside 0–8191 before cutting, then cut down
unfoldable pub fracn_from : (ref n divider output : Float) → Result (Option ℕ) Refusal
fracn_from ref n divider output = do
  require (le (float 0) (fracn_float ref n divider output) && le (fracn_float ref n divider output) (float 8191)) FracnOutside
  Ok (Some (to_unsigned 16 (fracn_float ref n divider output)))

-- what the f32 step answers, as a fraction or refusal 13
abbrev pub taken : Option ℕ → Result (Option ℕ) Refusal
taken (Some f) = Ok (Some f)
taken None = Err FracnOutside

-- by the strategy
abbrev pub fraction_of : Strategy → (ref n divider output : ℕ) → Result (Option ℕ) Refusal
fraction_of Integer ref n divider output = Ok None
fraction_of Fractional ref n divider output = taken (fracn_of (float ref) (float n) (float divider) (float output))

-- VCO is ref × N in Integer
abbrev pub vco_by : Option ℕ → (ref n : ℕ) → ℕ
vco_by None ref n = ref * n
vco_by (Some f) ref n = vco_of ref n f

-- each divider = target / output
abbrev pub output_of : (target vco : ℕ) → Option ℕ → Option PllOutput
output_of target vco None = None
output_of target vco (Some h) = Some (record { divider = target / h; clock = vco / (target / h) })

-- P's divider. An unset P has none, and 2 stands for it: neither 14 nor 15 fits
abbrev pub divider_p : (target : ℕ) → Option ℕ → ℕ
divider_p target None = 2
divider_p target (Some h) = target / h

-- refusal 14: above 128; 15: odd where forbidden
abbrev pub allowed_p : (odd : Bool) → ℕ → Result (Unit {0}) Refusal
allowed_p odd d = do
  require (leb d 128) PDividerAbove128
  require (odd || eqb (d % 2) 0) PDividerOdd

-- ---- the steps, one after the other, each with what it has to know
-- refusals 7, 8 (min below max / 128) and 9 (max of 560,000,000 or more)
unfoldable pub spanned : (odd : Bool) → PllRequest → Result (Unit {0}) Refusal
spanned odd a = do
  require (none_zero a) OutputZero
  require (leb (largest (counted_outputs odd a) / 128) (least (counted_outputs odd a))) OutputsTooFarApart
  require (ltb (largest (counted_outputs odd a)) 560_000_000) OutputTooHigh

-- the range of a PLL's outputs
abbrev pub range_for : (odd : Bool) → PllRequest → Range
range_for odd a = range_of (largest (counted_outputs odd a))

-- the target of a PLL's outputs
abbrev pub target_for : (odd : Bool) → PllRequest → ℕ
target_for odd a = target_of (least (counted_outputs odd a)) (largest (counted_outputs odd a)) (range_for odd a).end

-- refusal 10 (target outside its range), and M with refusal 11
unfoldable pub divided_by : (source : ℕ) → Range → (target : ℕ) → Result ℕ Refusal
divided_by source g target = do
  require (leb g.start target && leb target g.end) TargetOutside
  admissible (chosen_m source target g.low g.high)

-- the settings of the numbers chosen
abbrev pub settings_of : PllRequest → Range → (target m ref n : ℕ) → Option ℕ → PllSettings
settings_of a g target m ref n f = record {
  vcosel = g.vcosel;
  target = target;
  m = m;
  reference = ref;
  rge = rge_of ref;
  n = n;
  fraction = f;
  vco = vco_by f ref n;
  p = output_of target (vco_by f ref n) a.p;
  q = output_of target (vco_by f ref n) a.q;
  r = output_of target (vco_by f ref n) a.r;
}

-- refusal 12 (N outside 4–512), FRACN with refusal 13, refusals 14 and 15, where ref = source / M and N = target / ref
unfoldable pub settled : (odd : Bool) → PllRequest → Range → (target m ref n : ℕ) → Result PllSettings Refusal
settled odd a g target m ref n = do
  require (leb 4 n && leb n 512) NOutside
  f ← fraction_of a.strategy ref n (target / first_of a) (first_of a)
  allowed_p odd (divider_p target a.p)
  Ok (settings_of a g target m ref n f)

-- one PLL with an output requested
unfoldable pub runs : (odd : Bool) → (source : ℕ) → PllRequest → Result PllSettings Refusal
runs odd source a = do
  spanned odd a
  m ← divided_by source (range_for odd a) (target_for odd a)
  settled odd a (range_for odd a) (target_for odd a) m (source / m) (target_for odd a / (source / m))

-- settings are a PLL that runs
abbrev pub running : Result PllSettings Refusal → Result (Option PllSettings) Refusal
running (Err n) = Err n
running (Ok s) = Ok (Some s)

-- one PLL
unfoldable pub pll_of : (odd : Bool) → (source : ℕ) → PllRequest → Result (Option PllSettings) Refusal
pll_of odd source a = cond (wanted a) (running (runs odd source a)) (Ok None)

-- PLL k, from 0, of those that stand by their number
abbrev pub pll_from : List (Option PllSettings) → (k : ℕ) → Option PllSettings
pll_from l k = get_or l k None

-- ---- what a PLL reports
abbrev pub clock_of : Option PllOutput → Option ℕ
clock_of None = None
clock_of (Some o) = Some o.clock

-- P, where it is on
abbrev pub p_clock : Option PllSettings → Option ℕ
p_clock None = None
p_clock (Some s) = clock_of s.p

-- Q
abbrev pub q_clock : Option PllSettings → Option ℕ
q_clock None = None
q_clock (Some s) = clock_of s.q

-- R
abbrev pub r_clock : Option PllSettings → Option ℕ
r_clock None = None
r_clock (Some s) = clock_of s.r
