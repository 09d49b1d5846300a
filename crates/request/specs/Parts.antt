-- The byte form by places: document 01, One call, from the top, second paragraph. Which bytes are well-formed, and what they stand for. That
-- this is what the readers of crates/rules read from the front is proved in proofs/Reading.antt.
use Rattle.std.specs.Prelude.{◌≡◌, Bool, true, false, cond, ◌&&◌, ◌||◌, List, [], ◌∷◌, ℕ, ◌+◌, ◌*◌, eqb, ltb, get_or, Option, Some, None, Result, Ok, Err}
use Rattle.types.specs.declared.Refusal.{Refusal}
use Rattle.types.specs.declared.Refusal.TheVariants.{OutsideCodes}
use Rattle.types.specs.declared.Strategy.{Strategy}
use Rattle.types.specs.declared.Strategy.TheVariants.{Integer, Fractional}
use Rattle.types.specs.declared.Mco1Source.{Mco1Source}
use Rattle.types.specs.declared.Mco2Source.{Mco2Source}
use Rattle.types.specs.declared.PllRequest.{PllRequest}
use Rattle.types.specs.declared.Request.{Request}
use Rattle.rules.specs.Document01.Bytes.{mco1_sources, mco2_sources, no_part}

-- for the private functions: a number that is 0 where nothing is wrong
pub record Finds (wrong : ℕ) (ok : Bool) : Type 0 where
  pub told : eqb wrong 0 ≡ ok

-- a value, or refusal 1 unless a test holds
abbrev pub only : {A : Type 0} → Bool → A → Result A Refusal
only b x = cond b (Ok x) (Err OutsideCodes)

-- a code: a byte below n
abbrev pub code_ok : (n : ℕ) → List ℕ → ℕ → Bool
code_ok n l i = ltb (get_or l i 0) n

-- 4 bytes, little-endian
unfoldable pub u32le_at : List ℕ → ℕ → ℕ
u32le_at l i = get_or l i 0 + 256 * get_or l (i + 1) 0 + 65_536 * get_or l (i + 2) 0 + 16_777_216 * get_or l (i + 3) 0

-- unset or set, 0 or 1, and the hertz, all 0 if unset
abbrev pub hertz_is : (set number : ℕ) → Bool
hertz_is set number = ltb set 2 && (eqb set 1 || eqb number 0)

-- each hertz is a byte 0 or 1 and 4 bytes, all 0 if unset
unfoldable pub hertz_ok : List ℕ → ℕ → Bool
hertz_ok l i = hertz_is (get_or l i 0) (u32le_at l (i + 1))

-- a hertz
unfoldable pub hertz_at : List ℕ → ℕ → Option ℕ
hertz_at l i = cond (eqb (get_or l i 0) 0) None (Some (u32le_at l (i + 1)))

-- three hertz in a row
unfoldable pub three_ok : List ℕ → ℕ → Bool
three_ok l i = hertz_ok l i && (hertz_ok l (i + 5) && hertz_ok l (i + 10))

-- a flag: 0 or 1
abbrev pub flag_at : List ℕ → ℕ → Bool
flag_at l i = eqb (get_or l i 0) 1

-- MCO1 source, by its code
abbrev pub mco1_at : List ℕ → ℕ → Mco1Source
mco1_at l i = get_or mco1_sources (get_or l i 0) Mco1Source.Hsi

-- MCO2 source, by its code
abbrev pub mco2_at : List ℕ → ℕ → Mco2Source
mco2_at l i = get_or mco2_sources (get_or l i 0) Mco2Source.Sysclk

-- strategy: 0 Integer, 1 Fractional
abbrev pub strategy_at : List ℕ → ℕ → Strategy
strategy_at l i = cond (eqb (get_or l i 0) 0) Integer Fractional

-- a PLL's part: a strategy with optional P, Q, R
abbrev pub pll_ok : List ℕ → ℕ → Bool
pll_ok l i = ltb (get_or l i 0) 2 && three_ok l (i + 1)

-- the part itself
abbrev pub part_at : List ℕ → ℕ → PllRequest
part_at l i = record { strategy = strategy_at l i; p = hertz_at l (i + 1); q = hertz_at l (i + 6); r = hertz_at l (i + 11) }

-- the part, where its strategy is a code
abbrev pub part_coded : List ℕ → ℕ → Result PllRequest Refusal
part_coded l i = only (code_ok 2 l i) (part_at l i)

-- the PLL3 part: on three PLLs only
abbrev pub third_ok : (three : Bool) → List ℕ → Bool
third_ok true l = pll_ok l 90
third_ok false l = true

-- the part itself
abbrev pub third_at : (three : Bool) → List ℕ → PllRequest
third_at true l = part_at l 90
third_at false l = no_part

-- the strategy of the PLL3 part
abbrev pub third_code_ok : (three : Bool) → List ℕ → Bool
third_code_ok true l = code_ok 2 l 90
third_code_ok false l = true

-- the part, where its strategy is a code
abbrev pub third_coded : (three : Bool) → List ℕ → Result PllRequest Refusal
third_coded three l = only (third_code_ok three l) (third_at three l)

-- HSE, LSE, audio, system, peripheral, AHB, APB1 to 3
unfoldable pub clocks_ok : List ℕ → Bool
clocks_ok l = three_ok l 0 && (three_ok l 15 && three_ok l 30)

-- the bypass flag, and the hertz of MCO1 and MCO2
unfoldable pub outputs_ok : List ℕ → Bool
outputs_ok l = code_ok 2 l 45 && (hertz_ok l 47 && hertz_ok l 53)

-- P, Q and R of the PLL3 part
abbrev pub third_hertz_ok : (three : Bool) → List ℕ → Bool
third_hertz_ok true l = three_ok l 91
third_hertz_ok false l = true

-- P, Q and R of each PLL
unfoldable pub plls_ok : (three : Bool) → List ℕ → Bool
plls_ok three l = three_ok l 59 && (three_ok l 75 && third_hertz_ok three l)

-- all hertz and the bypass flag are well-formed
unfoldable pub formed : (three : Bool) → List ℕ → Bool
formed three l = clocks_ok l && (outputs_ok l && plls_ok three l)

-- the PLLs' strategies are codes
abbrev pub strategies_ok : (three : Bool) → List ℕ → Bool
strategies_ok three l = code_ok 2 l 58 && (code_ok 2 l 74 && third_code_ok three l)

-- the sources of MCO1 and MCO2 are codes too
unfoldable pub codes_ok : (three : Bool) → List ℕ → Bool
codes_ok three l = code_ok 5 l 46 && (code_ok 6 l 52 && strategies_ok three l)

-- the PLLs' parts
abbrev pub plls_at : (three : Bool) → List ℕ → List PllRequest
plls_at three l = part_at l 58 ∷ part_at l 74 ∷ third_at three l ∷ []

-- the request, by its sources and PLLs
unfoldable pub request_with : List ℕ → Mco1Source → Mco2Source → List PllRequest → Request
request_with l m1 m2 plls = record {
  hse = hertz_at l 0;
  lse = hertz_at l 5;
  audio = hertz_at l 10;
  system = hertz_at l 15;
  peripheral = hertz_at l 20;
  ahb = hertz_at l 25;
  apb1 = hertz_at l 30;
  apb2 = hertz_at l 35;
  apb3 = hertz_at l 40;
  bypass = flag_at l 45;
  mco1source = m1;
  mco1 = hertz_at l 47;
  mco2source = m2;
  mco2 = hertz_at l 53;
  plls = plls;
}

-- the request itself
unfoldable pub decoded : (three : Bool) → List ℕ → Request
decoded three l = request_with l (mco1_at l 46) (mco2_at l 52) (plls_at three l)
