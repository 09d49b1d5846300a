-- Document 01, Who can cause which refusal, as a list to tick off: for each refusal, in the document's order, a row with its number and a condition
-- of its own on the request and the chip. No row waits for another. The answer is the number of the first row that holds, and a plan where
-- none does: clause order of the two calls of crates/rcc, by proofs/Refused.
use Rattle.std.specs.Prelude.{ℕ, ◌+◌, ◌/◌, ◌%◌, List, [], ◌∷◌, ◌++◌, Bool, not, cond, ◌&&◌, ◌||◌, leb, ltb, eqb, length, is_some}
use Rattle.std.specs.Float.Ieee.{le}
use Rattle.types.specs.declared.PllRequest.{PllRequest}
use Rattle.types.specs.declared.Request.{Request}
use Rattle.types.specs.declared.Chip.{Chip}
use Rattle.types.specs.declared.ChipState.{ChipState}
use Rattle.ieee754.specs.Steps.{float}
use Rattle.rules.specs.Document01.Chip.{divisor_of, odd_at, has_pll}
use Rattle.rules.specs.Document01.Request.{from_hse1, from_hse2, pll1_asked, source_of, system_of, needs_pll1, asked_of}
use Rattle.rules.specs.Document01.ChoiceOfM.{in_range}
use Rattle.rules.specs.Document01.OnePll.{wanted}
use Rattle.rules.specs.Document01.Buses.{hpre_for}
use Rattle.claims.specs.Demands.Rows.{Row, ◌when◌}
use Rattle.claims.specs.Demands.Quantities.{any, is_zero, above, unlike, any_to, is_fractional, OfPll, of_pll, system, input1, input2, ratio_above15}
use Rattle.claims.specs.Demands.ByPlaces.{at, state_of, bad_code, bad_hertz, request_at}

-- ---- 1, of the chip's numbers
abbrev pub chip_rows : Chip → List Row
chip_rows c =
    1 when not (eqb c.plls 2 || eqb c.plls 3)  -- PLL count 2 or 3
    ∷ 1 when (ltb 1 (at c.odd 0) || ltb 1 (at c.odd 1) || ltb 1 (at c.odd 2))  -- odd-P permission per PLL
    ∷ 1 when ltb 3 c.scale  -- voltage scale 0 to 3
    ∷ 1 when ltb 1 c.hsion  -- HSION
    ∷ 1 when not (eqb c.hsidiv 1 || eqb c.hsidiv 2 || eqb c.hsidiv 4 || eqb c.hsidiv 8)  -- HSIDIV 1, 2, 4, 8
    ∷ []

-- ---- 1, of the bytes by places
-- a PLL's part: strategy, P, Q, R
abbrev pub part_rows : List ℕ → ℕ → List Row
part_rows b k = 1 when bad_code 2 b k ∷ 1 when bad_hertz b (k + 1) ∷ 1 when bad_hertz b (k + 6) ∷ 1 when bad_hertz b (k + 11) ∷ []

-- a byte outside its codes, an unset hertz not 0, PLL3 part on a two-PLL chip, or wrong request length
unfoldable pub byte_rows : (three : Bool) → List ℕ → List Row
byte_rows three b =
    1 when not (eqb (length b) (cond three 106 90))  -- wrong request length, PLL3 part on a two-PLL chip
    ∷ 1 when bad_hertz b 0  -- HSE
    ∷ 1 when bad_hertz b 5  -- LSE
    ∷ 1 when bad_hertz b 10  -- audio
    ∷ 1 when bad_hertz b 15  -- system
    ∷ 1 when bad_hertz b 20  -- peripheral
    ∷ 1 when bad_hertz b 25  -- AHB
    ∷ 1 when bad_hertz b 30  -- APB1
    ∷ 1 when bad_hertz b 35  -- APB2
    ∷ 1 when bad_hertz b 40  -- APB3
    ∷ 1 when bad_code 2 b 45  -- HSE bypass flag
    ∷ 1 when bad_code 5 b 46  -- MCO1 source
    ∷ 1 when bad_hertz b 47  -- MCO1
    ∷ 1 when bad_code 6 b 52  -- MCO2 source
    ∷ 1 when bad_hertz b 53  -- MCO2
    ∷ (part_rows b 58 ++ (part_rows b 74 ++ cond three (part_rows b 90) []))  -- PLL1, PLL2, PLL3

-- ---- 3 to 6
abbrev pub request_rows : Request → List Row
request_rows q =
    3 when any (above 250_000_000) (q.system ∷ q.ahb ∷ q.apb1 ∷ q.apb2 ∷ q.apb3 ∷ [])  -- above 250,000,000
    ∷ 4 when ((from_hse1 q.mco1source || from_hse2 q.mco2source) && not (is_some q.hse))  -- MCO from HSE, none stated
    ∷ 5 when (needs_pll1 q && unlike (system_of q) (pll1_asked q).p)  -- PLL1 P unlike the system clock that needs it
    ∷ 6 when eqb (source_of q) 0  -- source 0 Hz
    ∷ []

-- ---- 7 to 15, for one PLL
-- odd P allowed or forbidden, the source's hertz, and what is asked of the PLL
module _ (odd : Bool) (source : ℕ) (a : PllRequest) where
  -- its min, max, range, target, N, FRACN and P's divider
  abbrev x : OfPll
  x = of_pll odd source a

  -- 7 to 15
  unfoldable pub pll_rows : List Row
  pll_rows =
      7 when any is_zero (a.p ∷ a.q ∷ a.r ∷ [])  -- output of 0 Hz
      ∷ 8 when ltb x.min (x.max / 128)  -- min below max / 128
      ∷ 9 when leb 560_000_000 x.max  -- max of 560,000,000 or more
      ∷ 10 when (ltb x.target x.range.start || ltb x.range.end x.target)  -- target outside its range
      ∷ 11 when not (any_to (in_range source x.range.low x.range.high) 63)  -- no admissible M
      ∷ 12 when (ltb x.n 4 || ltb 512 x.n)  -- N outside 4–512
      ∷ 13 when (is_fractional a.strategy && not (le (float 0) x.fracn && le x.fracn (float 8191)))  -- FRACN before cutting outside 0–8191
      ∷ 14 when (is_some a.p && ltb 128 x.divider_p)  -- P divider above 128
      ∷ 15 when (is_some a.p && not odd && eqb (x.divider_p % 2) 1)  -- P divider odd where forbidden
      ∷ []

-- PLL k, from 0, where the chip has it; one with no output requested is skipped
abbrev pub pll_rows_at : Request → ChipState → (k : ℕ) → List Row
pll_rows_at q c k = cond (has_pll c k) (cond (wanted (asked_of q k)) (pll_rows (odd_at c k) (source_of q) (asked_of q k)) []) []

-- ---- 16 and 17
abbrev pub hsi_rows : ChipState → List Row
hsi_rows c =
    16 when not c.hsion  -- HSION off
    ∷ 17 when not (eqb (divisor_of c.hsidiv) 2)  -- HSIDIV not 2
    ∷ []

-- ---- 18 and 19
-- AHB, then APB1 to APB3
abbrev pub bus_rows : Request → ChipState → List Row
bus_rows q c =
    18 when is_zero q.ahb  -- AHB requested 0
    ∷ 19 when eqb (system q c / hpre_for (system q c) q.ahb) 0  -- AHB comes to 0 Hz
    ∷ 18 when is_zero q.apb1  -- APB requested 0
    ∷ 18 when is_zero q.apb2
    ∷ 18 when is_zero q.apb3
    ∷ []

-- ---- 20 to 23
-- MCO1, then MCO2
abbrev pub mco_rows : Request → ChipState → List Row
mco_rows q c =
    20 when (input1 q c q.mco1source).lse  -- MCO1 from LSE
    ∷ 21 when (input1 q c q.mco1source).unplanned  -- MCO from a PLL output not planned
    ∷ 22 when is_zero q.mco1  -- MCO 0 Hz
    ∷ 23 when ratio_above15 (input1 q c q.mco1source).clock q.mco1  -- MCO ratio above 15
    ∷ 21 when (input2 q c q.mco2source).unplanned
    ∷ 22 when is_zero q.mco2
    ∷ 23 when ratio_above15 (input2 q c q.mco2source).clock q.mco2
    ∷ []

-- ---- all of them, in order: of a typed request, and of the two calls on bytes
unfoldable pub rows_of : Request → ChipState → List Row
rows_of q c =
    request_rows q
    ++ (pll_rows_at q c 0
    ++ (pll_rows_at q c 1
    ++ (pll_rows_at q c 2
    ++ (hsi_rows c
    ++ (bus_rows q c
    ++ mco_rows q c)))))

-- 1
abbrev pub code_rows : List ℕ → Chip → List Row
code_rows bytes chip = chip_rows chip ++ byte_rows (state_of chip).three bytes

-- 3 to 23
abbrev pub typed_rows : List ℕ → Chip → List Row
typed_rows bytes chip = rows_of (request_at (state_of chip).three bytes) (state_of chip)

-- the planner's call
abbrev pub plan_rows : List ℕ → Chip → List Row
plan_rows bytes chip = code_rows bytes chip ++ typed_rows bytes chip

-- the bank call: 2, a bank that is not 82 words
abbrev pub bank_rows : List ℕ → Chip → (words : ℕ) → List Row
bank_rows bytes chip words = code_rows bytes chip ++ (2 when not (eqb words 82) ∷ typed_rows bytes chip)
