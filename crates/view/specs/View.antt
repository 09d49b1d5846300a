-- A clock of a plan as the numbers of one line: docs/CODES.md, The page of a plan.
use Rattle.std.specs.Prelude.{cond, not, ◌&&◌, List, [], ◌∷◌, ℕ, ◌+◌, ◌-◌, ◌*◌, ◌/◌, ◌%◌, leb, eqb, slice_get, replicate, Option, Some, None, is_some, unwrap_or}
use Rattle.rules.specs.Document01.Fields
use Rattle.rules.specs.Document01.Entries.{bit}
use Rattle.rules.specs.Manual.Tree.{word}
use Rattle.rules.specs.Manual.Tree.{fed_by}
use Rattle.exact.specs.Exact.{path_by, reading_of, timer_divisor}
use Rattle.exact.specs.declared.Exact.{Exact}

-- ---- where a clock comes from: the number of a clock, 26 to 28 for the VCOs; none for nothing
-- SW: HSI, CSI, HSE, PLL1 P (document 01, The clock tree)
abbrev pub sw_clock : ℕ → Option ℕ
sw_clock c = slice_get (8 ∷ 9 ∷ 12 ∷ 17 ∷ []) c

-- CKPERSEL: HSI, CSI, HSE
abbrev pub per_clock : ℕ → Option ℕ
per_clock c = slice_get (8 ∷ 9 ∷ 12 ∷ []) c

-- MCO1SEL: HSI, LSE, HSE, PLL1 Q, HSI48
abbrev pub mco1_clock : ℕ → Option ℕ
mco1_clock c = slice_get (8 ∷ 13 ∷ 12 ∷ 18 ∷ 10 ∷ []) c

-- MCO2SEL: system, PLL2 P, HSE, PLL1 P, CSI, LSI
abbrev pub mco2_clock : ℕ → Option ℕ
mco2_clock c = slice_get (0 ∷ 20 ∷ 12 ∷ 17 ∷ 9 ∷ 11 ∷ []) c

-- the system clock by SW; AHB from it; the APBs and the timers from AHB; the peripheral clock and the clock outputs by their selectors;
-- three outputs from each VCO
unfoldable pub from_of : (bank : List ℕ) → (k : ℕ) → Option ℕ
from_of b k =
    cond (eqb k 0) (sw_clock (word b Fields.SW))
    (cond (eqb k 1) (Some 0)
    (cond (leb k 6) (Some 1)
    (cond (eqb k 7) (per_clock (word b Fields.CKPERSEL))
    (cond (leb k 14) None
    (cond (eqb k 15) (mco1_clock (word b Fields.MCO1SEL))
    (cond (eqb k 16) (mco2_clock (word b Fields.MCO2SEL)) (cond (leb k 25) (Some (26 + (k - 17) / 3)) None)))))))

-- ---- what divides it; none for nothing
-- HPRE and the PPREs stand one behind the other; P, Q and R of a PLL two words apart, as dividers less 1
unfoldable pub divisor_of : (bank : List ℕ) → (k : ℕ) → Option ℕ
divisor_of b k =
    cond (eqb k 0) None
    (cond (leb k 4) (Some (word b (Fields.HPRE + (k - 1))))
    (cond (leb k 6) (timer_divisor (word b Fields.TIMPRE) (word b (Fields.PPRE1 + (k - 5))))
    (cond (leb k 14) None
    (cond (eqb k 15) (Some (word b Fields.MCO1PRE))
    (cond (eqb k 16) (Some (word b Fields.MCO2PRE)) (cond (leb k 25) (Some (word b (15 * ((k - 17) / 3) + 2 * ((k - 17) % 3) + Fields.P) + 1)) None))))))

-- ---- the line
-- no exact fraction: from a PLL that is not started
abbrev pub no_parts : (known : ℕ) → List ℕ
no_parts known = 0 ∷ 0 ∷ 0 ∷ 0 ∷ known ∷ []

-- the exact fraction beside the hertz: whether it differs, whole hertz, what is left over, the denominator, and whether there should be one
-- and is none
abbrev pub exact_parts : (known hertz : ℕ) → Option Exact → List ℕ
exact_parts known h None = no_parts known
exact_parts known h (Some x) =
    cond (eqb x.denominator 0) (no_parts known)
    (bit (not (eqb (x.numerator % x.denominator) 0 && eqb (x.numerator / x.denominator) h))
    ∷ x.numerator / x.denominator ∷ x.numerator % x.denominator ∷ x.denominator ∷ 0 ∷ [])

-- clock k: its number, whether it is reported, its hertz, where it comes from, 29 for nothing, and whether from anywhere, what divides it, 0 for
-- nothing; then the parts
abbrev pub clock_line : (report bank : List ℕ) → (hse : Option ℕ) → (k : ℕ) → List ℕ
clock_line report bank hse k =
    k ∷ word report (2 * k) ∷ word report (2 * k + 1) ∷ unwrap_or (from_of bank k) 29 ∷ bit (is_some (from_of bank k)) ∷ unwrap_or (divisor_of bank k) 0
    ∷ exact_parts (bit (is_some (from_of bank k))) (word report (2 * k + 1)) (reading_of (path_by bank (fed_by hse) k))

-- of the 26 that there are
unfoldable pub line_of : (report bank : List ℕ) → (hse : Option ℕ) → (k : ℕ) → List ℕ
line_of report bank hse k = cond (leb k 25) (clock_line report bank hse k) (replicate 11 0)
