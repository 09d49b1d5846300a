-- What is read of one clock, by document 01, 'The clock tree'.
use Rattle.std.specs.Prelude.{cond, List, [], ◌∷◌, ℕ, ◌*◌, ◌/◌, eqb, leb, get_or, Option, Some, None}
use Rattle.rules.specs.Manual.Path.{num, den, pll1, pll2, pll3}
use Rattle.rules.specs.Manual.Tree.{Oscillator, Chain, none, along, P, Q, R, sys, hclk, pclk1, pclk2, pclk3, timx, timy, per, hsi, csi, hsi48, lsi, hse, mco1, mco2, output, path_of, among, over}
use Rattle.exact.specs.declared.Exact.{Exact}

-- the clocks of the report in its order (docs/CODES.md, The C functions). 'LSE gives none'; audio is no clock of the tree
unfoldable pub clocks_by : List ℕ → Oscillator → List Chain
clocks_by bank fed =
    let at = path_of bank fed in
    at sys ∷ at hclk ∷ at pclk1 ∷ at pclk2 ∷ at pclk3 ∷ at timx ∷ at timy ∷ at per
    ∷ at hsi ∷ at csi ∷ at hsi48 ∷ at lsi ∷ at hse ∷ none ∷ none ∷ at mco1 ∷ at mco2
    ∷ at (output pll1 P) ∷ at (output pll1 Q) ∷ at (output pll1 R)
    ∷ at (output pll2 P) ∷ at (output pll2 Q) ∷ at (output pll2 R)
    ∷ at (output pll3 P) ∷ at (output pll3 Q) ∷ at (output pll3 R) ∷ []

-- the clock at number k; none past the last
abbrev pub path_by : List ℕ → Oscillator → ℕ → Chain
path_by bank fed k = get_or (clocks_by bank fed) k none

-- 'two whole numbers', each as 64 bits hold it: one that does not fit shows as 2^64 − 1, which no plan has (proofs/Fits)
unfoldable pub cap : ℕ → ℕ
cap n = cond (leb n 18_446_744_073_709_551_615) n 18_446_744_073_709_551_615

-- 'exact fractions, each as two whole numbers'; 'what comes from no clock has none'
abbrev pub reading_of : Chain → Option Exact
reading_of none = None
reading_of (along p) = Some (record { numerator = cap (num p); denominator = cap (den p) })

-- a timer's one division, by TIMPRE and PPRE; none for a PPRE other than 1, 2, 4, 8, 16
abbrev pub timer_divisor : (timpre ppre : ℕ) → Option ℕ
timer_divisor t p =
    cond (eqb t 0)
    (cond (among (1 ∷ 2 ∷ []) p) (Some 1) (cond (among (4 ∷ 8 ∷ 16 ∷ []) p) (Some (p / 2)) None))
    (cond (among (1 ∷ 2 ∷ 4 ∷ []) p) (Some 1) (cond (among (8 ∷ 16 ∷ []) p) (Some (p / 4)) None))

-- a clock divided by what there is; none where there is nothing
abbrev pub over_some : Chain → Option ℕ → Chain
over_some c None = none
over_some c (Some d) = over c d

-- ---- for the private functions
-- a clock times a / b, of the two numbers as they show
abbrev pub scaled_by : Option Exact → ℕ → ℕ → Option Exact
scaled_by None a b = None
scaled_by (Some e) a b = Some (record { numerator = cap (e.numerator * a); denominator = cap (e.denominator * b) })
