-- The order of the rows decides: requests that two rows fit, and the first two numbers that fit each. Two rows exchanged here would be answered
-- with the other number.
use Rattle.std.specs.Prelude.{Some, None}
use mathlib.Core.Path.{◌≡◌, refl}
use mathlib.Core.Bool.{Bool, true, false, cond}
use mathlib.Core.List.{List, [], ◌∷◌}
use Prim.Native.Nat.{ℕ}
use lib.ListN.{take}
use Rattle.types.specs.declared.Strategy.TheVariants.{Integer, Fractional}
use Rattle.types.specs.declared.Mco1Source.{Mco1Source}
use Rattle.types.specs.declared.Mco2Source.{Mco2Source}
use Rattle.types.specs.declared.PllRequest.{PllRequest}
use Rattle.types.specs.declared.Request.{Request}
use Rattle.claims.specs.Demands.Rows.{Row}
use Rattle.claims.specs.Demands.Quantities.{any_to}
use Rattle.claims.specs.Demands.Refused.{pll_rows, rows_of}
use Rattle.rules.proofs.Computes.{by_rules}
use Rattle.rules.proofs.Samples.{pll, none, asking, clocks, on_hsi, on_hse, mco1_from, plls3, state, state3}

-- the numbers of all rows that hold
abbrev fitting : List Row → List ℕ
fitting [] = []
fitting (r ∷ rs) = cond r.holds (r.number ∷ fitting rs) (fitting rs)

-- the first two, odd P allowed or not
abbrev two : (odd : Bool) → Request → List ℕ
two odd q = take 2 (fitting (rows_of q (state odd)))

-- in a PLL: 7 and 8; 8 and 9; 9 and 10; 10 and 11; 11 and 12; 13 and 14; 13 and 15; 14 and 15
pub in_a_pll :
    two true (on_hsi (pll Integer (Some 200_000_000) (Some 0)))
    ∷ two true (on_hsi (pll Integer (Some 560_000_000) (Some 1)))
    ∷ two true (on_hsi (pll Integer (Some 600_000_000) None))
    ∷ two true (on_hse 200_000_000 (pll Integer (Some 1_634_241) None))
    ∷ two true (on_hse 126_000_001 (pll Integer (Some 250_000_000) None))
    ∷ two false (on_hsi (pll Fractional (Some 1_217_900) (Some 130_000_000)))
    ∷ two false (on_hsi (pll Fractional (Some 2_350_000) (Some 150_000_000)))
    ∷ two false (on_hsi (pll Integer (Some 1_000_100) None))
    ∷ []
    ≡ (7 ∷ 8 ∷ []) ∷ (8 ∷ 9 ∷ []) ∷ (9 ∷ 10 ∷ []) ∷ (10 ∷ 11 ∷ []) ∷ (11 ∷ 12 ∷ []) ∷ (13 ∷ 14 ∷ []) ∷ (13 ∷ 15 ∷ []) ∷ (14 ∷ 15 ∷ []) ∷ []
unfolding by_rules rows_of pll_rows any_to
in_a_pll = refl

-- on the buses and the MCOs: 19 and 18 of APB1; 20 and 22; 23 of MCO1 and 21 of MCO2
pub on_the_outputs :
    two true (clocks (Some 100) None (Some 1) (Some 0))
    ∷ two true (mco1_from Mco1Source.Lse (Some 0))
    ∷ two true (asking None None None None Mco1Source.Hsi (Some 2_133_333) Mco2Source.Pll2P None none none)
    ∷ []
    ≡ (19 ∷ 18 ∷ []) ∷ (20 ∷ 22 ∷ []) ∷ (23 ∷ 21 ∷ []) ∷ []
unfolding by_rules rows_of pll_rows any_to
on_the_outputs = refl

-- PLL by PLL: 15 of PLL1 and 7 of PLL2; 15 of PLL2 and 7 of PLL3; 14 of PLL1 and 7 of PLL3
abbrev odd_p : PllRequest
odd_p = pll Integer (Some 80_000_000) (Some 200_000_000)

abbrev zero_p : PllRequest
zero_p = pll Integer (Some 0) None

abbrev three : (pll1 pll2 pll3 : PllRequest) → List ℕ
three pll1 pll2 pll3 = take 2 (fitting (rows_of (plls3 None None pll1 pll2 pll3) (state3 false false false)))

pub between_plls :
    three odd_p zero_p none ∷ three none odd_p zero_p ∷ three (pll Integer (Some 1_000_000) None) none zero_p ∷ []
    ≡ (15 ∷ 7 ∷ []) ∷ (15 ∷ 7 ∷ []) ∷ (14 ∷ 7 ∷ []) ∷ []
unfolding by_rules rows_of pll_rows any_to
between_plls = refl
