-- Two banks worked through: every clock's path.
use mathlib.Core.Path.{◌≡◌, refl}
use mathlib.Core.List.{List, [], ◌∷◌, ◌++◌, map}
use Prim.Native.Nat.{ℕ}
use lib.ListN.{replicate}
use Rattle.rules.specs.Manual.Path.{pll1, pll2, pll3, whole, part, Path, direct, through}
use Rattle.rules.specs.Manual.Tree

-- VCOSEL, RGE, M, N, FRACN, FRACEN, P, PEN, Q, QEN, R, REN, SRC, ON, RDY: PLL1 from HSE, PLL2 from HSI under FRACEN, PLL3 from CSI
abbrev first : List ℕ
first = 0 ∷ 2 ∷ 4 ∷ 124 ∷ 77 ∷ 0 ∷ 1 ∷ 1 ∷ 3 ∷ 1 ∷ 7 ∷ 0 ∷ 3 ∷ 1 ∷ 0 ∷ []

abbrev second : List ℕ
second = 1 ∷ 0 ∷ 18 ∷ 234 ∷ 66 ∷ 1 ∷ 33 ∷ 1 ∷ 9 ∷ 0 ∷ 4 ∷ 1 ∷ 1 ∷ 1 ∷ 0 ∷ []

abbrev third : ℕ → List ℕ
third on = 0 ∷ 1 ∷ 1 ∷ 99 ∷ 0 ∷ 0 ∷ 1 ∷ 1 ∷ 2 ∷ 1 ∷ 3 ∷ 1 ∷ 2 ∷ on ∷ 0 ∷ []

-- LSION to HSERDY, with HSI48 off and the MCO selectors and prescalers given
abbrev oscillators : ℕ → ℕ → ℕ → ℕ → List ℕ
oscillators sel1 pre1 sel2 pre2 = 1 ∷ 0 ∷ 0 ∷ 0 ∷ 0 ∷ 1 ∷ 0 ∷ 0 ∷ 0 ∷ sel1 ∷ pre1 ∷ sel2 ∷ pre2 ∷ 1 ∷ 0 ∷ 0 ∷ []

-- HPRE 2, PPRE 4, 8, 16, then CKPERSEL, TIMPRE, SW; HSION 1, HSIDIV 4
abbrev buses : ℕ → ℕ → ℕ → List ℕ
buses per timpre sw = 2 ∷ 4 ∷ 8 ∷ 16 ∷ per ∷ timpre ∷ sw ∷ (replicate 8 0 ++ (1 ∷ 4 ∷ 0 ∷ 0 ∷ 0 ∷ 0 ∷ []))

abbrev clocks : List Tree.Clock
clocks =
    Tree.sys ∷ Tree.hclk ∷ Tree.pclk1 ∷ Tree.pclk2 ∷ Tree.pclk3 ∷ Tree.timx ∷ Tree.timy ∷ Tree.per ∷ Tree.hsi ∷ Tree.csi ∷ Tree.hsi48 ∷ Tree.lsi ∷ Tree.hse ∷ Tree.mco1 ∷ Tree.mco2
    ∷ Tree.output pll1 Tree.P ∷ Tree.output pll1 Tree.Q ∷ Tree.output pll1 Tree.R
    ∷ Tree.output pll2 Tree.P ∷ Tree.output pll2 Tree.Q ∷ Tree.output pll2 Tree.R
    ∷ Tree.output pll3 Tree.P ∷ Tree.output pll3 Tree.Q ∷ Tree.output pll3 Tree.R ∷ []

abbrev along : Path → Tree.Chain
along p = Tree.along p

-- the system clock from PLL1 P, TIMPRE 0, MCO1 from PLL1 Q, MCO2 from PLL2 P, PLL3 not ON
pub by_pll : map (Tree.path_of (first ++ (second ++ (third 0 ++ (oscillators 3 5 1 3 ++ buses 1 0 3)))) (Tree.runs 8_000_000)) clocks
    ≡ along (through pll1 8_000_000 4 (whole 125) (2 ∷ [])) ∷ along (through pll1 8_000_000 4 (whole 125) (2 ∷ 2 ∷ []))
    ∷ along (through pll1 8_000_000 4 (whole 125) (2 ∷ 2 ∷ 4 ∷ [])) ∷ along (through pll1 8_000_000 4 (whole 125) (2 ∷ 2 ∷ 8 ∷ [])) ∷ along (through pll1 8_000_000 4 (whole 125) (2 ∷ 2 ∷ 16 ∷ []))
    ∷ along (through pll1 8_000_000 4 (whole 125) (2 ∷ 2 ∷ 2 ∷ [])) ∷ along (through pll1 8_000_000 4 (whole 125) (2 ∷ 2 ∷ 4 ∷ []))
    ∷ along (direct 4_000_000 []) ∷ along (direct 16_000_000 []) ∷ along (direct 4_000_000 []) ∷ Tree.none ∷ along (direct 32_000 []) ∷ along (direct 8_000_000 [])
    ∷ along (through pll1 8_000_000 4 (whole 125) (4 ∷ 5 ∷ [])) ∷ along (through pll2 16_000_000 18 (part 235 66) (34 ∷ 3 ∷ []))
    ∷ along (through pll1 8_000_000 4 (whole 125) (2 ∷ [])) ∷ along (through pll1 8_000_000 4 (whole 125) (4 ∷ [])) ∷ Tree.none
    ∷ along (through pll2 16_000_000 18 (part 235 66) (34 ∷ [])) ∷ Tree.none ∷ along (through pll2 16_000_000 18 (part 235 66) (5 ∷ []))
    ∷ Tree.none ∷ Tree.none ∷ Tree.none ∷ []
unfolding Tree.path_of Tree.hsi_of Tree.csi_of Tree.hsi48_of Tree.lsi_of Tree.hse_of Tree.source_of Tree.vco_of Tree.output_of Tree.sys_of Tree.ahb_of Tree.per_of Tree.mco1_of Tree.mco2_of
by_pll = refl

-- the system clock from HSE, which is not fed: none below it. TIMPRE 1 has no say then; MCO1 from HSI, MCO2 from LSI, PLL3 from CSI
pub unfed : map (Tree.path_of (first ++ (second ++ (third 1 ++ (oscillators 0 15 5 2 ++ buses 2 1 2)))) Tree.off) clocks
    ≡ Tree.none ∷ Tree.none ∷ Tree.none ∷ Tree.none ∷ Tree.none ∷ Tree.none ∷ Tree.none
    ∷ Tree.none ∷ along (direct 16_000_000 []) ∷ along (direct 4_000_000 []) ∷ Tree.none ∷ along (direct 32_000 []) ∷ Tree.none
    ∷ along (direct 16_000_000 (15 ∷ [])) ∷ along (direct 32_000 (2 ∷ []))
    ∷ Tree.none ∷ Tree.none ∷ Tree.none
    ∷ along (through pll2 16_000_000 18 (part 235 66) (34 ∷ [])) ∷ Tree.none ∷ along (through pll2 16_000_000 18 (part 235 66) (5 ∷ []))
    ∷ along (through pll3 4_000_000 1 (whole 100) (2 ∷ [])) ∷ along (through pll3 4_000_000 1 (whole 100) (3 ∷ [])) ∷ along (through pll3 4_000_000 1 (whole 100) (4 ∷ [])) ∷ []
unfolding Tree.path_of Tree.hsi_of Tree.csi_of Tree.hsi48_of Tree.lsi_of Tree.hse_of Tree.source_of Tree.vco_of Tree.output_of Tree.sys_of Tree.ahb_of Tree.per_of Tree.mco1_of Tree.mco2_of
unfed = refl

-- the system clock from HSI under TIMPRE 1; MCO1 from LSE, MCO2 from the system clock
pub by_hsi : map (Tree.path_of (first ++ (second ++ (third 0 ++ (oscillators 1 2 0 3 ++ buses 0 1 0)))) Tree.off)
    (Tree.sys ∷ Tree.hclk ∷ Tree.pclk2 ∷ Tree.timx ∷ Tree.timy ∷ Tree.per ∷ Tree.mco1 ∷ Tree.mco2 ∷ [])
    ≡ along (direct 16_000_000 []) ∷ along (direct 16_000_000 (2 ∷ [])) ∷ along (direct 16_000_000 (2 ∷ 8 ∷ [])) ∷ along (direct 16_000_000 (2 ∷ [])) ∷ along (direct 16_000_000 (2 ∷ 2 ∷ []))
    ∷ along (direct 16_000_000 []) ∷ Tree.none ∷ along (direct 16_000_000 (3 ∷ [])) ∷ []
unfolding Tree.path_of Tree.hsi_of Tree.csi_of Tree.hsi48_of Tree.lsi_of Tree.hse_of Tree.source_of Tree.vco_of Tree.output_of Tree.sys_of Tree.ahb_of Tree.per_of Tree.mco1_of Tree.mco2_of
by_hsi = refl
