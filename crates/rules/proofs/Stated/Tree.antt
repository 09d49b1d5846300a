-- The clock tree as document 01 and the manuals state it, in numbers: every code of every selector, every prescaler of the timers, every ON and
-- enable at 0, and the two readings of a path with FRACN.
use mathlib.Core.Path.{◌≡◌, refl}
use mathlib.Core.List.{List, [], ◌∷◌, ◌++◌, map}
use Prim.Native.Nat.{ℕ}
use native.Mathlib.Omega.{arith}
use lib.ListN.{set, replicate}
use Rattle.rules.specs.Manual.Path.{pll1, pll2, pll3, whole, part, Path, direct, through, num, den, floored, NoRemainder}
use Rattle.rules.specs.Manual.Tree
use Rattle.rules.proofs.Computes.{by_tree}

-- M 5, N 99 + 1, FRACN 66, FRACEN, dividers 1 + 1, 3 + 1, 7 + 1, all enabled, SRC, ON
abbrev pll : (fracen src : ℕ) → List ℕ
pll fracen src = 0 ∷ 0 ∷ 5 ∷ 99 ∷ 66 ∷ fracen ∷ 1 ∷ 1 ∷ 3 ∷ 1 ∷ 7 ∷ 1 ∷ src ∷ 1 ∷ 0 ∷ []

-- every oscillator on, PLL1 from HSE, PLL2 from HSI under FRACEN, PLL3 from CSI; MCO prescalers 1; HPRE 2, PPRE 1; HSIDIV 2; all selectors 0
abbrev bank : List ℕ
bank =
    pll 0 3 ++ (pll 1 1 ++ (pll 0 2
    ++ (1 ∷ 0 ∷ 0 ∷ 0 ∷ 0 ∷ 1 ∷ 0 ∷ 1 ∷ 0 ∷ 0 ∷ 1 ∷ 0 ∷ 1 ∷ 1 ∷ 0 ∷ 0 ∷ 2 ∷ 1 ∷ 1 ∷ 1 ∷ (replicate 11 0 ++ (1 ∷ 2 ∷ 0 ∷ 0 ∷ 0 ∷ 0 ∷ [])))))

-- a clock of the bank where field f holds v; HSE is fed at 25,000,000
abbrev at : ℕ → Tree.Clock → ℕ → Tree.Chain
at f k v = Tree.path_of (set bank f v) (Tree.runs 25_000_000) k

abbrev oscillator : ℕ → Tree.Chain
oscillator h = Tree.along (direct h [])

abbrev from : ℕ → List ℕ → Tree.Chain
from h ds = Tree.along (direct h ds)

-- PLL1 from a source, PLL2, PLL3
abbrev one : ℕ → List ℕ → Tree.Chain
one h ds = Tree.along (through pll1 h 5 (whole 100) ds)

abbrev two : List ℕ → Tree.Chain
two ds = Tree.along (through pll2 32_000_000 5 (part 100 66) ds)

abbrev three : List ℕ → Tree.Chain
three ds = Tree.along (through pll3 4_000_000 5 (whole 100) ds)

-- ---- selectors
-- SW 0 to 4: HSI, CSI, HSE, PLL1 P, and none
pub by_sw : map (at 67 Tree.sys) (0 ∷ 1 ∷ 2 ∷ 3 ∷ 4 ∷ []) ≡ oscillator 32_000_000 ∷ oscillator 4_000_000 ∷ oscillator 25_000_000 ∷ one 25_000_000 (2 ∷ []) ∷ Tree.none ∷ []
unfolding by_tree
by_sw = refl

-- SWS has no say
pub not_by_sws : map (at 68 Tree.sys) (0 ∷ 1 ∷ 2 ∷ 3 ∷ []) ≡ replicate 4 (oscillator 32_000_000)
unfolding by_tree
not_by_sws = refl

-- SRC 0 to 4 of each PLL: none, HSI, CSI, HSE, none
pub by_src :
    map (at 12 (Tree.output pll1 Tree.P)) (0 ∷ 1 ∷ 2 ∷ 3 ∷ 4 ∷ [])
    ∷ map (at 27 (Tree.output pll2 Tree.P)) (0 ∷ 1 ∷ 2 ∷ 3 ∷ 4 ∷ [])
    ∷ map (at 42 (Tree.output pll3 Tree.P)) (0 ∷ 1 ∷ 2 ∷ 3 ∷ 4 ∷ []) ∷ []
    ≡ (Tree.none ∷ one 32_000_000 (2 ∷ []) ∷ one 4_000_000 (2 ∷ []) ∷ one 25_000_000 (2 ∷ []) ∷ Tree.none ∷ [])
    ∷ (Tree.none ∷ two (2 ∷ []) ∷ Tree.along (through pll2 4_000_000 5 (part 100 66) (2 ∷ [])) ∷ Tree.along (through pll2 25_000_000 5 (part 100 66) (2 ∷ [])) ∷ Tree.none ∷ [])
    ∷ (Tree.none ∷ Tree.along (through pll3 32_000_000 5 (whole 100) (2 ∷ [])) ∷ three (2 ∷ []) ∷ Tree.along (through pll3 25_000_000 5 (whole 100) (2 ∷ [])) ∷ Tree.none ∷ []) ∷ []
unfolding by_tree
by_src = refl

-- CKPERSEL 0 to 3: HSI, CSI, HSE, none
pub by_ckpersel : map (at 65 Tree.per) (0 ∷ 1 ∷ 2 ∷ 3 ∷ []) ≡ oscillator 32_000_000 ∷ oscillator 4_000_000 ∷ oscillator 25_000_000 ∷ Tree.none ∷ []
unfolding by_tree
by_ckpersel = refl

-- MCO1SEL 0 to 5: HSI, LSE (which gives none), HSE, PLL1 Q, HSI48, none
pub by_mco1sel : map (at 54 Tree.mco1) (0 ∷ 1 ∷ 2 ∷ 3 ∷ 4 ∷ 5 ∷ [])
    ≡ from 32_000_000 (1 ∷ []) ∷ Tree.none ∷ from 25_000_000 (1 ∷ []) ∷ one 25_000_000 (4 ∷ 1 ∷ []) ∷ from 48_000_000 (1 ∷ []) ∷ Tree.none ∷ []
unfolding by_tree
by_mco1sel = refl

-- MCO2SEL 0 to 6: the system clock, PLL2 P, HSE, PLL1 P, CSI, LSI, none
pub by_mco2sel : map (at 56 Tree.mco2) (0 ∷ 1 ∷ 2 ∷ 3 ∷ 4 ∷ 5 ∷ 6 ∷ [])
    ≡ from 32_000_000 (1 ∷ []) ∷ two (2 ∷ 1 ∷ []) ∷ from 25_000_000 (1 ∷ []) ∷ one 25_000_000 (2 ∷ 1 ∷ []) ∷ from 4_000_000 (1 ∷ []) ∷ from 32_000 (1 ∷ []) ∷ Tree.none ∷ []
unfolding by_tree
by_mco2sel = refl

-- ---- prescalers
-- MCO1PRE and MCO2PRE 0, 1, 15: none at 0
pub by_mco_pre : map (at 55 Tree.mco1) (0 ∷ 1 ∷ 15 ∷ []) ++ map (at 57 Tree.mco2) (0 ∷ 1 ∷ 15 ∷ [])
    ≡ Tree.none ∷ from 32_000_000 (1 ∷ []) ∷ from 32_000_000 (15 ∷ []) ∷ Tree.none ∷ from 32_000_000 (1 ∷ []) ∷ from 32_000_000 (15 ∷ []) ∷ []
unfolding by_tree
by_mco_pre = refl

-- HPRE divides the system clock, each PPRE AHB
pub by_pre : at 61 Tree.hclk 16 ∷ at 62 Tree.pclk1 4 ∷ at 63 Tree.pclk2 8 ∷ at 64 Tree.pclk3 16 ∷ []
    ≡ from 32_000_000 (16 ∷ []) ∷ from 32_000_000 (2 ∷ 4 ∷ []) ∷ from 32_000_000 (2 ∷ 8 ∷ []) ∷ from 32_000_000 (2 ∷ 16 ∷ []) ∷ []
unfolding by_tree
by_pre = refl

-- timer x by PPRE1 and timer y by PPRE2, each 1, 2, 4, 8, 16: under TIMPRE 0 AHB / (PPRE / 2) from PPRE 4 up, under TIMPRE 1 AHB / (PPRE / 4)
-- from 8 up, else AHB; none by 0, 3, 5, 32, which no register holds
abbrev words : List ℕ
words = 1 ∷ 2 ∷ 4 ∷ 8 ∷ 16 ∷ 0 ∷ 3 ∷ 5 ∷ 32 ∷ []

abbrev timers : (timpre : ℕ) → List Tree.Chain
timers timpre =
    map (λ v. Tree.path_of (set (set bank 66 timpre) 62 v) (Tree.runs 25_000_000) Tree.timx) words
    ++ map (λ v. Tree.path_of (set (set bank 66 timpre) 63 v) (Tree.runs 25_000_000) Tree.timy) words

pub timpre_0 : timers 0
    ≡ from 32_000_000 (2 ∷ []) ∷ from 32_000_000 (2 ∷ []) ∷ from 32_000_000 (2 ∷ 2 ∷ []) ∷ from 32_000_000 (2 ∷ 4 ∷ []) ∷ from 32_000_000 (2 ∷ 8 ∷ [])
    ∷ Tree.none ∷ Tree.none ∷ Tree.none ∷ Tree.none
    ∷ from 32_000_000 (2 ∷ []) ∷ from 32_000_000 (2 ∷ []) ∷ from 32_000_000 (2 ∷ 2 ∷ []) ∷ from 32_000_000 (2 ∷ 4 ∷ []) ∷ from 32_000_000 (2 ∷ 8 ∷ [])
    ∷ Tree.none ∷ Tree.none ∷ Tree.none ∷ Tree.none ∷ []
unfolding by_tree
timpre_0 = refl

pub timpre_1 : timers 1
    ≡ from 32_000_000 (2 ∷ []) ∷ from 32_000_000 (2 ∷ []) ∷ from 32_000_000 (2 ∷ []) ∷ from 32_000_000 (2 ∷ 2 ∷ []) ∷ from 32_000_000 (2 ∷ 4 ∷ [])
    ∷ Tree.none ∷ Tree.none ∷ Tree.none ∷ Tree.none
    ∷ from 32_000_000 (2 ∷ []) ∷ from 32_000_000 (2 ∷ []) ∷ from 32_000_000 (2 ∷ []) ∷ from 32_000_000 (2 ∷ 2 ∷ []) ∷ from 32_000_000 (2 ∷ 4 ∷ [])
    ∷ Tree.none ∷ Tree.none ∷ Tree.none ∷ Tree.none ∷ []
unfolding by_tree
timpre_1 = refl

-- ---- oscillators: HSI is 64,000,000 / HSIDIV for HSIDIV 1, 2, 4, 8, none by 0, 3, 5, 16; none with its ON at 0
pub by_hsidiv : map (at 77 Tree.hsi) (1 ∷ 2 ∷ 4 ∷ 8 ∷ 0 ∷ 3 ∷ 5 ∷ 16 ∷ [])
    ≡ oscillator 64_000_000 ∷ oscillator 32_000_000 ∷ oscillator 16_000_000 ∷ oscillator 8_000_000 ∷ Tree.none ∷ Tree.none ∷ Tree.none ∷ Tree.none ∷ []
unfolding by_tree
by_hsidiv = refl

pub by_on :
    map (at 76 Tree.hsi) (0 ∷ 1 ∷ []) ++ (map (at 50 Tree.csi) (0 ∷ 1 ∷ []) ++ (map (at 52 Tree.hsi48) (0 ∷ 1 ∷ []) ++ (map (at 45 Tree.lsi) (0 ∷ 1 ∷ []) ++ map (at 58 Tree.hse) (0 ∷ 1 ∷ []))))
    ≡ Tree.none ∷ oscillator 32_000_000 ∷ Tree.none ∷ oscillator 4_000_000 ∷ Tree.none ∷ oscillator 48_000_000 ∷ Tree.none ∷ oscillator 32_000 ∷ Tree.none ∷ oscillator 25_000_000 ∷ []
unfolding by_tree
by_on = refl

-- ---- a PLL: none with M, ON or the output's enable at 0; FRACN counts under FRACEN alone
pub by_enables :
    at 2 (Tree.output pll1 Tree.P) 0 ∷ at 13 (Tree.output pll1 Tree.P) 0 ∷ at 7 (Tree.output pll1 Tree.P) 0 ∷ at 9 (Tree.output pll1 Tree.Q) 0 ∷ at 11 (Tree.output pll1 Tree.R) 0
    ∷ at 7 (Tree.output pll1 Tree.Q) 0 ∷ at 9 (Tree.output pll1 Tree.R) 0 ∷ at 11 (Tree.output pll1 Tree.P) 0 ∷ at 20 (Tree.output pll2 Tree.P) 0 ∷ at 20 (Tree.output pll2 Tree.P) 1
    ∷ at 43 (Tree.output pll3 Tree.Q) 0 ∷ at 43 (Tree.output pll3 Tree.R) 1 ∷ []
    ≡ Tree.none ∷ Tree.none ∷ Tree.none ∷ Tree.none ∷ Tree.none
    ∷ one 25_000_000 (4 ∷ []) ∷ one 25_000_000 (8 ∷ []) ∷ one 25_000_000 (2 ∷ []) ∷ Tree.along (through pll2 32_000_000 5 (whole 100) (2 ∷ [])) ∷ two (2 ∷ [])
    ∷ Tree.none ∷ three (8 ∷ []) ∷ []
unfolding by_tree
by_enables = refl

-- ---- the exact fraction, and what the divisions end with: 32,000,000 / 18 × (235 + 66 / 8192) / 34, and with 235 alone; HSI / 3 / 7
abbrev in_numbers : Path → List ℕ
in_numbers p = num p ∷ den p ∷ floored p ∷ []

pub fractions : map in_numbers (through pll2 32_000_000 18 (part 235 66) (34 ∷ []) ∷ through pll2 32_000_000 18 (whole 235) (34 ∷ []) ∷ direct 32_000_000 (3 ∷ 7 ∷ []) ∷ [])
    ≡ (61_605_952_000_000 ∷ 5_013_504 ∷ 12_287_997 ∷ []) ∷ (7_520_000_000 ∷ 612 ∷ 12_287_576 ∷ []) ∷ (32_000_000 ∷ 21 ∷ 1_523_809 ∷ []) ∷ []
unfolding num den floored
fractions = refl

-- no division leaves a remainder, or one does: M, N + FRACN / 8192, a divider after it
pub even_part : NoRemainder (through pll2 16_384_000 2 (part 100 66) (2 ∷ []))
unfolding NoRemainder
even_part = (refl, (refl, (refl, tt)))

pub odd_part : NoRemainder (through pll2 2 1 (part 100 2048) (2 ∷ [])) → ⊥
unfolding NoRemainder
odd_part h = let z : ◌≡◌ {A = ℕ} 4096 0 = h.1.0 in omega arith

pub odd_m : NoRemainder (through pll2 32_000_000 18 (whole 235) (34 ∷ [])) → ⊥
unfolding NoRemainder
odd_m h = let z : ◌≡◌ {A = ℕ} 14 0 = h.0 in omega arith

pub odd_after : NoRemainder (direct 32_000_000 (4 ∷ 3 ∷ [])) → ⊥
unfolding NoRemainder
odd_after h = let z : ◌≡◌ {A = ℕ} 2 0 = h.1.0 in omega arith
