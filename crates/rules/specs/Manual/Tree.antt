-- The clock tree: from the words of a bank and the request's HSE hertz, each clock's path or none.
-- Document 01, 'The clock tree'; selectors as in RM0492 and RM0481; words and codes as in docs/CODES.md. The manuals are not at hand:
-- document 01 and the Rust name what a selector selects, and its codes stand in neither. With a manual, compare these first: SW, MCO1SEL, MCO2SEL
-- and TIMPRE in RCC_CFGR1, PLLxSRC in RCC_PLLxCFGR, CKPERSEL in RCC_CCIPR5, HSIDIV in RCC_CR, and the figure of the clock tree.
use Rattle.std.specs.Prelude.{Bool, false, cond, ◌||◌, List, [], ◌∷◌, ℕ, zero, suc, ◌+◌, ◌/◌, eqb, get_or, Option, Some, None}
use Rattle.rules.specs.Document01.Fields
use Rattle.rules.specs.Document01.Fields.{of_pll}
use Rattle.rules.specs.Manual.Path.{PllName, pll1, pll2, pll3, whole, part, Path, direct, through, extend}

-- an oscillator, and HSE as the request states it: its hertz, or nothing
pub data Oscillator : Type 0 where
  off : Oscillator
  runs : ℕ → Oscillator

-- HSE as the tree is fed it: the request's hertz, or none
abbrev pub fed_by : Option ℕ → Oscillator
fed_by None = off
fed_by (Some h) = runs h

-- what the tree gives for a clock
pub data Chain : Type 0 where
  none : Chain
  along : Path → Chain

-- ---- the clocks that are reported and have a path
pub data Output : Type 0 where
  P : Output
  Q : Output
  R : Output

-- CoreClocks without LSE and audio
pub data Clock : Type 0 where
  sys : Clock
  hclk : Clock
  pclk1 : Clock
  pclk2 : Clock
  pclk3 : Clock
  timx : Clock
  timy : Clock
  per : Clock
  hsi : Clock
  csi : Clock
  hsi48 : Clock
  lsi : Clock
  hse : Clock
  mco1 : Clock
  mco2 : Clock
  output : PllName → Output → Clock

-- ---- steps
abbrev pub from_oscillator : Oscillator → Chain
from_oscillator off = none
from_oscillator (runs h) = along (direct h [])

-- an oscillator whose ON is the word given
abbrev pub switched : ℕ → Oscillator → Oscillator
switched zero o = off
switched (suc on) o = o

-- a chain behind an ON or an enable
abbrev pub gated : ℕ → Chain → Chain
gated zero c = none
gated (suc on) c = c

-- a chain divided; none by 0
abbrev pub over : Chain → ℕ → Chain
over none d = none
over (along p) zero = none
over (along p) (suc d) = along (extend p (suc d))

-- whether a number is one of these
abbrev pub among : List ℕ → ℕ → Bool
among [] w = false
among (c ∷ cs) w = eqb w c || among cs w

-- HSI: 64,000,000 / HSIDIV for HSIDIV 1, 2, 4, 8; none by any other
abbrev pub hsi_by : ℕ → Oscillator
hsi_by div = cond (among (1 ∷ 2 ∷ 4 ∷ 8 ∷ []) div) (runs (64_000_000 / div)) off

-- VCO: the source / M × N; under FRACEN × (N + FRACN / 8192). None with M at 0
abbrev pub vco_by : PllName → Oscillator → ℕ → ℕ → ℕ → ℕ → Chain
vco_by j off m n fracen fracn = none
vco_by j (runs h) zero n fracen fracn = none
vco_by j (runs h) (suc m) n zero fracn = along (through j h (suc m) (whole n) [])
vco_by j (runs h) (suc m) n (suc e) fracn = along (through j h (suc m) (part n fracn) [])

-- a timer's one division after AHB: under TIMPRE 0 AHB / (PPRE / 2) from PPRE 4 up, under TIMPRE 1 AHB / (PPRE / 4) from 8 up, else AHB.
-- None by a PPRE other than 1, 2, 4, 8, 16
abbrev pub timer_by : ℕ → ℕ → Chain → Chain
timer_by zero ppre ahb = cond (among (1 ∷ 2 ∷ []) ppre) ahb (cond (among (4 ∷ 8 ∷ 16 ∷ []) ppre) (over ahb (ppre / 2)) none)
timer_by (suc t) ppre ahb = cond (among (1 ∷ 2 ∷ 4 ∷ []) ppre) ahb (cond (among (8 ∷ 16 ∷ []) ppre) (over ahb (ppre / 4)) none)

-- ---- where the words stand
abbrev pub word : List ℕ → ℕ → ℕ
word b f = get_or b f 0

-- a PLL's number, from 0, and its fields
abbrev pub number : PllName → ℕ
number pll1 = 0
number pll2 = 1
number pll3 = 2

-- a word of PLL j's
abbrev pub pll_word : List ℕ → PllName → ℕ → ℕ
pll_word b j f = word b (of_pll (number j) f)

-- an output's divider field and enable
abbrev pub divider : Output → ℕ
divider P = Fields.P
divider Q = Fields.Q
divider R = Fields.R

-- an output's enable
abbrev pub enable : Output → ℕ
enable P = Fields.PEN
enable Q = Fields.QEN
enable R = Fields.REN

-- ---- the tree
module _ (b : List ℕ) (fed : Oscillator) where
  -- HSI
  unfoldable pub hsi_of : Oscillator
  hsi_of = switched (word b Fields.HSION) (hsi_by (word b Fields.HSIDIV))

  -- CSI
  unfoldable pub csi_of : Oscillator
  csi_of = switched (word b Fields.CSION) (runs 4_000_000)

  -- HSI48
  unfoldable pub hsi48_of : Oscillator
  hsi48_of = switched (word b Fields.HSI48ON) (runs 48_000_000)

  -- LSI
  unfoldable pub lsi_of : Oscillator
  lsi_of = switched (word b Fields.LSION) (runs 32_000)

  -- HSE as fed
  unfoldable pub hse_of : Oscillator
  hse_of = switched (word b Fields.HSEON) fed

  -- SRC: 0 none, 1 HSI, 2 CSI, 3 HSE
  unfoldable pub source_of : PllName → Oscillator
  source_of j = get_or (off ∷ hsi_of ∷ csi_of ∷ hse_of ∷ []) (pll_word b j Fields.SRC) off

  -- a PLL's VCO, by M, N, FRACEN and FRACN
  unfoldable pub vco_of : PllName → Chain
  vco_of j = vco_by j (source_of j) (pll_word b j Fields.M) (pll_word b j Fields.N + 1) (pll_word b j Fields.FRACEN) (pll_word b j Fields.FRACN)

  -- its outputs, by ON, the output's enable and its divider
  unfoldable pub output_of : PllName → Output → Chain
  output_of j o = gated (pll_word b j Fields.ON) (gated (pll_word b j (enable o)) (over (vco_of j) (pll_word b j (divider o) + 1)))

  -- SW: 0 HSI, 1 CSI, 2 HSE, 3 PLL1 P
  unfoldable pub sys_of : Chain
  sys_of = get_or (from_oscillator hsi_of ∷ from_oscillator csi_of ∷ from_oscillator hse_of ∷ output_of pll1 P ∷ []) (word b Fields.SW) none

  -- AHB = system / HPRE
  unfoldable pub ahb_of : Chain
  ahb_of = over sys_of (word b Fields.HPRE)

  -- CKPERSEL: 0 HSI, 1 CSI, 2 HSE
  unfoldable pub per_of : Chain
  per_of = get_or (from_oscillator hsi_of ∷ from_oscillator csi_of ∷ from_oscillator hse_of ∷ []) (word b Fields.CKPERSEL) none

  -- MCO1SEL: 0 HSI, 1 LSE (which gives none), 2 HSE, 3 PLL1 Q, 4 HSI48
  abbrev pub mco1_source_of : Chain
  mco1_source_of = get_or (from_oscillator hsi_of ∷ none ∷ from_oscillator hse_of ∷ output_of pll1 Q ∷ from_oscillator hsi48_of ∷ []) (word b Fields.MCO1SEL) none

  -- MCO1 = its source / MCO1PRE
  unfoldable pub mco1_of : Chain
  mco1_of = over mco1_source_of (word b Fields.MCO1PRE)

  -- MCO2SEL: 0 system, 1 PLL2 P, 2 HSE, 3 PLL1 P, 4 CSI, 5 LSI
  abbrev pub mco2_source_of : Chain
  mco2_source_of = get_or (sys_of ∷ output_of pll2 P ∷ from_oscillator hse_of ∷ output_of pll1 P ∷ from_oscillator csi_of ∷ from_oscillator lsi_of ∷ []) (word b Fields.MCO2SEL) none

  -- MCO2 = its source / MCO2PRE
  unfoldable pub mco2_of : Chain
  mco2_of = over mco2_source_of (word b Fields.MCO2PRE)

  -- each clock: APB = AHB / its PPRE, timers by TIMPRE
  unfoldable pub path_of : Clock → Chain
  path_of sys = sys_of
  path_of hclk = ahb_of
  path_of pclk1 = over ahb_of (word b Fields.PPRE1)
  path_of pclk2 = over ahb_of (word b Fields.PPRE2)
  path_of pclk3 = over ahb_of (word b Fields.PPRE3)
  path_of timx = timer_by (word b Fields.TIMPRE) (word b Fields.PPRE1) ahb_of
  path_of timy = timer_by (word b Fields.TIMPRE) (word b Fields.PPRE2) ahb_of
  path_of per = per_of
  path_of hsi = from_oscillator hsi_of
  path_of csi = from_oscillator csi_of
  path_of hsi48 = from_oscillator hsi48_of
  path_of lsi = from_oscillator lsi_of
  path_of hse = from_oscillator hse_of
  path_of mco1 = mco1_of
  path_of mco2 = mco2_of
  path_of (output j o) = output_of j o
