-- Demand 3, whole: the hertz that a plan reports, and the exact fractions that the clock tree gives from the bank its list leaves.
use Rattle.std.specs.Prelude.{◌≡◌, Bool, true, false, cond, ◌&&◌, List, ℕ, eqb, Some, Result, is_some, Ok}
use Rattle.types.specs.declared.Refusal.{Refusal}
use Rattle.types.specs.declared.Strategy.{Strategy}
use Rattle.types.specs.declared.Strategy.TheVariants.{Integer, Fractional}
use Rattle.types.specs.declared.Mco1Source.{Mco1Source}
use Rattle.types.specs.declared.Mco2Source.{Mco2Source}
use Rattle.types.specs.declared.Request.{Request}
use Rattle.types.specs.declared.Plan.{Plan}
use Rattle.rules.specs.Document01.Request.{pll_at}
use Rattle.rules.specs.Document01.Entries.{entries_of}
use Rattle.rules.specs.Document01.Bank.{apply_all, reset_bank}
use Rattle.claims.specs.Demands.Report.{reported, hertz_of}
use Rattle.rules.specs.Manual.Path.{PllName, pll1, pll2, Via, no_pll, by, Path, pll_on, Readings}
use Rattle.rules.specs.Manual.Tree.{Oscillator, fed_by, along, P, Clock, sys, hclk, pclk1, pclk2, pclk3, timx, timy, per, hsi, csi, hsi48, lsi, hse, mco1, mco2, output, number, path_of}

-- ---- the clocks covered, by the request and the plan; nothing here looks at a bank
-- the system clock comes from PLL1 where the plan says SW 3
abbrev pub sys_via : Plan → Via
sys_via p = cond (eqb p.selectors.sw 3) (by pll1) no_pll

-- MCO1's source comes through PLL1 where it is PLL1 Q
abbrev pub mco1_via : Mco1Source → Via
mco1_via Mco1Source.Hsi = no_pll
mco1_via Mco1Source.Lse = no_pll
mco1_via Mco1Source.Hse = no_pll
mco1_via Mco1Source.Pll1Q = by pll1
mco1_via Mco1Source.Hsi48 = no_pll

-- MCO2's: by the system clock, PLL2 or PLL1
abbrev pub mco2_via : Mco2Source → Plan → Via
mco2_via Mco2Source.Sysclk p = sys_via p
mco2_via Mco2Source.Pll2P p = by pll2
mco2_via Mco2Source.Hse p = no_pll
mco2_via Mco2Source.Pll1P p = by pll1
mco2_via Mco2Source.Csi p = no_pll
mco2_via Mco2Source.Lsi p = no_pll

-- each clock
abbrev pub via_of : Request → Plan → Clock → Via
via_of q p sys = sys_via p
via_of q p hclk = sys_via p
via_of q p pclk1 = sys_via p
via_of q p pclk2 = sys_via p
via_of q p pclk3 = sys_via p
via_of q p timx = sys_via p
via_of q p timy = sys_via p
via_of q p per = no_pll
via_of q p hsi = no_pll
via_of q p csi = no_pll
via_of q p hsi48 = no_pll
via_of q p lsi = no_pll
via_of q p hse = no_pll
via_of q p mco1 = mco1_via q.mco1source
via_of q p mco2 = mco2_via q.mco2source p
via_of q p (output j o) = by j

-- PLL j is started: it has P (document 01, Register entries)
abbrev pub started : Plan → PllName → Bool
started p j = is_some (hertz_of (reported p) (output j P))

-- Integer strategy
abbrev pub is_integer : Strategy → Bool
is_integer Integer = true
is_integer Fractional = false

-- no PLL, or one that is started and requested in Integer strategy
abbrev pub steady : Request → (started : PllName → Bool) → Via → Bool
steady q started no_pll = true
steady q started (by j) = started j && is_integer (pll_at q (number j)).strategy

-- clock k is reported, as r hertz, and its path has no PLL, or one that is started and in Integer strategy
pub record Covered (q : Request) (p : Plan) (started : PllName → Bool) (k : Clock) (r : ℕ) : Type 0 where
  pub report : hertz_of (reported p) k ≡ Some r
  pub steady_path : steady q started (via_of q p k) ≡ true

-- ---- the claim
-- in bank b the tree gives clock k a path, and r hertz and the path's exact fraction are as demand 3 says
pub record TreeReads (b : List ℕ) (fed : Oscillator) (k : Clock) (r : ℕ) : Type 0 where
  pub path : Path
  pub found : path_of b fed k ≡ along path
  pub readings : Readings path r

-- so for every clock that the plan covers, in the bank b that its whole list left
pub record TwoReadings (q : Request) (p : Plan) (b : List ℕ) : Type 0 where
  pub reads : (k : Clock) (r : ℕ) → Covered q p (started p) k r → TreeReads b (fed_by q.hse) k r
  -- and the PLL that a clock was taken to come through is the one on its path, covered or not
  pub via : (k : Clock) (path : Path) → path_of b (fed_by q.hse) k ≡ along path → via_of q p k ≡ pll_on path

-- demand 3 for the answer to a request: a plan's whole list is applied, in order, to a bank at reset values
abbrev pub Reads : Request → Result Plan Refusal → Type 0
Reads q x = (p : Plan) → x ≡ Ok p → TwoReadings q p (apply_all (entries_of x) reset_bank)

-- and for a bank call that found bank b and left bank b₁
abbrev pub BankReads : Request → Result Plan Refusal → List ℕ → List ℕ → Type 0
BankReads q x b b₁ = (p : Plan) → x ≡ Ok p → b ≡ reset_bank → TwoReadings q p b₁
