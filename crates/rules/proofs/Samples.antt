-- Requests and chips that computed theorems are about.
use mathlib.Core.Path.{◌≡◌, refl}
use Rattle.rules.proofs.Computes.{by_rules}
use Rattle.types.specs.declared.Mco.{Mco}
use Rattle.types.specs.declared.Bus.{Bus}
use Rattle.std.specs.Prelude.{Option, Some, None, Result, Ok, Err}
use mathlib.Core.List.{List, [], ◌∷◌}
use mathlib.Core.Bool.{Bool, true, false}
use Prim.Native.Nat.{ℕ}
use Rattle.types.specs.declared.Refusal.{Refusal}
use Rattle.types.specs.declared.Strategy.{Strategy}
use Rattle.types.specs.declared.Strategy.TheVariants.{Integer}
use Rattle.types.specs.declared.Mco1Source.{Mco1Source}
use Rattle.types.specs.declared.Mco2Source.{Mco2Source}
use Rattle.types.specs.declared.PllRequest.{PllRequest}
use Rattle.types.specs.declared.Request.{Request}
use Rattle.types.specs.declared.Scale.TheVariants.{Scale0}
use Rattle.types.specs.declared.Chip.{Chip}
use Rattle.types.specs.declared.Hsidiv.{Hsidiv}
use Rattle.types.specs.declared.ChipState.{ChipState}
use Rattle.types.specs.declared.PllSettings.{PllSettings}
use Rattle.types.specs.declared.Plan.{Plan}
use Rattle.rules.specs.Document01.Refusals.{number_of}
use Rattle.rules.specs.Document01.Plan.{chosen_plan, plan_with}
use Rattle.rules.specs.Document01.Entries.{pll_in}

-- a PLL's strategy, P and Q
abbrev pub pll : Strategy → Option ℕ → Option ℕ → PllRequest
pll s p q = record { strategy = s; p = p; q = q; r = None }

abbrev pub none : PllRequest
none = pll Integer None None

-- HSE; system, AHB, APB1; MCO1's and MCO2's sources and hertz; PLL1, PLL2; the rest unset
abbrev pub asking : (hse system ahb apb1 : Option ℕ) → Mco1Source → Option ℕ → Mco2Source → Option ℕ → (pll1 pll2 : PllRequest) → Request
asking hse system ahb apb1 source1 mco1 source2 mco2 pll1 pll2 = record {
  hse = hse;
  lse = None;
  audio = None;
  system = system;
  peripheral = None;
  ahb = ahb;
  apb1 = apb1;
  apb2 = None;
  apb3 = None;
  bypass = false;
  mco1source = source1;
  mco1 = mco1;
  mco2source = source2;
  mco2 = mco2;
  plls = pll1 ∷ pll2 ∷ none ∷ [];
}

-- HSE, and clocks; HSE, and PLLs; MCO1 from a source
abbrev pub clocks : (hse system ahb apb1 : Option ℕ) → Request
clocks hse system ahb apb1 = asking hse system ahb apb1 Mco1Source.Hsi None Mco2Source.Sysclk None none none

abbrev pub plls : (hse system : Option ℕ) → (pll1 pll2 : PllRequest) → Request
plls hse system pll1 pll2 = asking hse system None None Mco1Source.Hsi None Mco2Source.Sysclk None pll1 pll2

abbrev pub mco1_from : Mco1Source → Option ℕ → Request
mco1_from source h = asking None None None None source h Mco2Source.Sysclk None none none

-- PLL2 alone, from HSI and from HSE
abbrev pub on_hsi : PllRequest → Request
on_hsi a = plls None None none a

abbrev pub on_hse : ℕ → PllRequest → Request
on_hse h a = plls (Some h) None none a

-- a system clock and AHB, from HSI
abbrev pub system : ℕ → Option ℕ → Request
system s ahb = clocks None (Some s) ahb None

-- HSE, a system clock and three PLLs, the rest unset
abbrev pub plls3 : (hse system : Option ℕ) → (pll1 pll2 pll3 : PllRequest) → Request
plls3 hse system pll1 pll2 pll3 = record {
  hse = hse;
  lse = None;
  audio = None;
  system = system;
  peripheral = None;
  ahb = None;
  apb1 = None;
  apb2 = None;
  apb3 = None;
  bypass = false;
  mco1source = Mco1Source.Hsi;
  mco1 = None;
  mco2source = Mco2Source.Sysclk;
  mco2 = None;
  plls = pll1 ∷ pll2 ∷ pll3 ∷ [];
}

-- HSE 8,000,000, every bus and the peripheral clock, both MCOs, three PLLs in Integer strategy; LSE, audio and PLL3 R as said
abbrev pub fullest : (lse audio r : Option ℕ) → Request
fullest lse audio r = record {
  hse = Some 8_000_000;
  lse = lse;
  audio = audio;
  system = Some 250_000_000;
  peripheral = Some 8_000_000;
  ahb = Some 125_000_000;
  apb1 = Some 32_000_000;
  apb2 = Some 16_000_000;
  apb3 = Some 8_000_000;
  bypass = false;
  mco1source = Mco1Source.Pll1Q;
  mco1 = Some 12_500_000;
  mco2source = Mco2Source.Sysclk;
  mco2 = Some 25_000_000;
  plls =
      record { strategy = Integer; p = None; q = Some 125_000_000; r = Some 50_000_000 }
      ∷ record { strategy = Integer; p = Some 12_288_000; q = Some 24_576_000; r = Some 6_144_000 }
      ∷ record { strategy = Integer; p = Some 30_000_000; q = Some 100_000_000; r = r } ∷ [];
}

-- nothing is requested
abbrev pub nothing : Request
nothing = on_hsi none

-- the seven numbers of a chip
abbrev pub chip7 : (plls odd1 odd2 odd3 scale hsion hsidiv : ℕ) → Chip
chip7 plls odd1 odd2 odd3 scale hsion hsidiv = record { plls = plls; odd = odd1 ∷ odd2 ∷ odd3 ∷ []; scale = scale; hsion = hsion; hsidiv = hsidiv }

-- PLL count, and odd P allowed (1) or forbidden (0) on every PLL; Scale0, HSION 1, HSIDIV 2
abbrev pub chip : (plls odd : ℕ) → Chip
chip plls odd = chip7 plls odd odd odd 0 1 2

-- the same as a state, of two PLLs
abbrev pub state : (odd : Bool) → ChipState
state odd = record { three = false; odd = odd ∷ odd ∷ odd ∷ []; scale = Scale0; hsion = true; hsidiv = Hsidiv.Div2 }

-- three PLLs, each allowed to divide P by an odd number or not
abbrev pub state3 : (odd1 odd2 odd3 : Bool) → ChipState
state3 odd1 odd2 odd3 = record { three = true; odd = odd1 ∷ odd2 ∷ odd3 ∷ []; scale = Scale0; hsion = true; hsidiv = Hsidiv.Div2 }

-- ---- setting A: odd P forbidden, system 250,000,000
abbrev pub a : Request
a = system 250_000_000 None

abbrev pub plan_a : Result Plan Refusal
plan_a = chosen_plan a (state false)

-- a plan with nothing in it
abbrev no_bus : Bus
no_bus = record { pre = 0; clock = 0 }

abbrev no_mco : Mco
no_mco = record { pre = 0; clock = None }

abbrev empty : Plan
empty = plan_with a (state false) [] (record { ahb = no_bus; apb1 = no_bus; apb2 = no_bus; apb3 = no_bus }) (record { mco1 = no_mco; mco2 = no_mco })

-- the plan of an answer that is one
abbrev pub plan_in : Result Plan Refusal → Plan
plan_in (Ok p) = p
plan_in (Err n) = empty

pub is_plan_a : plan_a ≡ Ok (plan_in plan_a)
unfolding by_rules
is_plan_a = refl

-- ---- what is looked at in an answer: numbers of its plan, or the number of its refusal
pub data Found : Type 0 where
  plan : List ℕ → Found
  refusal : ℕ → Found

abbrev pub look : (Plan → List ℕ) → Result Plan Refusal → Found
look f (Ok p) = plan (f p)
look f (Err n) = refusal (number_of n)

abbrev pub of_settings : (PllSettings → List ℕ) → Option PllSettings → List ℕ
of_settings f None = []
of_settings f (Some s) = f s

-- of PLL1 and PLL2
abbrev pub in_pll1 : (PllSettings → List ℕ) → Plan → List ℕ
in_pll1 f p = of_settings f (pll_in p 0)

abbrev pub in_pll2 : (PllSettings → List ℕ) → Plan → List ℕ
in_pll2 f p = of_settings f (pll_in p 1)
