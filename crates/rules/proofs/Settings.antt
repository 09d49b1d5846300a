-- The bench settings of document 01, A to O, in one table: each request as bytes, the chip, and the numbers stated or the refusal. One theorem
-- over all of them, computed on a chip with two PLLs and on one with three.
use Rattle.std.specs.Prelude.{Option, Some, None}
use mathlib.Core.Path.{◌≡◌, refl}
use mathlib.Core.List.{List, [], ◌∷◌, ◌++◌, map}
use mathlib.Core.Bool.{true, false}
use Prim.Native.Nat.{ℕ}
use Rattle.types.specs.declared.Strategy.TheVariants.{Integer, Fractional}
use Rattle.types.specs.declared.Mco1Source.{Mco1Source}
use Rattle.types.specs.declared.Request.{Request}
use Rattle.types.specs.declared.PllOutput.{PllOutput}
use Rattle.types.specs.declared.PllSettings.{PllSettings}
use Rattle.types.specs.declared.Plan.{Plan}
use Rattle.rules.specs.Document01.Bytes.{request_bytes}
use Rattle.rules.specs.Document01.Plan.{plan_of}
use Rattle.rules.proofs.Computes.{by_rules}
use Rattle.rules.proofs.Samples.{pll, none, clocks, on_hsi, on_hse, system, mco1_from, chip, Found, plan, refusal, look, in_pll1, in_pll2}

-- ---- what is looked at
-- M, N, FRACN and divider, by settings
abbrev fracn_in : Option ℕ → ℕ
fracn_in None = 0
fracn_in (Some f) = f

abbrev divider_in : Option PllOutput → ℕ
divider_in None = 0
divider_in (Some o) = o.divider

abbrev hertz_in : Option PllOutput → ℕ
hertz_in None = 0
hertz_in (Some o) = o.clock

-- VCOSEL (0 wide, 1 medium), M, N, P's divider
abbrev dividers : PllSettings → List ℕ
dividers s = s.vcosel ∷ s.m ∷ s.n ∷ divider_in s.p ∷ []

-- M, reference, N, P's divider, FRACN, VCO, P's hertz
abbrev fractional : PllSettings → List ℕ
fractional s = s.m ∷ s.reference ∷ s.n ∷ divider_in s.p ∷ fracn_in s.fraction ∷ s.vco ∷ hertz_in s.p ∷ []

abbrev p_hertz : PllSettings → List ℕ
p_hertz s = hertz_in s.p ∷ []

abbrev q_divider : PllSettings → List ℕ
q_divider s = divider_in s.q ∷ []

abbrev vcosel : PllSettings → List ℕ
vcosel s = s.vcosel ∷ []

-- target, P's divider
abbrev target : PllSettings → List ℕ
target s = s.target ∷ divider_in s.p ∷ []

abbrev divisor_m : PllSettings → List ℕ
divisor_m s = s.m ∷ []

-- of the whole plan
-- HPRE, AHB
abbrev ahb : Plan → List ℕ
ahb p = p.buses.ahb.pre ∷ p.buses.ahb.clock ∷ []

abbrev latency : Plan → List ℕ
latency p = p.waits.latency ∷ []

abbrev mco1 : Plan → List ℕ
mco1 p = p.mcos.mco1.pre ∷ []

-- ---- a setting: its request, odd P allowed (1) or forbidden (0), what is looked at, and what is stated of it: a plan with these numbers, or a
-- refusal
pub record Setting : Type 0 where
  pub request : Request
  pub odd : ℕ
  pub looks : Plan → List ℕ
  pub stated : Found

abbrev is : Request → ℕ → (Plan → List ℕ) → List ℕ → Setting
is q odd looks numbers = record { request = q; odd = odd; looks = looks; stated = plan numbers }

abbrev refused : Request → ℕ → ℕ → Setting
refused q odd number = record { request = q; odd = odd; looks = λ p. []; stated = refusal number }

abbrev pub settings : List Setting
settings =
    -- A* odd forbidden, system 250,000,000: wide, M 8, N 125, P 2; Scale0 latency 5. B* odd allowed: medium, M 16, N 125, P 1
    is (system 250_000_000 None) 0 (in_pll1 dividers) (0 ∷ 8 ∷ 125 ∷ 2 ∷ [])
    ∷ is (system 250_000_000 None) 0 latency (5 ∷ [])
    ∷ is (system 250_000_000 None) 1 (in_pll1 dividers) (1 ∷ 16 ∷ 125 ∷ 1 ∷ [])
    -- C* PLL2 Fractional P 12,288,000: M 18, ref 1,777,777, N 235, divider 34, FRACN 66, VCO 417,791,904, clock 12,287,997. D Integer: 12,287,576
    ∷ is (on_hsi (pll Fractional (Some 12_288_000) None)) 1 (in_pll2 fractional) (18 ∷ 1_777_777 ∷ 235 ∷ 34 ∷ 66 ∷ 417_791_904 ∷ 12_287_997 ∷ [])
    ∷ is (on_hsi (pll Integer (Some 12_288_000) None)) 1 (in_pll2 p_hertz) (12_287_576 ∷ [])
    -- E* one output 419,999,999 medium, 420,000,000 wide, 560,000,000 is 9. F* 1,634,242: target 209,182,976, divider 128; 1,634,241 is 10
    ∷ is (on_hsi (pll Integer (Some 419_999_999) None)) 1 (in_pll2 vcosel) (1 ∷ [])
    ∷ is (on_hsi (pll Integer (Some 420_000_000) None)) 1 (in_pll2 vcosel) (0 ∷ [])
    ∷ refused (on_hsi (pll Integer (Some 560_000_000) None)) 1 9
    ∷ is (on_hsi (pll Integer (Some 1_634_242) None)) 1 (in_pll2 target) (209_182_976 ∷ 128 ∷ [])
    ∷ refused (on_hsi (pll Integer (Some 1_634_241) None)) 1 10
    -- G P 200,000,000 with Q 1,562,500: Q divider 128; 1,562,499 is 8
    ∷ is (on_hsi (pll Integer (Some 200_000_000) (Some 1_562_500))) 1 (in_pll2 q_divider) (128 ∷ [])
    ∷ refused (on_hsi (pll Integer (Some 200_000_000) (Some 1_562_499))) 1 8
    -- H* odd forbidden: P 1,000,000 is 14; P 80,000,000 with Q 200,000,000 is 15
    ∷ refused (on_hsi (pll Integer (Some 1_000_000) None)) 0 14
    ∷ refused (on_hsi (pll Integer (Some 80_000_000) (Some 200_000_000))) 0 15
    -- I P 30,000,000, Q 100,000,000: P is 30,769,230; Fractional is 13
    ∷ is (on_hsi (pll Integer (Some 30_000_000) (Some 100_000_000))) 1 (in_pll2 p_hertz) (30_769_230 ∷ [])
    ∷ refused (on_hsi (pll Fractional (Some 30_000_000) (Some 100_000_000))) 1 13
    -- J* system 250,000,000, AHB 50,000,000: 62,500,000. K* system 32,000,000, AHB 820,513: / 16; 820,512: / 64
    ∷ is (system 250_000_000 (Some 50_000_000)) 1 ahb (4 ∷ 62_500_000 ∷ [])
    ∷ is (system 32_000_000 (Some 820_513)) 1 ahb (16 ∷ 2_000_000 ∷ [])
    ∷ is (system 32_000_000 (Some 820_512)) 1 ahb (64 ∷ 500_000 ∷ [])
    -- L* MCO1 from HSI 2,133,334: 15; 2,133,333 is 23
    ∷ is (mco1_from Mco1Source.Hsi (Some 2_133_334)) 1 mco1 (15 ∷ [])
    ∷ refused (mco1_from Mco1Source.Hsi (Some 2_133_333)) 1 23
    -- M* HSE alone, hence AHB, Scale0 latency: 42,000,000: 0; 42,000,001: 1; 251,000,001: 7
    ∷ is (on_hse 42_000_000 none) 1 latency (0 ∷ [])
    ∷ is (on_hse 42_000_001 none) 1 latency (1 ∷ [])
    ∷ is (on_hse 251_000_001 none) 1 latency (7 ∷ [])
    -- N HSE 100, AHB 1 is 19
    ∷ refused (clocks (Some 100) None (Some 1) None) 1 19
    -- O HSE 126,000,000: M 63 for PLL2 P 250,000,000; 126,000,001 is 11
    ∷ is (on_hse 126_000_000 (pll Integer (Some 250_000_000) None)) 1 (in_pll2 divisor_m) (63 ∷ [])
    ∷ refused (on_hse 126_000_001 (pll Integer (Some 250_000_000) None)) 1 11
    ∷ []

-- ---- what the planner's call answers
abbrev on_two : Setting → Found
on_two s = look s.looks (plan_of (request_bytes false s.request) (chip 2 s.odd))

abbrev on_three : Setting → Found
on_three s = look s.looks (plan_of (request_bytes true s.request) (chip 3 s.odd))

pub bench : map on_two settings ++ map on_three settings ≡ map (λ s. s.stated) settings ++ map (λ s. s.stated) settings
unfolding by_rules
bench = refl
