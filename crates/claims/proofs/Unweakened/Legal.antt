-- Demand 2 rules these out: settings and wait states that the manuals or IEEE 754 do not allow, wrong in one place each where that can be.
use Rattle.std.specs.Prelude.{Option, Some, None}
use mathlib.Core.Path.{◌≡◌, sym, ap}
use mathlib.Core.Bool.{true, false}
use mathlib.Core.List.{[], ◌∷◌}
use Prim.Native.Nat.{ℕ, ◌+◌, ◌*◌, ◌≤◌, ◌<◌}
use native.Mathlib.Omega.{arith}
use Rattle.types.specs.declared.Strategy.TheVariants.{Integer, Fractional}
use Rattle.types.specs.declared.PllOutput.{PllOutput}
use Rattle.types.specs.declared.PllRequest.{PllRequest}
use Rattle.types.specs.declared.PllSettings.{PllSettings}
use Rattle.types.specs.declared.Scale.{Scale}
use Rattle.types.specs.declared.Scale.TheVariants.{Scale0, Scale1, Scale2, Scale3}
use Rattle.types.specs.declared.Hsidiv.{Hsidiv}
use Rattle.types.specs.declared.ChipState.{ChipState}
use Rattle.types.specs.declared.Plan.{Plan}
use Rattle.ieee754.specs.Whole.{rounded, quotient_whole, fracn_whole, vco_whole}
use Rattle.rules.specs.Document01.Plan.{chosen_plan}
use Rattle.rules.specs.Manual.WaitStates.{rows, Asks, nothing, waits}
use Rattle.claims.specs.Demands.Legal.{Legal, LegalPlan}
use Rattle.rules.proofs.Computes.{by_rules}
use Rattle.laws.proofs.Tests.{never}
use Rattle.rules.proofs.Samples.{pll, none, on_hse, plls3, state, state3, a, plan_in}
use Rattle.claims.proofs.Unweakened.Wrong.{integer, setting_a, changed, instead_of_a}

-- ---- the fields of a PLL in Integer strategy, from 32,000,000 unless said
abbrev P2 : Option PllOutput
P2 = Some (record { divider = 2; clock = 250_000_000 })

abbrev with_r : Option PllOutput → PllSettings
with_r r = record { vcosel = 0; target = 500_000_000; m = 8; reference = 4_000_000; rge = 2; n = 125; fraction = None; vco = 500_000_000; p = P2; q = None; r = r }

-- what is asked for: P; P and Q; P and R
abbrev of_p : PllRequest
of_p = pll Integer (Some 250_000_000) None

abbrev of_p_q : PllRequest
of_p_q = pll Integer (Some 250_000_000) (Some 4_000_000)

abbrev of_p_r : PllRequest
of_p_r = record { strategy = Integer; p = Some 250_000_000; q = None; r = Some 4_000_000 }

-- FieldM: M 0, and M 64 of 128,000,000
pub m_0 : Legal true 32_000_000 of_p (integer 0 500_000_000 0 4_000_000 2 125 500_000_000 P2 None) → ⊥
m_0 h = let z : 1 ≤ 0 = h.m.from in omega arith

pub m_64 : Legal true 128_000_000 of_p (integer 0 500_000_000 64 2_000_000 1 250 500_000_000 P2 None) → ⊥
m_64 h = let z : 64 ≤ 63 = h.m.to in omega arith

-- RGE of another range: 1 to 2 MHz, and 8 to 16 MHz, for 4 MHz
pub rge_low : Legal true 32_000_000 of_p (integer 0 500_000_000 8 4_000_000 0 125 500_000_000 P2 None) → ⊥
rge_low h = let z : 32_000_000 ≤ 2_000_000 * 8 = h.rge.to in omega arith

pub rge_high : Legal true 32_000_000 of_p (integer 0 500_000_000 8 4_000_000 3 125 500_000_000 P2 None) → ⊥
rge_high h = let z : 8_000_000 * 8 ≤ 32_000_000 = h.rge.from in omega arith

-- a reference that the VCO does not take: 4 MHz for the medium one
pub input : Legal true 32_000_000 of_p (integer 1 400_000_000 8 4_000_000 2 100 400_000_000 (Some (record { divider = 2; clock = 200_000_000 })) None) → ⊥
input h = let z : 32_000_000 ≤ 2_000_000 * 8 = h.input.to in omega arith

-- a reference that is not source / M
pub reference : Legal true 32_000_000 of_p (integer 0 500_000_000 8 3_999_999 2 125 499_999_875 (Some (record { divider = 2; clock = 249_999_937 })) None) → ⊥
reference h = let z : ◌≡◌ {A = ℕ} 3_999_999 4_000_000 = h.reference in omega arith

-- FieldN: N 3 and N 513
pub n_3 : Legal true 32_000_000 of_p (integer 0 500_000_000 8 4_000_000 2 3 12_000_000 (Some (record { divider = 2; clock = 6_000_000 })) None) → ⊥
n_3 h = let z : 3 ≤ 2 = h.n.from in omega arith

pub n_513 : Legal true 32_000_000 of_p (integer 0 500_000_000 8 4_000_000 2 513 2_052_000_000 (Some (record { divider = 2; clock = 1_026_000_000 })) None) → ⊥
n_513 h = let z : 512 ≤ 511 = h.n.to in omega arith

-- a target outside VCOSEL's span: 1 Hz below, 1 Hz above
pub target_low : Legal true 32_000_000 of_p (integer 0 127_999_999 8 4_000_000 2 125 500_000_000 P2 None) → ⊥
target_low h = let z : 128_000_000 * 1 ≤ 127_999_999 = h.target.from in omega arith

pub target_high : Legal true 32_000_000 of_p (integer 0 560_000_001 8 4_000_000 2 125 500_000_000 P2 None) → ⊥
target_high h = let z : 560_000_001 ≤ 560_000_000 * 1 = h.target.to in omega arith

-- a VCO that is not reference × N; one step below the medium span, and above it
pub vco_product : Legal true 32_000_000 of_p (integer 0 500_000_000 8 4_000_000 2 125 500_000_001 P2 None) → ⊥
vco_product h = let z : ◌≡◌ {A = ℕ} 500_000_001 500_000_000 = h.vco.product in omega arith

pub vco_low : Legal true 32_000_000 of_p (integer 1 150_000_000 32 1_000_000 0 149 149_000_000 (Some (record { divider = 2; clock = 74_500_000 })) None) → ⊥
vco_low h = let z : 150_000_000 < 149_000_000 + 1_000_000 = h.vco.from in omega arith

pub vco_high : Legal true 32_000_000 of_p (integer 1 420_000_000 32 1_000_000 0 421 421_000_000 (Some (record { divider = 2; clock = 210_500_000 })) None) → ⊥
vco_high h = let z : 421_000_000 ≤ 420_000_000 = h.vco.to in omega arith

-- an output's divider 0, 129, and hertz that are not VCO / divider
pub q_0 : Legal true 32_000_000 of_p_q (integer 0 500_000_000 8 4_000_000 2 125 500_000_000 P2 (Some (record { divider = 0; clock = 0 }))) → ⊥
q_0 h = let z : 1 ≤ 0 = h.q.some in omega arith

pub q_129 : Legal true 32_000_000 of_p_q (integer 0 500_000_000 8 4_000_000 2 125 500_000_000 P2 (Some (record { divider = 129; clock = 3_875_968 }))) → ⊥
q_129 h = let z : 128 ≤ 127 = h.q.field in omega arith

pub p_hertz : Legal true 32_000_000 of_p (integer 0 500_000_000 8 4_000_000 2 125 500_000_000 (Some (record { divider = 2; clock = 250_000_001 })) None) → ⊥
p_hertz h = let z : ◌≡◌ {A = ℕ} 250_000_001 250_000_000 = h.p.hertz in omega arith

pub r_129 : Legal true 32_000_000 of_p_r (with_r (Some (record { divider = 129; clock = 3_875_968 }))) → ⊥
r_129 h = let z : 128 ≤ 127 = h.r.field in omega arith

-- P's divider odd where that is forbidden
pub p_odd : Legal false 32_000_000 of_p (integer 0 500_000_000 8 4_000_000 2 125 500_000_000 (Some (record { divider = 5; clock = 100_000_000 })) None) → ⊥
p_odd h = let e : false ≡ true = h.odd_p in let z : ◌≡◌ {A = ℕ} 0 1 = cc in omega arith

-- a PLL that runs where nothing is requested; an output that is off where it is requested, and on where it is not
pub not_asked : Legal true 32_000_000 none (integer 0 500_000_000 8 4_000_000 2 125 500_000_000 None None) → ⊥
not_asked h = never (sym h.asked)

pub p_off : Legal true 32_000_000 of_p_q (integer 0 500_000_000 8 4_000_000 2 125 500_000_000 None (Some (record { divider = 125; clock = 4_000_000 }))) → ⊥
p_off h = h.p

pub q_off : Legal true 32_000_000 of_p_q (integer 0 500_000_000 8 4_000_000 2 125 500_000_000 P2 None) → ⊥
q_off h = h.q

pub r_off : Legal true 32_000_000 of_p_r (with_r None) → ⊥
r_off h = h.r

pub p_on : Legal true 32_000_000 (pll Integer None (Some 4_000_000)) (integer 0 500_000_000 8 4_000_000 2 125 500_000_000 P2 (Some (record { divider = 125; clock = 4_000_000 }))) → ⊥
p_on h = h.p

pub q_on : Legal true 32_000_000 of_p (integer 0 500_000_000 8 4_000_000 2 125 500_000_000 P2 (Some (record { divider = 125; clock = 4_000_000 }))) → ⊥
q_on h = h.q

pub r_on : Legal true 32_000_000 of_p (with_r (Some (record { divider = 125; clock = 4_000_000 }))) → ⊥
r_on h = h.r

-- ---- Fractional: C, with FRACN 67 for 66, and with a VCO 1 Hz above
abbrev fractional : (fracn vco p : ℕ) → PllSettings
fractional fracn vco p = record {
  vcosel = 1;
  target = 417_792_000;
  m = 18;
  reference = 1_777_777;
  rge = 0;
  n = 235;
  fraction = Some fracn;
  vco = vco;
  p = Some (record { divider = 34; clock = p });
  q = None;
  r = None;
}

abbrev c : PllRequest
c = pll Fractional (Some 12_288_000) None

abbrev value_in : Option ℕ → ℕ
value_in (Some f) = f
value_in None = 8192

pub fracn_67 : Legal true 32_000_000 c (fractional 67 417_791_904 12_287_997) → ⊥
unfolding fracn_whole quotient_whole rounded lib.Ieee.size lib.Ieee.span lib.Ieee.climb
fracn_67 h = let z : ◌≡◌ {A = ℕ} 66 67 = ap value_in h.vco.fracn in omega arith

pub vco_above : Legal true 32_000_000 c (fractional 66 417_791_905 12_287_997) → ⊥
unfolding vco_whole rounded lib.Ieee.size lib.Ieee.span lib.Ieee.climb
vco_above h = let z : ◌≡◌ {A = ℕ} 417_791_905 417_791_904 = h.vco.vco in omega arith

-- a VCO far outside VCOSEL's span, with the target still inside: N 4 and N 512
abbrev multiplied : (n vco p : ℕ) → PllSettings
multiplied n vco p = record {
  vcosel = 1;
  target = 417_792_000;
  m = 16;
  reference = 2_000_000;
  rge = 0;
  n = n;
  fraction = Some 0;
  vco = vco;
  p = Some (record { divider = 2; clock = p });
  q = None;
  r = None;
}

pub exact_low : Legal true 32_000_000 (pll Fractional (Some 4_000_000) None) (multiplied 4 8_000_000 4_000_000) → ⊥
exact_low h = let z : 8192 * (150_000_000 * 16) < 32_000_000 * (8192 * 4 + 0) + 8192 * 32_000_000 = h.vco.exact_from in omega arith

pub exact_high : Legal true 32_000_000 (pll Fractional (Some 512_000_000) None) (multiplied 512 1_024_000_000 512_000_000) → ⊥
exact_high h = let z : 32_000_000 * (8192 * 512 + 0) < (8192 * (420_000_000 + 98) + (8192 * 512 + 0)) * 16 = h.vco.exact_to in omega arith

-- the strategy that is not requested: FRACN for Integer, none for Fractional
pub part_for_integer : Legal true 32_000_000 (pll Integer (Some 12_288_000) None) (fractional 66 417_791_904 12_287_997) → ⊥
part_for_integer h = h.vco

pub whole_for_fractional : Legal true 32_000_000 (pll Fractional (Some 250_000_000) None) setting_a → ⊥
whole_for_fractional h = h.vco

-- ---- of a whole plan: any PLL left out. A's system clock, and PLL2 and PLL3 as asked, on a chip with three
abbrev Legal3 : (pll1 pll2 pll3 : PllRequest) → ChipState → (x1 x2 x3 : Option PllSettings) → Type 0
Legal3 pll1 pll2 pll3 c x1 x2 x3 = LegalPlan (plls3 None (Some 250_000_000) pll1 pll2 pll3) c (instead_of_a 250_000_000 x1 x2 x3 5 2)

-- M 0 in PLL1, PLL2, PLL3
abbrev pub dead : PllSettings
dead = integer 0 500_000_000 0 4_000_000 2 125 500_000_000 P2 None

pub in_pll1 : LegalPlan a (state false) (instead_of_a 250_000_000 (Some dead) None None 5 2) → ⊥
in_pll1 h = let z : 1 ≤ 0 = h.pll1.m.from in omega arith

pub in_pll2 : Legal3 none of_p none (state3 true true true) (Some setting_a) (Some dead) None → ⊥
in_pll2 h = let z : 1 ≤ 0 = h.pll2.m.from in omega arith

pub in_pll3 : Legal3 none none of_p (state3 true true true) (Some setting_a) None (Some dead) → ⊥
in_pll3 h = let z : 1 ≤ 0 = h.pll3.m.from in omega arith

-- and the permission of its own PLL: P's divider 5, where each of the other two may divide by an odd number
abbrev fifth : PllSettings
fifth = integer 0 500_000_000 8 4_000_000 2 125 500_000_000 (Some (record { divider = 5; clock = 100_000_000 })) None

pub odd_in_pll1 : Legal3 none none none (state3 false true true) (Some fifth) None None → ⊥
odd_in_pll1 h = never (sym h.pll1.odd_p)

pub odd_in_pll2 : Legal3 none of_p none (state3 true false true) (Some setting_a) (Some fifth) None → ⊥
odd_in_pll2 h = never (sym h.pll2.odd_p)

pub odd_in_pll3 : Legal3 none none of_p (state3 true true false) (Some setting_a) None (Some fifth) → ⊥
odd_in_pll3 h = never (sym h.pll3.odd_p)

-- a PLL that is idle where an output is requested of it; of A, and of each
pub idle_a : LegalPlan a (state false) (instead_of_a 250_000_000 None None None 5 2) → ⊥
idle_a h = never h.pll1

pub idle_pll1 : Legal3 of_p none none (state3 true true true) None None None → ⊥
idle_pll1 h = never h.pll1

pub idle_pll2 : Legal3 none of_p none (state3 true true true) (Some setting_a) None None → ⊥
idle_pll2 h = never h.pll2

pub idle_pll3 : Legal3 none none of_p (state3 true true true) (Some setting_a) None None → ⊥
idle_pll3 h = never h.pll3

-- a PLL that runs where nothing is requested of it, and a third on a chip with two
pub runs_pll2 : Legal3 none none none (state3 true true true) (Some setting_a) (Some setting_a) None → ⊥
runs_pll2 h = never (sym h.pll2.asked)

pub runs_pll3 : Legal3 none none none (state3 true true true) (Some setting_a) None (Some setting_a) → ⊥
runs_pll3 h = never (sym h.pll3.asked)

pub third_of_two : Legal3 none none of_p (state true) (Some setting_a) None (Some setting_a) → ⊥
third_of_two h = let e : Some setting_a ≡ None = h.pll3 in let z : ◌≡◌ {A = ℕ} 0 1 = cc in omega arith

-- Integer settings where Fractional is requested
abbrev in_fractional : PllRequest
in_fractional = pll Fractional None None

pub whole_in_pll1 : Legal3 in_fractional none none (state3 true true true) (Some setting_a) None None → ⊥
whole_in_pll1 h = h.pll1.vco

pub whole_in_pll2 : Legal3 none (pll Fractional (Some 250_000_000) None) none (state3 true true true) (Some setting_a) (Some setting_a) None → ⊥
whole_in_pll2 h = h.pll2.vco

pub whole_in_pll3 : Legal3 none none (pll Fractional (Some 250_000_000) None) (state3 true true true) (Some setting_a) None (Some setting_a) → ⊥
whole_in_pll3 h = h.pll3.vco

-- ---- wait states: the latency one less, the delay one less, at the highest AHB clock of each scale
abbrev latency_in : Asks → ℕ
latency_in nothing = 9
latency_in (waits l d) = l

abbrev delay_in : Asks → ℕ
delay_in nothing = 9
delay_in (waits l d) = d

abbrev at : Scale → ChipState
at s = record { three = false; odd = true ∷ true ∷ true ∷ []; scale = s; hsion = true; hsidiv = Hsidiv.Div2 }

abbrev from_hse : (h : ℕ) → Scale → (latency delay : ℕ) → Plan
from_hse h s latency delay = changed (plan_in (chosen_plan (on_hse h none) (at s))) h None None None latency delay

abbrev LegalAt : (h : ℕ) → Scale → (latency delay : ℕ) → Type 0
LegalAt h s latency delay = LegalPlan (on_hse h none) (at s) (from_hse h s latency delay)

pub latency_0 : LegalAt 250_000_000 Scale0 4 2 → ⊥
unfolding by_rules rows
latency_0 h = let z : ◌≡◌ {A = ℕ} 5 4 = ap latency_in (h.flash (omega arith)) in omega arith

pub latency_1 : LegalAt 200_000_000 Scale1 4 2 → ⊥
unfolding by_rules rows
latency_1 h = let z : ◌≡◌ {A = ℕ} 5 4 = ap latency_in (h.flash (omega arith)) in omega arith

pub latency_2 : LegalAt 150_000_000 Scale2 3 2 → ⊥
unfolding by_rules rows
latency_2 h = let z : ◌≡◌ {A = ℕ} 4 3 = ap latency_in (h.flash (omega arith)) in omega arith

pub latency_3 : LegalAt 100_000_000 Scale3 3 2 → ⊥
unfolding by_rules rows
latency_3 h = let z : ◌≡◌ {A = ℕ} 4 3 = ap latency_in (h.flash (omega arith)) in omega arith

pub delay_0 : LegalAt 250_000_000 Scale0 5 1 → ⊥
unfolding by_rules rows
delay_0 h = let z : ◌≡◌ {A = ℕ} 2 1 = ap delay_in (h.flash (omega arith)) in omega arith

-- and at the lowest: 1 where 0 will do
pub latency_low : LegalAt 1_000_000 Scale0 1 0 → ⊥
unfolding by_rules rows
latency_low h = let z : ◌≡◌ {A = ℕ} 0 1 = ap latency_in (h.flash (omega arith)) in omega arith
