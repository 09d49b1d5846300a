-- Answers that are wrong in one place: what proofs/Unweakened shows the claims of specs/Demands to be false of.
use Rattle.std.specs.Prelude.{Option, Some, None, Result, Ok, Err}
use mathlib.Core.Path.{◌≡◌, refl}
use Prim.Native.Nat.{ℕ}
use Rattle.types.specs.declared.PllOutput.{PllOutput}
use Rattle.types.specs.declared.PllSettings.{PllSettings}
use Rattle.types.specs.declared.Refusal.{Refusal}
use Rattle.types.specs.declared.Plan.{Plan}
use Rattle.rules.specs.Document01.Plan.{by_number}
use Rattle.rules.specs.Document01.Entries.{pll_in}
use Rattle.rules.proofs.Computes.{by_rules}
use Rattle.rules.proofs.Samples.{plan_a, plan_in}
use Rattle.types.specs.declared.Clocks.{Clocks}

-- a PLL in Integer strategy: VCOSEL, target, M, reference, RGE, N, VCO, P, Q
abbrev pub integer : (vcosel target m reference rge n vco : ℕ) → (p q : Option PllOutput) → PllSettings
integer vcosel target m reference rge n vco p q = record {
  vcosel = vcosel;
  target = target;
  m = m;
  reference = reference;
  rge = rge;
  n = n;
  fraction = None;
  vco = vco;
  p = p;
  q = q;
  r = None;
}

-- PLL1 of A
abbrev pub setting_a : PllSettings
setting_a = integer 0 500_000_000 8 4_000_000 2 125 500_000_000 (Some (record { divider = 2; clock = 250_000_000 })) None

pub is_a : pll_in (plan_in plan_a) 0 ≡ Some setting_a
unfolding by_rules
is_a = refl

abbrev with_system : Clocks → (sys : ℕ) → Clocks
with_system k sys = record {
  sys = sys;
  timx = k.timx;
  timy = k.timy;
  per = k.per;
  hsi = k.hsi;
  csi = k.csi;
  hsi48 = k.hsi48;
  lsi = k.lsi;
  hse = k.hse;
  lse = k.lse;
  audio = k.audio;
}

-- a plan with another system clock, other PLLs and another latency and delay
abbrev pub changed : Plan → (sys : ℕ) → (pll1 pll2 pll3 : Option PllSettings) → (latency delay : ℕ) → Plan
changed p sys pll1 pll2 pll3 latency delay = record {
  clocks = with_system p.clocks sys;
  buses = p.buses;
  mcos = p.mcos;
  waits = record { latency = latency; delay = delay };
  selectors = p.selectors;
  bypass = p.bypass;
  three = p.three;
  plls = by_number pll1 pll2 pll3;
}

-- of A: the system clock, PLL1, PLL2, PLL3, latency and delay; and with nothing changed
abbrev pub instead_of_a : (sys : ℕ) → (pll1 pll2 pll3 : Option PllSettings) → (latency delay : ℕ) → Plan
instead_of_a = changed (plan_in plan_a)

pub unchanged : instead_of_a 250_000_000 (Some setting_a) None None 5 2 ≡ (plan_in plan_a)
unfolding by_rules
unchanged = refl

-- A with a system clock that is 1 Hz lower
abbrev pub slower_a : Plan
slower_a = instead_of_a 249_999_999 (Some setting_a) None None 5 2

-- answers
abbrev pub planned : Plan → Result Plan Refusal
planned = Ok

abbrev pub refusing : Refusal → Result Plan Refusal
refusing = Err
