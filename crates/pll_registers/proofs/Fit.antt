-- Every field that the rules choose fits its bits: a mask takes nothing away (document 02, Item 1). By what demand 2 says of a plan.
use Rattle.std.specs.Prelude.{Option, Some, None}
use mathlib.Core.Bool.{Bool}
use Prim.Native.Nat.{ℕ, zero, suc, ◌-◌, ◌≤◌, ◌<◌}
use native.Mathlib.Omega.{arith}
use Rattle.types.specs.declared.Strategy.{Strategy}
use Rattle.types.specs.declared.Strategy.TheVariants.{Integer, Fractional}
use Rattle.types.specs.declared.PllOutput.{PllOutput}
use Rattle.types.specs.declared.PllRequest.{PllRequest}
use Rattle.types.specs.declared.PllSettings.{PllSettings}
use Rattle.rules.specs.Document01.Plan.{src_of}
use Rattle.rules.specs.Manual.PllFields.{Within, rge_span, vco_span}
use Rattle.claims.specs.Demands.Legal.{LegalOutput, LegalVco, LegalPll}
use Rattle.pll_words.specs.PllWords.{fracen_of, fracn_of, divider_of}
use Rattle.pll_registers.specs.Fields.{fields_of}
use Rattle.pll_registers.specs.Stated.{Fit}

-- ---- a code that the manual does not have stands for no frequency
rge_fits : (code source m : ℕ) → 1 ≤ m → Within (rge_span code) source m → code < 4
rge_fits zero source m h w = omega arith
rge_fits (suc zero) source m h w = omega arith
rge_fits (suc (suc zero)) source m h w = omega arith
rge_fits (suc (suc (suc zero))) source m h w = omega arith
rge_fits (suc (suc (suc (suc code)))) source m h w = absurd (omega (arith, h, w.from, w.to))

vcosel_fits : (code target : ℕ) → Within (vco_span code) target 1 → code < 2
vcosel_fits zero target w = omega arith
vcosel_fits (suc zero) target w = omega arith
vcosel_fits (suc (suc code)) target w = absurd (omega (arith, w.from, w.to))

divider_fits : (vco : ℕ) (h : Option ℕ) (o : Option PllOutput) → LegalOutput vco h o → divider_of o - 1 < 128
divider_fits vco h None l = omega arith
divider_fits vco None (Some o) l = absurd l
divider_fits vco (Some w) (Some o) l = omega (arith, l.field)

fracen_fits : (f : Option ℕ) → fracen_of f < 2
fracen_fits None = omega arith
fracen_fits (Some f) = omega arith

fracn_fits : (g : Strategy) (source first : ℕ) (s : PllSettings) (f : Option ℕ) → LegalVco g source first s f → fracn_of f < 8192
fracn_fits g source first s None l = omega arith
fracn_fits Integer source first s (Some f) l = absurd l
fracn_fits Fractional source first s (Some f) l = omega (arith, l.field)

pub src_fits : (hse : Option ℕ) → src_of hse < 4
src_fits None = omega arith
src_fits (Some h) = omega arith

-- ---- one PLL, idle or not
pub pll_fits : (src : ℕ) (odd : Bool) (source : ℕ) (a : PllRequest) (x : Option PllSettings) → src < 4 → LegalPll odd source a x → Fit (fields_of src x)
pll_fits src odd source a None h l = record {
  src = h;
  rge = omega arith;
  fracen = omega arith;
  vcosel = omega arith;
  m = omega arith;
  n = omega arith;
  fracn = omega arith;
  p = omega arith;
  q = omega arith;
  r = omega arith;
}
pll_fits src odd source a (Some s) h l = record {
  src = h;
  rge = rge_fits s.rge source s.m l.m.from l.rge;
  fracen = fracen_fits s.fraction;
  vcosel = vcosel_fits s.vcosel s.target l.target;
  m = omega (arith, l.m.to);
  n = omega (arith, l.n.to);
  fracn = fracn_fits a.strategy source _ s s.fraction l.vco;
  p = divider_fits s.vco a.p s.p l.p;
  q = divider_fits s.vco a.q s.q l.q;
  r = divider_fits s.vco a.r s.r l.r;
}
