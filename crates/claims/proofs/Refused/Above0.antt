-- A PLL output that is planned is above 0 Hz, and so the ratio of an MCO is at least 1: above 15 is the one way that it is outside 1 to 15.
use Rattle.std.specs.Prelude.{Option, Some, None, Ok}
use mathlib.Core.Path.{◌≡◌}
use mathlib.Core.Bool.{Bool}
use Prim.Native.Nat.{ℕ, zero, suc, ◌+◌, ◌-◌, ◌*◌, ◌/◌, ◌^◌, ◌≤◌, min}
use native.Mathlib.Omega.{arith}
use native.Mathlib.Nat.{mul-le-mul}
use lib.Dec.{lit<}
use lib.Pow.{pow_pos}
use Rattle.laws.proofs.Numbers.{le_div}
use Rattle.types.specs.declared.Strategy.{Strategy}
use Rattle.types.specs.declared.Strategy.TheVariants.{Integer, Fractional}
use Rattle.types.specs.declared.PllRequest.{PllRequest}
use Rattle.types.specs.declared.PllOutput.{PllOutput}
use Rattle.types.specs.declared.PllSettings.{PllSettings}
use Rattle.ieee754.specs.Whole.{unit, whole, times, plus, over, vco_whole}
use Rattle.ieee754.proofs.Round.{rounded_ge}
use Rattle.rules.specs.Document01.OnePll.{first_of, clock_of, p_clock, q_clock}
use Rattle.rules.specs.Document01.Hertz.{ratio_of}
use Rattle.rules.specs.Document01.Mco.{planned}
use Rattle.rules.specs.Manual.PllFields.{input_span, Within}
use Rattle.claims.specs.Demands.Legal.{LegalOutput, LegalVco, Legal, LegalPll}
use Rattle.rules.proofs.Document01.Results.{ok_same, not_ok}

-- ---- a VCO: far above 128 Hz
product : (a b u x y : ℕ) → x * u ≤ a → y * u ≤ b → x * y * (u * u) ≤ a * b
product a b u x y h k = let p : x * u * (y * u) ≤ a * b = mul-le-mul h k in omega arith

in_units : (a k : ℕ) → 2 ^ k * unit ≤ a → 2 ^ k ≤ a / unit
in_units a k h = le_div (pow_pos 149) h

vco_whole_is : (ref n f : ℕ) → 2 ^ 19 ≤ ref → 2 ^ 2 ≤ n → 2 ^ 21 ≤ vco_whole ref n f
unfolding vco_whole
vco_whole_is ref n f hr hn =
    let part = over (whole f) (whole 8192) in
    let r : 2 ^ 19 * unit ≤ whole ref = rounded_ge ref 1 19 (lit< tt) (omega arith) in
    let w : 2 ^ 2 * unit ≤ whole n = rounded_ge n 1 2 (lit< tt) (omega arith) in
    let s : 2 ^ 2 * unit ≤ plus (whole n) part = rounded_ge (whole n + part) unit 2 (pow_pos 149) (more (2 ^ 2 * unit) (whole n) part w) in
    let t : 2 ^ 21 * unit ≤ times (whole ref) (plus (whole n) part) = rounded_ge (whole ref * plus (whole n) part) (unit * unit) 21 (lit< tt) (product (whole ref) (plus (whole n) part) unit (2 ^ 19) (2 ^ 2) r s) in
    least_of (times (whole ref) (plus (whole n) part) / unit) (in_units _ 21 t)
  where
    more : (a b c : ℕ) → a ≤ b → a ≤ b + c
    more a b c h = omega arith

    least_of : (a : ℕ) → 2 ^ 21 ≤ a → 2 ^ 21 ≤ min a (2 ^ 32 - 1)
    least_of a h = omega arith

-- the reference is from 1 MHz on
input_low : (code source m : ℕ) → 1 ≤ m → Within (input_span code) source m → 1_000_000 * m ≤ source
input_low zero source m h w = let f = w.from in omega arith
input_low (suc zero) source m h w = let f = w.from in omega arith
input_low (suc (suc code)) source m h w = let f = w.from in let t = w.to in omega arith

vco_by : (t : Strategy) (source first : ℕ) (s : PllSettings) (f : Option ℕ) → LegalVco t source first s f → 1_000_000 ≤ s.reference → 4 ≤ s.n → 128 ≤ s.vco
vco_by Integer source first s None l r k = let e = l.product in let p : 1_000_000 * 4 ≤ s.reference * s.n = mul-le-mul r k in omega arith
vco_by Integer source first s (Some f) l r k = absurd l
vco_by Fractional source first s None l r k = absurd l
vco_by Fractional source first s (Some f) l r k = let p = vco_whole_is s.reference s.n f (omega arith) (omega arith) in let e = l.vco in omega arith

vco_some : (odd : Bool) (source : ℕ) (a : PllRequest) (s : PllSettings) → Legal odd source a s → 128 ≤ s.vco
vco_some odd source a s l =
    let lo = input_low s.vcosel source s.m l.m.from l.input in
    let d : 1_000_000 ≤ source / s.m = le_div l.m.from lo in
    let e = l.reference in
    let f = l.n.from in
    vco_by a.strategy source (first_of a) s s.fraction l.vco (omega arith) (omega arith)

-- ---- an output that is planned
on_some : (vco : ℕ) (w : Option ℕ) (o : Option PllOutput) (v : ℕ) → 128 ≤ vco → LegalOutput vco w o → planned (clock_of o) ≡ Ok v → 1 ≤ v
on_some vco w None v h l e = not_ok e
on_some vco None (Some o) v h l e = absurd l
on_some vco (Some w) (Some o) v h l e =
    let s = l.some in let f = l.field in let q : 1 ≤ vco / o.divider = le_div s (omega arith) in
    let t = l.hertz in let r = ok_same e in omega arith

module _ (odd : Bool) (source : ℕ) (a : PllRequest) where
  pub p_some : (x : Option PllSettings) → LegalPll odd source a x → (v : ℕ) → planned (p_clock x) ≡ Ok v → 1 ≤ v
  p_some None l v e = not_ok e
  p_some (Some s) l v e = on_some s.vco a.p s.p v (vco_some odd source a s l) l.p e

  pub q_some : (x : Option PllSettings) → LegalPll odd source a x → (v : ℕ) → planned (q_clock x) ≡ Ok v → 1 ≤ v
  q_some None l v e = not_ok e
  q_some (Some s) l v e = on_some s.vco a.q s.q v (vco_some odd source a s l) l.q e

-- ---- a ratio
pub ratio_some : (clock h : ℕ) → 1 ≤ clock → 1 ≤ h → 1 ≤ ratio_of clock h
unfolding ratio_of
ratio_some clock h c k = le_div k (omega arith)
