-- What a chain ends with, step by step down the tree.
use mathlib.Core.Path.{◌≡◌, refl, sym, ◌∙◌, ap}
use mathlib.Core.Bool.{true}
use mathlib.Core.List.{List, [], ◌∷◌}
use Prim.Native.Nat.{ℕ, zero, suc, ◌*◌, ◌/◌, ◌≤◌}
use native.Mathlib.Omega.{arith}
use Rattle.rules.specs.Document01.Buses.{timer_of}
use Rattle.rules.specs.Manual.Path.{PllName, whole, part, Path, direct, through, Via, no_pll, by, pll_on, floored, extend, Readings}
use Rattle.rules.specs.Manual.Tree.{Chain, none, along, Oscillator, off, runs, from_oscillator, gated, over, among, vco_by, timer_by}
use Rattle.rules.proofs.Manual.Codes.{by_codes, by_timer}
use Rattle.rules.proofs.Manual.Paths.{Sound, floored_extend, sound_extend, readings_of}

-- the chain is a path with no divisor of 0 whose divisions end with r
pub record Gives (c : Chain) (r : ℕ) : Type 0 where
  pub path : Path
  pub is : c ≡ along path
  pub sound : Sound path
  pub floor : r ≡ floored path

pub gives_oscillator : (h : ℕ) → Gives (from_oscillator (runs h)) h
unfolding floored
gives_oscillator h = record { path = direct h []; is = refl; sound = tt; floor = refl }

over_along : (p : Path) (d : ℕ) → 1 ≤ d → over (along p) d ≡ along (extend p d)
over_along p zero h = absurd (omega arith)
over_along p (suc d) h = refl

pub gives_over : {c : Chain} {r : ℕ} (d : ℕ) → 1 ≤ d → Gives c r → Gives (over c d) (r / d)
gives_over {c} {r} d h g = record {
  path = extend g.path d;
  is = ap (λ (x : Chain). over x d) g.is ∙ over_along g.path d h;
  sound = sound_extend g.path d g.sound h;
  floor = ap (λ (x : ℕ). x / d) g.floor ∙ sym (floored_extend g.path d);
}

-- VCO with FRACEN at 0
pub gives_vco : (j : PllName) (h m n f : ℕ) → 1 ≤ m → 1 ≤ n → Gives (vco_by j (runs h) m n 0 f) (h / m * n)
unfolding floored
gives_vco j h zero n f a b = absurd (omega arith)
gives_vco j h (suc m) n f a b = record { path = through j h (suc m) (whole n) []; is = refl; sound = (a, b, tt); floor = refl }

-- each PPRE that there is
abbrev pub ppres : List ℕ
ppres = 1 ∷ 2 ∷ 4 ∷ 8 ∷ 16 ∷ []

-- a timer under TIMPRE 0 ends with what document 01's step 7 says
pub gives_timer : {c : Chain} {r : ℕ} (ppre : ℕ) → among ppres ppre ≡ true → Gives c r → Gives (timer_by 0 ppre c) (timer_of r ppre)
unfolding timer_of
gives_timer {c} {r} ppre h g =
    by_codes (λ n. Gives (timer_by 0 n c) (timer_of r n)) ppres ppre h
    (g, (g, (gives_over 2 (omega arith) g, (gives_over 4 (omega arith) g, (gives_over 8 (omega arith) g, tt)))))

-- both readings of a clock whose chain ends with r
pub gives_readings : {c : Chain} {r : ℕ} (g : Gives c r) → Readings g.path r
gives_readings {c} {r} g = readings_of g.path r g.sound g.floor

-- ---- which PLL a chain comes through, where it is a path at all
pub record Comes (v : Via) (c : Chain) : Type 0 where
  pub on : (p : Path) → c ≡ along p → v ≡ pll_on p

pub none_comes : (v : Via) → Comes v none
none_comes v = record { on = λ p e. absurd (let z : ◌≡◌ {A = ℕ} 0 1 = cc in omega arith) }

along_comes : (v : Via) (p : Path) → v ≡ pll_on p → Comes v (along p)
along_comes v p h = record { on = λ x e. let f : p ≡ x = cc in h ∙ ap pll_on f }

pub comes_oscillator : (o : Oscillator) → Comes no_pll (from_oscillator o)
comes_oscillator off = none_comes no_pll
comes_oscillator (runs h) = along_comes no_pll (direct h []) refl

same_pll : (p : Path) (d : ℕ) → pll_on p ≡ pll_on (extend p d)
same_pll (direct h ds) d = refl
same_pll (through j h m x ds) d = refl

over_comes : (v : Via) (c : Chain) (d : ℕ) → Comes v c → Comes v (over c d)
over_comes v none d h = none_comes v
over_comes v (along p) zero h = none_comes v
over_comes v (along p) (suc d) h = along_comes v (extend p (suc d)) (h.on p refl ∙ same_pll p (suc d))

pub comes_over : {v : Via} {c : Chain} (d : ℕ) → Comes v c → Comes v (over c d)
comes_over {v} {c} d h = over_comes v c d h

pub comes_gated : {v : Via} {c : Chain} (on : ℕ) → Comes v c → Comes v (gated on c)
comes_gated {v} zero h = none_comes v
comes_gated (suc on) h = h

pub comes_vco : (j : PllName) (o : Oscillator) (m n e f : ℕ) → Comes (by j) (vco_by j o m n e f)
comes_vco j off m n e f = none_comes (by j)
comes_vco j (runs h) zero n e f = none_comes (by j)
comes_vco j (runs h) (suc m) n zero f = along_comes (by j) (through j h (suc m) (whole n) []) refl
comes_vco j (runs h) (suc m) n (suc e) f = along_comes (by j) (through j h (suc m) (part n f) []) refl

pub comes_timer : {v : Via} {c : Chain} (t ppre : ℕ) → Comes v c → Comes v (timer_by t ppre c)
comes_timer {v} t ppre h = by_timer (Comes v) t ppre h (comes_over (ppre / 2) h) (comes_over (ppre / 4) h) (none_comes v)
