-- What a line says a clock comes from, and what divides it, are the steps of the clock tree (Manual/Tree), for any bank.
use Rattle.std.specs.Prelude.{Option, Some, None, unwrap_or}
use mathlib.Core.Path.{◌≡◌, refl, ap}
use mathlib.Core.Bool.{Bool, true, false, cond}
use mathlib.Core.List.{List, [], ◌∷◌}
use mathlib.Core.Logic.{◌⊎◌, inl, inr}
use Prim.Native.Nat.{ℕ, zero, suc, ◌+◌, ◌*◌, ◌/◌}
use native.Mathlib.Omega.{arith}
use lib.ListN.{get_or}
use borrow.Author.Tests.{ne_eqb}
use Rattle.rules.specs.Document01.Fields
use Rattle.rules.specs.Manual.Path.{PllName, pll1, pll2, pll3}
use Rattle.rules.specs.Manual.Tree
use Rattle.rules.specs.Manual.Tree.{Oscillator, Chain, none, Output, P, Q, R, word, pll_word, number, enable, gated, over, among, timer_by, path_of}
use Rattle.exact.specs.Exact.{clocks_by, path_by, timer_divisor}
use Rattle.view.specs.View.{sw_clock, per_clock, mco1_clock, mco2_clock, from_of, divisor_of}

-- the place of an output in a report
abbrev pub output_at : PllName → Output → ℕ
output_at j P = 17 + 3 * number j
output_at j Q = 18 + 3 * number j
output_at j R = 19 + 3 * number j

-- a timer's step: AHB divided, none by 0, or AHB as it is where its line says / 1
abbrev pub TimerSays : (path ahb : Chain) → (divisor : ℕ) → Type 0
TimerSays path ahb d = (path ≡ over ahb d) ⊎ ((d ≡ 1) × (path ≡ ahb))

-- the clock with a number
abbrev pub of_number : List ℕ → Oscillator → Option ℕ → Chain
of_number b fed None = none
of_number b fed (Some k) = path_by b fed k

-- the clock that the line of clock k names; none where it names none
abbrev pub named : List ℕ → Oscillator → (k : ℕ) → Chain
named b fed k = of_number b fed (from_of b k)

-- what the line of clock k says divides it
abbrev pub divided_by : List ℕ → (k : ℕ) → ℕ
divided_by b k = unwrap_or (divisor_of b k) 0

pub record LinesSay (b : List ℕ) (fed : Oscillator) : Type 0 where
  -- the system clock and the peripheral clock are the clock that their line names
  pub sys : path_by b fed 0 ≡ named b fed 0
  pub per : path_by b fed 7 ≡ named b fed 7
  -- the buses and the clock outputs are it, divided
  pub ahb : path_by b fed 1 ≡ over (named b fed 1) (divided_by b 1)
  pub apb1 : path_by b fed 2 ≡ over (named b fed 2) (divided_by b 2)
  pub apb2 : path_by b fed 3 ≡ over (named b fed 3) (divided_by b 3)
  pub apb3 : path_by b fed 4 ≡ over (named b fed 4) (divided_by b 4)
  pub mco1 : path_by b fed 15 ≡ over (named b fed 15) (divided_by b 15)
  pub mco2 : path_by b fed 16 ≡ over (named b fed 16) (divided_by b 16)
  -- the timers
  pub timx : TimerSays (path_by b fed 5) (named b fed 5) (divided_by b 5)
  pub timy : TimerSays (path_by b fed 6) (named b fed 6) (divided_by b 6)
  -- an output of a PLL is its VCO divided, behind ON and the output's enable
  pub outputs :
      (j : PllName) (o : Output) →
      path_by b fed (output_at j o) ≡ gated (pll_word b j Fields.ON) (gated (pll_word b j (enable o)) (over (Tree.vco_of b fed j) (divided_by b (output_at j o))))

none_by_0 : (c : Chain) → none ≡ over c 0
none_by_0 none = refl
none_by_0 (Tree.along p) = refl

-- AHB by some PPREs, divided by others, none by any other
choice_says : (one some : Bool) (d : ℕ) (ahb : Chain) → TimerSays (cond one ahb (cond some (over ahb d) none)) ahb (unwrap_or (cond one (Some 1) (cond some (Some d) None)) 0)
choice_says true some d ahb = inr (refl, refl)
choice_says false true d ahb = inl refl
choice_says false false d ahb = inl (none_by_0 ahb)

timer_says : (t ppre : ℕ) (ahb : Chain) → TimerSays (timer_by t ppre ahb) ahb (unwrap_or (timer_divisor t ppre) 0)
timer_says zero ppre ahb = choice_says (among (1 ∷ 2 ∷ []) ppre) (among (4 ∷ 8 ∷ 16 ∷ []) ppre) (ppre / 2) ahb
timer_says (suc t) ppre ahb =
    rw (ne_eqb (suc t) 0 (omega arith)) (choice_says (among (1 ∷ 2 ∷ 4 ∷ []) ppre) (among (8 ∷ 16 ∷ []) ppre) (ppre / 4) ahb)

module _ (b : List ℕ) (fed : Oscillator) where
  abbrev of : Tree.Clock → Chain
  of = path_of b fed

  sys_from : (w : ℕ) → get_or (of Tree.hsi ∷ of Tree.csi ∷ of Tree.hse ∷ of (Tree.output pll1 P) ∷ []) w none ≡ of_number b fed (sw_clock w)
  unfolding clocks_by
  sys_from zero = refl
  sys_from (suc zero) = refl
  sys_from (suc (suc zero)) = refl
  sys_from (suc (suc (suc zero))) = refl
  sys_from (suc (suc (suc (suc w)))) = refl

  per_from : (w : ℕ) → get_or (of Tree.hsi ∷ of Tree.csi ∷ of Tree.hse ∷ []) w none ≡ of_number b fed (per_clock w)
  unfolding clocks_by
  per_from zero = refl
  per_from (suc zero) = refl
  per_from (suc (suc zero)) = refl
  per_from (suc (suc (suc w))) = refl

  mco1_from : (w : ℕ) → get_or (of Tree.hsi ∷ none ∷ of Tree.hse ∷ of (Tree.output pll1 Q) ∷ of Tree.hsi48 ∷ []) w none ≡ of_number b fed (mco1_clock w)
  unfolding clocks_by
  mco1_from zero = refl
  mco1_from (suc zero) = refl
  mco1_from (suc (suc zero)) = refl
  mco1_from (suc (suc (suc zero))) = refl
  mco1_from (suc (suc (suc (suc zero)))) = refl
  mco1_from (suc (suc (suc (suc (suc w))))) = refl

  mco2_from :
      (w : ℕ) → get_or (of Tree.sys ∷ of (Tree.output pll2 P) ∷ of Tree.hse ∷ of (Tree.output pll1 P) ∷ of Tree.csi ∷ of Tree.lsi ∷ []) w none
      ≡ of_number b fed (mco2_clock w)
  unfolding clocks_by
  mco2_from zero = refl
  mco2_from (suc zero) = refl
  mco2_from (suc (suc zero)) = refl
  mco2_from (suc (suc (suc zero))) = refl
  mco2_from (suc (suc (suc (suc zero)))) = refl
  mco2_from (suc (suc (suc (suc (suc zero))))) = refl
  mco2_from (suc (suc (suc (suc (suc (suc w)))))) = refl

  output_says :
      (j : PllName) (o : Output) →
      path_by b fed (output_at j o) ≡ gated (pll_word b j Fields.ON) (gated (pll_word b j (enable o)) (over (Tree.vco_of b fed j) (divided_by b (output_at j o))))
  unfolding clocks_by divisor_of path_of Tree.output_of
  output_says pll1 P = refl
  output_says pll1 Q = refl
  output_says pll1 R = refl
  output_says pll2 P = refl
  output_says pll2 Q = refl
  output_says pll2 R = refl
  output_says pll3 P = refl
  output_says pll3 Q = refl
  output_says pll3 R = refl

  pub lines_say : LinesSay b fed
  unfolding clocks_by from_of divisor_of path_of Tree.sys_of Tree.per_of Tree.ahb_of Tree.mco1_of Tree.mco2_of
  lines_say = record {
    sys = sys_from (word b Fields.SW);
    per = per_from (word b Fields.CKPERSEL);
    ahb = refl;
    apb1 = refl;
    apb2 = refl;
    apb3 = refl;
    mco1 = ap (λ (c : Chain). over c (word b Fields.MCO1PRE)) (mco1_from (word b Fields.MCO1SEL));
    mco2 = ap (λ (c : Chain). over c (word b Fields.MCO2PRE)) (mco2_from (word b Fields.MCO2SEL));
    timx = timer_says (word b Fields.TIMPRE) (word b Fields.PPRE1) (Tree.ahb_of b fed);
    timy = timer_says (word b Fields.TIMPRE) (word b Fields.PPRE2) (Tree.ahb_of b fed);
    outputs = output_says;
  }
