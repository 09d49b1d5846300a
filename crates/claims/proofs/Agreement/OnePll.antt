-- One PLL: `pll_setup` against `pll_of`, all refusals from 7 to 15.
use Rattle.std.specs.Prelude.{Option, Some, None, Result, Ok, Err, is_some}
use mathlib.Core.Path.{◌≡◌, refl, sym}
use mathlib.Core.List.{List, ◌++◌, append-nil}
use mathlib.Core.Bool.{Bool, true, false, ◌&&◌, ◌||◌}
use Prim.Native.Nat.{ℕ, ◌/◌, ◌≤◌}
use native.Mathlib.Nat.{le_trans}
use lib.Dec.{leb, ltb}
use borrow.Author.Tests.{leb-true, lt-ltb}
use Rattle.std.specs.Option.{option_or}
use Rattle.types.specs.declared.Entry.{Entry}
use Rattle.types.specs.declared.PllRequest.{PllRequest}
use Rattle.types.specs.declared.PllSettings.{PllSettings}
use Rattle.types.specs.declared.Refusal.{Refusal}
use Rattle.rules.specs.Document01.ChoiceOfM.{chosen_m, Admissible}
use Rattle.rules.specs.Document01.Target.{target_of}
use Rattle.rules.proofs.Document01.ChoiceOfM.{chosen_some, admits}
use Rattle.rules.proofs.Document01.Target.{ref_low, divider_le}
use Rattle.rules.specs.Document01.OnePll.{wanted, none_zero, counted_p, counted_outputs, least, largest, Range, range_of, spanned, divided_by, runs, running, pll_of}
use Rattle.rules.specs.Document01.Entries.{setup_entries}
use Rattle.claims.proofs.Legal.OnePll.{Good, divider_p_is, divider_q}
use Rattle.claims.specs.Rust.Run.{Outcome, panics, ends, continue}
use Rattle.claims.specs.Rust.CoreClocks.{PllClocks}
use Rattle.claims.specs.Rust.Pll.{vco_setup, write_pll, pll_setup}
use Rattle.claims.specs.Rust.Rcc.{pll_config}
use Rattle.claims.specs.Demands.Report.{pll_clocks}
use Rattle.claims.specs.Demands.Agreement.{WrittenAt}
use Rattle.laws.proofs.Tests.{and_left, by_test}
use Rattle.claims.proofs.Agreement.Agree.{AgreeOr}
use Rattle.rules.proofs.Document01.Span.{Inside, Span}
use Rattle.claims.proofs.Agreement.Setup.{zero_panics, pos_p, pos_q, pos_r, spanned_is, far_panics, high_panics, good, small, outside_panics, vco_ends}
use Rattle.claims.proofs.Agreement.Settle.{CountedDivides, SameSettings, settled_agrees}

-- P as it counts is the least output or more, and is divided by at most 128
pub counted_divides : (low most end : ℕ) (odd : Bool) (h : Option ℕ) → 1 ≤ low → Inside (counted_p odd) low most h → CountedDivides odd (target_of low most end) h
counted_divides low most end odd None l i = tt
counted_divides low most end odd (Some h) l i = divider_le low most end l (counted_p odd h) i.0

module _ (k source : ℕ) (a : PllRequest) (odd : Bool) (es : List Entry) (some : 1 ≤ source) (w : wanted a ≡ true) where
  abbrev low : ℕ
  low = least (counted_outputs odd a)

  abbrev most : ℕ
  most = largest (counted_outputs odd a)

  abbrev g : Range
  g = range_of most

  abbrev target : ℕ
  target = target_of low most g.end

  abbrev Goal : Type 0
  Goal = AgreeOr (WrittenAt k odd a) (SameSettings k es) (runs odd source a) (continue (vco_setup k source (pll_config a) odd es) (write_pll k a.strategy))

  r7 : none_zero a ≡ false → Goal
  unfolding runs spanned
  r7 f = rw (f, zero_panics source a odd es f) tt

  r8 : none_zero a ≡ true → leb (most / 128) low ≡ false → Goal
  unfolding runs spanned
  r8 n f = rw (n, f, far_panics source a odd es some w n f) tt

  r9 : none_zero a ≡ true → leb (most / 128) low ≡ true → ltb most 560_000_000 ≡ false → Goal
  unfolding runs spanned
  r9 n t8 f = rw (n, t8, f, high_panics source a odd es some w n t8 f) tt

  r10 : none_zero a ≡ true → leb (most / 128) low ≡ true → ltb most 560_000_000 ≡ true → leb g.start target && leb target g.end ≡ false → Goal
  unfolding runs spanned divided_by
  r10 n t8 t9 f = rw (n, t8, t9, f, outside_panics source a odd es some w n t8 t9 f) tt

  r11 : none_zero a ≡ true → leb (most / 128) low ≡ true → ltb most 560_000_000 ≡ true → leb g.start target && leb target g.end ≡ true → (f : Option ℕ) → chosen_m source target g.low g.high ≡ f → Goal
  unfolding runs spanned divided_by
  r11 n t8 t9 t10 None e = rw (n, t8, t9, t10, vco_ends source a odd es some w n t8 t9 t10, e) tt
  r11 n t8 t9 t10 (Some m) e =
      let sp : Span odd a.p a.q a.r = spanned_is source a odd es some w n in
      let gd : Good g most = good source a odd es some w n t8 t9 in
      let c : Admissible source g.low g.high m = (chosen_some source target g.low g.high m e).admissible in
      let rl : g.low ≤ source / m = ref_low source g.low g.high m c.above (admits source g.low g.high c) in
      let st : g.start ≤ target = leb-true g.start target (and_left (leb g.start target) (leb target g.end) t10) in
      let ml : 1_000_000 ≤ g.low = gd.million in
      let fr : 128_000_000 ≤ g.start = gd.from in
      let r1 : 1_000_000 ≤ source / m = le_trans ml rl in
      let t1 : 128_000_000 ≤ target = le_trans fr st in
      let far : most / 128 ≤ low = leb-true (most / 128) low t8 in
      rw (n, t8, t9, t10, vco_ends source a odd es some w n t8 t9 t10, e)
      (settled_agrees k source a odd m es w (small source a odd es some w n t8 t9) c.within r1
      (divider_p_is low most g sp.above sp.order gd far t1 odd a.p sp.in_p (pos_p source a odd es some w n))
      (counted_divides low most g.end odd a.p sp.above sp.in_p)
      (divider_q low most g sp.above sp.order gd far t1 a.q sp.in_q (pos_q source a odd es some w n))
      (divider_q low most g sp.above sp.order gd far t1 a.r sp.in_r (pos_r source a odd es some w n)))

  pub runs_agree : Goal
  runs_agree =
      by_test (none_zero a) (λ n. by_test (leb (most / 128) low) (λ t8. by_test (ltb most 560_000_000) (λ t9. by_test (leb g.start target && leb target g.end) (λ t10. r11 n t8 t9 t10 (chosen_m source target g.low g.high) refl) (r10 n t8 t9)) (r9 n t8)) (r8 n)) r7

-- ---- with a PLL that is skipped
abbrev pub SamePll : ℕ → List Entry → Option PllSettings → List Entry → PllClocks → Type 0
SamePll k es x es' c = (es' ≡ es ++ setup_entries k x) × (c ≡ pll_clocks x)

running_agrees : (D : Refusal → List Entry → Type 0) (k : ℕ) (es : List Entry) (x : Result PllSettings Refusal) (o : Outcome PllClocks) → AgreeOr D (SameSettings k es) x o → AgreeOr D (SamePll k es) (running x) o
running_agrees D k es (Err n) panics h = h
running_agrees D k es (Err n) (ends es' c) h = h
running_agrees D k es (Ok s) panics h = h
running_agrees D k es (Ok s) (ends es' c) h = h

some_is : (p q r : Option ℕ) → is_some (option_or p (option_or q r)) ≡ is_some p || (is_some q || is_some r)
some_is (Some p) q r = refl
some_is None (Some q) r = refl
some_is None None (Some r) = refl
some_is None None None = refl

pub pll_agrees : (k source : ℕ) (a : PllRequest) (odd : Bool) (es : List Entry) → 1 ≤ source → AgreeOr (WrittenAt k odd a) (SamePll k es) (pll_of odd source a) (pll_setup k odd source (pll_config a) es)
unfolding pll_of pll_setup
pll_agrees k source a odd es some =
    by_test (wanted a)
    (λ (w : wanted a ≡ true). rw (lt-ltb 0 source some, some_is a.p a.q a.r, w) (running_agrees (WrittenAt k odd a) k es (runs odd source a) (continue (vco_setup k source (pll_config a) odd es) (write_pll k a.strategy)) (runs_agree k source a odd es some w)))
    (λ (w : wanted a ≡ false). rw (lt-ltb 0 source some, some_is a.p a.q a.r, w) (sym (append-nil es), refl))

-- refusal 6
pub source_panics : (k : ℕ) (a : PllRequest) (odd : Bool) (es : List Entry) → pll_setup k odd 0 (pll_config a) es ≡ panics
unfolding pll_setup
source_panics k a odd es = refl
