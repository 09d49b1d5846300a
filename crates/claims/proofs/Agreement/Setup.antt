-- `vco_output_divider_setup` against document 01, One PLL, refusals 7 to 11.
use Rattle.std.specs.Prelude.{Option, Some, None}
use mathlib.Core.Path.{◌≡◌, refl, ◌∙◌}
use mathlib.Core.List.{List}
use mathlib.Core.Logic.{⊎_elim}
use mathlib.Core.Bool.{Bool, true, false, ◌&&◌}
use Prim.Native.Nat.{ℕ, ◌/◌, ◌≤◌, ◌<◌}
use native.Mathlib.Omega.{arith}
use lib.Dec.{leb, ltb, eqb}
use borrow.Author.Tests.{ltb-true, ltb-false, le-leb, le-ltb, not-false}
use Rattle.types.specs.declared.Entry.{Entry}
use Rattle.types.specs.declared.PllRequest.{PllRequest}
use Rattle.rules.specs.Document01.ChoiceOfM.{chosen_m, Admissible}
use Rattle.rules.specs.Document01.Target.{target_of}
use Rattle.rules.proofs.Document01.ChoiceOfM.{chosen_some, admits}
use Rattle.rules.proofs.Document01.Target.{ref_low, ref_high, target_le}
use Rattle.rules.specs.Document01.Hertz.{not_zero}
use Rattle.rules.specs.Document01.OnePll.{wanted, none_zero, counted_outputs, least, largest, Range, range_of}
use Rattle.claims.proofs.Legal.OnePll.{Good, range_good}
use Rattle.claims.specs.Rust.Run.{Outcome, panics, ends, assert, contains}
use Rattle.claims.specs.Rust.Pll as Pll
use Rattle.claims.specs.Rust.Pll.{VcoRange, PllSetup, mapped, outputs_of, fold_min, fold_max, find_range, output_div, target_setup, divider_setup, range_setup, vco_output_divider_setup}
use Rattle.claims.specs.Rust.Rcc.{pll_config}
use Rattle.laws.proofs.Tests.{and_left, and_right, by_test}
use Rattle.claims.proofs.Agreement.Agree.{all_panic}
use Rattle.rules.proofs.Document01.Span.{Pos, Span, pos_is, span}
use Rattle.claims.proofs.Agreement.Numbers.{nonzero}
use Rattle.claims.proofs.Agreement.Target.{search_is, target_is}
use Rattle.claims.proofs.Agreement.Span.{Folded, folded, Fits, mapped_is, mapped_whole, fits_or_panics, fits_below}

-- the range, as the Rust has it
abbrev pub range_rust : Range → VcoRange
range_rust g = record { output_start = g.start; output_end = g.end; input_start = g.low; input_end = g.high; vcosel = g.vcosel }

contains_is : (start end n : ℕ) → contains start end n ≡ leb start n && leb n end
contains_is start end n = by_test (leb start n) (λ (t : leb start n ≡ true). rw t) (λ (f : leb start n ≡ false). rw f)

range_found : (most : ℕ) (es : List Entry) → ltb most 560_000_000 ≡ true → find_range most es ≡ ends es (range_rust (range_of most))
range_found most es t = by_test (ltb most 420_000_000) (λ (s : ltb most 420_000_000 ≡ true). rw s) (λ (f : ltb most 420_000_000 ≡ false). rw (f, t))

range_panics : (most : ℕ) (es : List Entry) → ltb most 560_000_000 ≡ false → find_range most es ≡ panics
range_panics most es f = let l : 560_000_000 ≤ most = ltb-false most 560_000_000 f in rw (le-ltb most 420_000_000 (omega arith), f)

-- ---- an output's divider
abbrev pub output_rust : ℕ → Option ℕ → Option Pll.PllOutput
output_rust target None = None
output_rust target (Some ck) = Some (record { ck = ck; div = target / ck })

divided : (target : ℕ) (h : Option ℕ) (es : List Entry) → Pos h → output_div target h es ≡ ends es (output_rust target h)
divided target None es p = refl
divided target (Some ck) es p = rw (nonzero ck p)

zero_divided : (target : ℕ) (h : Option ℕ) (es : List Entry) → not_zero h ≡ false → output_div target h es ≡ panics
zero_divided target None es f = absurd (let z : ◌≡◌ {A = ℕ} 0 1 = cc in omega arith)
zero_divided target (Some ck) es f = rw (not-false (eqb ck 0) f)

-- refusal 7: an output of 0 Hz panics, at its divider if not before
zero_setup : (source : ℕ) (a : PllRequest) (g : VcoRange) (target : ℕ) (es : List Entry) → none_zero a ≡ false → divider_setup source (pll_config a) g target es ≡ panics
unfolding divider_setup
zero_setup source a g target es f =
    all_panic (assert (contains g.output_start g.output_end target) es) _
    (λ u es1. by_test (not_zero a.p)
    (λ (p : not_zero a.p ≡ true). all_panic (output_div target a.p es1) _
    (λ op es2. by_test (not_zero a.q)
    (λ (q : not_zero a.q ≡ true). all_panic (output_div target a.q es2) _
    (λ oq es3. by_test (not_zero a.r)
    (λ (r : not_zero a.r ≡ true). absurd (let e : true ≡ false = rw (p, q, r) at f in let z : ◌≡◌ {A = ℕ} 0 1 = cc in omega arith))
    (λ r. rw (zero_divided target a.r es3 r))))
    (λ q. rw (zero_divided target a.q es2 q))))
    (λ p. rw (zero_divided target a.p es1 p)))

zero_range : (source : ℕ) (a : PllRequest) (low high : ℕ) (es : List Entry) → none_zero a ≡ false → range_setup source (pll_config a) low high es ≡ panics
unfolding range_setup
zero_range source a low high es f =
    all_panic (assert (leb (high / 128) low) es) _
    (λ u es1. all_panic (find_range high es1) _
    (λ g es2. all_panic (target_setup low high g es2) _
    (λ t es3. zero_setup source a g t es3 f)))

pub zero_panics : (source : ℕ) (a : PllRequest) (odd : Bool) (es : List Entry) → none_zero a ≡ false → vco_output_divider_setup source (pll_config a) odd es ≡ panics
unfolding vco_output_divider_setup
zero_panics source a odd es f = all_panic (outputs_of (pll_config a) odd es) _ (λ xs es1. zero_range source a (fold_min 0 xs) (fold_max 0 xs) es1 f)

-- ---- with no output of 0 Hz
-- the setup of an M, as the Rust has it
abbrev pub setup_of : (source : ℕ) → PllRequest → Range → (target m : ℕ) → PllSetup
setup_of source a g target m = record {
  vco_range = range_rust g;
  vco_out_target = target;
  ref_ck = source / m;
  pll_m = m;
  pll_p = output_rust target a.p;
  pll_q = output_rust target a.q;
  pll_r = output_rust target a.r;
}

abbrev pub setup_ends : (source : ℕ) → PllRequest → Range → (target : ℕ) → List Entry → Option ℕ → Outcome PllSetup
setup_ends source a g target es None = panics
setup_ends source a g target es (Some m) = ends es (setup_of source a g target m)

module _ (source : ℕ) (a : PllRequest) (odd : Bool) (es : List Entry) (some : 1 ≤ source) (w : wanted a ≡ true) (n : none_zero a ≡ true) where
  abbrev low : ℕ
  low = least (counted_outputs odd a)

  abbrev most : ℕ
  most = largest (counted_outputs odd a)

  abbrev g : Range
  g = range_of most

  abbrev target : ℕ
  target = target_of low most g.end

  pub pos_p : Pos a.p
  pos_p = pos_is a.p (and_left (not_zero a.p) _ n)

  pub pos_q : Pos a.q
  pos_q = pos_is a.q (and_left (not_zero a.q) _ (and_right (not_zero a.p) _ n))

  pub pos_r : Pos a.r
  pos_r = pos_is a.r (and_right (not_zero a.q) _ (and_right (not_zero a.p) _ n))

  pub spanned_is : Span odd a.p a.q a.r
  spanned_is = span odd a.p a.q a.r pos_p pos_q pos_r w

  folds : Folded odd a.p a.q a.r
  folds = folded odd a.p a.q a.r pos_p pos_q pos_r

  abbrev vco : Outcome PllSetup
  vco = vco_output_divider_setup source (pll_config a) odd es

  abbrev ranged : Outcome PllSetup
  ranged = range_setup source (pll_config a) low most es

  collected : Fits odd a.p → vco ≡ ranged
  unfolding vco_output_divider_setup
  collected f = rw (mapped_is odd a.p es f, mapped_whole a.q es, mapped_whole a.r es, folds.least_fold, folds.largest_fold)

  uncollected : mapped a.p odd es ≡ panics → vco ≡ panics
  unfolding vco_output_divider_setup
  uncollected e = rw e

  pub vco_panics : ranged ≡ panics → vco ≡ panics
  vco_panics e = ⊎_elim (λ f. collected f ∙ e) uncollected (fits_or_panics odd a.p es)

  -- 8
  pub far_panics : leb (most / 128) low ≡ false → vco ≡ panics
  unfolding range_setup
  far_panics f = vco_panics (rw f)

  -- 9
  pub high_panics : leb (most / 128) low ≡ true → ltb most 560_000_000 ≡ false → vco ≡ panics
  unfolding range_setup
  high_panics t f = vco_panics (rw (t, range_panics most es f))

  module _ (t8 : leb (most / 128) low ≡ true) (t9 : ltb most 560_000_000 ≡ true) where
    pub good : Good g most
    good = range_good most t9

    most_pos : 1 ≤ most
    most_pos = let x = spanned_is.above in let y = spanned_is.order in omega arith

    pub small : target < 2_147_483_648
    small = let x : target ≤ g.end = target_le low most g.end in let y = good.to in omega arith

    to_divider : ranged ≡ divider_setup source (pll_config a) (range_rust g) target es
    unfolding range_setup
    to_divider = rw (t8, range_found most es t9, target_is low most (range_rust g) es spanned_is.above most_pos (let y = good.to in omega arith))

    -- 10
    pub outside_panics : leb g.start target && leb target g.end ≡ false → vco ≡ panics
    unfolding divider_setup
    outside_panics f = vco_panics (to_divider ∙ rw (contains_is g.start g.end target, f))

    module _ (t10 : leb g.start target && leb target g.end ≡ true) where
      abbrev choice : Option ℕ
      choice = chosen_m source target g.low g.high

      -- 11, and M
      divider_ends : (f : Option ℕ) → choice ≡ f → divider_setup source (pll_config a) (range_rust g) target es ≡ setup_ends source a g target es f
      unfolding divider_setup
      divider_ends None e =
          rw (contains_is g.start g.end target, t10, divided target a.p es pos_p, divided target a.q es pos_q, divided target a.r es pos_r, search_is source target (range_rust g) es small good.lows good.highs some, e)
      divider_ends (Some m) e =
          let c : Admissible source g.low g.high m = (chosen_some source target g.low g.high m e).admissible in
          let i = admits source g.low g.high c in
          let one : 1 ≤ m = c.above in
          let r : leb g.low (source / m) ≡ true = le-leb g.low (source / m) (ref_low source g.low g.high m one i) in
          let s : leb (source / m) g.high ≡ true = le-leb (source / m) g.high (ref_high source g.low g.high m one i) in
          rw (contains_is g.start g.end target, t10, divided target a.p es pos_p, divided target a.q es pos_q, divided target a.r es pos_r, search_is source target (range_rust g) es small good.lows good.highs some, e, le-leb m 63 c.within, nonzero m one, r, s)

      pub vco_ends : vco ≡ setup_ends source a g target es choice
      vco_ends =
          let f : Fits odd a.p = fits_below odd a.p low most spanned_is.in_p (let x : most < 560_000_000 = ltb-true most 560_000_000 t9 in omega arith) in
          collected f ∙ to_divider ∙ divider_ends choice refl
