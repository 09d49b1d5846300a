-- Laws of one PLL from its outputs' span to M, each at the place where the code takes it.
use Rattle.std.specs.Prelude.{Option, Some, None, Result, Err, unwrap_or, is_some}
use mathlib.Core.Path.{◌≡◌, refl, sym, ap, ◌∙◌, subst}
use mathlib.Core.Bool.{Bool, true, false, cond, ◌&&◌, ◌||◌}
use Prim.Native.Nat.{ℕ, ◌*◌, ◌/◌, ◌≤◌, ◌<◌}
use native.Mathlib.Omega.{arith}
use native.Mathlib.Nat.{le_trans, mul-le-mul_left}
use lib.Dec.{leb, ltb, eqb}
use borrow.Author.Tests.{le-leb, lt-leb, lt-ltb}
use Rattle.std.specs.Option.{option_or}
use Rattle.types.specs.declared.Refusal.{Refusal}
use Rattle.types.specs.declared.PllSettings.{PllSettings}
use Rattle.types.specs.declared.PllRequest.{PllRequest}
use Rattle.types.specs.declared.Refusal.TheVariants.{TargetOutside, NoM}
use Rattle.rules.specs.Document01.Result.{◌>>=◌}
use Rattle.rules.specs.Document01.Hertz.{not_zero}
use Rattle.rules.specs.Document01.ChoiceOfM.{chosen_m, Admissible}
use Rattle.rules.specs.Document01.Target.{target_of}
use Rattle.rules.specs.Document01.OnePll.{counted_p, counted_outputs, least, largest, Range, medium, wide, range_of, divided_by, settled}
use Rattle.laws.proofs.Tests.{and_left, and_right}
use Rattle.laws.proofs.Numbers.{le_div}
use Rattle.rules.proofs.Document01.ChoiceOfM.{chosen_some}
use Rattle.rules.proofs.Document01.Target.{target_le}
use Rattle.rules.proofs.Document01.Span.{Pos, pos_is, Inside, Span, span}
use Rattle.claims.proofs.Legal.OnePll.{Good, range_good, Divides, SomeDivider, divider_p_is, divider_q}
use Rattle.pll.specs.Answer.{after_span}
use Rattle.pll.specs.Spans.{Spanned, range_for}
use Rattle.pll.specs.Search.{low_of, high_of}
use Rattle.pll.specs.declared.asked.Asked.{Asked}
use Rattle.pll.specs.declared.vco.VcoRange.{VcoRange}
use Rattle.pll.specs.Settle.{HasDivider, Settles, settled_for}

-- ---- dividers
with_some : (target : ℕ) (h : Option ℕ) → Pos h → SomeDivider target h → HasDivider target h
with_some target None p d = tt
with_some target (Some h) p d = (p, d)

with_both : (target : ℕ) (h : Option ℕ) → Pos h → Divides target h → HasDivider target h
with_both target None p d = tt
with_both target (Some h) p d = (p, d.0)

first_pos : (p q r : Option ℕ) → Pos p → Pos q → Pos r → is_some p || (is_some q || is_some r) ≡ true → 1 ≤ unwrap_or (option_or p (option_or q r)) 0
first_pos (Some p) q r i j k w = i
first_pos None (Some q) r i j k w = j
first_pos None None (Some r) i j k w = k
first_pos None None None i j k w = absurd (let z : ◌≡◌ {A = ℕ} 0 1 = cc in omega arith)

module _ (asked : Asked) (low most : ℕ) (sp : Spanned asked low most) where
  abbrev odd : Bool
  odd = asked.odd

  abbrev source : ℕ
  source = asked.source

  abbrev a : PllRequest
  a = asked.request

  abbrev g : Range
  g = range_of most

  abbrev target : ℕ
  target = target_of low most g.end

  -- ---- what is known of the outputs
  pos_p : Pos a.p
  pos_p = pos_is a.p (and_left (not_zero a.p) _ asked.none_zero)

  pos_q : Pos a.q
  pos_q = pos_is a.q (and_left (not_zero a.q) _ (and_right (not_zero a.p) _ asked.none_zero))

  pos_r : Pos a.r
  pos_r = pos_is a.r (and_right (not_zero a.q) _ (and_right (not_zero a.p) _ asked.none_zero))

  spans : Span odd a.p a.q a.r
  spans = span odd a.p a.q a.r pos_p pos_q pos_r sp.some

  pub ends : (1 ≤ low) × (low ≤ most)
  ends = rw (sp.low_is, sp.most_is) (spans.above, spans.order)

  good : Good g most
  good = range_good most (lt-ltb most 560_000_000 sp.below)

  small : target < 2_147_483_648
  small = let t = target_le low most g.end in let e = good.to in omega arith

  searched : (1 ≤ source) × (target < 2_147_483_648)
  searched = (asked.source_above, small)

  -- the rules speak of the same range and target
  abbrev after : ℕ → ℕ → Result PllSettings Refusal
  after lo mo =
      divided_by source (range_of mo) (target_of lo mo (range_of mo).end)
      >>= λ m. settled odd a (range_of mo) (target_of lo mo (range_of mo).end) m (source / m) (target_of lo mo (range_of mo).end / (source / m))

  same : after_span odd source a ≡ after low most
  unfolding after_span
  same = ap (λ (x : ℕ). after x (largest (counted_outputs odd a))) (sym sp.low_is) ∙ ap (λ (x : ℕ). after low x) (sym sp.most_is)

  -- ---- refusals 10 and 11
  pub outside : target < g.start → Err TargetOutside ≡ after_span odd source a
  unfolding divided_by
  outside h = rw (same, lt-leb g.start target h)

  abbrev chosen : Option ℕ
  chosen = chosen_m source target g.low g.high

  within : g.start ≤ target → leb g.start target && leb target g.end ≡ true
  within h = rw (le-leb g.start target h, le-leb target g.end (target_le low most g.end))

  pub no_m : g.start ≤ target → chosen ≡ None → Err NoM ≡ after_span odd source a
  unfolding divided_by
  no_m h e = rw (same, within h, e)

  -- ---- what follows
  module _ (from : g.start ≤ target) (m : ℕ) (is : chosen ≡ Some m) where
    admits : Admissible source g.low g.high m
    admits = (chosen_some source target g.low g.high m is).admissible

    settles : Settles asked target m
    settles =
        let t1 : 128_000_000 ≤ target = le_trans good.from from in
        let b = ends in
        let in_p = subst (λ (x : ℕ). Inside (counted_p odd) x most a.p) (sym sp.low_is) (subst (λ (y : ℕ). Inside (counted_p odd) (least (counted_outputs odd a)) y a.p) (sym sp.most_is) spans.in_p) in
        let in_q = subst (λ (x : ℕ). Inside (λ h. h) x most a.q) (sym sp.low_is) (subst (λ (y : ℕ). Inside (λ h. h) (least (counted_outputs odd a)) y a.q) (sym sp.most_is) spans.in_q) in
        let in_r = subst (λ (x : ℕ). Inside (λ h. h) x most a.r) (sym sp.low_is) (subst (λ (y : ℕ). Inside (λ h. h) (least (counted_outputs odd a)) y a.r) (sym sp.most_is) spans.in_r) in
        record {
          above = admits.above;
          some = le_div admits.above (let l : m * 1 ≤ m * g.low = mul-le-mul_left m good.lows in le_trans (omega arith) (le_trans l admits.from_low));
          small = small;
          first = first_pos a.p a.q a.r pos_p pos_q pos_r sp.some;
          has_p = with_some target a.p pos_p (divider_p_is low most g b.0 b.1 good sp.near t1 odd a.p in_p pos_p);
          has_q = with_both target a.q pos_q (divider_q low most g b.0 b.1 good sp.near t1 a.q in_q pos_q);
          has_r = with_both target a.r pos_r (divider_q low most g b.0 b.1 good sp.near t1 a.r in_r pos_r);
        }

    pub rest : settled_for asked g.vcosel target m ≡ after_span odd source a
    unfolding divided_by settled_for settled
    rest = rw (same, within from, is)

  -- VCOSEL is 1 in the medium range alone
  by_vcosel : (t : Bool) → cond (eqb (cond t medium wide).vcosel 1) medium wide ≡ cond t medium wide
  by_vcosel true = refl
  by_vcosel false = refl

  -- ---- the same of the range and the target as they are computed
  module _ (v : VcoRange) (t : ℕ) (ranged : v ≡ range_for most) (aimed : t ≡ target_of low most v.end) where
    target_is : t ≡ target
    target_is = aimed ∙ ap (λ (x : VcoRange). target_of low most x.end) ranged

    pub searched_at : (1 ≤ source) × (t < 2_147_483_648)
    searched_at = rw target_is searched

    pub settles_at : v.start ≤ t → (m : ℕ) → chosen_m source t (low_of (eqb v.vcosel 1)) (high_of (eqb v.vcosel 1)) ≡ Some m → Settles asked t m
    settles_at l m e =
        let start : v.start ≡ g.start = ap (λ (x : VcoRange). x.start) ranged in
        let same : chosen ≡ chosen_m source t (low_of (eqb v.vcosel 1)) (high_of (eqb v.vcosel 1)) =
        sym (
        ap (λ (x : VcoRange). chosen_m source t (low_of (eqb x.vcosel 1)) (high_of (eqb x.vcosel 1))) ranged
        ∙ ap (λ (x : Range). chosen_m source t x.low x.high) (by_vcosel (ltb most 420_000_000))
        ∙ ap (λ (x : ℕ). chosen_m source x g.low g.high) target_is
        ) in
        let p = target_is in
        rw target_is (settles (omega arith) m (same ∙ e))
