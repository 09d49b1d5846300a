-- A PLL that is planned has legal numbers: the laws of a range and of the dividers, and what `pll_of` comes to.
use Rattle.std.specs.Prelude.{Option, Some, None, Result, Ok, Err, unwrap_or, is_some}
use mathlib.Core.Path.{◌≡◌, refl, sym, ap, subst, ◌∙◌}
use mathlib.Core.Logic.{◌⊎◌, inl, inr, ⊎_elim}
use mathlib.Core.Bool.{Bool, true, false, ◌&&◌, ◌||◌}
use Prim.Native.Nat.{ℕ, ◌+◌, ◌-◌, ◌*◌, ◌/◌, ◌%◌, ◌≤◌, ◌<◌, ◌^◌}
use native.Mathlib.Omega.{arith}
use native.Mathlib.Nat.{le_trans, le_of_lt, lt_of_le_of_lt, le-div_iff_mul-le, div-lt_iff_lt-mul, mul_comm, mul-le-mul_right, mul-lt-mul_of_pos_right, mul-div-le, div-add-mod', mod-lt, div-le_self}
use lib.Dec.{leb, ltb, eqb, lit≤, lit<}
use lib.Ieee.{Float, le, of_int, to_unsigned}
use lib.Ieee.Casts.{to_unsigned-lt}
use borrow.Author.Tests.{leb-true, le-leb, ltb-true, ltb-false}
use Rattle.std.specs.Option.{option_or}
use Rattle.types.specs.declared.Refusal.{Refusal}
use Rattle.types.specs.declared.Strategy.{Strategy}
use Rattle.types.specs.declared.Strategy.TheVariants.{Integer, Fractional}
use Rattle.types.specs.declared.PllRequest.{PllRequest}
use Rattle.types.specs.declared.PllSettings.{PllSettings}
use Rattle.types.specs.declared.Refusal.TheVariants.{NOutside}
use Rattle.rules.specs.Document01.ChoiceOfM.{chosen_m, Admissible}
use Rattle.rules.specs.Document01.Target.{target_of}
use Rattle.rules.proofs.Document01.ChoiceOfM.{chosen_some}
use Rattle.rules.proofs.Document01.Target.{divider_le, divider_pos}
use Rattle.ieee754.specs.Steps.{float, fracn_float, fracn_of}
use Rattle.ieee754.specs.Whole.{fracn_whole}
use Rattle.ieee754.proofs.Same.{fracn_same, vco_same}
use Rattle.ieee754.proofs.Near.{fracn_below}
use Rattle.laws.proofs.Numbers.{le_div, div_le, below, above}
use Rattle.ieee754.proofs.Cut.{cut_in, zero8191}
use Rattle.rules.specs.Document01.Result.{◌>>◌}
use Rattle.rules.specs.Document01.Hertz.{not_zero}
use Rattle.rules.specs.Document01.OnePll.{wanted, none_zero, counted_p, counted_outputs, least, largest, Range, medium, wide, range_of, rge_of, first_of, taken, fraction_of, vco_by, output_of, divider_p, allowed_p, spanned, divided_by, settings_of, settled, runs, running, pll_of}
use Rattle.claims.specs.Demands.Legal.{LegalOutput, LegalP, divider_or, first_divider, LegalVco, Legal, LegalPll}
use Rattle.rules.specs.Manual.PllFields.{rge_span, vco_span, input_span, Within, FieldFracn}
use Rattle.laws.proofs.Tests.{by_test, never, and_left, and_right}
use Rattle.rules.proofs.Document01.Results.{Holds, holds_tested, holds_known, holds_both}
use Rattle.rules.proofs.Document01.Multiplier.{range_kind}
use Rattle.rules.proofs.Document01.Span.{Pos, pos_is, Inside, Span, span}

-- what is known of a range that is chosen for a largest output
pub record Good (g : Range) (most : ℕ) : Type 0 where
  pub lows : 1 ≤ g.low
  pub million : 1_000_000 ≤ g.low
  pub highs : 1 ≤ g.high
  pub from : 128_000_000 ≤ g.start
  pub to : g.end ≤ 560_000_000
  pub above : most < g.end

pub range_good : (most : ℕ) → ltb most 560_000_000 ≡ true → Good (range_of most) most
range_good most t =
    by_test (ltb most 420_000_000)
    (λ (s : ltb most 420_000_000 ≡ true). rw s (record { lows = lit≤ tt; million = lit≤ tt; highs = lit≤ tt; from = lit≤ tt; to = lit≤ tt; above = ltb-true most 420_000_000 s }))
    (λ (f : ltb most 420_000_000 ≡ false). rw f (record { lows = lit≤ tt; million = lit≤ tt; highs = lit≤ tt; from = lit≤ tt; to = lit≤ tt; above = ltb-true most 560_000_000 t }))

-- ---- a divider
-- from 1 to 128
abbrev pub Divides : ℕ → Option ℕ → Type 0
Divides target None = Unit {0}
Divides target (Some h) = (1 ≤ target / h) × (target / h ≤ 128)

-- P's divider is at least 1; whether it is at most 128 is refusal 14
abbrev pub SomeDivider : ℕ → Option ℕ → Type 0
SomeDivider target None = Unit {0}
SomeDivider target (Some h) = 1 ≤ target / h

pub divides_p : (target : ℕ) (h : Option ℕ) → SomeDivider target h → leb (divider_p target h) 128 ≡ true → Divides target h
divides_p target None d t = tt
divides_p target (Some h) d t = (d, leb-true (target / h) 128 t)

-- an output is at most what it counts
counts : (odd : Bool) (h : ℕ) → h ≤ counted_p odd h
counts true h = omega arith
counts false h = omega arith

-- the dividers, where the target is in its range
module _ (low most : ℕ) (g : Range) (a1 : 1 ≤ low) (a2 : low ≤ most) (a3 : Good g most) (a4 : most / 128 ≤ low) (a5 : 128_000_000 ≤ target_of low most g.end) where
  pub divider_p_is : (odd : Bool) (h : Option ℕ) → Inside (counted_p odd) low most h → Pos h → SomeDivider (target_of low most g.end) h
  divider_p_is odd None i p = tt
  divider_p_is odd (Some h) i p = divider_pos low most g.end a1 a2 a3.above a3.to a4 a5 h p (le_trans (counts odd h) i.1)

  pub divider_q : (h : Option ℕ) → Inside (λ h. h) low most h → Pos h → Divides (target_of low most g.end) h
  divider_q None i p = tt
  divider_q (Some h) i p = (divider_pos low most g.end a1 a2 a3.above a3.to a4 a5 h p i.1, divider_le low most g.end a1 h i.0)

-- ---- FRACN
abbrev Bounded : Option ℕ → Type 0
Bounded None = Unit {0}
Bounded (Some f) = FieldFracn f

fraction_bounded : (s : Strategy) (ref n d o : ℕ) → Holds Bounded (fraction_of s ref n d o)
unfolding fracn_of of_int
fraction_bounded Integer ref n d o = tt
fraction_bounded Fractional ref n d o =
    let f : Float = fracn_float (float ref) (float n) (float d) (float o) in
    by_test (le (float 0) f)
    (λ (s : le (float 0) f ≡ true). by_test (le f (float 8191))
    (λ (t : le f (float 8191) ≡ true).
    let z = zero8191 f s t in
    let e : to_unsigned 16 f ≡ to_unsigned 13 f = cut_in 13 16 f (lit≤ tt) z.0 z.1 in
    let l : to_unsigned 13 f < 2 ^ 13 = to_unsigned-lt 13 f in
    rw (s, t) (omega arith))
    (λ (n : le f (float 8191) ≡ false). rw (s, n) tt))
    (λ (n : le (float 0) f ≡ false). rw n tt)

-- the same FRACN over whole numbers, in Fractional and only there
abbrev InWhole : Strategy → (ref n d o : ℕ) → Option ℕ → Type 0
InWhole Integer ref n d o None = Unit {0}
InWhole Integer ref n d o (Some f) = ⊥
InWhole Fractional ref n d o None = ⊥
InWhole Fractional ref n d o (Some f) = fracn_whole ref n d o ≡ Some f

module _ (ref n d o : ℕ) (r1 : 0 < ref) (r32 : ref < 2 ^ 32) (n32 : n < 2 ^ 32) (d32 : d < 2 ^ 32) (o32 : o < 2 ^ 32) where
  taken_whole : (v : Option ℕ) → fracn_of (float ref) (float n) (float d) (float o) ≡ v → Holds (InWhole Fractional ref n d o) (taken v)
  taken_whole (Some f) e = sym (fracn_same ref n d o r1 r32 n32 d32 o32) ∙ e
  taken_whole None e = tt

  fraction_whole : (s : Strategy) → Holds (InWhole s ref n d o) (fraction_of s ref n d o)
  fraction_whole Integer = tt
  fraction_whole Fractional = taken_whole (fracn_of (float ref) (float n) (float d) (float o)) refl

-- ---- the reference lies where RGE says
pub rge_within : (source m : ℕ) → 1 ≤ m → 1_000_000 * m ≤ source → source ≤ 16_000_000 * m → Within (rge_span (rge_of (source / m))) source m
rge_within source m h l u =
    by_test (ltb (source / m) 2_000_000)
    (λ t2. rw t2 (record { from = l; to = up 2_000_000 t2 }))
    (λ f2. by_test (ltb (source / m) 4_000_000)
    (λ t4. rw (f2, t4) (record { from = down 2_000_000 f2; to = up 4_000_000 t4 }))
    (λ f4. by_test (ltb (source / m) 8_000_000)
    (λ t8. rw (f2, f4, t8) (record { from = down 4_000_000 f4; to = up 8_000_000 t8 }))
    (λ f8. rw (f2, f4, f8) (record { from = down 8_000_000 f8; to = u }))))
  where
    up : (k : ℕ) → ltb (source / m) k ≡ true → source ≤ k * m
    up k t = le_of_lt ((div-lt_iff_lt-mul {k = m} {x = source} {y = k} h).0 (ltb-true (source / m) k t))

    down : (k : ℕ) → ltb (source / m) k ≡ false → k * m ≤ source
    down k f = (le-div_iff_mul-le {k = m} {x = k} {y = source} h).0 (ltb-false (source / m) k f)

-- ---- the outputs
output_legal : (target vco : ℕ) (h : Option ℕ) → Divides target h → LegalOutput vco h (output_of target vco h)
output_legal target vco None d = tt
output_legal target vco (Some h) d = record { some = d.0; field = let l : target / h ≤ 128 = d.1 in omega arith; hertz = refl }

p_legal : (odd : Bool) (target vco : ℕ) (h : Option ℕ) → SomeDivider target h → leb (divider_p target h) 128 ≡ true → odd || eqb (divider_p target h % 2) 0 ≡ true → LegalP odd (output_of target vco h)
p_legal odd target vco None s t e = tt
p_legal odd target vco (Some h) s t e =
    let l : target / h ≤ 128 = leb-true (target / h) 128 t in
    let back : target / h - 1 + 1 ≡ target / h = omega arith in
    rw (le-leb (target / h - 1) 127 (omega arith), back) e

-- ---- a range, and the manual's spans of its VCOSEL
spans : (g : Range) → (g ≡ medium) ⊎ (g ≡ wide) → (input_span g.vcosel ≡ record { low = g.low; high = g.high }) × (vco_span g.vcosel ≡ record { low = g.start; high = g.end })
spans g (inl e) = rw e (refl, refl)
spans g (inr e) = rw e (refl, refl)

-- ---- one PLL
module _ (odd : Bool) (source : ℕ) (a : PllRequest) (g : Range) (target m : ℕ) (c : Admissible source g.low g.high m) (st : g.start ≤ target) (en : target ≤ g.end) (small : g.end ≤ 560_000_000) (kind : (g ≡ medium) ⊎ (g ≡ wide)) (first32 : first_of a < 2 ^ 32) (wants : wanted a ≡ true) (dp : SomeDivider target a.p) (dq : Divides target a.q) (dr : Divides target a.r) where
  abbrev ref : ℕ
  ref = source / m

  abbrev n : ℕ
  n = target / ref

  abbrev settings : Option ℕ → PllSettings
  settings f = settings_of a g target m ref n f

  -- M × low ≤ source ≤ M × high, and what that gives of the reference
  lows : g.low * m ≤ source
  lows = subst (λ (x : ℕ). x ≤ source) (mul_comm m g.low) c.from_low

  highs : source ≤ g.high * m
  highs = subst (λ (x : ℕ). source ≤ x) (mul_comm m g.high) c.to_high

  ends : (1_000_000 * m ≤ source) × (source ≤ 16_000_000 * m)
  ends = ⊎_elim (λ (e : g ≡ medium). let l = subst (λ (x : Range). x.low * m ≤ source) e lows in let h = subst (λ (x : Range). source ≤ x.high * m) e highs in omega arith) (λ (e : g ≡ wide). let l = subst (λ (x : Range). x.low * m ≤ source) e lows in let h = subst (λ (x : Range). source ≤ x.high * m) e highs in omega arith) kind

  ref_some : 1 ≤ ref
  ref_some = le_div c.above (let l = ends.0 in omega arith)

  ref_32 : ref < 2 ^ 32
  ref_32 = lt_of_le_of_lt (div_le m (subst (λ (x : ℕ). source ≤ x) (mul_comm 16_000_000 m) ends.1)) (lit< tt)

  target_32 : target < 2 ^ 32
  target_32 = omega arith

  n_32 : n < 2 ^ 32
  n_32 = lt_of_le_of_lt (div-le_self target ref) target_32

  first_32 : target / first_of a < 2 ^ 32
  first_32 = lt_of_le_of_lt (div-le_self target (first_of a)) target_32

  -- the manual's VCO
  n_from : target < ref * n + ref
  n_from = omega (arith, div-add-mod' target ref, mod-lt target ref_some, mul_comm ref n)

  exact_low : g.start * m < source * n + source
  exact_low =
      let le : ref * m ≤ source = below source m in
      let a : target * m < (ref * n + ref) * m = mul-lt-mul_of_pos_right n_from c.above in
      let b : (ref * m) * (n + 1) ≤ source * (n + 1) = mul-le-mul_right (n + 1) le in
      let d : g.start * m ≤ target * m = mul-le-mul_right m st in
      let e : (ref * n + ref) * m ≡ (ref * m) * (n + 1) = omega arith in
      let f : source * (n + 1) ≡ source * n + source = omega arith in
      omega arith

  exact_high : 4 ≤ n → source * n < (g.end + n) * m
  exact_high four =
      let gt : source < ref * m + m = above source m c.above in
      let a : source * n < (ref * m + m) * n = mul-lt-mul_of_pos_right gt (omega arith) in
      let b : ref * n ≤ g.end = le_trans (mul-div-le target ref) en in
      let d : (ref * n + n) * m ≤ (g.end + n) * m = mul-le-mul_right m (omega arith) in
      let e : (ref * m + m) * n ≡ (ref * n + n) * m = omega arith in
      omega arith

  ref_most : ref ≤ 16_000_000
  ref_most = div_le m (subst (λ (x : ℕ). source ≤ x) (mul_comm 16_000_000 m) ends.1)

  part_high : (f : ℕ) → 4 ≤ n → n ≤ 512 → target / first_of a ≤ 128 → fracn_whole ref n (target / first_of a) (first_of a) ≡ Some f → source * (8192 * n + f) < (8192 * (g.end + 98) + (8192 * n + f)) * m
  part_high f four most few v =
      let od : first_of a * (target / first_of a) ≤ g.end = le_trans (mul-div-le target (first_of a)) en in
      let l : ref * (8192 * n + f) ≤ 8192 * (g.end + 98) = fracn_below ref n (target / first_of a) (first_of a) g.end sixty_fours.0 f ref_some ref_most most few od small sixty_fours.1 v in
      go (8192 * n + f) (8192 * (g.end + 98)) l (omega arith)
    where
      sixty_fours : (k : ℕ) × (g.end + 64 ≡ k * 64)
      sixty_fours = ⊎_elim (λ (e : g ≡ medium). (6_562_501, ap (λ (x : Range). x.end + 64) e)) (λ (e : g ≡ wide). (8_750_001, ap (λ (x : Range). x.end + 64) e)) kind

      go : (x most : ℕ) → ref * x ≤ most → 1 ≤ x → source * x < (most + x) * m
      go x most l k =
          let gt : source < ref * m + m = above source m c.above in
          let p : source * x < (ref * m + m) * x = mul-lt-mul_of_pos_right gt k in
          let q : (ref * x + x) * m ≤ (most + x) * m = mul-le-mul_right m (omega arith) in
          let e : (ref * m + m) * x ≡ (ref * x + x) * m = omega arith in
          omega arith

  -- the first divider that is on
  first_divider_is : (f : Option ℕ) → wanted a ≡ true → first_divider (settings f) ≡ target / first_of a
  first_divider_is f w = go a.p a.q a.r w
    where
      go : (p q r : Option ℕ) → is_some p || (is_some q || is_some r) ≡ true → divider_or (output_of target (vco_by f ref n) p) (divider_or (output_of target (vco_by f ref n) q) (divider_or (output_of target (vco_by f ref n) r) 0)) ≡ target / unwrap_or (option_or p (option_or q r)) 0
      go (Some p) q r w = refl
      go None (Some q) r w = refl
      go None None (Some r) w = refl
      go None None None w = absurd (never (sym w))

  first_few : Divides target a.p → target / first_of a ≤ 128
  first_few d = go a.p a.q a.r d dq dr wants
    where
      go : (p q r : Option ℕ) → Divides target p → Divides target q → Divides target r → is_some p || (is_some q || is_some r) ≡ true → target / unwrap_or (option_or p (option_or q r)) 0 ≤ 128
      go (Some p) q r i j k w = i.1
      go None (Some q) r i j k w = j.1
      go None None (Some r) i j k w = k.1
      go None None None i j k w = absurd (never (sym w))

  -- FRACN, and the VCO
  vco_legal : (s : Strategy) (f : Option ℕ) → 4 ≤ n → n ≤ 512 → Divides target a.p → Bounded f → InWhole s ref n (target / first_of a) (first_of a) f → LegalVco s source (first_of a) (settings f) f
  vco_legal Integer None four most d b w =
      let span = (spans g kind).1 in
      let below : ref * n ≤ target = mul-div-le target ref in
      let above : target < ref * n + ref = n_from in
      record { product = refl; from = rw span (omega arith); to = rw span (omega arith); exact_from = rw span exact_low; exact_to = rw span (exact_high four) }
  vco_legal Integer (Some f) four most d b w = w
  vco_legal Fractional None four most d b w = w
  vco_legal Fractional (Some f) four most d b w = record {
    field = b;
    fracn = rw (first_divider_is (Some f) wants) w;
    vco = vco_same ref n f ref_32 n_32 (let l : f ≤ 8191 = b in omega arith);
    exact_from = rw (spans g kind).1 (let l = exact_low in let e : source * (8192 * n + f) ≡ 8192 * (source * n) + source * f = omega arith in omega arith);
    exact_to = rw (spans g kind).1 (part_high f four most (first_few d) w);
  }

  allowed_legal : (f : Option ℕ) → Bounded f → InWhole a.strategy ref n (target / first_of a) (first_of a) f → leb 4 n && leb n 512 ≡ true → Holds (Legal odd source a) (allowed_p odd (divider_p target a.p) >> Ok (settings f))
  allowed_legal f b w t =
      let four : 4 ≤ n = leb-true 4 n (and_left (leb 4 n) (leb n 512) t) in
      let most : n ≤ 512 = leb-true n 512 (and_right (leb 4 n) (leb n 512) t) in
      by_test (leb (divider_p target a.p) 128)
      (λ (s : leb (divider_p target a.p) 128 ≡ true).
      by_test (odd || eqb (divider_p target a.p % 2) 0)
      (λ (e : odd || eqb (divider_p target a.p % 2) 0 ≡ true).
      rw (s, e) (record {
        asked = wants;
        m = record { from = c.above; to = c.within };
        rge = rge_within source m c.above ends.0 ends.1;
        input = rw (spans g kind).0 (record { from = lows; to = highs });
        reference = refl;
        n = record { from = omega arith; to = omega arith };
        target = rw (spans g kind).1 (record { from = omega arith; to = omega arith });
        vco = vco_legal a.strategy f four most (divides_p target a.p dp s) b w;
        p = output_legal target (vco_by f ref n) a.p (divides_p target a.p dp s);
        q = output_legal target (vco_by f ref n) a.q dq;
        r = output_legal target (vco_by f ref n) a.r dr;
        odd_p = p_legal odd target (vco_by f ref n) a.p dp s e;
      }))
      (λ (e : odd || eqb (divider_p target a.p % 2) 0 ≡ false). rw (s, e) tt))
      (λ (s : leb (divider_p target a.p) 128 ≡ false). rw s tt)

  settled_legal : Holds (Legal odd source a) (settled odd a g target m ref n)
  unfolding settled
  settled_legal =
      holds_tested (Legal odd source a) (leb 4 n && leb n 512) NOutside _
      (λ t. holds_known (Legal odd source a) (λ f. Bounded f × InWhole a.strategy ref n (target / first_of a) (first_of a) f) (fraction_of a.strategy ref n (target / first_of a) (first_of a)) _
      (holds_both Bounded (InWhole a.strategy ref n (target / first_of a) (first_of a)) (fraction_of a.strategy ref n (target / first_of a) (first_of a))
      (fraction_bounded a.strategy ref n (target / first_of a) (first_of a))
      (fraction_whole ref n (target / first_of a) (first_of a) ref_some ref_32 n_32 first_32 first32 a.strategy))
      (λ f k. allowed_legal f k.0 k.1 t))

-- the first requested output is at most the largest
first_most : (odd : Bool) (p q r : Option ℕ) (low most : ℕ) → Inside (counted_p odd) low most p → Inside (λ h. h) low most q → Inside (λ h. h) low most r → unwrap_or (option_or p (option_or q r)) 0 ≤ most
first_most odd (Some p) q r low most i j k = le_trans (counts odd p) i.1
first_most odd None (Some q) r low most i j k = j.1
first_most odd None None (Some r) low most i j k = k.1
first_most odd None None None low most i j k = omega arith

module _ (odd : Bool) (source : ℕ) (a : PllRequest) (w : wanted a ≡ true) where
  abbrev low : ℕ
  low = least (counted_outputs odd a)

  abbrev most : ℕ
  most = largest (counted_outputs odd a)

  abbrev g : Range
  g = range_of most

  abbrev target : ℕ
  target = target_of low most g.end

  after_span : none_zero a ≡ true → leb (most / 128) low ≡ true → ltb most 560_000_000 ≡ true → leb g.start target && leb target g.end ≡ true → (m : ℕ) → chosen_m source target g.low g.high ≡ Some m → Holds (Legal odd source a) (settled odd a g target m (source / m) (target / (source / m)))
  after_span z t8 t9 t10 m e =
      let pp : Pos a.p = pos_is a.p (and_left (not_zero a.p) _ z) in
      let pq : Pos a.q = pos_is a.q (and_left (not_zero a.q) _ (and_right (not_zero a.p) _ z)) in
      let pr : Pos a.r = pos_is a.r (and_right (not_zero a.q) _ (and_right (not_zero a.p) _ z)) in
      let sp : Span odd a.p a.q a.r = span odd a.p a.q a.r pp pq pr w in
      let gd : Good g most = range_good most t9 in
      let st : g.start ≤ target = leb-true g.start target (and_left (leb g.start target) (leb target g.end) t10) in
      let en : target ≤ g.end = leb-true target g.end (and_right (leb g.start target) (leb target g.end) t10) in
      let far : most / 128 ≤ low = leb-true (most / 128) low t8 in
      let t1 : 128_000_000 ≤ target = le_trans gd.from st in
      let top : most < 560_000_000 = ltb-true most 560_000_000 t9 in
      let first32 : first_of a < 2 ^ 32 = lt_of_le_of_lt (first_most odd a.p a.q a.r low most sp.in_p sp.in_q sp.in_r) (omega arith) in
      settled_legal odd source a g target m (chosen_some source target g.low g.high m e).admissible st en gd.to (range_kind most) first32 w
      (divider_p_is low most g sp.above sp.order gd far t1 odd a.p sp.in_p pp)
      (divider_q low most g sp.above sp.order gd far t1 a.q sp.in_q pq)
      (divider_q low most g sp.above sp.order gd far t1 a.r sp.in_r pr)

  by_choice : none_zero a ≡ true → leb (most / 128) low ≡ true → ltb most 560_000_000 ≡ true → leb g.start target && leb target g.end ≡ true → (f : Option ℕ) → chosen_m source target g.low g.high ≡ f → Holds (Legal odd source a) (runs odd source a)
  unfolding runs spanned divided_by
  by_choice z t8 t9 t10 None e = rw (z, t8, t9, t10, e) tt
  by_choice z t8 t9 t10 (Some m) e = rw (z, t8, t9, t10, e) (after_span z t8 t9 t10 m e)

  runs_legal : Holds (Legal odd source a) (runs odd source a)
  unfolding runs spanned divided_by
  runs_legal =
      by_test (none_zero a) (λ (z : none_zero a ≡ true).
      by_test (leb (most / 128) low) (λ (t8 : leb (most / 128) low ≡ true).
      by_test (ltb most 560_000_000) (λ (t9 : ltb most 560_000_000 ≡ true).
      by_test (leb g.start target && leb target g.end) (λ t10. by_choice z t8 t9 t10 (chosen_m source target g.low g.high) refl)
      (λ (f : leb g.start target && leb target g.end ≡ false). rw (z, t8, t9, f) tt))
      (λ (f : ltb most 560_000_000 ≡ false). rw (z, t8, f) tt))
      (λ (f : leb (most / 128) low ≡ false). rw (z, f) tt))
      (λ (f : none_zero a ≡ false). rw f tt)

running_legal : (odd : Bool) (source : ℕ) (a : PllRequest) (x : Result PllSettings Refusal) → Holds (Legal odd source a) x → Holds (LegalPll odd source a) (running x)
running_legal odd source a (Err n) h = tt
running_legal odd source a (Ok s) h = h

-- a PLL that is planned is idle or legal
pub pll_legal : (odd : Bool) (source : ℕ) (a : PllRequest) → Holds (LegalPll odd source a) (pll_of odd source a)
unfolding pll_of
pll_legal odd source a =
    by_test (wanted a) (λ (w : wanted a ≡ true). rw w (running_legal odd source a (runs odd source a) (runs_legal odd source a w))) (λ (w : wanted a ≡ false). rw w w)
