-- `search_m`, the least key of the m from pll_x_m_min to pll_x_m_max, against the smallest M with the least shortfall of all M from 1 to 63.
use Rattle.std.specs.Prelude.{Option, Some, None}
use mathlib.Core.Path.{◌≡◌, refl, sym, ap, ◌∙◌}
use mathlib.Core.List.{List}
use mathlib.Core.Bool.{true, false}
use Prim.Native.Nat.{ℕ, zero, suc, ◌+◌, ◌-◌, ◌*◌, ◌/◌, ◌≤◌, ◌<◌, min}
use native.Mathlib.Omega.{arith}
use native.Mathlib.Nat.{mul-div-le, mul-le-mul_left, mul-le-mul_right, le-div_iff_mul-le, div-lt_iff_lt-mul, add-mul, lt-div-mul-add}
use lib.Dec.{leb, ltb}
use lib.IntN.{pos, ◌-ℤ◌}
use mir.Syntax.{w32}
use mir.Val.{to_z}
use borrow.Author.Tests.{leb-true, leb-false, lt-ltb}
use Rattle.types.specs.declared.Entry.{Entry}
use Rattle.rules.specs.Document01.ChoiceOfM.{in_range, shortfall_of, better_of, best_to}
use Rattle.laws.proofs.Numbers.{to_z_sub, le_div}
use Rattle.rules.proofs.Document01.ChoiceOfM.{range_low, range_high, in_range_is, better_out, better_first, better_less, better_not}
use Rattle.rules.specs.Document01.Hertz.{ratio_of}
use Rattle.claims.specs.Rust.Run.{Outcome, panics, ends}
use Rattle.claims.specs.Rust.Pll.{key_of, min_from, min_by_key}
use Rattle.laws.proofs.Tests.{by_test}
use Rattle.claims.proofs.Agreement.Numbers.{nonzero}

-- what is found, or a panic
abbrev pub ends_with : List Entry → Option ℕ → Outcome ℕ
ends_with es None = panics
ends_with es (Some m) = ends es m

-- the better of what is found and of each of so many from one on
pub best_from : (source target low high : ℕ) → Option ℕ → (from count : ℕ) → Option ℕ
best_from source target low high f from zero = f
best_from source target low high f from (suc count) = best_from source target low high (better_of source target low high f from) (suc from) count

module _ (source target low high : ℕ) (small : target < 2_147_483_648) (lows : 1 ≤ low) where
  abbrev short : ℕ → ℕ
  short = shortfall_of source target

  abbrev In : ℕ → Type 0
  In m = in_range source low high m ≡ true

  -- ---- the key of an m in range is its shortfall
  ref_pos : (m : ℕ) → 1 ≤ m → In m → 1 ≤ source / m
  ref_pos m h i = let l : m * low ≤ source = range_low source low high m i in let p : 1 ≤ source / m = le_div h (let q : m * 1 ≤ m * low = mul-le-mul_left m lows in omega arith) in p

  key_ends : (m : ℕ) (es : List Entry) → 1 ≤ m → In m → key_of source target m es ≡ ends es (pos (short m))
  unfolding key_of shortfall_of
  key_ends m es h i =
      let r : 1 ≤ source / m = ref_pos m h i in
      let p : source / m * (target / (source / m)) ≤ target = mul-div-le target (source / m) in
      let s : ltb (source / m * (target / (source / m))) 4_294_967_296 ≡ true = lt-ltb (source / m * (target / (source / m))) 4_294_967_296 (omega arith) in
      let e : to_z w32 target -ℤ to_z w32 (source / m * (target / (source / m))) ≡ pos (target - source / m * (target / (source / m))) = to_z_sub target (source / m * (target / (source / m))) p small in
      let f : ltb (target - source / m * (target / (source / m))) 2_147_483_648 ≡ true = lt-ltb (target - source / m * (target / (source / m))) 2_147_483_648 (omega arith) in
      rw (nonzero m h, nonzero (source / m) r, s, e, f)

  -- ---- the fold of the Rust over so many m in range
  abbrev AllIn : ℕ → ℕ → Type 0
  AllIn from count = (m : ℕ) → from ≤ m → m < from + count → In m

  less : (from count : ℕ) → AllIn from (suc count) → AllIn (suc from) count
  less from count a m h k = a m (omega arith) (omega arith)

  min_from_is : (best from count : ℕ) (es : List Entry) → 1 ≤ from → AllIn from count → min_from source target best (pos (short best)) from count es ≡ ends_with es (best_from source target low high (Some best) from count)
  unfolding min_from best_from
  min_from_is best from zero es h a = refl
  min_from_is best from (suc count) es h a =
      let i : In from = a from (omega arith) (omega arith) in
      by_test (ltb (short from) (short best))
      (λ (t : ltb (short from) (short best) ≡ true). rw (key_ends from es h i, t, better_less source target low high best from i t) (min_from_is from (suc from) count es (omega arith) (less from count a)))
      (λ (f : ltb (short from) (short best) ≡ false). rw (key_ends from es h i, f, better_not source target low high best from i f) (min_from_is best (suc from) count es (omega arith) (less from count a)))

  pub min_by_is : (from count : ℕ) (es : List Entry) → 1 ≤ from → AllIn from count → min_by_key source target from count es ≡ ends_with es (best_from source target low high None from count)
  unfolding min_by_key best_from
  min_by_is from zero es h a = refl
  min_by_is from (suc count) es h a =
      let i : In from = a from (omega arith) (omega arith) in
      rw (key_ends from es h i, better_first source target low high from i) (min_from_is from (suc from) count es (omega arith) (less from count a))

  -- ---- the fold of the rules, over all from 1
  abbrev best : ℕ → Option ℕ
  best = best_to source target low high

  on : (n count : ℕ) → best_from source target low high (best n) (suc n) count ≡ best (n + count)
  unfolding best_from best_to
  on n zero = let e : n ≡ n + 0 = omega arith in ap best e
  on n (suc count) = let e : suc n + count ≡ n + suc count = omega arith in on (suc n) count ∙ ap best e

  abbrev Out : ℕ → Type 0
  Out m = in_range source low high m ≡ false

  none_below : (n : ℕ) → ((m : ℕ) → 1 ≤ m → m ≤ n → Out m) → best n ≡ None
  unfolding best_to
  none_below zero o = refl
  none_below (suc n) o = rw (none_below n (λ m h k. o m h (omega arith)), better_out source target low high None (suc n) (o (suc n) (omega arith) (omega arith)))

  best_suc : (n : ℕ) → best (suc n) ≡ better_of source target low high (best n) (suc n)
  unfolding best_to
  best_suc n = refl

  none_above : (n count : ℕ) → ((m : ℕ) → n < m → m ≤ n + count → Out m) → best (n + count) ≡ best n
  none_above n zero o = let e : n + 0 ≡ n = omega arith in ap best e
  none_above n (suc count) o =
      let e : n + suc count ≡ suc (n + count) = omega arith in
      ap best e ∙ best_suc (n + count) ∙ better_out source target low high (best (n + count)) (suc (n + count)) (o (suc (n + count)) (omega arith) (omega arith))
      ∙ none_above n count (λ m h k. o m h (omega arith))

  -- ---- which m are in range
  pub out : (m : ℕ) → (In m → ⊥) → Out m
  out m n = by_test (in_range source low high m) (λ (t : In m). absurd (n t)) (λ f. f)

  module _ (highs : 1 ≤ high) where
    -- from the ratio to the upper end, rounded up
    up : (m : ℕ) → ratio_of source high ≤ m → source ≤ m * high
    unfolding ratio_of
    up m h =
        let a : source + (high - 1) < (source + (high - 1)) / high * high + high = lt-div-mul-add highs in
        let b : (source + (high - 1)) / high * high ≤ m * high = mul-le-mul_right high h in
        omega arith

    not_up : (m : ℕ) → m < ratio_of source high → source ≤ m * high → ⊥
    unfolding ratio_of
    not_up m h k =
        let c : (source + (high - 1)) / high < m + 1 = ((div-lt_iff_lt-mul {k = high} {x = source + (high - 1)} {y = m + 1} highs).1 (let b : (m + 1) * high ≡ m * high + high = rw add-mul (omega arith) in omega arith)) in
        omega arith

    -- an m from the ratio to the upper end up to the quotient by the lower end is in range, and no other
    within_is : (m : ℕ) → ratio_of source high ≤ m → m ≤ source / low → In m
    within_is m h k = in_range_is source low high m ((le-div_iff_mul-le {k = low} {x = m} {y = source} lows).0 k) (up m h)

    below_is : (m : ℕ) → m < ratio_of source high → Out m
    below_is m h = out m (λ i. not_up m h (range_high source low high m i))

    above_is : (m : ℕ) → source / low < m → Out m
    above_is m h = out m (λ i. let q : m ≤ source / low = (le-div_iff_mul-le {k = low} {x = m} {y = source} lows).1 (range_low source low high m i) in omega arith)

    -- ---- the two searches agree
    abbrev lo : ℕ
    lo = ratio_of source high

    abbrev hi : ℕ
    hi = min (source / low) 63

    pub all_in : AllIn lo (suc hi - lo)
    all_in m h k = within_is m h (omega arith)

    -- some are in range: what the Rust searches, then the rest, in which none is
    some_in : (k : ℕ) → lo ≡ suc k → lo ≤ hi → best_from source target low high None lo (suc hi - lo) ≡ best 63
    some_in k e l =
        let p : best k ≡ None = none_below k (λ m h g. below_is m (omega arith)) in
        let c : k + (suc hi - lo) ≡ hi = omega arith in
        let d : hi + (63 - hi) ≡ 63 = omega arith in
        let a : best_from source target low high (best k) (suc k) (suc hi - lo) ≡ best (k + (suc hi - lo)) = on k (suc hi - lo) in
        let b : best (hi + (63 - hi)) ≡ best hi = none_above hi (63 - hi) (λ m h g. above_is m (omega arith)) in
        ap (λ (x : ℕ). best_from source target low high None x (suc hi - lo)) e ∙ ap (λ (f : Option ℕ). best_from source target low high f (suc k) (suc hi - lo)) (sym p) ∙ a ∙ ap best c ∙ sym b ∙ ap best d

    none_in : hi < lo → best 63 ≡ None
    none_in l = none_below 63 (λ m h g. by_test (leb lo m) (λ t. let a : lo ≤ m = leb-true lo m t in above_is m (omega arith)) (λ f. let a : m < lo = leb-false lo m f in below_is m a))

    pub same_found : (k : ℕ) → lo ≡ suc k → best_from source target low high None lo (suc hi - lo) ≡ best 63
    unfolding best_from
    same_found k e =
        by_test (leb lo hi) (λ t. some_in k e (leb-true lo hi t))
        (λ f. let l : hi < lo = leb-false lo hi f in let c : suc hi - lo ≡ 0 = omega arith in rw (c, none_in l))
