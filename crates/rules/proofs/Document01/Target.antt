-- Laws of the VCO's target: it is at most the range's end, every output from min to max has a divider from 1 to 128, and N lies in its range.
use mathlib.Core.Path.{◌≡◌, subst}
use Prim.Native.Nat.{ℕ, ◌+◌, ◌*◌, ◌/◌, ◌≤◌, ◌<◌}
use mathlib.Core.Bool.{true}
use mathlib.Core.Logic.{◌⊎◌, inl, inr, ⊎_elim}
use native.Mathlib.Omega.{arith}
use native.Mathlib.Nat.{le_trans, le_of_lt, mul-le-mul_left, mul-le-mul_right, div-lt_iff_lt-mul, mul-div-le, div-le_self}
use lib.Dec.{ltb, leb}
use borrow.Author.Tests.{ltb-true, ltb-false, leb-true, leb-false, lt-ltb, le-ltb}
use Rattle.rules.specs.Document01.ChoiceOfM.{in_range}
use Rattle.rules.specs.Document01.Target.{ceil128, top_of, target_of}
use Rattle.laws.proofs.Numbers.{div_pos, div_anti, div_swap, div_between, le_div, div_le}
use Rattle.rules.proofs.Document01.ChoiceOfM.{range_low, range_high}
use Rattle.laws.proofs.Tests.{tested}

module _ (max end : ℕ) where
  pub top_le : top_of max end ≤ end
  unfolding top_of
  top_le = mul-div-le end max

  pub top_above : 1 ≤ max → max ≤ end → max ≤ top_of max end
  unfolding top_of
  top_above h k = let p : 1 ≤ end / max = div_pos h k in subst (λ (x : ℕ). x ≤ max * (end / max)) (omega arith) (mul-le-mul_left max p)

module _ (min max end : ℕ) where
  abbrev top : ℕ
  top = top_of max end

  abbrev target : ℕ
  target = target_of min max end

  -- the two cases
  pub target_whole : top / min ≤ 128 → target ≡ top
  unfolding target_of
  target_whole h = simp (le-ltb _ _ h)

  pub target_cut : 128 < top / min → target ≡ top / ceil128 (top / min)
  unfolding target_of
  target_cut h = simp (lt-ltb _ _ h)

  abbrev Whole : Type 0
  Whole = (top / min ≤ 128) × (target ≡ top)

  abbrev Cut : Type 0
  Cut = (128 < top / min) × (target ≡ top / ceil128 (top / min))

  target_cases : Whole ⊎ Cut
  target_cases = ⊎_elim (λ h. let l = ltb-true _ _ h in inr (l, target_cut l)) (λ h. let l = ltb-false _ _ h in inl (l, target_whole l)) (tested (ltb 128 (top / min)))

  pub target_le : target ≤ end
  target_le =
      ⊎_elim (λ (w : Whole). let t = top_le max end in omega arith)
      (λ (w : Cut). let t = top_le max end in let d = div-le_self top (ceil128 (top / min)) in omega arith) target_cases

  -- an output from min up is divided by at most 128
  pub divider_le : 1 ≤ min → (o : ℕ) → min ≤ o → target / o ≤ 128
  divider_le h o k =
      le_trans (div_anti target h k)
      (⊎_elim (λ (w : Whole). rw w.1 w.0)
      (λ (w : Cut). rw (w.1, div_swap top (ceil128 (top / min)) min) (div_le (ceil128 (top / min)) (omega arith))) target_cases)

  -- Where max is more than 128,000,000, max goes into end at most four times, and min is so large that the top is at most 128 * 4 times min and less than min more:
  -- so the target, cut as it is, is max or more. Where max is at most 128,000,000 the target, which is not below that, is max or more.
  cut_above : 1 ≤ min → end ≤ 560_000_000 → max / 128 ≤ min → 128_000_000 < max → 128 < top / min → max ≤ top / ceil128 (top / min)
  unfolding top_of
  cut_above a d e large over =
      let k : ℕ = end / max in
      let fits : max * k ≤ end = mul-div-le end max in
      let four : k ≤ 4 = ⊎_elim (λ h. leb-true k 4 h) (λ h. absurd (let five : 5 ≤ k = leb-false k 4 h in let p : max * 5 ≤ max * k = mul-le-mul_left max five in omega arith)) (tested (leb k 4)) in
      let near : max ≤ 128 * min + 127 = omega arith in
      let p : max * k ≤ (128 * min + 127) * k = mul-le-mul_right k near in
      let below : max * k < (128 * k + 1) * min = omega arith in
      let q : max * k / min < 128 * k + 1 = (div-lt_iff_lt-mul {k = min} {x = max * k} {y = 128 * k + 1} a).1 below in
      let f : ceil128 (max * k / min) ≤ k = omega arith in
      le_div (omega arith) (mul-le-mul_left max f)

  pub target_above : 1 ≤ min → min ≤ max → max < end → end ≤ 560_000_000 → max / 128 ≤ min → 128_000_000 ≤ target → max ≤ target
  target_above a b c d e f =
      ⊎_elim (λ (w : Whole). rw w.1 (top_above max end (le_trans a b) (le_of_lt c)))
      (λ (w : Cut). ⊎_elim (λ h. le_trans (leb-true max 128_000_000 h) f) (λ h. rw w.1 (cut_above a d e (leb-false max 128_000_000 h) w.0)) (tested (leb max 128_000_000))) target_cases

  -- an output up to max is divided by at least 1
  pub divider_pos : 1 ≤ min → min ≤ max → max < end → end ≤ 560_000_000 → max / 128 ≤ min → 128_000_000 ≤ target → (o : ℕ) → 1 ≤ o → o ≤ max → 1 ≤ target / o
  divider_pos a b c d e f o g h = div_pos g (le_trans h (target_above a b c d e f))

-- ---- the reference and N
module _ (source low high m : ℕ) (above : 1 ≤ m) (r : in_range source low high m ≡ true) where
  pub ref_low : low ≤ source / m
  ref_low = let p : m * low ≤ source = range_low source low high m r in le_div above (omega arith)

  pub ref_high : source / m ≤ high
  ref_high = div_le m (range_high source low high m r)

-- N of a target in a range of outputs: between the quotients at the ends
pub n_between : (source low high m t a b : ℕ) → 1 ≤ low → 1 ≤ m → in_range source low high m ≡ true → a ≤ t → t ≤ b → (a / high ≤ t / (source / m)) × (t / (source / m) ≤ b / low)
n_between source low high m t a b l h r p q = div_between l (ref_low source low high m h r) (ref_high source low high m h r) p q
