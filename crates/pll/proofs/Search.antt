-- Laws of the search for M: no M before the first or after the last is in range, and the best so far as two numbers.
use Rattle.std.specs.Prelude.{Option, Some, None}
use mathlib.Core.Path.{◌≡◌, refl, sym, ap, ◌∙◌}
use mathlib.Core.Bool.{Bool, true, false, ◌&&◌}
use mathlib.Core.Logic.{◌⊎◌, inl, inr}
use Prim.Native.Nat.{ℕ, zero, suc, ◌+◌, ◌-◌, ◌*◌, ◌/◌, ◌≤◌, ◌<◌, min}
use native.Mathlib.Omega.{arith}
use native.Mathlib.Nat.{le_trans, mul-le-mul_left, mul_comm, mul-le-mul_right, div-mul-le_self, div-lt_iff_lt-mul, le-div_iff_mul-le}
use lib.Dec.{leb}
use lib.IntN.{ℤ, pos}
use lib.Signed.{lt_z}
use borrow.Author.Tests.{lt-leb, leb-true, leb-false, ltb-false}
use Rattle.laws.proofs.Tests.{by_test}
use Rattle.laws.proofs.Numbers.{div_pos, div_le, above}
use Rattle.rules.specs.Document01.ChoiceOfM.{in_range, shortfall_of, best_to, chosen_m}
use Rattle.rules.proofs.Document01.ChoiceOfM.{range_le, range_high, in_range_is, better_out, better_first, better_less, better_not, best_none, best_more}
use Rattle.pll.specs.Search.{low_of, high_of, Divides}

-- ---- which M are in range
pub low_pos : (t : Bool) → 1 ≤ low_of t
low_pos true = omega arith
low_pos false = omega arith

pub high_pos : (t : Bool) → 1 ≤ high_of t
high_pos true = omega arith
high_pos false = omega arith

pub high_most : (t : Bool) → high_of t ≤ 16_000_000
high_most true = omega arith
high_most false = omega arith

and_none : (a b : Bool) → b ≡ false → a && b ≡ false
and_none true b h = h
and_none false b h = refl

module _ (source low high : ℕ) where
  pub out_low : (k : ℕ) → source < k * low → in_range source low high k ≡ false
  unfolding in_range
  out_low k h = simp (lt-leb _ _ h)

  pub out_high : (k : ℕ) → k * high < source → in_range source low high k ≡ false
  unfolding in_range
  out_high k h = and_none (leb (k * low) source) (leb source (k * high)) (lt-leb _ _ h)

  -- below the first M, (source − 1) / high + 1, and above source / low
  pub before_first : 1 ≤ source → (k : ℕ) → k ≤ (source - 1) / high → in_range source low high k ≡ false
  before_first h k l = out_high k (let p : k * high ≤ (source - 1) / high * high = mul-le-mul_right high l in let q = div-mul-le_self (source - 1) high in omega arith)

  pub after_last : 1 ≤ low → (k : ℕ) → source / low < k → in_range source low high k ≡ false
  after_last h k l = out_low k ((div-lt_iff_lt-mul {k = low} {x = source} {y = k} h).0 l)

  -- where the last is before the first, none is
  pub all_out : 1 ≤ source → 1 ≤ low → min (source / low) 63 < (source - 1) / high + 1 → (k : ℕ) → k ≤ 63 → in_range source low high k ≡ false
  all_out s l h k t =
      by_test (leb k ((source - 1) / high))
      (λ b. before_first s k (leb-true k _ b))
      (λ b. after_last l k (let g = leb-false k _ b in omega arith))

  -- from the first to the last they are
  pub between : 1 ≤ source → 1 ≤ low → 1 ≤ high → (k : ℕ) → (source - 1) / high < k → k ≤ source / low → in_range source low high k ≡ true
  between s l h k f t =
      in_range_is source low high k ((le-div_iff_mul-le {k = low} {x = k} {y = source} l).0 t) (let p : source - 1 < k * high = (div-lt_iff_lt-mul {k = high} {x = source - 1} {y = k} h).0 f in omega arith)

module _ (source target low high : ℕ) where
  abbrev best : ℕ → Option ℕ
  best = best_to source target low high

  -- M that are out of range change nothing
  pub best_same : (a b : ℕ) → a ≤ b → ((k : ℕ) → a < k → k ≤ b → in_range source low high k ≡ false) → best b ≡ best a
  unfolding best_to
  best_same a zero h out = ap best (let e : zero ≡ a = omega arith in e)
  best_same a (suc b) h out =
      by_test (leb a b)
      (λ t. better_out source target low high (best b) (suc b) (out (suc b) (let l = leb-true a b t in omega arith) (omega arith)) ∙ best_same a b (leb-true a b t) (λ k l m. out k l (omega arith)))
      (λ f. ap best (let l = leb-false a b f in let e : suc b ≡ a = omega arith in e))

-- ---- the best so far as two numbers: M and its shortfall, and before the first M a number above every shortfall
module _ (source target low high : ℕ) where
  abbrev short : ℕ → ℕ
  short = shortfall_of source target

  abbrev pub Held : Option ℕ → (best : ℕ) (least : ℤ) → Type 0
  Held f best least = (f ≡ Some best) × (least ≡ pos (short best))

  abbrev pub Kept : Option ℕ → (best : ℕ) (least : ℤ) → Type 0
  Kept f best least = ((f ≡ None) × (least ≡ pos 2_147_483_647)) ⊎ Held f best least

  pub moved : {f : Option ℕ} {k b : ℕ} {l n : ℤ} → b ≡ k → n ≡ l → Held f k l → Held f b n
  moved e g h = (h.0 ∙ ap Some (sym e), g ∙ h.1 ∙ ap (λ (x : ℕ). pos (short x)) (sym e))

  -- below the first M that is in range nothing is held
  pub none_held : (m : ℕ) → 1 ≤ m → ((k : ℕ) → k < m → in_range source low high k ≡ false) → best_to source target low high (m - 1) ≡ None
  none_held m o out = best_same source target low high 0 (m - 1) (omega arith) (λ k l h. out k (omega arith)) ∙ best_none source target low high

  -- a shortfall is below the reference
  pub short_below : (m : ℕ) → Divides source m → short m < 2_147_483_647
  unfolding shortfall_of
  short_below m d =
      let o : 0 < source / m = div_pos d.above d.from_low in
      let a : target < target / (source / m) * (source / m) + source / m = above target (source / m) o in
      let e : source / m * (target / (source / m)) ≡ target / (source / m) * (source / m) = mul_comm (source / m) (target / (source / m)) in
      let q : source / m ≤ 16_000_000 = div_le m d.to_high in
      omega arith

  -- an M that falls short by less than what is kept is held in its place, and no other is
  module _ (k m : ℕ) (l r : ℤ) (d : Divides source m) (in_it : in_range source low high m ≡ true) (is : r ≡ pos (short m)) where
    pub less_held : Kept (best_to source target low high (m - 1)) k l → lt_z r l ≡ true → Held (best_to source target low high (m + 1 - 1)) m r
    less_held (inl h) e = (rw (best_more source target low high m d.above, h.0) (better_first source target low high m in_it), is)
    less_held (inr h) e = (rw (best_more source target low high m d.above, h.0) (better_less source target low high k m in_it (rw (is, h.1) at e)), is)

    pub still_held : Kept (best_to source target low high (m - 1)) k l → lt_z r l ≡ false → Held (best_to source target low high (m + 1 - 1)) k l
    still_held (inl h) e = absurd (let b = short_below m d in let n = ltb-false (short m) 2_147_483_647 (rw (is, h.1) at e) in omega arith)
    still_held (inr h) e = (rw (best_more source target low high m d.above, h.0) (better_not source target low high k m in_it (rw (is, h.1) at e)), h.1)

-- ---- the loop from the first M to the last
module _ (medium : Bool) (source m last : ℕ) (o : 1 ≤ source) (f : (source - 1) / high_of medium < m) (e : last ≡ min (source / low_of medium) 63) (t : m ≤ last) where
  -- an M from the first to the last is in range
  inside : in_range source (low_of medium) (high_of medium) m ≡ true
  inside = between source (low_of medium) (high_of medium) o (low_pos medium) (high_pos medium) m f (omega arith)

  -- and so is each that the loop reaches: it can divide the source
  divides : Divides source m
  divides = record {
    above = omega arith;
    within = omega arith;
    from_low = range_le _ _ _ (low_pos medium) _ inside;
    to_high = le_trans (range_high _ (low_of medium) _ _ inside) (mul-le-mul_left m (high_most medium));
  }

  -- the best of those up to m is held after a turn
  pub held : (target k b : ℕ) (l r n : ℤ) → Kept source target (low_of medium) (high_of medium) (best_to source target (low_of medium) (high_of medium) (m - 1)) k l
      → r ≡ pos (shortfall_of source target m)
      → ((lt_z r l ≡ true) × (b ≡ m) × (n ≡ r)) ⊎ ((lt_z r l ≡ false) × (b ≡ k) × (n ≡ l))
      → Held source target (low_of medium) (high_of medium) (best_to source target (low_of medium) (high_of medium) (m + 1 - 1)) b n
  held target k b l r n i s (inl h) = moved source target (low_of medium) (high_of medium) h.1 h.2 (less_held source target (low_of medium) (high_of medium) k m l r divides inside s i h.0)
  held target k b l r n i s (inr h) = moved source target (low_of medium) (high_of medium) h.1 h.2 (still_held source target (low_of medium) (high_of medium) k m l r divides inside s i h.0)

-- no M is in range where the last is before the first
pub none_found :
    (source target first last : ℕ) (medium : Bool) → 1 ≤ source → first ≡ (source - 1) / high_of medium + 1 → last ≡ min (source / low_of medium) 63 → last < first →
    None ≡ chosen_m source target (low_of medium) (high_of medium)
unfolding chosen_m
none_found source target first last medium o f l h =
    sym (best_same _ _ _ _ 0 63 (omega arith) (λ k b t. all_out _ _ _ o (low_pos medium) (omega arith) k t) ∙ best_none _ _ _ _)

-- what is held after the last is the best of all
pub all_held :
    (source target last m : ℕ) (medium : Bool) {r : Option ℕ} → 1 ≤ source → last ≡ min (source / low_of medium) 63 → m ≡ last →
    best_to source target (low_of medium) (high_of medium) m ≡ r → r ≡ chosen_m source target (low_of medium) (high_of medium)
unfolding chosen_m
all_held source target last m medium o l h e =
    sym (best_same _ _ _ _ m 63 (omega arith) (λ j g t. after_last _ _ _ (low_pos medium) j (omega arith)) ∙ e)
