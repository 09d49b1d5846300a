-- Laws of the choice of M: what the fold's steps give, that what it holds is in range, and that it is the smallest M with the least shortfall.
use Rattle.std.specs.Prelude.{Option, Some, None}
use mathlib.Core.Path.{◌≡◌, refl, ap, subst}
use Prim.Native.Nat.{ℕ, zero, suc, ◌+◌, ◌-◌, ◌*◌, ◌≤◌, ◌<◌}
use mathlib.Core.Bool.{Bool, true, false}
use mathlib.Core.Logic.{◌⊎◌, inl, inr, ⊎_elim}
use native.Mathlib.Omega.{arith}
use native.Mathlib.Nat.{le_trans, le-mul_of_pos_right}
use lib.Dec.{ltb, leb}
use borrow.Author.Tests.{ltb-true, ltb-false, leb-true, leb-false, le-leb}
use Rattle.laws.proofs.Tests.{tested, and_left, and_right}
use Rattle.rules.specs.Document01.ChoiceOfM.{in_range, shortfall_of, better_of, best_to, chosen_m, Admissible, Chosen}

module _ (source low high : ℕ) where
  pub range_low : (m : ℕ) → in_range source low high m ≡ true → m * low ≤ source
  unfolding in_range
  range_low m h = leb-true _ _ (and_left _ _ h)

  pub range_high : (m : ℕ) → in_range source low high m ≡ true → source ≤ m * high
  unfolding in_range
  range_high m h = leb-true _ _ (and_right (leb (m * low) source) _ h)

  pub in_range_is : (m : ℕ) → m * low ≤ source → source ≤ m * high → in_range source low high m ≡ true
  unfolding in_range
  in_range_is m h k = simp (le-leb _ _ h, le-leb _ _ k)

  pub range_le : 1 ≤ low → (m : ℕ) → in_range source low high m ≡ true → m ≤ source
  range_le l m h = le_trans (le-mul_of_pos_right m l) (range_low m h)

  pub admits : {m : ℕ} → Admissible source low high m → in_range source low high m ≡ true
  admits {m} a = in_range_is m a.from_low a.to_high

  pub admitted : {m : ℕ} → 1 ≤ m → m ≤ 63 → in_range source low high m ≡ true → Admissible source low high m
  admitted {m} h k r = record { above = h; within = k; from_low = range_low m r; to_high = range_high m r }

module _ (source target low high : ℕ) where
  -- ---- the steps
  pub better_out : (f : Option ℕ) (m : ℕ) → in_range source low high m ≡ false → better_of source target low high f m ≡ f
  unfolding better_of
  better_out None m h = simp h
  better_out (Some k) m h = simp h

  pub better_first : (m : ℕ) → in_range source low high m ≡ true → better_of source target low high None m ≡ Some m
  unfolding better_of
  better_first m h = simp h

  pub better_less : (k m : ℕ) → in_range source low high m ≡ true → ltb (shortfall_of source target m) (shortfall_of source target k) ≡ true → better_of source target low high (Some k) m ≡ Some m
  unfolding better_of
  better_less k m h l = simp (h, l)

  pub better_not : (k m : ℕ) → in_range source low high m ≡ true → ltb (shortfall_of source target m) (shortfall_of source target k) ≡ false → better_of source target low high (Some k) m ≡ Some k
  unfolding better_of
  better_not k m h l = simp (h, l)

  abbrev best : ℕ → Option ℕ
  best = best_to source target low high

  abbrev short : ℕ → ℕ
  short = shortfall_of source target

  pub best_none : best 0 ≡ None
  unfolding best_to
  best_none = refl

  pub best_more : (m : ℕ) → 1 ≤ m → best (m + 1 - 1) ≡ better_of source target low high (best (m - 1)) m
  unfolding best_to
  best_more zero h = absurd (omega arith)
  best_more (suc n) h = let p : suc n + 1 - 1 ≡ suc n = omega arith in let q : suc n - 1 ≡ n = omega arith in rw (p, q)

  -- ---- the best of 1 to n: of those in range it is the one with the least shortfall, and the first of these; nothing where none is in range
  abbrev In : ℕ → ℕ → Type 0
  In n k = (1 ≤ k) × (k ≤ n) × (in_range source low high k ≡ true)

  abbrev Beats : ℕ → ℕ → Type 0
  Beats m k = (short m ≤ short k) × (k < m → short m < short k)

  abbrev Best : ℕ → Option ℕ → Type 0
  Best n None = (k : ℕ) → In n k → ⊥
  Best n (Some m) = In n m × ((k : ℕ) → In n k → Beats m k)

  -- a k of 1 to n + 1 is one of 1 to n, or n + 1
  last : (n k : ℕ) → In (suc n) k → In n k ⊎ (k ≡ suc n)
  last n k i = ⊎_elim (λ h. inl (i.0, leb-true k n h, i.2)) (λ h. inr (let l = leb-false k n h in omega arith)) (tested (leb k n))

  beats_self : (m k : ℕ) → k ≡ m → Beats m k
  beats_self m k e = let p : short k ≡ short m = ap short e in (omega arith, λ l. omega arith)

  -- n + 1 is not in range, so it is none of those in range
  never : (n k : ℕ) → In (suc n) k → in_range source low high (suc n) ≡ false → k ≡ suc n → ⊥
  never n k i h e = let z : ◌≡◌ {A = ℕ} 0 1 = cc i.2 in omega arith

  step_none : (n : ℕ) → Best n None → (t : Bool) → in_range source low high (suc n) ≡ t → Best (suc n) (better_of source target low high None (suc n))
  step_none n b true h =
      rw (better_first (suc n) h) ((omega arith, omega arith, h), λ k i. ⊎_elim (λ j. absurd (b k j)) (λ e. beats_self (suc n) k e) (last n k i))
  step_none n b false h =
      rw (better_out None (suc n) h) (λ k i. ⊎_elim (λ j. b k j) (λ e. never n k i h e) (last n k i))

  step_some : (n m : ℕ) → Best n (Some m) → (t : Bool) → in_range source low high (suc n) ≡ t → (l : Bool) → ltb (short (suc n)) (short m) ≡ l → Best (suc n) (better_of source target low high (Some m) (suc n))
  step_some n m b false h l g =
      rw (better_out (Some m) (suc n) h) ((b.0.0, omega arith, b.0.2), λ k i. ⊎_elim (λ j. b.1 k j) (λ e. absurd (never n k i h e)) (last n k i))
  step_some n m b true h true g =
      let less : short (suc n) < short m = ltb-true _ _ g in
      rw (better_less m (suc n) h g) ((omega arith, omega arith, h), λ k i. ⊎_elim (λ j. let o : short m ≤ short k = (b.1 k j).0 in (omega arith, λ _. omega arith)) (λ e. beats_self (suc n) k e) (last n k i))
  step_some n m b true h false g =
      let not-less : short m ≤ short (suc n) = ltb-false _ _ g in
      rw (better_not m (suc n) h g) ((b.0.0, omega arith, b.0.2), λ k i. ⊎_elim (λ j. b.1 k j) (λ e. let p : short k ≡ short (suc n) = ap short e in let le : m ≤ n = b.0.1 in (omega arith, λ o. absurd (omega arith))) (last n k i))

  step : (n : ℕ) (f : Option ℕ) → Best n f → Best (suc n) (better_of source target low high f (suc n))
  step n None b = step_none n b (in_range source low high (suc n)) refl
  step n (Some m) b = step_some n m b (in_range source low high (suc n)) refl (ltb (short (suc n)) (short m)) refl

  pub best_is : (n : ℕ) → Best n (best n)
  unfolding best_to
  best_is zero = λ k i. let h : 1 ≤ k = i.0 in let g : k ≤ 0 = i.1 in omega arith
  best_is (suc n) = step n (best n) (best_is n)

  -- ---- what the choice means
  abbrev chosen : Option ℕ
  chosen = chosen_m source target low high

  chosen_best : Best 63 chosen
  unfolding chosen_m
  chosen_best = best_is 63

  among : {k : ℕ} → Admissible source low high k → In 63 k
  among a = (a.above, a.within, admits source low high a)

  -- nothing is chosen only where no M can be
  pub chosen_nothing : chosen ≡ None → (k : ℕ) → Admissible source low high k → ⊥
  chosen_nothing e k a = subst (λ (f : Option ℕ). Best 63 f) e chosen_best k (among a)

  -- what is chosen is the choice
  pub chosen_some : (m : ℕ) → chosen ≡ Some m → Chosen source target low high m
  chosen_some m e =
      let b : Best 63 (Some m) = subst (λ (f : Option ℕ). Best 63 f) e chosen_best in
      record {
        admissible = admitted source low high b.0.0 b.0.1 b.0.2;
        least = λ k a. (b.1 k (among a)).0;
        first = λ k a l. (b.1 k (among a)).1 l;
      }

  -- there is at most one choice
  pub chosen_unique : (m k : ℕ) → Chosen source target low high m → Chosen source target low high k → m ≡ k
  chosen_unique m k c d =
      let p : short m ≤ short k = c.least k d.admissible in
      let q : short k ≤ short m = d.least m c.admissible in
      ⊎_elim (λ h. absurd (let l : short k < short m = d.first m c.admissible (ltb-true _ _ h) in omega arith))
      (λ h. ⊎_elim (λ g. absurd (let l : short m < short k = c.first k d.admissible (ltb-true _ _ g) in omega arith)) (λ g. let a = ltb-false m k h in let b = ltb-false k m g in omega arith) (tested (ltb k m)))
      (tested (ltb m k))

  found : (m : ℕ) → Chosen source target low high m → (f : Option ℕ) → chosen ≡ f → f ≡ Some m
  found m c None e = absurd (chosen_nothing e m c.admissible)
  found m c (Some k) e = ap Some (chosen_unique k m (chosen_some k e) c)

  -- the choice is what is chosen, and where no M can be, nothing is
  pub chosen_is : (m : ℕ) → Chosen source target low high m → chosen ≡ Some m
  chosen_is m c = found m c chosen refl

  none : ((k : ℕ) → Admissible source low high k → ⊥) → (f : Option ℕ) → chosen ≡ f → f ≡ None
  none h None e = refl
  none h (Some k) e = absurd (h k (chosen_some k e).admissible)

  pub nothing_is : ((k : ℕ) → Admissible source low high k → ⊥) → chosen ≡ None
  nothing_is h = none h chosen refl
