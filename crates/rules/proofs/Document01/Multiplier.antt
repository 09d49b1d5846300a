-- N: from 75 to 420 with the medium VCO and from 8 to 280 with the wide one, by the ranges of target and reference. So refusal 12 fits nothing.
use Rattle.std.specs.Prelude.{Option, Some, None, Result, Ok, Err}
use mathlib.Core.Path.{◌≡◌, refl, subst}
use mathlib.Core.Logic.{◌⊎◌, inl, inr}
use mathlib.Core.Bool.{Bool, true, ◌&&◌}
use Prim.Native.Nat.{ℕ, ◌/◌, ◌≤◌}
use native.Mathlib.Omega.{arith}
use lib.Dec.{leb, ltb}
use borrow.Author.Tests.{leb-true, le-leb}
use Rattle.types.specs.declared.Refusal.{Refusal}
use Rattle.types.specs.declared.PllRequest.{PllRequest}
use Rattle.types.specs.declared.PllSettings.{PllSettings}
use Rattle.types.specs.declared.Refusal.TheVariants.{NOutside}
use Rattle.rules.specs.Document01.Result.{◌>>=◌, require}
use Rattle.rules.specs.Document01.ChoiceOfM.{chosen_m, Admissible}
use Rattle.rules.specs.Document01.OnePll.{wanted, counted_outputs, largest, Range, medium, wide, range_of, admissible, first_of, fraction_of, divider_p, allowed_p, spanned, range_for, target_for, divided_by, settled, runs, running, pll_of}
use Rattle.laws.proofs.Tests.{by_test, and_left, and_right}
use Rattle.rules.proofs.Document01.ChoiceOfM.{admits, chosen_some}
use Rattle.rules.proofs.Document01.Target.{n_between}
use Rattle.rules.proofs.Document01.Results.{Holds, holds_then, holds_next}

-- a range is medium or wide
pub range_kind : (top : ℕ) → (range_of top ≡ medium) ⊎ (range_of top ≡ wide)
range_kind top = by_test (ltb top 420_000_000) (λ t. inl (rw t)) (λ f. inr (rw f))

-- the range of N for a VCOSEL
pub record NRange (vcosel n : ℕ) : Type 0 where
  pub medium : vcosel ≡ 1 → (75 ≤ n) × (n ≤ 420)
  pub wide : vcosel ≡ 0 → (8 ≤ n) × (n ≤ 280)

-- for a target in the VCO's range, over a reference in the range that the VCO takes
pub n_range : (g : Range) → (g ≡ medium) ⊎ (g ≡ wide) → (source target m : ℕ) → Admissible source g.low g.high m → g.start ≤ target → target ≤ g.end → NRange g.vcosel (target / (source / m))
n_range g (inl e) source target m =
    rw e (λ c st en.
    let b = n_between source 1_000_000 2_000_000 m target 150_000_000 420_000_000 (omega arith) c.above (admits source 1_000_000 2_000_000 c) st en in
    record { medium = λ z. b; wide = λ z. absurd (omega arith) })
n_range g (inr e) source target m =
    rw e (λ c st en.
    let b = n_between source 2_000_000 16_000_000 m target 128_000_000 560_000_000 (omega arith) c.above (admits source 2_000_000 16_000_000 c) st en in
    record { medium = λ z. absurd (omega arith); wide = λ z. b })

-- so the test of refusal 12 holds
pub n_tested : (g : Range) → (g ≡ medium) ⊎ (g ≡ wide) → (n : ℕ) → NRange g.vcosel n → leb 4 n && leb n 512 ≡ true
n_tested g (inl e) n h = let b = (subst (λ (x : Range). NRange x.vcosel n) e h).medium refl in rw (le-leb 4 n (omega arith), le-leb n 512 (omega arith))
n_tested g (inr e) n h = let b = (subst (λ (x : Range). NRange x.vcosel n) e h).wide refl in rw (le-leb 4 n (omega arith), le-leb n 512 (omega arith))

-- ---- one PLL
abbrev pub NSettings : PllSettings → Type 0
NSettings s = NRange s.vcosel s.n

abbrev pub NPll : Option PllSettings → Type 0
NPll None = Unit {0}
NPll (Some s) = NSettings s

module _ (odd : Bool) (source : ℕ) (a : PllRequest) where
  abbrev g : Range
  g = range_for odd a

  abbrev target : ℕ
  target = target_for odd a

  -- once 10 and 11 do not fit
  pub n_known : leb g.start target && leb target g.end ≡ true → (m : ℕ) → chosen_m source target g.low g.high ≡ Some m → NRange g.vcosel (target / (source / m))
  n_known t m e =
      n_range g (range_kind (largest (counted_outputs odd a))) source target m (chosen_some source target g.low g.high m e).admissible
      (leb-true g.start target (and_left (leb g.start target) (leb target g.end) t))
      (leb-true target g.end (and_right (leb g.start target) (leb target g.end) t))

  settled_n : (m : ℕ) → NRange g.vcosel (target / (source / m)) → Holds NSettings (settled odd a g target m (source / m) (target / (source / m)))
  unfolding settled
  settled_n m h =
      holds_next NSettings (require (leb 4 (target / (source / m)) && leb (target / (source / m)) 512) NOutside) _
      (holds_then NSettings (fraction_of a.strategy (source / m) (target / (source / m)) (target / first_of a) (first_of a)) _
      (λ f. holds_next NSettings (allowed_p odd (divider_p target a.p)) _ h))

  chosen_n : leb g.start target && leb target g.end ≡ true → (f : Option ℕ) → chosen_m source target g.low g.high ≡ f → Holds NSettings (admissible f >>= λ m. settled odd a g target m (source / m) (target / (source / m)))
  chosen_n t None e = tt
  chosen_n t (Some m) e = settled_n m (n_known t m e)

  divided_n : Holds NSettings (divided_by source g target >>= λ m. settled odd a g target m (source / m) (target / (source / m)))
  unfolding divided_by
  divided_n =
      by_test (leb g.start target && leb target g.end)
      (λ t. rw t (chosen_n t (chosen_m source target g.low g.high) refl))
      (λ f. rw f tt)

  runs_n : Holds NSettings (runs odd source a)
  unfolding runs
  runs_n = holds_next NSettings (spanned odd a) _ divided_n

running_n : (x : Result PllSettings Refusal) → Holds NSettings x → Holds NPll (running x)
running_n (Err n) h = tt
running_n (Ok s) h = h

pub pll_n : (odd : Bool) (source : ℕ) (a : PllRequest) → Holds NPll (pll_of odd source a)
unfolding pll_of
pll_n odd source a = by_test (wanted a) (λ w. rw w (running_n (runs odd source a) (runs_n odd source a))) (λ w. rw w tt)
