-- `fracn_cut` by the code's three tests.
use Rattle.std.specs.Prelude.{Option, Some, None, Ok, Err}
use Rattle.std.proofs.Common.{◌≡◌, ℕ, Bool, true, false, ◌&&◌, ◌^◌, ◌<◌, sym, refl, ap, ◌∙◌, subst, lit≤}
use lib.Ieee.{Float, lt, le, of_int, to_unsigned}
use lib.Ieee.Casts.{to_unsigned-lt}
use Rattle.types.specs.declared.Refusal.TheVariants.{FracnOutside}
use Rattle.ieee754.specs.Steps.{fracn_float, fracn_cut, fracn_of, accept, float}
use Rattle.rules.specs.Document01.Result.{require, ◌>>◌}
use Rattle.rules.specs.Document01.OnePll.{taken, fracn_from}
use Rattle.ieee754.proofs.Cut.{power, cut_in, lt_wider, zero8191}
use Rattle.fracn.proofs.Sides.{zero_f, top_f, above, at_least_zero, under_one, at_most_top}

both : (a b : Bool) → a ≡ true → b ≡ true → a && b ≡ true
both a b h k = ap (λ (t : Bool). t && b) h ∙ k

-- from 1 to 8191
module _ (f : Float) (h : le (power 0) f ≡ true) (k : le f top_f ≡ true) where
  pub narrow : lt f (power 24) ≡ true
  narrow = lt_wider 13 24 f (lit≤ tt) (zero8191 f (at_least_zero f h) k).1

  pub to16 : to_unsigned 32 f ≡ to_unsigned 16 f
  to16 = cut_in 16 32 f (lit≤ tt) (above 0 f h) (lt_wider 13 16 f (lit≤ tt) (zero8191 f (at_least_zero f h) k).1)

  pub accepted : (v : ℕ) → v ≡ to_unsigned 32 f → Some v ≡ fracn_cut f
  unfolding of_int
  accepted v e = ap Some (e ∙ to16) ∙ sym (ap (λ (t : Bool). accept t (to_unsigned 16 f)) (both (le zero_f f) (le f top_f) (at_least_zero f h) k))

pub refused_high : (f : Float) → le (power 0) f ≡ true → le f top_f ≡ false → None ≡ fracn_cut f
unfolding of_int
refused_high f h k = sym (ap (λ (t : Bool). accept t (to_unsigned 16 f)) (ap (λ (t : Bool). t && le f top_f) (at_least_zero f h) ∙ k))

-- from 0 to below 1
pub accepted_zero : (f : Float) → le (power 0) f ≡ false → le zero_f f ≡ true → Some 0 ≡ fracn_cut f
unfolding of_int
accepted_zero f h k = ap Some (under_one 16 f h) ∙ sym (ap (λ (t : Bool). accept t (to_unsigned 16 f)) (both (le zero_f f) (le f top_f) k (at_most_top f k h)))

pub refused_low : (f : Float) → le zero_f f ≡ false → None ≡ fracn_cut f
unfolding of_int
refused_low f h = sym (ap (λ (t : Bool). accept (t && le f top_f) (to_unsigned 16 f)) h)

-- the answer as document 01 has it: a fraction, or refusal 13
pub taken_from : (ref n divider output : Float) → taken (fracn_of ref n divider output) ≡ fracn_from ref n divider output
unfolding fracn_of fracn_from
taken_from ref n divider output = go (le (float 0) (fracn_float ref n divider output) && le (fracn_float ref n divider output) (float 8191)) (to_unsigned 16 (fracn_float ref n divider output))
  where
    go : (t : Bool) (v : ℕ) → taken (accept t v) ≡ (require t FracnOutside >> Ok (Some v))
    go true v = refl
    go false v = refl

-- so of a FRACN that is accepted, and of one that is not
pub rules_some : {v : ℕ} (ref n divider output : Float) → Some v ≡ fracn_of ref n divider output → Ok (Some v) ≡ fracn_from ref n divider output
rules_some ref n divider output e = ap taken e ∙ taken_from ref n divider output

pub rules_none : (ref n divider output : Float) → None ≡ fracn_of ref n divider output → Err FracnOutside ≡ fracn_from ref n divider output
rules_none ref n divider output e = ap taken e ∙ taken_from ref n divider output

pub short : (f : Float) (h : le (power 0) f ≡ true) (k : le f top_f ≡ true) (v : ℕ) → v ≡ to_unsigned 32 f → v < 2 ^ 16
short f h k v e = subst (λ (r : ℕ). r < 2 ^ 16) (sym (e ∙ to16 f h k)) (to_unsigned-lt 16 f)

pub ruleset accepts = (narrow, short, accepted, refused_high, accepted_zero, refused_low, rules_some, rules_none)
