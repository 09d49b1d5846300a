-- One PLL: its steps say what rows 7 to 15 say, and come to what the rows' own quantities make.
use Rattle.std.specs.Prelude.{Option, Some, None, Result, Ok, Err, unwrap_or, is_some}
use mathlib.Core.Path.{◌≡◌, refl}
use mathlib.Core.Bool.{Bool, true, false, not, cond, ◌&&◌, ◌||◌}
use mathlib.Core.List.{List, [], ◌∷◌}
use Prim.Native.Nat.{ℕ, zero, suc, ◌/◌, ◌%◌, ◌*◌}
use native.Mathlib.Omega.{arith}
use lib.Dec.{leb, ltb, eqb}
use lib.Ieee.{Float, le, to_unsigned}
use borrow.Author.Tests.{leb-true, leb-false, ltb-true, ltb-false, lt-ltb, le-ltb, le-leb, lt-leb, eqb-true, eqb-false, eq-eqb}
use Rattle.types.specs.declared.Refusal.{Refusal}
use Rattle.laws.proofs.Tests.{by_test, either, or_false, never}
use Rattle.types.specs.declared.Strategy.{Strategy}
use Rattle.types.specs.declared.Strategy.TheVariants.{Integer, Fractional}
use Rattle.types.specs.declared.PllRequest.{PllRequest}
use Rattle.types.specs.declared.PllSettings.{PllSettings}
use Rattle.types.specs.declared.Refusal.TheVariants.{OutputZero, OutputsTooFarApart, OutputTooHigh, TargetOutside, NOutside, PDividerAbove128, PDividerOdd}
use Rattle.ieee754.specs.Steps.{float, fracn_float, accept, fracn_of, vco_of}
use Rattle.rules.specs.Document01.Hertz.{not_zero}
use Rattle.rules.specs.Document01.ChoiceOfM.{in_range, shortfall_of, better_of, best_to, chosen_m}
use Rattle.rules.specs.Document01.OnePll as Chain
use Rattle.rules.specs.Document01.OnePll.{wanted, none_zero, vco_by, output_of, clock_of, admissible, first_of, taken, fraction_of, allowed_p, spanned, divided_by, settings_of, settled, runs, running, pll_of, p_clock, q_clock}
use Rattle.rules.specs.Document01.Mco.{planned}
use Rattle.claims.specs.Demands.Rows.{Row, ◌when◌, first_that}
use Rattle.claims.specs.Demands.Quantities.{any, is_zero, any_to, number_m, is_fractional, min, max, range, target, m, ref, n, fracn, vco, clock_at}
use Rattle.claims.specs.Demands.Refused.{pll_rows}
use Rattle.claims.proofs.Refused.Says.{told, said_by, Says, says_then, says_next, says_ok, says_test, says_tested}

-- ---- tests turned round
pub le_turned : (a b : ℕ) → leb a b ≡ not (ltb b a)
le_turned a b =
    by_test (leb a b)
    (λ (t : leb a b ≡ true). rw (t, le-ltb b a (leb-true a b t)))
    (λ (f : leb a b ≡ false). rw (f, lt-ltb b a (leb-false a b f)))

pub lt_turned : (a b : ℕ) → ltb a b ≡ not (leb b a)
lt_turned a b =
    by_test (ltb a b)
    (λ (t : ltb a b ≡ true). rw (t, lt-leb b a (ltb-true a b t)))
    (λ (f : ltb a b ≡ false). rw (f, le-leb b a (ltb-false a b f)))

pub twice : (a : Bool) → a ≡ not (not a)
twice true = refl
twice false = refl

-- two numbers on either side of another
pub between_turned : (a b c : ℕ) → leb a b && leb b c ≡ not (ltb b a || ltb c b)
between_turned a b c = rw (le_turned a b, le_turned b c) (go (ltb b a) (ltb c b))
  where
    go : (x y : Bool) → not x && not y ≡ not (x || y)
    go true y = refl
    go false y = refl

pub zero_turned : (h : Option ℕ) → not_zero h ≡ not (is_zero h)
zero_turned None = refl
zero_turned (Some h) = refl

-- ---- 7
zeros_turned : (p q r : Option ℕ) → not_zero p && (not_zero q && not_zero r) ≡ not (any is_zero (p ∷ q ∷ r ∷ []))
zeros_turned p q r = rw (zero_turned p, zero_turned q, zero_turned r) (go (is_zero p) (is_zero q) (is_zero r))
  where
    go : (x y z : Bool) → not x && (not y && not z) ≡ not (x || (y || (z || false)))
    go true y z = refl
    go false true z = refl
    go false false true = refl
    go false false false = refl

-- ---- 11
abbrev is_none : Option ℕ → Bool
is_none None = true
is_none (Some m) = false

module _ (source target low high : ℕ) where
  better_none : (f : Option ℕ) (k : ℕ) → is_none (better_of source target low high f k) ≡ is_none f && not (in_range source low high k)
  unfolding better_of
  better_none None k = by_test (in_range source low high k) (λ t. rw t) (λ t. rw t)
  better_none (Some j) k = either (λ (f : Option ℕ). is_none f ≡ false) (in_range source low high k && ltb (shortfall_of source target k) (shortfall_of source target j)) (Some k) (Some j) refl refl

  best_none : (k : ℕ) → is_none (best_to source target low high k) ≡ not (any_to (in_range source low high) k)
  unfolding best_to any_to
  best_none zero = refl
  best_none (suc k) = rw (better_none (best_to source target low high k) (suc k), best_none k) (go (any_to (in_range source low high) k) (in_range source low high (suc k)))
    where
      go : (x y : Bool) → not x && not y ≡ not (x || y)
      go true y = refl
      go false y = refl

  chosen_none : is_none (chosen_m source target low high) ≡ not (any_to (in_range source low high) 63)
  unfolding chosen_m
  chosen_none = best_none 63

  says_found : (f : Option ℕ) → Says (admissible f) (number_m f) ((11 when is_none f) ∷ [])
  says_found None = record { same = refl }
  says_found (Some k) = record { same = refl }

  says_m : Says (admissible (chosen_m source target low high)) (number_m (chosen_m source target low high)) ((11 when not (any_to (in_range source low high) 63)) ∷ [])
  says_m = rw (← chosen_none) (says_found (chosen_m source target low high))

-- ---- 13
-- by the strategy, whether or not it is in range
abbrev pub fraction_by : Strategy → Float → Option ℕ
fraction_by Integer f = None
fraction_by Fractional f = Some (to_unsigned 16 f)

says_accepted : (t : Bool) (v : ℕ) → Says (taken (accept t v)) (Some v) ((13 when not t) ∷ [])
says_accepted true v = record { same = refl }
says_accepted false v = record { same = refl }

says_fraction : (s : Strategy) (r k d o : ℕ) → let f : Float = fracn_float (float r) (float k) (float d) (float o) in
    Says (fraction_of s r k d o) (fraction_by s f) ((13 when (is_fractional s && not (le (float 0) f && le f (float 8191)))) ∷ [])
unfolding fracn_of
says_fraction Integer r k d o = record { same = refl }
says_fraction Fractional r k d o =
    let f : Float = fracn_float (float r) (float k) (float d) (float o) in
    says_accepted (le (float 0) f && le f (float 8191)) (to_unsigned 16 f)

-- ---- 14 and 15
parity : (d : ℕ) → eqb (d % 2) 0 ≡ not (eqb (d % 2) 1)
parity d =
    by_test (eqb (d % 2) 0)
    (λ (t : eqb (d % 2) 0 ≡ true). let e = eqb-true (d % 2) 0 t in rw (t, e))
    (λ (f : eqb (d % 2) 0 ≡ false). let e = eqb-false (d % 2) 0 f in rw (f, eq-eqb (d % 2) 1 (omega arith)))

odd_turned : (odd x : Bool) → odd || not x ≡ not (not odd && x)
odd_turned true x = refl
odd_turned false x = refl

says_p : (odd : Bool) (t : ℕ) (p : Option ℕ) → Says (allowed_p odd (Chain.divider_p t p)) tt ((14 when (is_some p && ltb 128 (t / unwrap_or p 0))) ∷ (15 when (is_some p && not odd && eqb (t / unwrap_or p 0 % 2) 1)) ∷ [])
says_p true t None = record { same = refl }
says_p false t None = record { same = refl }
says_p odd t (Some h) =
    says_tested (leb (t / h) 128) PDividerAbove128 (ltb 128 (t / h)) (le_turned (t / h) 128)
    (says_test (odd || eqb (t / h % 2) 0) PDividerOdd (not odd && eqb (t / h % 2) 1) (rw (parity (t / h)) (odd_turned odd (eqb (t / h % 2) 1))))

-- ---- the steps
says_running : (x : Result PllSettings Refusal) (v : PllSettings) (r : List Row) → Says x v r → Says (running x) (Some v) r
says_running x v r h = record { same = go x (first_that r) h.same }
  where
    go : (x : Result PllSettings Refusal) (o : Option ℕ) → told x ≡ said_by o v → told (running x) ≡ said_by o (Some v)
    go (Err k) None e = cc
    go (Err k) (Some j) e = cc
    go (Ok s) None e = cc
    go (Ok s) (Some j) e = cc

module _ (odd : Bool) (source : ℕ) (a : PllRequest) where
  -- the settings of the rows' quantities
  abbrev pub settings_for : PllSettings
  settings_for = settings_of a (range odd source a) (target odd source a) (m odd source a) (ref odd source a) (n odd source a) (fraction_by a.strategy (fracn odd source a))

  says_runs : Says (runs odd source a) settings_for (pll_rows odd source a)
  unfolding runs spanned divided_by settled pll_rows
  says_runs =
      says_next
      (says_tested (none_zero a) OutputZero _ (zeros_turned a.p a.q a.r)
      (says_tested (leb (max odd source a / 128) (min odd source a)) OutputsTooFarApart _ (le_turned (max odd source a / 128) (min odd source a))
      (says_test (ltb (max odd source a) 560_000_000) OutputTooHigh _ (lt_turned (max odd source a) 560_000_000))))
      (says_then _
      (says_tested _ TargetOutside _ (between_turned (range odd source a).start (target odd source a) (range odd source a).end)
      (says_m source (target odd source a) (range odd source a).low (range odd source a).high))
      (says_tested _ NOutside _ (between_turned 4 (n odd source a) 512)
      (says_then _ (says_fraction a.strategy (ref odd source a) (n odd source a) (target odd source a / first_of a) (first_of a))
      (says_next (says_p odd (target odd source a) a.p) (says_ok settings_for)))))

  -- idle where nothing is requested
  abbrev pub pll_for : Option PllSettings
  pll_for = cond (wanted a) (Some settings_for) None

  pub says_pll : Says (pll_of odd source a) pll_for (cond (wanted a) (pll_rows odd source a) [])
  unfolding pll_of
  says_pll = by_test (wanted a) (λ w. rw w (says_running (runs odd source a) settings_for (pll_rows odd source a) says_runs)) (λ w. rw w (says_ok None))

  -- ---- what it reports
  abbrev reported_at : Option ℕ → Option ℕ
  reported_at None = None
  reported_at (Some h) = Some (vco odd source a / (target odd source a / h))

  vco_is : vco_by (fraction_by a.strategy (fracn odd source a)) (ref odd source a) (n odd source a) ≡ vco odd source a
  vco_is = go a.strategy
    where
      go : (s : Strategy)
          → vco_by (fraction_by s (fracn odd source a)) (ref odd source a) (n odd source a)
          ≡ cond (is_fractional s) (vco_of (ref odd source a) (n odd source a) (to_unsigned 16 (fracn odd source a))) (ref odd source a * n odd source a)
      go Integer = refl
      go Fractional = refl

  on_is : (v : ℕ) → v ≡ vco odd source a → (h : Option ℕ) → clock_of (output_of (target odd source a) v h) ≡ reported_at h
  on_is v e None = refl
  on_is v e (Some h) = rw e

  off_is : (h : Option ℕ) → is_some h ≡ false → None ≡ reported_at h
  off_is None f = refl
  off_is (Some h) f = absurd (never f)

  p_is : p_clock pll_for ≡ reported_at a.p
  p_is =
      by_test (wanted a)
      (λ w. rw w (on_is _ vco_is a.p))
      (λ w. rw w (off_is a.p (or_false (is_some a.p) (is_some a.q || is_some a.r) w).0))

  q_is : q_clock pll_for ≡ reported_at a.q
  q_is =
      by_test (wanted a)
      (λ w. rw w (on_is _ vco_is a.q))
      (λ w. rw w (off_is a.q (or_false (is_some a.q) (is_some a.r) (or_false (is_some a.p) (is_some a.q || is_some a.r) w).1).0))

  hertz_at_is : (h : Option ℕ) → unwrap_or (reported_at h) 0 ≡ clock_at odd source a h
  hertz_at_is None = refl
  hertz_at_is (Some h) = refl

  pub p_hertz : unwrap_or (p_clock pll_for) 0 ≡ clock_at odd source a a.p
  p_hertz = rw p_is (hertz_at_is a.p)

  -- ---- 21
  says_planned : (h : Option ℕ) → Says (planned (reported_at h)) (clock_at odd source a h) ((21 when not (is_some h)) ∷ [])
  says_planned None = record { same = refl }
  says_planned (Some h) = record { same = refl }

  pub says_planned_p : Says (planned (p_clock pll_for)) (clock_at odd source a a.p) ((21 when not (is_some a.p)) ∷ [])
  says_planned_p = rw p_is (says_planned a.p)

  pub says_planned_q : Says (planned (q_clock pll_for)) (clock_at odd source a a.q) ((21 when not (is_some a.q)) ∷ [])
  says_planned_q = rw q_is (says_planned a.q)
