-- What a step of the tree reads, from what the clock before it reads.
use mathlib.Core.Path.{◌≡◌, refl, sym, ap, ◌∙◌}
use mathlib.Core.List.{List, [], ◌∷◌, ◌++◌}
use Prim.Native.Nat.{ℕ, zero, suc, ◌+◌, ◌*◌, ◌≤◌}
use native.Mathlib.Nat.{mul_assoc, mul_comm, mul-one}
use native.Mathlib.Omega.{arith}
use lib.ListN.{length, get_or, get_or-eq_default}
use borrow.Author.Tests.{ne_eqb}
use Rattle.rules.specs.Manual.Path.{PllName, whole, part, Path, direct, through, product, num, den, extend}
use Rattle.rules.specs.Manual.Tree.{Oscillator, off, runs, Chain, none, along, from_oscillator, switched, gated, over, hsi_by, timer_by, vco_by, Output, P, Q, R, divider, enable}
use Rattle.std.specs.Prelude.{Option, Some, None}
use Rattle.exact.specs.declared.Exact.{Exact}
use Rattle.exact.specs.Exact.{reading_of, scaled_by}
use Rattle.exact.proofs.Cap.{max, cap_is, cap_fits, cap_times}

-- ---- one more division at the end
product_last : (ds : List ℕ) (d : ℕ) → product (ds ++ (d ∷ [])) ≡ product ds * d
product_last [] d = omega arith
product_last (e ∷ ds) d = ap (λ (x : ℕ). e * x) (product_last ds d) ∙ sym (mul_assoc e (product ds) d)

num_extend : (p : Path) (d : ℕ) → num (extend p d) ≡ num p
unfolding num
num_extend (direct h ds) d = refl
num_extend (through j h m (whole n) ds) d = refl
num_extend (through j h m (part n f) ds) d = refl

den_extend : (p : Path) (d : ℕ) → den (extend p d) ≡ den p * d
unfolding den
den_extend (direct h ds) d = product_last ds d
den_extend (through j h m (whole n) ds) d = ap (λ (x : ℕ). m * x) (product_last ds d) ∙ sym (mul_assoc m (product ds) d)
den_extend (through j h m (part n f) ds) d =
    ap (λ (x : ℕ). m * (8192 * x)) (product_last ds d) ∙ ap (λ (x : ℕ). m * x) (sym (mul_assoc 8192 (product ds) d)) ∙ sym (mul_assoc m (8192 * product ds) d)

-- ---- an ON or an enable, which stands after its divider
pub after : (o : Output) → divider o + 1 ≡ enable o
after P = refl
after Q = refl
after R = refl

pub gated_on : (on : ℕ) (c : Chain) → 1 ≤ on → c ≡ gated on c
gated_on zero c h = absurd (omega arith)
gated_on (suc on) c h = refl

-- ---- a division
pub over_scaled : (c : Chain) (d : ℕ) → 1 ≤ d → scaled_by (reading_of c) 1 d ≡ reading_of (over c d)
over_scaled none d h = refl
over_scaled (along p) zero h = absurd (omega arith)
over_scaled (along p) (suc d) h = rw (num_extend p (suc d), den_extend p (suc d), cap_times (num p) 1 (omega arith), mul-one (num p), cap_times (den p) (suc d) h)

-- ---- a timer
-- by 1 is as it was
pub one : (c : Chain) → reading_of (over c 1) ≡ reading_of c
one none = refl
one (along p) = rw (num_extend p 1, den_extend p 1, mul-one (den p))

module _ (c : Chain) where
  -- any TIMPRE but 0 is as 1
  pub timpre_on : (t ppre : ℕ) → 1 ≤ t → timer_by t ppre c ≡ timer_by 1 ppre c
  timpre_on zero ppre h = absurd (omega arith)
  timpre_on (suc t) ppre h = refl

-- ---- an oscillator
pub oscillator : (h : ℕ) → h ≤ max → ◌≡◌ {A = Option Exact} (Some (record { numerator = h; denominator = 1 })) (reading_of (from_oscillator (runs h)))
unfolding num den
oscillator h l = rw (← cap_fits h l, ← cap_fits 1 (omega arith))

pub switched_on : (on : ℕ) (o : Oscillator) → 1 ≤ on → o ≡ switched on o
switched_on zero o h = absurd (omega arith)
switched_on (suc on) o h = refl

-- HSI by an HSIDIV other than 1, 2, 4, 8
pub hsi_off : (div : ℕ) → (div ≡ 1 → ⊥) → (div ≡ 2 → ⊥) → (div ≡ 4 → ⊥) → (div ≡ 8 → ⊥) → hsi_by div ≡ off
hsi_off div a b c d = rw (ne_eqb div 1 a, ne_eqb div 2 b, ne_eqb div 4 c, ne_eqb div 8 d)

pub never_runs : (on : ℕ) → None ≡ reading_of (from_oscillator (switched on off))
never_runs zero = refl
never_runs (suc on) = refl

-- ---- a VCO
module _ (j : PllName) where
  pub vco_whole_is : (o : Oscillator) (m n : ℕ) {e : ℕ} (f : ℕ) → 1 ≤ m → 1 ≤ n → e ≡ 0 → scaled_by (reading_of (from_oscillator o)) n m ≡ reading_of (vco_by j o m n e f)
  unfolding num den
  vco_whole_is off m n f a b z = refl
  vco_whole_is (runs h) zero n f a b z = absurd (omega arith)
  vco_whole_is (runs h) (suc m) n f a b z = rw (z, cap_times h n b, cap_times 1 (suc m) a, mul_comm 1 (suc m))

  pub vco_part : (o : Oscillator) (m n e f : ℕ) → 1 ≤ m → 1 ≤ n → 1 ≤ e → scaled_by (reading_of (from_oscillator o)) (8192 * n + f) (8192 * m) ≡ reading_of (vco_by j o m n e f)
  unfolding num den
  vco_part off m n e f a b z = refl
  vco_part (runs h) zero n e f a b z = absurd (omega arith)
  vco_part (runs h) (suc m) n zero f a b z = absurd (omega arith)
  vco_part (runs h) (suc m) n (suc e) f a b z =
      let l : 1 * (8192 * suc m) ≡ suc m * 8192 = omega arith in
      rw (cap_times h (8192 * n + f) (omega arith), cap_times 1 (8192 * suc m) (omega arith), l)

-- ---- a selector past its last clock
pub past : (cs : List Chain) (w : ℕ) → length cs ≤ w → None ≡ reading_of (get_or cs w none)
past cs w h = rw (get_or-eq_default cs none h)

pub past_source : (os : List Oscillator) (w : ℕ) → length os ≤ w → None ≡ reading_of (from_oscillator (get_or os w off))
past_source os w h = rw (get_or-eq_default os off h)

pub over_past : (cs : List Chain) (w d : ℕ) → length cs ≤ w → over (get_or cs w none) d ≡ none
over_past cs w d h = rw (get_or-eq_default cs none h)

-- all of them
pub ruleset chains = (cap_is, past, past_source, over_past, gated_on, after, over_scaled, one, timpre_on, oscillator, switched_on, hsi_off, never_runs, vco_whole_is, vco_part)
