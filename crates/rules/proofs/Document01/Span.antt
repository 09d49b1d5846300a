-- The outputs that are requested, as they count: each lies from the least to the largest.
use Rattle.std.specs.Prelude.{Option, Some, None, is_some}
use mathlib.Core.Path.{◌≡◌}
use mathlib.Core.List.{List, ◌++◌}
use mathlib.Core.Bool.{Bool, true, false, ◌||◌}
use Prim.Native.Nat.{ℕ, ◌≤◌}
use native.Mathlib.Omega.{arith}
use lib.Dec.{eqb}
use borrow.Author.Tests.{not-true, eqb-false}
use Rattle.rules.specs.Document01.Hertz.{not_zero}
use Rattle.rules.specs.Document01.OnePll.{counted_p, counted, least, largest}

-- not 0, by its test
pub pos_of : (n : ℕ) → eqb n 0 ≡ false → 1 ≤ n
pos_of n f = let h : n ≡ 0 → ⊥ = eqb-false n 0 f in omega arith

-- an output that is requested is above 0
abbrev pub Pos : Option ℕ → Type 0
Pos None = Unit {0}
Pos (Some h) = 1 ≤ h

pub pos_is : (h : Option ℕ) → not_zero h ≡ true → Pos h
pos_is None t = tt
pos_is (Some h) t = pos_of h (not-true (eqb h 0) t)

abbrev pub outputs : Bool → Option ℕ → Option ℕ → Option ℕ → List ℕ
outputs odd p q r = counted (counted_p odd) p ++ (counted (λ h. h) q ++ counted (λ h. h) r)

-- an output lies from one number to another, as it counts
abbrev pub Inside : (ℕ → ℕ) → ℕ → ℕ → Option ℕ → Type 0
Inside f low high None = Unit {0}
Inside f low high (Some h) = (low ≤ f h) × (f h ≤ high)

pub record Span (odd : Bool) (p q r : Option ℕ) : Type 0 where
  pub above : 1 ≤ least (outputs odd p q r)
  pub order : least (outputs odd p q r) ≤ largest (outputs odd p q r)
  pub in_p : Inside (counted_p odd) (least (outputs odd p q r)) (largest (outputs odd p q r)) p
  pub in_q : Inside (λ h. h) (least (outputs odd p q r)) (largest (outputs odd p q r)) q
  pub in_r : Inside (λ h. h) (least (outputs odd p q r)) (largest (outputs odd p q r)) r

pub counted_pos : (odd : Bool) (h : ℕ) → 1 ≤ h → 1 ≤ counted_p odd h
counted_pos true h l = l
counted_pos false h l = omega arith

pub span : (odd : Bool) (p q r : Option ℕ) → Pos p → Pos q → Pos r → is_some p || (is_some q || is_some r) ≡ true → Span odd p q r
span odd None None None a b c w = absurd (let z : ◌≡◌ {A = ℕ} 0 1 = cc in omega arith)
span odd (Some p) None None a b c w =
    let x : 1 ≤ counted_p odd p = counted_pos odd p a in
    record { above = x; order = omega arith; in_p = omega arith; in_q = tt; in_r = tt }
span odd None (Some q) None a b c w =
    record { above = b; order = omega arith; in_p = tt; in_q = omega arith; in_r = tt }
span odd None None (Some r) a b c w =
    record { above = c; order = omega arith; in_p = tt; in_q = tt; in_r = omega arith }
span odd (Some p) (Some q) None a b c w =
    let x : 1 ≤ counted_p odd p = counted_pos odd p a in
    record { above = omega arith; order = omega arith; in_p = omega arith; in_q = omega arith; in_r = tt }
span odd (Some p) None (Some r) a b c w =
    let x : 1 ≤ counted_p odd p = counted_pos odd p a in
    record { above = omega arith; order = omega arith; in_p = omega arith; in_q = tt; in_r = omega arith }
span odd None (Some q) (Some r) a b c w =
    record { above = omega arith; order = omega arith; in_p = tt; in_q = omega arith; in_r = omega arith }
span odd (Some p) (Some q) (Some r) a b c w =
    let x : 1 ≤ counted_p odd p = counted_pos odd p a in
    record { above = omega arith; order = omega arith; in_p = omega arith; in_q = omega arith; in_r = omega arith }
