-- The outputs that are requested, as they count: the fold of the Rust against the least and the largest.
use Rattle.std.specs.Prelude.{Option, Some, None}
use mathlib.Core.Path.{◌≡◌, refl}
use mathlib.Core.List.{List}
use mathlib.Core.Logic.{◌⊎◌, inl, inr}
use mathlib.Core.Bool.{Bool, true, false}
use Prim.Native.Nat.{ℕ, ◌*◌, ◌≤◌, ◌<◌, min}
use native.Mathlib.Omega.{arith}
use lib.Dec.{ltb}
use borrow.Author.Tests.{lt-ltb, ltb-true}
use Rattle.types.specs.declared.Entry.{Entry}
use Rattle.rules.specs.Document01.OnePll.{counted_p, counted, least, largest}
use Rattle.rules.proofs.Document01.Span.{Pos, outputs, Inside, counted_pos}
use Rattle.claims.specs.Rust.Run.{panics, ends}
use Rattle.claims.specs.Rust.Pll.{mapped, fold_min, fold_max}
use Rattle.laws.proofs.Tests.{by_test}
use Rattle.claims.proofs.Agreement.Numbers.{nonzero}

-- ---- the folds of the Rust
pub record Folded (odd : Bool) (p q r : Option ℕ) : Type 0 where
  pub least_fold : fold_min 0 (outputs odd p q r) ≡ least (outputs odd p q r)
  pub largest_fold : fold_max 0 (outputs odd p q r) ≡ largest (outputs odd p q r)

pub folded : (odd : Bool) (p q r : Option ℕ) → Pos p → Pos q → Pos r → Folded odd p q r
folded odd None None None a b c = record { least_fold = refl; largest_fold = refl }
folded odd (Some p) None None a b c = record { least_fold = refl; largest_fold = refl }
folded odd None (Some q) None a b c = record { least_fold = refl; largest_fold = refl }
folded odd None None (Some r) a b c = record { least_fold = refl; largest_fold = refl }
folded odd (Some p) (Some q) None a b c = record { least_fold = rw (nonzero (counted_p odd p) (counted_pos odd p a)); largest_fold = refl }
folded odd (Some p) None (Some r) a b c = record { least_fold = rw (nonzero (counted_p odd p) (counted_pos odd p a)); largest_fold = refl }
folded odd None (Some q) (Some r) a b c = record { least_fold = rw (nonzero q b); largest_fold = refl }
folded odd (Some p) (Some q) (Some r) a b c =
    let x : 1 ≤ counted_p odd p = counted_pos odd p a in
    let y : 1 ≤ min (counted_p odd p) q = omega arith in
    record { least_fold = rw (nonzero (counted_p odd p) x, nonzero (min (counted_p odd p) q) y); largest_fold = refl }

-- ---- what the Rust collects: the doubled P fits, or it panics
abbrev pub Fits : Bool → Option ℕ → Type 0
Fits true h = Unit {0}
Fits false None = Unit {0}
Fits false (Some h) = h * 2 < 4_294_967_296

pub mapped_is : (odd : Bool) (h : Option ℕ) (es : List Entry) → Fits odd h → mapped h odd es ≡ ends es (counted (counted_p odd) h)
mapped_is true None es f = refl
mapped_is false None es f = refl
mapped_is true (Some h) es f = refl
mapped_is false (Some h) es f = rw (lt-ltb (h * 2) 4_294_967_296 f)

pub mapped_whole : (h : Option ℕ) (es : List Entry) → mapped h true es ≡ ends es (counted (λ h. h) h)
mapped_whole None es = refl
mapped_whole (Some h) es = refl

pub fits_or_panics : (odd : Bool) (h : Option ℕ) (es : List Entry) → Fits odd h ⊎ (mapped h odd es ≡ panics)
fits_or_panics true h es = inl tt
fits_or_panics false None es = inl tt
fits_or_panics false (Some h) es = by_test (ltb (h * 2) 4_294_967_296) (λ t. inl (ltb-true (h * 2) 4_294_967_296 t)) (λ (f : ltb (h * 2) 4_294_967_296 ≡ false). inr (rw f))

-- a P whose count is below a bound fits
pub fits_below : (odd : Bool) (h : Option ℕ) (low high : ℕ) → Inside (counted_p odd) low high h → high < 4_294_967_296 → Fits odd h
fits_below true h low high i l = tt
fits_below false None low high i l = tt
fits_below false (Some h) low high i l = omega arith
