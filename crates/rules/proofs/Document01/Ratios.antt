-- Steps 6 and 7: what holds of every divisor that the rows offer holds of the divisor of every ratio, by one computed test over the rows.
use mathlib.Core.Path.{◌≡◌, refl}
use mathlib.Core.Bool.{Bool, true, false, ◌&&◌, cond}
use mathlib.Core.List.{List, [], ◌∷◌}
use Prim.Native.Nat.{ℕ, ◌≤◌}
use lib.Dec.{leb}
use borrow.Author.Tests.{leb-true}
use Rattle.rules.specs.Document01.Buses.{RatioRow, divisor_by, ahb_rows, hpre_of, apb_rows, ppre_of}
use Rattle.laws.proofs.Tests.{and_left, and_right}

-- of each row's divisor, and of the last
abbrev pub Each : (ℕ → Type 0) → List RatioRow → (last : ℕ) → Type 0
Each F [] last = F last
Each F (r ∷ rs) last = F r.divisor × Each F rs last

pub every : (F : ℕ → Type 0) (rows : List RatioRow) (last : ℕ) → Each F rows last → (ratio : ℕ) → F (divisor_by rows last ratio)
every F [] last h ratio = h
every F (r ∷ rs) last h ratio = go (leb ratio r.bound) h.0 (every F rs last h.1 ratio)
  where
    go : (t : Bool) → F r.divisor → F (divisor_by rs last ratio) → F (cond t r.divisor (divisor_by rs last ratio))
    go true a b = a
    go false a b = b

-- the same for a test that computes
abbrev pub each : (ℕ → Bool) → List RatioRow → (last : ℕ) → Bool
each t [] last = t last
each t (r ∷ rs) last = t r.divisor && each t rs last

each_is : (t : ℕ → Bool) (rows : List RatioRow) (last : ℕ) → each t rows last ≡ true → Each (λ n. t n ≡ true) rows last
each_is t [] last h = h
each_is t (r ∷ rs) last h = (and_left (t r.divisor) _ h, each_is t rs last (and_right (t r.divisor) _ h))

pub tested : (t : ℕ → Bool) (rows : List RatioRow) (last : ℕ) → each t rows last ≡ true → (ratio : ℕ) → t (divisor_by rows last ratio) ≡ true
tested t rows last h = every (λ n. t n ≡ true) rows last (each_is t rows last h)

-- AHB divides by 1 to 512, an APB by 1 to 16
pub hpre_pos : (ratio : ℕ) → 1 ≤ hpre_of ratio
hpre_pos ratio = leb-true 1 (hpre_of ratio) (tested (leb 1) ahb_rows 512 refl ratio)

pub hpre_most : (ratio : ℕ) → hpre_of ratio ≤ 512
hpre_most ratio = leb-true (hpre_of ratio) 512 (tested (λ n. leb n 512) ahb_rows 512 refl ratio)

pub ppre_pos : (ratio : ℕ) → 1 ≤ ppre_of ratio
ppre_pos ratio = leb-true 1 (ppre_of ratio) (tested (leb 1) apb_rows 16 refl ratio)

pub ppre_most : (ratio : ℕ) → ppre_of ratio ≤ 16
ppre_most ratio = leb-true (ppre_of ratio) 16 (tested (λ n. leb n 16) apb_rows 16 refl ratio)
