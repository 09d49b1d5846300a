-- A table against a rule: one test computed over the whole list, and the rule at each place.
use mathlib.Core.Path.{◌≡◌, sym, ap, ◌∙◌}
use mathlib.Core.Bool.{Bool, true, false, ◌&&◌}
use mathlib.Core.List.{List, [], ◌∷◌}
use Prim.Native.Nat.{ℕ, zero, suc, ◌+◌, ◌<◌}
use native.Mathlib.Omega.{arith}
use lib.Dec.{eqb}
use lib.ListN.{get_or}
use borrow.Author.Tests.{eqb-true}
use Rattle.laws.proofs.Tests.{never, and_left, and_right}

-- the first n entries are what f says of their places, counted from k
abbrev pub follows : (ℕ → ℕ) → (k n : ℕ) → List ℕ → Bool
follows f k zero xs = true
follows f k (suc n) [] = false
follows f k (suc n) (x ∷ xs) = eqb x (f k) && follows f (suc k) n xs

from : (f : ℕ → ℕ) (n : ℕ) (xs : List ℕ) (k : ℕ) → follows f k n xs ≡ true → (i : ℕ) → i < n → get_or xs i 0 ≡ f (k + i)
from f zero xs k t i h = absurd (omega arith)
from f (suc n) [] k t i h = absurd (never (sym t))
from f (suc n) (x ∷ xs) k t zero h = eqb-true x (f k) (and_left (eqb x (f k)) _ t) ∙ ap f (omega arith)
from f (suc n) (x ∷ xs) k t (suc i) h = from f n xs (suc k) (and_right (eqb x (f k)) _ t) i (omega arith) ∙ ap f (omega arith)

pub at_place : (f : ℕ → ℕ) (n : ℕ) (xs : List ℕ) → follows f 0 n xs ≡ true → (i : ℕ) → i < n → get_or xs i 0 ≡ f i
at_place f n xs t i h = from f n xs 0 t i h ∙ ap f (omega arith)
