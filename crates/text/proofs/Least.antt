-- Laws on the first of a list that passes a test.
use mathlib.Core.Path.{◌≡◌}
use mathlib.Core.Bool.{Bool, true, false}
use mathlib.Core.List.{List, [], ◌∷◌, ◌++◌}
use Prim.Native.Nat.{◌+◌}
use native.Mathlib.Omega.{arith}
use lib.ListN.{length}
use Rattle.std.specs.List.{position_or_len}
use Rattle.laws.proofs.Tests.{by_test}

module _ {X : Type 0} (p : X → Bool) where
  -- none of xs passes, and x does not either
  pub one_more : (xs : List X) (x : X) → position_or_len p xs ≡ length xs → p x ≡ false → position_or_len p (xs ++ (x ∷ [])) ≡ length xs + 1
  one_more [] x e f = rw f
  one_more (y ∷ xs) x e f = by_test (p y) (λ t. absurd (let z = rw t at e in omega arith)) (λ t. let z = rw t at e in let l = one_more xs x (omega arith) f in rw (t, l) (omega arith))

  -- none of xs passes, and x does
  pub passes : (xs : List X) (x : X) (ys : List X) → position_or_len p xs ≡ length xs → p x ≡ true → position_or_len p (xs ++ (x ∷ ys)) ≡ length xs
  passes [] x ys e f = rw f
  passes (y ∷ xs) x ys e f = by_test (p y) (λ t. absurd (let z = rw t at e in omega arith)) (λ t. let z = rw t at e in let l = passes xs x ys (omega arith) f in rw (t, l) (omega arith))
