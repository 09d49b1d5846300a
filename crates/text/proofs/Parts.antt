-- Laws on parts of a text: what is left from a place on, and what stands before a byte.
use mathlib.Core.Path.{◌≡◌}
use mathlib.Core.Bool.{true, false}
use mathlib.Core.List.{List, [], ◌∷◌}
use Prim.Native.Nat.{ℕ, ◌+◌, ◌≤◌, ◌<◌}
use native.Mathlib.Numerals.{add-one}
use native.Mathlib.Omega.{arith}
use lib.Dec.{eqb}
use lib.ListN.{length, get_or, drop, drop_of_length-le}
use lib.Seq.{drop-cons}
use borrow.Author.Tests.{ltb-false, eq-eqb}
use Rattle.laws.proofs.Tests.{by_test}
use Rattle.std.specs.List.{position_or_len}
use Rattle.std.proofs.Common.{None, position}
use Rattle.std.proofs.lemmas.Option.{none-some}
use lib.Dec.{ltb}
use Rattle.std.proofs.lemmas.List.Sums.{prefix_len-le-length}
use mathlib.Core.Bool.{not}
use Rattle.text.specs.Names.{lacks}

-- what is left at a place: the byte there, and what is left behind it
pub left_one : (s : List ℕ) (i : ℕ) → i < length s → drop i s ≡ get_or s i 0 ∷ drop (i + 1) s
left_one s i h = rw (add-one, drop-cons s i 0)

-- past the end: nothing
pub left_none : (s : List ℕ) (i : ℕ) → length s ≤ i → drop i s ≡ []
left_none s i h = drop_of_length-le s h

-- where no search finds a byte, the text lacks it
pub none_there : (b : ℕ) (s : List ℕ) → None ≡ position (λ x. eqb x b) s → lacks b s ≡ true
none_there b s e =
    let n = position_or_len (λ x. eqb x b) s in
    by_test (ltb n (length s))
    (λ (t : ltb n (length s) ≡ true). absurd (none-some n (rw t at e)))
    (λ (f : ltb n (length s) ≡ false). let h = ltb-false n (length s) f in eq-eqb n (length s) (omega (arith, prefix_len-le-length (λ x. not (eqb x b)) s)))
