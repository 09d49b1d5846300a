-- Keys tried one after the other.
use mathlib.Core.Path.{◌≡◌, refl}
use mathlib.Core.Bool.{true, false}
use mathlib.Core.List.{List, []}
use Prim.Native.Nat.{ℕ, ◌+◌, ◌-◌, ◌≤◌, ◌<◌}
use native.Mathlib.Numerals.{add-one}
use native.Mathlib.Omega.{arith}
use lib.Dec.{ltb}
use borrow.Author.Tests.{ltb-true}
use Rattle.laws.proofs.Tests.{at_each}
use lib.ListN.{length, get_or, take, drop, drop_of_length-le, length-drop}
use lib.Seq.{drop-cons}
use borrow.Author.Rules.{part_to_end}
use Rattle.std.proofs.Common.{Option, Some, None}
use Rattle.std.proofs.lemmas.List.{get_or-drop}
use Rattle.types.specs.declared.Refusal.{Refusal}
use Rattle.blame.specs.Blame.{order, refusal_on, same, freed_from}

-- the order from a place on
pub from_place : (a : ℕ) → take (33 - a) (drop a order) ≡ drop a order
unfolding order
from_place a = part_to_end order a

pub order_length : length order ≡ 33
unfolding order
order_length = refl

-- each is a key
place_below : (i d : ℕ) → i < 33 → get_or order i d < 33
unfolding order
place_below i d h = ltb-true _ _ (at_each (λ i. ltb (get_or order i d) 33) 33 refl i h)

pub key_below : (a n d : ℕ) → n < length (drop a order) → get_or (drop a order) n d < 33
key_below a n d h = rw get_or-drop (place_below (a + n) d (omega (arith, length-drop a order, order_length)))

module _ (f : List ℕ → ℕ → List ℕ) (s t ks : List ℕ) (i : ℕ) where
  module _ (h : i < length ks) {less : List ℕ} (e : less ≡ f t (get_or ks i 0)) {a b : Option Refusal} (u : a ≡ refusal_on less) (v : b ≡ refusal_on s) where
    pub stops : same a b ≡ false → freed_from f s t (drop i ks) ≡ Some (get_or ks i 0)
    unfolding freed_from
    stops d = rw (drop-cons ks i 0, ← e, ← u, ← v, d)

    pub goes_on : same a b ≡ true → freed_from f s t (drop i ks) ≡ freed_from f s less (drop (i + 1) ks)
    unfolding freed_from
    goes_on d = rw (drop-cons ks i 0, ← e, ← u, ← v, d, add-one)

  pub ends : length ks ≤ i → freed_from f s t (drop i ks) ≡ None
  unfolding freed_from
  ends h = let e : drop i ks ≡ [] = drop_of_length-le ks h in rw e
