-- Laws on items written one behind the other, as far as there is room.
use mathlib.Core.Path.{◌≡◌, refl, sym, ap, ◌∙◌}
use mathlib.Core.List.{List, [], ◌∷◌, ◌++◌}
use Prim.Native.Nat.{ℕ, suc, ◌+◌, ◌≤◌, min}
use native.Mathlib.Omega.{arith}
use lib.Dec.{ltb}
use lib.ListN.{length, set, length-append}
use lib.Seq.{sets, length-sets, set_out}
use borrow.Author.Tests.{ltb-true, ltb-false}
use Rattle.laws.proofs.Tests.{by_test}
use Rattle.room.specs.declared.room.Room.{Room}
use Rattle.room.specs.Write.{Wrote}

module _ {T : Type 0} where
  -- items past the room's end change nothing
  pub past : (l : List T) (i : ℕ) (vs : List T) → length l ≤ i → sets l i vs ≡ l
  past l i [] h = refl
  past l i (v ∷ vs) h = rw (set_out l i v h) (past l (suc i) vs (omega arith))

  -- items stored one behind the other are one list
  pub joined : (l : List T) (i : ℕ) (a b : List T) → sets (sets l i a) (i + length a) b ≡ sets l i (a ++ b)
  joined l i [] b = ap (λ (k : ℕ). sets l k b) (omega arith)
  joined l i (v ∷ a) b = ap (λ (k : ℕ). sets (sets (set l i v) (suc i) a) k b) (omega arith) ∙ joined (set l i v) (suc i) a b

  -- one list stored is its two parts, stored one behind the other as far as there is room
  pub in_parts : (l : List T) (i : ℕ) (a b : List T) → sets l i (a ++ b) ≡ sets (sets l i a) (min (i + length a) (length l)) b
  in_parts l i a b =
      sym (joined l i a b)
      ∙ by_test (ltb (length l) (i + length a))
      (λ t.
      let h = ltb-true (length l) (i + length a) t in
      let n = length-sets l i a in
      past (sets l i a) (i + length a) b (omega arith) ∙ sym (past (sets l i a) (min (i + length a) (length l)) b (omega arith)))
      (λ t. let h = ltb-false (length l) (i + length a) t in ap (λ (k : ℕ). sets (sets l i a) k b) (omega arith))

  -- nothing
  pub nothing : (o : Room T) → Wrote o o []
  nothing o = let h = o.within in record { holds = refl; place = omega arith; same = refl }

  -- items, and others behind them
  pub and_then : {o p q : Room T} {a b : List T} → Wrote o p a → Wrote p q b → Wrote o q (a ++ b)
  and_then {o} {p} {q} {a} {b} v w =
      let n : length p.items.now ≡ length o.items.now = ap length v.holds ∙ length-sets o.items.now o.at a in
      let s = v.place in
      let t = w.place in
      record {
        holds = w.holds ∙ rw (v.holds, v.place) (sym (in_parts o.items.now o.at a b));
        place = rw length-append (omega arith);
        same = w.same ∙ v.same;
      }

-- for `using`: what a room holds behind two writings, and its place
pub ruleset parts = (in_parts, length-append, length-sets)
