-- Laws on bytes stored from a place on.
use mathlib.Core.Path.{◌≡◌, sym, ap, ◌∙◌}
use mathlib.Core.List.{List, [], ◌++◌}
use Prim.Native.Nat.{ℕ, ◌+◌, ◌-◌, ◌≤◌, min}
use native.Mathlib.Omega.{arith}
use lib.Dec.{ltb}
use lib.ListN.{length, take, drop, drop_of_length-le}
use lib.Seq.{sets, length-sets, length-take-le}
use borrow.Author.Tests.{ltb-true, ltb-false}
use Rattle.laws.proofs.Tests.{by_test}
use Rattle.room.proofs.Written.{past, joined}
use borrow.Rule.Slice.PartMut.{put_mid, Post-is}
use Rattle.std.proofs.Common.{append_assoc}
use Rattle.std.proofs.lemmas.List.{take-append-drop}
use Rattle.std.proofs.lemmas.List.Edits.{sets-eq}

-- as much of a text as there is room for
module _ (room : List ℕ) (at : ℕ) (text : List ℕ) (n : ℕ) (e : n ≡ min (length text) (length room - at)) (h : at ≤ length room) where
  part_long : length (take n text) ≡ n
  part_long = length-take-le n text (omega arith)

  -- what is left of it has no place
  rest_lost : (l : List ℕ) → length l ≡ length room → sets l (at + n) (drop n text) ≡ l
  rest_lost l d =
      by_test (ltb n (length text))
      (λ t. let k = ltb-true n (length text) t in past l (at + n) (drop n text) (omega arith))
      (λ t. let k = ltb-false n (length text) t in let z : drop n text ≡ [] = drop_of_length-le text k in rw z)

  whole : sets room at text ≡ sets room at (take n text)
  whole =
      ap (λ (l : List ℕ). sets room at l) (sym (take-append-drop n text)) ∙ sym (joined room at (take n text) (drop n text))
      ∙ rw part_long (rest_lost (sets room at (take n text)) (length-sets room at (take n text)))

  pub stored : {part : List ℕ} → part ≡ take n text → put_mid at (at + n - at) room part ≡ sets room at text
  stored d =
      let p : put_mid at (at + n - at) room (take n text) ≡ take at room ++ (take n text ++ drop (at + n) room) = rw (Post-is at (at + n) room (omega arith)) in
      rw d (p ∙ sym (whole ∙ sets-eq (take n text) room at (rw part_long (omega arith)) ∙ rw part_long (append_assoc (take at room) (take n text) (drop (at + n) room))))
