-- A whole template, byte by byte.
use mathlib.Core.Path.{◌≡◌, ap, ◌∙◌}
use mathlib.Core.List.{List}
use Prim.Native.Nat.{ℕ, ◌+◌, ◌<◌}
use native.Mathlib.Numerals.{add-one}
use native.Mathlib.Omega.{arith}
use lib.ListN.{get_or}
use Rattle.room.specs.declared.room.Room.{Room}
use Rattle.template.specs.declared.State.{State}
use Rattle.room.specs.Write.{Wrote}
use Rattle.template.specs.Template.{begins, next, writes, state_after, text_after}
use Rattle.room.proofs.Written.{nothing, and_then}
use Rattle.template.proofs.Reading.{small}

module _ (template : List ℕ) (names : List (List ℕ)) (numbers : List ℕ) where
  -- the first i bytes are read: the state, and what is written
  pub record Going (o p : Room ℕ) (s : State) (i : ℕ) : Type 0 where
    pub state : s ≡ state_after template names numbers i
    pub below : s.number < 1000
    pub wrote : Wrote o p (text_after template names numbers i)

  pub starts : (o : Room ℕ) (s : State) → s ≡ begins → Going o o s 0
  unfolding state_after text_after
  starts o s e = record { state = e; below = rw e (omega arith); wrote = nothing o }

  pub goes_on : {o p q : Room ℕ} {s t : State} {i : ℕ} → Going o p s i → (n : ℕ) → n ≡ get_or numbers s.number 0 →
      Wrote p q (writes names n s (get_or template i 0)) → t ≡ next n s (get_or template i 0) → Going o q t (i + 1)
  unfolding state_after text_after
  goes_on {o} {p} {q} {s} {t} {i} g n e w d =
      record {
        state = d ∙ rw (add-one, e) (ap (λ (x : State). next (get_or numbers x.number 0) x (get_or template i 0)) g.state);
        below = rw d (small n s (get_or template i 0) g.below);
        wrote = rw (add-one, ← g.state, ← e) (and_then g.wrote w);
      }
