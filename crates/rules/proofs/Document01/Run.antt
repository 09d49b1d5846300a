-- A whole walk stored step by step: what holds after i steps, at the beginning, one step on, and at the end. For every walk of document 01.
use mathlib.Core.Path.{◌≡◌, refl, ◌∙◌, subst}
use mathlib.Core.Bool.{Bool, true, false, cond}
use mathlib.Core.List.{List}
use Prim.Native.Nat.{ℕ, zero, suc, ◌+◌, ◌*◌, ◌/◌, ◌≤◌, ◌<◌, ◌^◌}
use native.Mathlib.Omega.{arith}
use borrow.Author.Tests.{ltb-true, ltb-false}
use lib.Dec.{ltb, leb}
use lib.ListN.{length, get_or, length-set}
use Rattle.rules.specs.Document01.Walk.{Stand, shown_of}
use Rattle.rules.specs.Words.{shown_words, nine_at, stored_at, stand_after, ran, shown_count}

-- no more are stored than the reads have steps for, nor than the room holds
pub count_bounds : (reads room : ℕ) → (shown_count reads room ≤ reads / 2 + 1) × (9 * shown_count reads room ≤ room)
count_bounds reads room = go (ltb (room / 9) (reads / 2 + 1)) refl
  where
    go : (t : Bool) → ltb (room / 9) (reads / 2 + 1) ≡ t → (cond t (room / 9) (reads / 2 + 1) ≤ reads / 2 + 1) × (9 * cond t (room / 9) (reads / 2 + 1) ≤ room)
    go true e = let l = ltb-true (room / 9) (reads / 2 + 1) e in (omega arith, omega arith)
    go false e = let l = ltb-false (room / 9) (reads / 2 + 1) e in (omega arith, omega arith)

pub stored_length : (b : List ℕ) (at : ℕ) (w : List ℕ) → length (stored_at b at w) ≡ length b
unfolding stored_at
stored_length b at w = go (leb (at + 9) (length b))
  where
    go : (t : Bool) → length (cond t (nine_at b at w) b) ≡ length b
    go true = simp length-set
    go false = refl

pub ran_length : (step : Stand → ℕ → ℕ → Stand) (s : Stand) (reads room : List ℕ) (i : ℕ) → length (ran step s reads room i) ≡ length room
ran_length step s reads room zero = refl
ran_length step s reads room (suc i) = stored_length (ran step s reads room i) (9 * i) (shown_words (shown_of (stand_after step s reads i))) ∙ ran_length step s reads room i

-- after i steps of a walk from s, which stands at t: the room, which was room₀, is as it should be
pub record Going (step : Stand → ℕ → ℕ → Stand) (s : Stand) (reads room₀ : List ℕ) (n : ℕ) (room : List ℕ) (t : Stand) (i : ℕ) : Type 0 where
  pub below : i ≤ n
  pub count : n ≡ shown_count (length reads) (length room₀)
  pub stand : t ≡ stand_after step s reads i
  pub stored : room ≡ ran step s reads room₀ i

module _ (step : Stand → ℕ → ℕ → Stand) (s : Stand) (reads room₀ : List ℕ) (n : ℕ) where
  pub begins : n ≡ shown_count (length reads) (length room₀) → Going step s reads room₀ n room₀ s 0
  begins e = record { below = omega arith; count = e; stand = refl; stored = refl }

  module _ {room : List ℕ} {t : Stand} {i : ℕ} (g : Going step s reads room₀ n room t i) where
    bounds : (n ≤ length reads / 2 + 1) × (9 * n ≤ length room₀)
    bounds = rw g.count (count_bounds (length reads) (length room₀))

    pub place_fits : i < n → length room₀ < 2 ^ 64 → 9 * i < 2 ^ 64
    place_fits h l = let b = bounds.1 in omega arith

    pub read_fits : i < n → length reads < 2 ^ 64 → 2 * i + 1 < 2 ^ 64
    read_fits h l = let b = bounds.0 in omega arith

    pub goes_on : i < n → {next : List ℕ} {u : Stand} {words : List ℕ} {a b : ℕ} → words ≡ shown_words (shown_of t) → next ≡ stored_at room (9 * i) words
        → a ≡ get_or reads (2 * i) 0 → b ≡ get_or reads (2 * i + 1) 0 → u ≡ step t a b → Going step s reads room₀ n next u (i + 1)
    goes_on h w e p q f =
        let l : i + 1 ≡ suc i = omega arith in
        record {
          below = omega arith;
          count = g.count;
          stand = rw l (rw (f, p, q, g.stand));
          stored = rw l (rw (e, w, g.stored, g.stand));
        }

    pub same_length : length room ≡ length room₀
    same_length = rw g.stored (ran_length step s reads room₀ i)

    -- from where the walk began
    pub ends : n ≤ i → (start : Stand) → s ≡ start → room ≡ ran step start reads room₀ n
    ends h start e = let b = g.below in let l : n ≡ i = omega arith in subst (λ (z : Stand). room ≡ ran step z reads room₀ n) e (rw l g.stored)
