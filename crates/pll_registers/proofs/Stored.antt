-- Words that are stored one after the other are found at their places.
use mathlib.Core.Path.{◌≡◌, refl, ◌∙◌, subst}
use mathlib.Core.List.{List, [], ◌∷◌}
use Prim.Native.Nat.{ℕ, zero, suc, ◌+◌, ◌≤◌, ◌<◌}
use native.Mathlib.Nat.{zero-add}
use native.Mathlib.Omega.{arith}
use lib.ListN.{length, length-set, get_or, set}
use lib.Seq.{get_or-set_same, get_or-set_other}
use Rattle.rules.specs.Words.{stored_from}

before : (b : List ℕ) (at : ℕ) (ws : List ℕ) (i : ℕ) → i < at → get_or (stored_from b at ws) i 0 ≡ get_or b i 0
before b at [] i h = refl
before b at (w ∷ ws) i h = before (set b at w) (suc at) ws i (omega arith) ∙ get_or-set_other b at i w 0 (omega arith)

from_place : (b : List ℕ) (at : ℕ) (ws : List ℕ) (i : ℕ) → i < length ws → at + length ws ≤ length b → get_or (stored_from b at ws) (at + i) 0 ≡ get_or ws i 0
from_place b at [] i h l = absurd (omega arith)
from_place b at (w ∷ ws) zero h l =
    let n : at + 0 ≡ at = omega arith in
    rw n (before (set b at w) (suc at) ws at (omega arith) ∙ get_or-set_same b at w 0 (omega arith))
from_place b at (w ∷ ws) (suc i) h l =
    let n : at + suc i ≡ suc at + i = omega arith in
    rw n (from_place (set b at w) (suc at) ws i (omega arith) (rw (length-set b at w) (omega arith)))

pub stored_at : (b ws : List ℕ) (i : ℕ) → i < length ws → length ws ≤ length b → get_or (stored_from b 0 ws) i 0 ≡ get_or ws i 0
stored_at b ws i h l =
    subst (λ (j : ℕ). get_or (stored_from b 0 ws) j 0 ≡ get_or ws i 0) (zero-add i) (from_place b 0 ws i h (rw (zero-add (length ws)) l))
