-- Pairs of hexadecimal digits stored one by one.
use mathlib.Core.Path.{◌≡◌, refl, sym, ◌∙◌}
use mathlib.Core.List.{List, [], ◌∷◌}
use Prim.Native.Nat.{ℕ, suc, ◌+◌, ◌*◌, ◌/◌, ◌≤◌, ◌<◌}
use native.Mathlib.Omega.{arith}
use lib.ListN.{length, get_or, drop, set, length-drop}
use lib.Seq.{sets}
use Rattle.text.proofs.Parts.{left_one}
use Rattle.ask.specs.Sheet.{digit_value, hex_bytes}

-- one digit is no byte
no_pair : (v : List ℕ) → length v ≤ 1 → hex_bytes v ≡ []
unfolding hex_bytes
no_pair [] h = refl
no_pair (a ∷ []) h = refl
no_pair (a ∷ b ∷ v) h = absurd (omega arith)

-- pair i, and what is left behind it
pair : (v : List ℕ) (i : ℕ) → i < length v / 2 → hex_bytes (drop (2 * i) v) ≡ (16 * digit_value (get_or v (2 * i) 0) + digit_value (get_or v (2 * i + 1) 0)) ∷ hex_bytes (drop (2 * (i + 1)) v)
unfolding hex_bytes
pair v i h =
    let e : 2 * i + 1 + 1 ≡ 2 * (i + 1) = omega arith in
    rw (left_one v (2 * i) (omega arith), left_one v (2 * i + 1) (omega arith), e)

-- ---- the first i bytes are stored
abbrev pub Stored : (v l₀ : List ℕ) → (at : ℕ) → (l : List ℕ) → (i : ℕ) → Type 0
Stored v l₀ at l i = sets l (at + i) (hex_bytes (drop (2 * i) v)) ≡ sets l₀ at (hex_bytes v)

module _ (v l₀ : List ℕ) (at : ℕ) where
  pub starts : Stored v l₀ at l₀ 0
  starts = let e : at + 0 ≡ at = omega arith in rw e

  module _ (l : List ℕ) (i : ℕ) (g : Stored v l₀ at l i) where
    pub stores_on : i < length v / 2 → {b : ℕ} {m : List ℕ} → b ≡ 16 * digit_value (get_or v (2 * i) 0) + digit_value (get_or v (2 * i + 1) 0) → m ≡ set l (at + i) b → Stored v l₀ at m (i + 1)
    stores_on h d p =
        let e : at + (i + 1) ≡ suc (at + i) = omega arith in
        rw (p, d, e) (rw (pair v i h) at g)

    pub ends : length v / 2 ≤ i → l ≡ sets l₀ at (hex_bytes v)
    ends h = sym (rw (no_pair (drop (2 * i) v) (omega (arith, length-drop (2 * i) v)))) ∙ g
