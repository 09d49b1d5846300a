-- A shift and a mask place a value: what is put above the bits that are there, and where it ends.
use mathlib.Core.Path.{◌≡◌, sym, ap, ◌∙◌, subst}
use Prim.Native.Nat.{ℕ, ◌+◌, ◌-◌, ◌*◌, ◌%◌, ◌^◌, ◌<◌}
use native.Mathlib.Nat.{add_comm, one-mul, mod-lt}
use native.Mathlib.Omega.{arith}
use lib.Arith.{digits_lt}
use lib.Bits.{bit_and, bit_or, and_mask, mask_lt, or_shifted_r}
use lib.Dec.{lit<}
use lib.Pow.{pow-add, pow_pos, shl_exact}
use Rattle.pll_registers.specs.Registers.{placed}

-- so many bits set
pub mask : (width : ℕ) → width < 32 → 1 * 2 ^ width % 2 ^ 32 ≡ 2 ^ width
mask width h = shl_exact 1 width 32 (lit< tt) (omega arith) ∙ one-mul (2 ^ width)

module _ (below v at width : ℕ) (under : below < 2 ^ at) (room : at + width < 32) where
  swapped : v % 2 ^ width * 2 ^ at + below ≡ below + placed at width v
  swapped = add_comm (v % 2 ^ width * 2 ^ at) below

  pub puts : bit_or below (bit_and v (1 * 2 ^ width % 2 ^ 32 - 1) * 2 ^ at % 2 ^ 32) ≡ below + placed at width v
  puts =
      ap (λ (x : ℕ). bit_or below (bit_and v (x - 1) * 2 ^ at % 2 ^ 32)) (mask width (omega arith))
      ∙ ap (bit_or below) (shl_exact width at 32 (mask_lt v width) (omega arith))
      ∙ or_shifted_r (bit_and v (2 ^ width - 1)) at below under
      ∙ ap (λ (x : ℕ). x * 2 ^ at + below) (and_mask v width) ∙ swapped

  pub ends : below + placed at width v < 2 ^ (at + width)
  ends =
      subst (λ (x : ℕ). x < 2 ^ (at + width)) swapped
      (subst (λ (x : ℕ). v % 2 ^ width * 2 ^ at + below < x) (sym (pow-add 2 width at) ∙ ap (λ (x : ℕ). 2 ^ x) (add_comm width at))
      (digits_lt (mod-lt v (pow_pos width)) under))

  -- of what is put
  pub put_ends : bit_or below (bit_and v (1 * 2 ^ width % 2 ^ 32 - 1) * 2 ^ at % 2 ^ 32) < 2 ^ (at + width)
  put_ends = subst (λ (r : ℕ). r < 2 ^ (at + width)) (sym puts) ends
