-- The reset reasons of document 01, computed; that only the six flags count; and that the word to write back has RMVF set and every other bit
-- as read.
use mathlib.Core.Path.{◌≡◌, refl, sym, ap, ◌∙◌}
use mathlib.Core.List.{[], ◌∷◌, map}
use mathlib.Core.Bool.{Bool, true, false, cond}
use mathlib.Core.Logic.{◌⊎◌, inl, inr}
use Prim.Native.Nat.{ℕ, ◌+◌, ◌-◌, ◌*◌, ◌/◌, ◌^◌, ◌≤◌, ◌<◌}
use native.Mathlib.Omega.{arith}
use native.Mathlib.Nat.{add-mul-div_left}
use lib.Dec.{eqb, leb}
use lib.Pow.{pow_pos, pow-add, shr-shr}
use borrow.Author.Tests.{eqb-true, eqb-false, leb-true, leb-false}
use Rattle.types.specs.declared.ResetReason.{ResetReason}
use Rattle.types.specs.declared.ResetReason.TheVariants.{PowerOnReset, PinReset, SystemReset, WindowWatchdogReset, IndependentWatchdogReset, GenericWatchdogReset, IllegalStopEntryReset, Unknown}
use Rattle.laws.proofs.Tests.{by_test}
use Rattle.rules.specs.Manual.ResetFlags.{RMVF, PIN, BOR, SFT, IWDG, WWDG, LPWR, bit_of}
use Rattle.rules.specs.Document01.ResetReason.{flags_of, reason_by, reason_of, write_back_of}

-- PIN is bit 26; 1 is a bit that is no flag
pub reasons : map (reason_of false) (67_108_864 ∷ 201_326_593 ∷ 335_544_320 ∷ 1_140_850_688 ∷ 603_979_776 ∷ 2_214_592_512 ∷ 1_677_721_600 ∷ 134_217_728 ∷ 0 ∷ [])
    ≡ PinReset ∷ PowerOnReset ∷ SystemReset ∷ WindowWatchdogReset ∷ IndependentWatchdogReset ∷ IllegalStopEntryReset ∷ GenericWatchdogReset ∷ Unknown 134_217_728 ∷ Unknown 0 ∷ []
unfolding reason_of reason_by
reasons = refl

pub on_three : reason_of true 67_108_864 ≡ Unknown 67_108_864
unfolding reason_of
on_three = refl

pub written_back : map write_back_of (67_108_864 ∷ 75_497_472 ∷ []) ≡ 75_497_472 ∷ 75_497_472 ∷ []
unfolding write_back_of
written_back = refl

-- ---- other bits of the word don't count
-- a quotient by a power of two, by the next one and the bit between them
halved : (w k : ℕ) → w / 2 ^ k ≡ 2 * (w / 2 ^ (k + 1)) + bit_of w k
halved w k = rw (← shr-shr w k 1) (omega arith)

joined : (a b c d e f p q r s t : ℕ) → p ≡ 2 * q + a → q ≡ 2 * r + b → r ≡ 2 * s + c → s ≡ 2 * t + d → t ≡ 2 * f + e
    → a * 2 ^ PIN + b * 2 ^ BOR + c * 2 ^ SFT + d * 2 ^ IWDG + e * 2 ^ WWDG + f * 2 ^ LPWR ≡ p * 2 ^ PIN
joined a b c d e f p q r s t h₁ h₂ h₃ h₄ h₅ = omega arith

-- the flags of a word of 32 bits are its six high bits
pub flags_high : (w : ℕ) → w < 2 ^ 32 → flags_of w ≡ w / 2 ^ PIN * 2 ^ PIN
flags_high w h =
    let last : bit_of w LPWR ≡ w / 2 ^ LPWR = omega arith in
    rw last (joined (bit_of w PIN) (bit_of w BOR) (bit_of w SFT) (bit_of w IWDG) (bit_of w WWDG) (w / 2 ^ LPWR) _ _ _ _ _
    (halved w PIN) (halved w BOR) (halved w SFT) (halved w IWDG) (halved w WWDG))

-- the reason by the set of the six high bits
pub by_set : (w k : ℕ) → w < 2 ^ 32 → w / 2 ^ PIN ≡ k → reason_of false w ≡ reason_by (k * 2 ^ PIN) w
unfolding reason_of
by_set w k h e = ap (λ (f : ℕ). reason_by f w) (flags_high w h ∙ ap (λ (n : ℕ). n * 2 ^ PIN) e)

-- two words with the same six flags
pub record SameFlags (v w : ℕ) : Type 0 where
  pub pin : bit_of v PIN ≡ bit_of w PIN
  pub bor : bit_of v BOR ≡ bit_of w BOR
  pub sft : bit_of v SFT ≡ bit_of w SFT
  pub iwdg : bit_of v IWDG ≡ bit_of w IWDG
  pub wwdg : bit_of v WWDG ≡ bit_of w WWDG
  pub lpwr : bit_of v LPWR ≡ bit_of w LPWR

module _ (v w : ℕ) where
  -- the reason is the same, or each is unknown, with its own word
  abbrev pub SameReason : ResetReason → ResetReason → Type 0
  SameReason x y = (x ≡ y) ⊎ ((x ≡ Unknown v) × (y ≡ Unknown w))

  one_more : (t : Bool) (r x y : ResetReason) → SameReason x y → SameReason (cond t r x) (cond t r y)
  one_more true r x y s = inl refl
  one_more false r x y s = s

  by_flags : (f : ℕ) → SameReason (reason_by f v) (reason_by f w)
  unfolding reason_by
  by_flags f =
      one_more (eqb f (2 ^ PIN)) PinReset _ _
      (one_more (eqb f (2 ^ PIN + 2 ^ BOR)) PowerOnReset _ _
      (one_more (eqb f (2 ^ PIN + 2 ^ SFT)) SystemReset _ _
      (one_more (eqb f (2 ^ PIN + 2 ^ WWDG)) WindowWatchdogReset _ _
      (one_more (eqb f (2 ^ PIN + 2 ^ IWDG)) IndependentWatchdogReset _ _
      (one_more (eqb f (2 ^ PIN + 2 ^ LPWR)) IllegalStopEntryReset _ _
      (one_more (eqb f (2 ^ PIN + 2 ^ IWDG + 2 ^ WWDG)) GenericWatchdogReset _ _ (inr (refl, refl))))))))

  pub other_bits : SameFlags v w → SameReason (reason_of false v) (reason_of false w)
  unfolding reason_of
  other_bits s = rw (s.pin, s.bor, s.sft, s.iwdg, s.wwdg, s.lpwr) (by_flags (flags_of w))

-- ---- the word to write back
module _ (w : ℕ) where
  pub rmvf_set : bit_of (write_back_of w) RMVF ≡ 1
  unfolding write_back_of
  rmvf_set =
      by_test (eqb (bit_of w RMVF) 1)
      (λ (t : eqb (bit_of w RMVF) 1 ≡ true). rw t (eqb-true (bit_of w RMVF) 1 t))
      (λ (n : eqb (bit_of w RMVF) 1 ≡ false). let k = eqb-false (bit_of w RMVF) 1 n in rw n (omega (arith, k)))

  -- where RMVF is 0, the sum with 2 ^ 23 changes no bit below it and none above it
  below : (b : ℕ) → b ≤ 22 → bit_of (w + 2 ^ RMVF) b ≡ bit_of w b
  below b h =
      let c = 22 - b in
      let sum : b + (1 + c) ≡ RMVF = omega arith in
      let e : 2 ^ RMVF ≡ 2 ^ b * (2 * 2 ^ c) = ap (λ (n : ℕ). 2 ^ n) (sym sum) ∙ rw (pow-add 2 b (1 + c), pow-add 2 1 c) in
      rw (e, add-mul-div_left w (2 * 2 ^ c) (pow_pos b)) (omega arith)

  above : (b : ℕ) → 24 ≤ b → bit_of w RMVF ≡ 0 → bit_of (w + 2 ^ RMVF) b ≡ bit_of w b
  above b h z =
      let sum : 24 + (b - 24) ≡ b = omega arith in
      let e : (w + 2 ^ RMVF) / 2 ^ 24 ≡ w / 2 ^ 24 = omega arith in
      rw (← sum, ← shr-shr (w + 2 ^ RMVF) 24 (b - 24), ← shr-shr w 24 (b - 24), e)

  pub others_kept : (b : ℕ) → (b ≡ RMVF → ⊥) → bit_of (write_back_of w) b ≡ bit_of w b
  unfolding write_back_of
  others_kept b other =
      by_test (eqb (bit_of w RMVF) 1)
      (λ (t : eqb (bit_of w RMVF) 1 ≡ true). rw t)
      (λ (n : eqb (bit_of w RMVF) 1 ≡ false).
      let k = eqb-false (bit_of w RMVF) 1 n in
      rw n
      (by_test (leb b 22)
      (λ (l : leb b 22 ≡ true). below b (leb-true b 22 l))
      (λ (g : leb b 22 ≡ false). let m = leb-false b 22 g in above b (omega (arith, other)) (omega (arith, k)))))
