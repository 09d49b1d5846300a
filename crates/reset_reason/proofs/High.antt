-- The reason by the number that the six high bits of a word make.
use mathlib.Core.Path.{◌≡◌, refl, ap, ◌∙◌}
use mathlib.Core.Bool.{Bool, true, false, cond}
use Prim.Native.Nat.{ℕ, ◌*◌, ◌/◌, ◌^◌, ◌<◌}
use native.Mathlib.Omega.{arith}
use lib.Dec.{eqb}
use borrow.Author.Tests.{eqb-true, eqb-false, eq-eqb, ne_eqb}
use Rattle.types.specs.declared.ResetReason.{ResetReason}
use Rattle.types.specs.declared.ResetReason.TheVariants.{PowerOnReset, PinReset, SystemReset, WindowWatchdogReset, IndependentWatchdogReset, GenericWatchdogReset, IllegalStopEntryReset, Unknown}
use Rattle.rules.specs.Document01.ResetReason.{reason_by, reason_of}
use Rattle.rules.proofs.Document01.ResetReason.{by_set}

abbrev by_high : (flags word : ℕ) → ResetReason
by_high f w =
    cond (eqb f 1) PinReset (cond (eqb f 3) PowerOnReset (cond (eqb f 5) SystemReset (cond (eqb f 17) WindowWatchdogReset
    (cond (eqb f 9) IndependentWatchdogReset (cond (eqb f 33) IllegalStopEntryReset (cond (eqb f 25) GenericWatchdogReset (Unknown w)))))))

-- flags at their bits are the same where they are the same
at_bits : (f k : ℕ) → eqb (f * 2 ^ 26) (k * 2 ^ 26) ≡ eqb f k
at_bits f k = go (eqb f k) refl where
  go : (t : Bool) → eqb f k ≡ t → eqb (f * 2 ^ 26) (k * 2 ^ 26) ≡ t
  go true t = eq-eqb (f * 2 ^ 26) (k * 2 ^ 26) (ap (λ (n : ℕ). n * 2 ^ 26) (eqb-true f k t))
  go false t = let n = eqb-false f k t in ne_eqb (f * 2 ^ 26) (k * 2 ^ 26) (λ e. n (omega arith))

pub high_is : (w : ℕ) → w < 2 ^ 32 → reason_of false w ≡ by_high (w / 2 ^ 26) w
unfolding reason_by
high_is w h =
    let f = w / 2 ^ 26 in
    by_set w f h refl ∙ rw (at_bits f 1, at_bits f 3, at_bits f 5, at_bits f 17, at_bits f 9, at_bits f 33, at_bits f 25)
