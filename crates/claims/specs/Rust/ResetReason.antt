-- reset_reason.rs, with its names: what get_reset_reason returns and writes for a word of RCC_RSR. The bits are the manual's, since the
-- register crate is not at hand. The Rust reads the register twice, and both reads are taken to give the same word.
use Rattle.std.specs.Prelude.{Bool, true, false, cond, ◌&&◌, List, [], ◌∷◌, ℕ, ◌+◌, ◌-◌, ◌*◌, ◌^◌, eqb}
use Rattle.types.specs.declared.ResetReason.{ResetReason}
use Rattle.types.specs.declared.ResetReason.TheVariants.{PowerOnReset, PinReset, SystemReset, WindowWatchdogReset, IndependentWatchdogReset, GenericWatchdogReset, IllegalStopEntryReset, Unknown}
use Rattle.rules.specs.Manual.ResetFlags as Bit
use Rattle.rules.specs.Manual.ResetFlags.{bit_of}

-- is_reset_occurred() of a flag
abbrev pub is_reset_occurred : (rsr bit : ℕ) → Bool
is_reset_occurred rsr bit = eqb (bit_of rsr bit) 1

-- the tuple that is matched: lpwrrstf, wwdgrstf, iwdgrstf, sftrstf, borrstf, pinrstf
abbrev pub scrutinee : (rsr : ℕ) → List Bool
scrutinee rsr =
    is_reset_occurred rsr Bit.LPWR ∷ is_reset_occurred rsr Bit.WWDG ∷ is_reset_occurred rsr Bit.IWDG
    ∷ is_reset_occurred rsr Bit.SFT ∷ is_reset_occurred rsr Bit.BOR ∷ is_reset_occurred rsr Bit.PIN ∷ []

-- two booleans are the same
abbrev pub equal : Bool → Bool → Bool
equal true true = true
equal true false = false
equal false true = false
equal false false = true

-- a tuple matches a pattern of booleans
abbrev pub matches : (tuple pattern : List Bool) → Bool
matches [] [] = true
matches [] (q ∷ qs) = false
matches (t ∷ ts) [] = false
matches (t ∷ ts) (q ∷ qs) = equal t q && matches ts qs

-- the arms of the match, in the Rust's order: the first that matches decides
unfoldable pub reason_by_tuple : (tuple : List Bool) → (bits : ℕ) → ResetReason
reason_by_tuple tuple bits =
    cond (matches tuple (false ∷ false ∷ false ∷ false ∷ true ∷ true ∷ [])) PowerOnReset
    (cond (matches tuple (false ∷ false ∷ false ∷ false ∷ false ∷ true ∷ [])) PinReset
    (cond (matches tuple (false ∷ false ∷ false ∷ true ∷ false ∷ true ∷ [])) SystemReset
    (cond (matches tuple (false ∷ true ∷ false ∷ false ∷ false ∷ true ∷ [])) WindowWatchdogReset
    (cond (matches tuple (false ∷ false ∷ true ∷ false ∷ false ∷ true ∷ [])) IndependentWatchdogReset
    (cond (matches tuple (true ∷ false ∷ false ∷ false ∷ false ∷ true ∷ [])) IllegalStopEntryReset
    (cond (matches tuple (false ∷ true ∷ true ∷ false ∷ false ∷ true ∷ [])) GenericWatchdogReset
    (Unknown bits)))))))

-- a field of one bit in a word to write: the bit is cleared, then the value is put in its place
abbrev pub with_bit : (word bit value : ℕ) → ℕ
with_bit word bit value = word - bit_of word bit * 2 ^ bit + value * 2 ^ bit

-- rcc.rsr().modify(|_, w| w.rmvf().reset()): the word as read with the field RMVF at 1, its value `reset`
abbrev pub modify_rmvf : (rsr : ℕ) → ℕ
modify_rmvf rsr = with_bit rsr Bit.RMVF 1

-- what the function returns, and the word that it writes to RCC_RSR
pub record Got : Type 0 where
  pub returned : ResetReason
  pub written : ℕ

-- get_reset_reason: the feature is rm0492 for two PLLs, rm0481 for three
unfoldable pub get_reset_reason : (rm0481 : Bool) → (rsr : ℕ) → Got
get_reset_reason true rsr = record { returned = Unknown rsr; written = modify_rmvf rsr }
get_reset_reason false rsr = record { returned = reason_by_tuple (scrutinee rsr) rsr; written = modify_rmvf rsr }
