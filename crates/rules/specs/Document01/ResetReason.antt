-- Document 01, Register entries, last paragraph: the reset reason from the flags of a word, and the word to write back.
use Rattle.std.specs.Prelude.{Bool, true, false, cond, ◌||◌, ℕ, ◌+◌, ◌*◌, ◌^◌, eqb, Result, Ok}
use Rattle.types.specs.declared.Refusal.{Refusal}
use Rattle.types.specs.declared.Reset.{Reset}
use Rattle.types.specs.declared.ResetReason.{ResetReason}
use Rattle.types.specs.declared.ResetReason.TheVariants.{PowerOnReset, PinReset, SystemReset, WindowWatchdogReset, IndependentWatchdogReset, GenericWatchdogReset, IllegalStopEntryReset, Unknown}
use Rattle.types.specs.declared.Refusal.TheVariants.{OutsideCodes}
use Rattle.rules.specs.Document01.Result.{◌>>◌, require}
use Rattle.rules.specs.Manual.ResetFlags.{RMVF, PIN, BOR, SFT, IWDG, WWDG, LPWR, bit_of}

-- the six flags of a word, other bits left out
abbrev pub flags_of : (word : ℕ) → ℕ
flags_of word =
    bit_of word PIN * 2 ^ PIN + bit_of word BOR * 2 ^ BOR + bit_of word SFT * 2 ^ SFT + bit_of word IWDG * 2 ^ IWDG + bit_of word WWDG * 2 ^ WWDG + bit_of word LPWR * 2 ^ LPWR

-- PIN alone pin; with BOR power-on, SFT system, WWDG window, IWDG independent, LPWR illegal stop, WWDG and IWDG generic; any other set unknown
unfoldable pub reason_by : (flags word : ℕ) → ResetReason
reason_by flags word =
    cond (eqb flags (2 ^ PIN)) PinReset
    (cond (eqb flags (2 ^ PIN + 2 ^ BOR)) PowerOnReset
    (cond (eqb flags (2 ^ PIN + 2 ^ SFT)) SystemReset
    (cond (eqb flags (2 ^ PIN + 2 ^ WWDG)) WindowWatchdogReset
    (cond (eqb flags (2 ^ PIN + 2 ^ IWDG)) IndependentWatchdogReset
    (cond (eqb flags (2 ^ PIN + 2 ^ LPWR)) IllegalStopEntryReset
    (cond (eqb flags (2 ^ PIN + 2 ^ IWDG + 2 ^ WWDG)) GenericWatchdogReset
    (Unknown word)))))))

-- three PLLs always unknown, with the raw word
unfoldable pub reason_of : (three : Bool) → (word : ℕ) → ResetReason
reason_of true word = Unknown word
reason_of false word = reason_by (flags_of word) word

-- the word as read with RMVF set
unfoldable pub write_back_of : (word : ℕ) → ℕ
write_back_of word = cond (eqb (bit_of word RMVF) 1) word (word + 2 ^ RMVF)

-- the answer to a word: the reason and the word to write back. A PLL count that is neither 2 nor 3 is refused with 1
unfoldable pub reset_of : (plls word : ℕ) → Result Reset Refusal
reset_of plls word = do
  require (eqb plls 2 || eqb plls 3) OutsideCodes
  Ok (record { reason = reason_of (eqb plls 3) word; write_back = write_back_of word })
