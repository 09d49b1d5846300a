-- What the C function of the reset reason answers: docs/CODES.md, The C functions.
use Rattle.std.specs.Prelude.{Bool, true, false, List, [], ◌∷◌, ℕ, Result, Ok, Err}
use Rattle.types.specs.declared.Refusal.{Refusal}
use Rattle.types.specs.declared.ResetReason.{ResetReason}
use Rattle.types.specs.declared.ResetReason.TheVariants.{PowerOnReset, PinReset, SystemReset, WindowWatchdogReset, IndependentWatchdogReset, GenericWatchdogReset, IllegalStopEntryReset, Unknown}
use Rattle.types.specs.declared.Reset.{Reset}
use Rattle.rules.specs.Words.{stored_from}

-- in the order of reset_reason.rs
abbrev pub reason_code : ResetReason → ℕ
reason_code PowerOnReset = 0
reason_code PinReset = 1
reason_code SystemReset = 2
reason_code WindowWatchdogReset = 3
reason_code IndependentWatchdogReset = 4
reason_code GenericWatchdogReset = 5
reason_code IllegalStopEntryReset = 6
reason_code (Unknown word) = 7

-- the reason, the word as read, and the word to write back; a refusal changes no word
abbrev pub reason_room : (fits : Bool) → Result Reset Refusal → (word : ℕ) → List ℕ → List ℕ
reason_room false x word room = room
reason_room true (Err n) word room = room
reason_room true (Ok t) word room = stored_from room 0 (reason_code t.reason ∷ word ∷ t.write_back ∷ [])
