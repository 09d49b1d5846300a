-- The C functions of the leaves as docs/CODES.md states them, in numbers.
use Rattle.std.specs.Prelude.{Some, None, Result, Ok, Err}
use mathlib.Core.Path.{◌≡◌, refl}
use mathlib.Core.Bool.{true, false}
use mathlib.Core.List.{List, [], ◌∷◌, map}
use Prim.Native.Nat.{ℕ}
use Rattle.types.specs.declared.Refusal.{Refusal}
use Rattle.types.specs.declared.Refusal.TheVariants.{AhbZero, McoRatio, OutsideCodes}
use Rattle.types.specs.declared.ResetReason.TheVariants.{PowerOnReset, PinReset, SystemReset, WindowWatchdogReset, IndependentWatchdogReset, GenericWatchdogReset, IllegalStopEntryReset, Unknown}
use Rattle.types.specs.declared.Bus.{Bus}
use Rattle.types.specs.declared.Mco.{Mco}
use Rattle.types.specs.declared.Reset.{Reset}
use Rattle.clock_leaves.specs.Leaves.{fracn_code, vco_code, waits_for, waits_code, hertz_in, leaf_code, bus_room, mco_room, leaf_fits}
use Rattle.clock_leaves.specs.Reasons.{reason_code, reason_room}

-- 0 power-on, 1 pin, 2 system, 3 window watchdog, 4 independent watchdog, 5 either watchdog, 6 illegal stop entry, 7 unknown
pub reasons : map reason_code (PowerOnReset ∷ PinReset ∷ SystemReset ∷ WindowWatchdogReset ∷ IndependentWatchdogReset ∷ GenericWatchdogReset ∷ IllegalStopEntryReset ∷ Unknown 9 ∷ [])
    ≡ 0 ∷ 1 ∷ 2 ∷ 3 ∷ 4 ∷ 5 ∷ 6 ∷ 7 ∷ []
reasons = refl

-- the reason, the word as read, the word to write back; 1 and no word where the slice has another length, or the count is refused
abbrev three : List ℕ
three = 70 ∷ 71 ∷ 72 ∷ []

abbrev system : Result Reset Refusal
system = Ok (record { reason = SystemReset; write_back = 12 })

pub reset_words :
    reason_room true system 11 three ∷ reason_room false system 11 three ∷ reason_room true (Err OutsideCodes) 11 three ∷ []
    ≡ (2 ∷ 11 ∷ 12 ∷ []) ∷ three ∷ three ∷ []
reset_words = refl

pub reset_codes : leaf_code true system ∷ leaf_code false system ∷ leaf_code {A = Reset} true (Err OutsideCodes) ∷ [] ≡ 0 ∷ 1 ∷ 1 ∷ []
reset_codes = refl

-- FRACN 0 to 8191, or 8192 out of range; latency + 8 × delay, or 255
pub step_codes : fracn_code (Some 66) ∷ fracn_code None ∷ waits_code (Ok (record { latency = 5; delay = 2 })) ∷ waits_code (Err AhbZero) ∷ [] ≡ 66 ∷ 8192 ∷ 21 ∷ 255 ∷ []
step_codes = refl

-- a scale above 3 is 1, also where AHB is 0 Hz, which is 19
pub waits_refused : waits_for 0 4 ∷ waits_for 1 4 ∷ waits_for 0 3 ∷ [] ≡ Err OutsideCodes ∷ Err OutsideCodes ∷ Err AhbZero ∷ []
unfolding waits_for
waits_refused = refl

-- a VCO's FRACN above 65,535
pub wide_fracn : (reference n : ℕ) → vco_code reference n 65_536 ≡ 0
wide_fracn reference n = refl

-- set is 0 for unset, 1 for the hertz; another is 1, and so is another length
pub set_words : hertz_in 0 9 ∷ hertz_in 1 9 ∷ [] ≡ None ∷ Some 9 ∷ []
set_words = refl

pub fitting : leaf_fits 0 2 2 ∷ leaf_fits 1 2 2 ∷ leaf_fits 2 2 2 ∷ leaf_fits 0 2 3 ∷ leaf_fits 0 2 1 ∷ [] ≡ true ∷ true ∷ false ∷ false ∷ false ∷ []
fitting = refl

-- divisor and clock in two words
abbrev two : List ℕ
two = 70 ∷ 71 ∷ []

pub bus_words :
    bus_room true (Ok (record { pre = 4; clock = 9 })) two ∷ bus_room false (Ok (record { pre = 4; clock = 9 })) two ∷ bus_room true (Err AhbZero) two ∷ []
    ≡ (4 ∷ 9 ∷ []) ∷ two ∷ two ∷ []
bus_words = refl

pub bus_codes : leaf_code {A = Bus} true (Ok (record { pre = 4; clock = 9 })) ∷ leaf_code {A = Bus} false (Err AhbZero) ∷ leaf_code {A = Bus} true (Err AhbZero) ∷ [] ≡ 0 ∷ 1 ∷ 19 ∷ []
bus_codes = refl

-- prescaler, 0 or 1, hertz in three words
pub mco_words :
    mco_room true (Ok (record { pre = 4; clock = Some 9 })) three ∷ mco_room true (Ok (record { pre = 0; clock = None })) three
    ∷ mco_room false (Ok (record { pre = 4; clock = Some 9 })) three ∷ mco_room true (Err McoRatio) three ∷ []
    ≡ (4 ∷ 1 ∷ 9 ∷ []) ∷ (0 ∷ 0 ∷ 0 ∷ []) ∷ three ∷ three ∷ []
mco_words = refl

pub mco_codes : leaf_code {A = Mco} true (Ok (record { pre = 4; clock = Some 9 })) ∷ leaf_code {A = Mco} false (Err McoRatio) ∷ leaf_code {A = Mco} true (Err McoRatio) ∷ [] ≡ 0 ∷ 1 ∷ 23 ∷ []
mco_codes = refl
