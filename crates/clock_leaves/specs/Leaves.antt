-- What the C functions of the leaves answer: docs/CODES.md, The C functions.
use Rattle.std.specs.Prelude.{Bool, true, false, not, cond, ◌&&◌, List, [], ◌∷◌, ℕ, eqb, ltb, Option, Some, None, Result, Ok, Err}
use Rattle.types.specs.declared.Refusal.{Refusal}
use Rattle.types.specs.declared.Bus.{Bus}
use Rattle.types.specs.declared.Mco.{Mco}
use Rattle.types.specs.declared.Waits.{Waits}
use Rattle.types.specs.declared.Refusal.TheVariants.{OutsideCodes, AhbZero}
use Rattle.ieee754.specs.Whole.{vco_whole}
use Rattle.rules.specs.Document01.Result.{require, ◌>>◌}
use Rattle.rules.specs.Document01.Flash.{flash_of}
use Rattle.rules.specs.Document01.Chip.{scale_of}
use Rattle.rules.specs.Document01.Refusals.{code_of}
use Rattle.rules.specs.Words.{stored_from, hertz_words}
use Rattle.flash.specs.Flash.{packed}

-- FRACN 0 to 8191; 8192 out of range
abbrev pub fracn_code : Option ℕ → ℕ
fracn_code (Some f) = f
fracn_code None = 8192

-- VCO of a FRACN of 16 bits; 0 of a wider one
abbrev pub vco_code : (reference n fracn : ℕ) → ℕ
vco_code reference n fracn = cond (ltb fracn 65536) (vco_whole reference n fracn) 0

-- wait states: no such scale is refusal 1, an AHB clock of 0 Hz 19
unfoldable pub waits_for : (ahb scale : ℕ) → Result Waits Refusal
waits_for ahb scale = do
  require (ltb scale 4) OutsideCodes
  require (not (eqb ahb 0)) AhbZero
  Ok (flash_of (scale_of scale) ahb)

-- latency + 8 × delay; 255 for either refusal
abbrev pub waits_code : Result Waits Refusal → ℕ
waits_code (Err n) = 255
waits_code (Ok w) = packed w

-- hertz as two numbers: 0 for unset, 1 and the hertz
abbrev pub hertz_in : (set hertz : ℕ) → Option ℕ
hertz_in set hertz = cond (eqb set 0) None (Some hertz)

-- refusal 1 where a number is outside its codes or the slice has another length; else 0, or the refusal's number
abbrev pub leaf_code : {A : Type 0} → (fits : Bool) → Result A Refusal → ℕ
leaf_code false x = 1
leaf_code true x = code_of x

-- a bus: its divisor and its clock; a refusal changes no word
abbrev pub bus_room : (fits : Bool) → Result Bus Refusal → List ℕ → List ℕ
bus_room false x room = room
bus_room true (Err n) room = room
bus_room true (Ok b) room = stored_from room 0 (b.pre ∷ b.clock ∷ [])

-- a clock output: its prescaler and its clock
abbrev pub mco_room : (fits : Bool) → Result Mco Refusal → List ℕ → List ℕ
mco_room false x room = room
mco_room true (Err n) room = room
mco_room true (Ok m) room = stored_from room 0 (m.pre ∷ hertz_words m.clock [])

-- whether a number of two codes and a slice of so many words are as they should be
abbrev pub leaf_fits : (set words length : ℕ) → Bool
leaf_fits set words length = ltb set 2 && eqb length words
