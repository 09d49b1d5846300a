-- What the planner answers to a request beside a chip's bytes: docs/CODES.md, The C functions.
use Rattle.std.specs.Prelude.{Bool, cond, ◌&&◌, List, [], ◌∷◌, ℕ, eqb, length, get_or, Result, Err}
use Rattle.types.specs.declared.Refusal.{Refusal}
use Rattle.types.specs.declared.Plan.{Plan}
use Rattle.types.specs.declared.Chip.{Chip}
use Rattle.types.specs.declared.Refusal.TheVariants.{OutsideCodes}
use Rattle.rules.specs.Document01.Plan.{plan_of, bank_plan_of}

-- the chip's numbers
abbrev pub chip_of : (plls odd1 odd2 odd3 scale hsion hsidiv : ℕ) → Chip
chip_of plls odd1 odd2 odd3 scale hsion hsidiv = record { plls = plls; odd = odd1 ∷ odd2 ∷ odd3 ∷ []; scale = scale; hsion = hsion; hsidiv = hsidiv }

-- a byte for each
abbrev pub chip_from : List ℕ → Chip
chip_from c = chip_of (get_or c 0 0) (get_or c 1 0) (get_or c 2 0) (get_or c 3 0) (get_or c 4 0) (get_or c 5 0) (get_or c 6 0)

-- the chip of 7 bytes, where the lent slice has its length; else one without PLLs, which refusal 1 judges
unfoldable pub checked_chip : (chip : List ℕ) → (fits : Bool) → Chip
checked_chip chip fits = cond (eqb (length chip) 7 && fits) (chip_from chip) (chip_of 0 0 0 0 0 0 0)

-- a request beside a chip of 7 bytes, where the lent slice has its length; else refusal 1
unfoldable pub asked_of : (request chip : List ℕ) → (fits : Bool) → Result Plan Refusal
asked_of request chip fits = cond (eqb (length chip) 7 && fits) (plan_of request (chip_from chip)) (Err OutsideCodes)

-- the bank call likewise: 2 judges the bank's length, after 1
unfoldable pub bank_asked : (request chip : List ℕ) → (fits : Bool) → (words : ℕ) → Result Plan Refusal
bank_asked request chip fits words = cond (eqb (length chip) 7 && fits) (bank_plan_of request (chip_from chip) words) (Err OutsideCodes)
