-- The calls on a chip's bytes as docs/CODES.md states them, in numbers: the chip's seven bytes, and the lengths.
use mathlib.Core.Path.{◌≡◌, refl}
use mathlib.Core.Bool.{true, false}
use mathlib.Core.List.{List, [], ◌∷◌}
use Prim.Native.Nat.{ℕ}
use lib.ListN.{replicate}
use Rattle.rules.specs.Document01.Refusals.{code_of}
use Rattle.rules.proofs.Computes.{by_rules}
use Rattle.chip_bytes.specs.Calls.{chip_from, asked_of, bank_asked}

-- PLL count, odd P of PLL1, PLL2, PLL3, scale, HSION, HSIDIV
pub seven_bytes : chip_from (11 ∷ 12 ∷ 13 ∷ 14 ∷ 15 ∷ 16 ∷ 17 ∷ []) ≡ record { plls = 11; odd = 12 ∷ 13 ∷ 14 ∷ []; scale = 15; hsion = 16; hsidiv = 17 }
seven_bytes = refl

-- a request for nothing on two PLLs: planned for a chip of seven bytes and a slice that has its length, else 1
abbrev bytes : List ℕ
bytes = replicate 90 0

abbrev chip : List ℕ
chip = 2 ∷ 1 ∷ 1 ∷ 1 ∷ 0 ∷ 1 ∷ 2 ∷ []

pub lengths :
    code_of (asked_of bytes chip true) ∷ code_of (asked_of bytes chip false) ∷ code_of (asked_of bytes (0 ∷ chip) true)
    ∷ code_of (asked_of bytes (2 ∷ 1 ∷ 1 ∷ 1 ∷ 0 ∷ 1 ∷ []) true) ∷ []
    ≡ 0 ∷ 1 ∷ 1 ∷ 1 ∷ []
unfolding by_rules asked_of
lengths = refl

-- the bank call: a report beside it or a chip of another length is 1, before a bank of another length, which is 2
pub bank_lengths :
    code_of (bank_asked bytes chip true 82) ∷ code_of (bank_asked bytes chip true 81) ∷ code_of (bank_asked bytes chip true 83)
    ∷ code_of (bank_asked bytes chip false 82) ∷ code_of (bank_asked bytes chip false 81)
    ∷ code_of (bank_asked bytes (0 ∷ chip) true 82) ∷ code_of (bank_asked bytes (0 ∷ chip) true 81) ∷ []
    ≡ 0 ∷ 2 ∷ 2 ∷ 1 ∷ 1 ∷ 1 ∷ 1 ∷ []
unfolding by_rules bank_asked
bank_lengths = refl
