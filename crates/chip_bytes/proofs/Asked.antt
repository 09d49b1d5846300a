-- What the calls answer: a chip or a slice of another length is refused with 1 by the chip that stands for it.
use Rattle.std.specs.Prelude.{Result}
use mathlib.Core.Path.{◌≡◌, refl, ap}
use mathlib.Core.Logic.{◌≢◌}
use mathlib.Core.Bool.{Bool, true, false, ◌&&◌}
use mathlib.Core.List.{List}
use Prim.Native.Nat.{ℕ}
use lib.Dec.{eqb}
use lib.ListN.{length}
use borrow.Author.Tests.{eq-eqb, ne_eqb}
use Rattle.types.specs.declared.Refusal.{Refusal}
use Rattle.types.specs.declared.Plan.{Plan}
use Rattle.types.specs.declared.Chip.{Chip}
use Rattle.rules.specs.Document01.Chip as Chip
use Rattle.rules.specs.Document01.Plan.{request_of, plan_of, bank_plan_of}
use Rattle.rules.specs.Document01.Entries.{entries_of}
use Rattle.rules.specs.Document01.Bank.{apply_all}
use Rattle.laws.proofs.Tests.{by_test}
use Rattle.chip_bytes.specs.Calls.{chip_of, chip_from, checked_chip, asked_of, bank_asked}

-- ---- what the planner answers to it
module _ (request chip : List ℕ) (fits : Bool) where
  pub as_asked : plan_of request (checked_chip chip fits) ≡ asked_of request chip fits
  unfolding checked_chip asked_of plan_of request_of Chip.chip_of
  as_asked =
      by_test (eqb (length chip) 7 && fits) (λ (t : eqb (length chip) 7 && fits ≡ true). rw t) (λ (t : eqb (length chip) 7 && fits ≡ false). rw t)

  pub as_bank : (words : ℕ) → bank_plan_of request (checked_chip chip fits) words ≡ bank_asked request chip fits words
  unfolding checked_chip bank_asked bank_plan_of request_of Chip.chip_of
  as_bank words =
      by_test (eqb (length chip) 7 && fits) (λ (t : eqb (length chip) 7 && fits ≡ true). rw t) (λ (t : eqb (length chip) 7 && fits ≡ false). rw t)
