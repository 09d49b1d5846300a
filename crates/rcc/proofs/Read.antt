-- A bank call whose bank has another length than 82 words refuses, and keeps the bank.
use Rattle.std.specs.Prelude.{Result, Ok, Err}
use mathlib.Core.Path.{◌≡◌, refl}
use mathlib.Core.List.{List}
use Prim.Native.Nat.{ℕ}
use mathlib.Core.Logic.{◌≢◌}
use borrow.Author.Tests.{ne_eqb}
use Rattle.types.specs.declared.Refusal.{Refusal}
use Rattle.types.specs.declared.Chip.{Chip}
use Rattle.types.specs.declared.Refusal.TheVariants.{BankLength}
use lib.Dec.{eqb}
use Rattle.rules.specs.Document01.Result.{◌>>=◌, ◌>>◌, require}
use Rattle.types.specs.declared.Asked.{Asked}
use Rattle.rules.specs.Document01.Plan.{request_of, chosen_plan, bank_plan_of}
use Rattle.rules.specs.Document01.Entries.{entries_of}
use Rattle.rules.specs.Document01.Bank.{apply_all}

module _ (bytes : List ℕ) (chip : Chip) where
  -- a bank of another length than 82 has one answer
  pub any_other : (words : ℕ) → words ≢ 82 → bank_plan_of bytes chip 0 ≡ bank_plan_of bytes chip words
  unfolding bank_plan_of
  any_other words l = rw (ne_eqb words 82 l)

  -- and it is a refusal, which keeps every word
  pub keeps_other : (words : ℕ) (b : List ℕ) → words ≢ 82 → b ≡ apply_all (entries_of (bank_plan_of bytes chip words)) b
  unfolding bank_plan_of entries_of
  keeps_other words b l = go (request_of bytes chip)
    where
      go : (y : Result Asked Refusal) → b ≡ apply_all (entries_of (y >>= λ a. require (eqb words 82) BankLength >> chosen_plan a.request a.chip)) b
      go (Err n) = refl
      go (Ok a) = rw (ne_eqb words 82 l)
