-- An answer that is document 01's meets the three demands: the clauses of both calls.
use Rattle.std.specs.Prelude.{Result}
use mathlib.Core.Path.{◌≡◌, ◌∙◌}
use mathlib.Core.Logic.{◌≢◌}
use mathlib.Core.List.{List}
use Prim.Native.Nat.{ℕ}
use Rattle.types.specs.declared.Refusal.{Refusal}
use Rattle.types.specs.declared.Plan.{Plan}
use Rattle.types.specs.declared.Chip.{Chip}
use Rattle.rules.specs.Document01.Plan.{plan_of, bank_plan_of}
use Rattle.rules.specs.Document01.Entries.{entries_of}
use Rattle.rules.specs.Document01.Bank.{apply_all}
use Rattle.claims.specs.Demands.Rows.{AsRows}
use Rattle.claims.specs.Demands.Refused.{plan_rows, bank_rows}
use Rattle.claims.specs.Demands.Calls.{plan_numbers, bank_numbers, Answered, Kept, AsFreeze, IsLegal, ReadTwice, BankReadTwice}
use Rattle.rcc.proofs.Read.{any_other, keeps_other}
use Rattle.claims.proofs.Demands.{with_bank, demand_1, demand_1_bank, demand_1_kept, demand_1_first, demand_1_first_bank, demand_2, demand_2_bank, demand_2_legal, demand_2_legal_bank, demand_3, demand_3_bank}

-- ---- the planner's call, which is the bank call of a bank that fits
module _ (bytes : List ℕ) (chip : Chip) (x : Result Plan Refusal) (e : x ≡ bank_plan_of bytes chip 82) where
  pub same : x ≡ plan_of bytes chip
  same = e ∙ with_bank bytes chip

  pub answered : Answered plan_numbers x
  answered = rw same (demand_1 bytes chip)

  pub freeze : AsFreeze bytes chip x
  freeze = rw same (demand_2 bytes chip)

  pub legal : IsLegal bytes chip x
  legal = rw same (demand_2_legal bytes chip)

  pub readings : ReadTwice bytes chip x
  readings = rw same (demand_3 bytes chip)

  pub order : AsRows (plan_rows bytes chip) x
  order = rw same (demand_1_first bytes chip)

pub ruleset promised = (same, answered, freeze, legal, readings, order)

-- ---- the bank call, which finds bank b and leaves bank b₁
module _ (bytes : List ℕ) (chip : Chip) (words : ℕ) (x : Result Plan Refusal) (e : x ≡ bank_plan_of bytes chip words) where
  pub bank_answered : Answered bank_numbers x
  bank_answered = rw e (demand_1_bank bytes chip words)

  pub bank_freeze : words ≡ 82 → AsFreeze bytes chip x
  bank_freeze = rw e (demand_2_bank bytes chip words)

  pub bank_legal : IsLegal bytes chip x
  bank_legal = rw e (demand_2_legal_bank bytes chip words)

  pub bank_order : AsRows (bank_rows bytes chip words) x
  bank_order = rw e (demand_1_first_bank bytes chip words)

  module _ (b b₁ : List ℕ) (f : b₁ ≡ apply_all (entries_of x) b) where
    pub bank_kept : Kept x b b₁
    bank_kept = demand_1_kept x b b₁ f

    pub bank_readings : BankReadTwice bytes chip x b b₁
    bank_readings = go x e f
      where
        go : (x : Result Plan Refusal) → x ≡ bank_plan_of bytes chip words → b₁ ≡ apply_all (entries_of x) b → BankReadTwice bytes chip x b b₁
        go x e = rw e (demand_3_bank bytes chip words b b₁)

pub ruleset bank_promised = (bank_answered, bank_freeze, bank_legal, bank_order, bank_kept, bank_readings)

-- a bank of another length
module _ (bytes : List ℕ) (chip : Chip) (words : ℕ) (x : Result Plan Refusal) (l : words ≢ 82) (e : x ≡ bank_plan_of bytes chip 0) where
  pub other : x ≡ bank_plan_of bytes chip words
  other = e ∙ any_other bytes chip words l

  pub other_kept : (b : List ℕ) → b ≡ apply_all (entries_of x) b
  other_kept b = rw other (keeps_other bytes chip words b l)

pub ruleset other_promised = (other, other_kept)
