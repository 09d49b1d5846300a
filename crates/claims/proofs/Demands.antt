-- The customer's three demands, for every list of bytes and all numbers of a chip: what the rest of proofs/ shows, gathered on one page.
-- `plan_of` and `bank_plan_of` are specs/Document01/Plan, and the claims are those of specs/Demands/Calls.
use Rattle.std.specs.Result.{result_ok}
use Rattle.std.specs.Prelude.{Result, Ok, Err}
use mathlib.Core.Path.{◌≡◌, refl, sym, ◌∙◌, ap}
use mathlib.Core.List.{List, []}
use Prim.Native.Nat.{ℕ}
use lib.Dec.{eqb}
use Rattle.types.specs.declared.Entry.{Entry}
use Rattle.types.specs.declared.Chip.{Chip}
use Rattle.types.specs.declared.Refusal.{Refusal}
use Rattle.types.specs.declared.Refusal.TheVariants.{BankLength}
use Rattle.types.specs.declared.Plan.{Plan}
use Rattle.rules.specs.Document01.Result.{◌>>=◌, ◌>>◌, require}
use Rattle.types.specs.declared.Asked.{Asked}
use Rattle.rules.specs.Document01.Plan.{chosen_plan, request_of, plan_of, bank_plan_of}
use Rattle.rules.specs.Document01.Entries.{entries_of}
use Rattle.rules.specs.Document01.Bank.{apply_all}
use Rattle.rules.specs.Document01.Walk.{fresh_of}
use Rattle.claims.specs.Rust.Run.{ends}
use Rattle.claims.specs.Rust.CoreClocks.{CoreClocks}
use Rattle.claims.specs.Rust.Rcc.{frozen}
use Rattle.claims.specs.Demands.Agreement.{AllowsEachP}
use Rattle.rules.specs.Stated.Walks.{ShowsAll}
use Rattle.claims.specs.Demands.Calls.{plan_numbers, bank_numbers, Answered, Kept, AsFreeze, IsLegal, ReadTwice, BankReadTwice}
use Rattle.claims.specs.Demands.Rows.{AsRows}
use Rattle.claims.specs.Demands.Refused.{plan_rows, bank_rows}
use Rattle.claims.proofs.Refused.Calls.{plan_rows_is, bank_rows_is}
use Rattle.rules.proofs.Document01.RefusalsOfCalls.{plan_numbers_is, bank_numbers_is}
use Rattle.rules.proofs.Document01.Length.{accepted_length}
use Rattle.rules.proofs.Document01.Results.{tested_ok}
use Rattle.claims.proofs.Legal.Plan.{plan_legal}
use Rattle.claims.proofs.Agreement.Whole.{agreement}
use Rattle.claims.proofs.Agreement.Walk.{walk_is_freeze}
use Rattle.claims.proofs.Readings.Link.{plan_reads, bank_reads}

-- bytes that are a request are answered as that request
pub typed : (bytes : List ℕ) (chip : Chip) (a : Asked) → request_of bytes chip ≡ Ok a → plan_of bytes chip ≡ chosen_plan a.request a.chip
unfolding plan_of chosen_plan
typed bytes chip a e = rw e

-- the bank call answers as the planner's does where its bank has 82 words
pub with_bank : (bytes : List ℕ) (chip : Chip) → bank_plan_of bytes chip 82 ≡ plan_of bytes chip
unfolding bank_plan_of plan_of
with_bank bytes chip = go (request_of bytes chip)
  where
    go : (x : Result Asked Refusal) → (x >>= λ a. require (eqb 82 82) BankLength >> chosen_plan a.request a.chip) ≡ (x >>= λ a. chosen_plan a.request a.chip)
    go (Err n) = refl
    go (Ok a) = refl

-- and so wherever it answers with a plan
with_plan : (bytes : List ℕ) (chip : Chip) (words : ℕ) (a : Asked) (p : Plan) → request_of bytes chip ≡ Ok a → bank_plan_of bytes chip words ≡ Ok p → chosen_plan a.request a.chip ≡ Ok p
unfolding bank_plan_of
with_plan bytes chip words a p e h = (tested_ok (eqb words 82) BankLength (chosen_plan a.request a.chip) p (rw e at h)).1

-- ---- demand 1: one complete plan or one listed refusal, which has no entry and keeps every bank
no_entry : (x : Result Plan Refusal) (n : Refusal) → x ≡ Err n → entries_of x ≡ []
unfolding entries_of
no_entry x n e = rw e

pub demand_1 : (bytes : List ℕ) (chip : Chip) → Answered plan_numbers (plan_of bytes chip)
demand_1 bytes chip = record {
  plan = accepted_length (plan_of bytes chip);
  refusal = plan_numbers_is bytes chip;
  blank = λ n e. ap result_ok e;
  none = no_entry (plan_of bytes chip);
}

pub demand_1_bank : (bytes : List ℕ) (chip : Chip) (words : ℕ) → Answered bank_numbers (bank_plan_of bytes chip words)
demand_1_bank bytes chip words = record {
  plan = accepted_length (bank_plan_of bytes chip words);
  refusal = bank_numbers_is bytes chip words;
  blank = λ n e. ap result_ok e;
  none = no_entry (bank_plan_of bytes chip words);
}

pub demand_1_kept : (x : Result Plan Refusal) (b b₁ : List ℕ) → b₁ ≡ apply_all (entries_of x) b → Kept x b b₁
demand_1_kept x b b₁ e n h = e ∙ rw (no_entry x n h)

-- the refusal is the first of document 01's that fits, by the rows of specs/Demands/Refused
pub demand_1_first : (bytes : List ℕ) (chip : Chip) → AsRows (plan_rows bytes chip) (plan_of bytes chip)
demand_1_first bytes chip = plan_rows_is bytes chip

pub demand_1_first_bank : (bytes : List ℕ) (chip : Chip) (words : ℕ) → AsRows (bank_rows bytes chip words) (bank_plan_of bytes chip words)
demand_1_first_bank bytes chip words = bank_rows_is bytes chip words

-- ---- demand 2: equal to Rcc::freeze, save 14 and 15, and legal by the manuals and IEEE 754
pub demand_2 : (bytes : List ℕ) (chip : Chip) → AsFreeze bytes chip (plan_of bytes chip)
demand_2 bytes chip a e = rw (typed bytes chip a e) (agreement a.request a.chip)

pub demand_2_bank : (bytes : List ℕ) (chip : Chip) (words : ℕ) → words ≡ 82 → AsFreeze bytes chip (bank_plan_of bytes chip words)
demand_2_bank bytes chip words w = rw (w, with_bank bytes chip) (demand_2 bytes chip)

-- and where freeze ends and the manual allows every P that it wrote, the walk shows freeze's own list, entry by entry, and then finished
pub demand_2_walk : (bytes : List ℕ) (chip : Chip) (a : Asked) → request_of bytes chip ≡ Ok a → (es : List Entry) (k : CoreClocks) → frozen a.request a.chip ≡ ends es k → AllowsEachP a.chip es → ShowsAll (fresh_of (plan_of bytes chip)) es
demand_2_walk bytes chip a e = walk_is_freeze a.request a.chip (plan_of bytes chip) (frozen a.request a.chip) (demand_2 bytes chip a e)

pub demand_2_legal : (bytes : List ℕ) (chip : Chip) → IsLegal bytes chip (plan_of bytes chip)
demand_2_legal bytes chip a p e h = plan_legal a.request a.chip p (sym (typed bytes chip a e) ∙ h)

pub demand_2_legal_bank : (bytes : List ℕ) (chip : Chip) (words : ℕ) → IsLegal bytes chip (bank_plan_of bytes chip words)
demand_2_legal_bank bytes chip words a p e h = plan_legal a.request a.chip p (with_plan bytes chip words a p e h)

-- ---- demand 3: the two readings of every clock covered, over a bank at reset values after the whole list
pub demand_3 : (bytes : List ℕ) (chip : Chip) → ReadTwice bytes chip (plan_of bytes chip)
demand_3 bytes chip a e = rw (typed bytes chip a e) (plan_reads a.request a.chip)

pub demand_3_bank : (bytes : List ℕ) (chip : Chip) (words : ℕ) (b b₁ : List ℕ) → b₁ ≡ apply_all (entries_of (bank_plan_of bytes chip words)) b → BankReadTwice bytes chip (bank_plan_of bytes chip words) b b₁
demand_3_bank bytes chip words b b₁ f a e p h = bank_reads a.request a.chip (bank_plan_of bytes chip words) p (with_plan bytes chip words a p e h) h b b₁ f
