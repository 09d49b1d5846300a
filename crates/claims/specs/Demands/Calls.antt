-- The customer's three demands, of an answer x to the bytes of a request and the numbers of a chip: what the two calls of crates/rcc promise.
-- `request_of bytes chip ≡ Ok a` says that the bytes are a request: the others are refused with 1 (document 01, Refusals).
use Rattle.std.specs.Result.{result_ok}
use Rattle.std.specs.Prelude.{◌≡◌, true, List, [], ℕ, ◌≤◌, length, Result, Ok, Err, None}
use Rattle.types.specs.declared.Plan.{Plan}
use Rattle.types.specs.declared.Chip.{Chip}
use Rattle.types.specs.declared.Refusal.{Refusal}
use Rattle.rules.specs.Document01.Refusals.{number_of}
use Rattle.types.specs.declared.Asked.{Asked}
use Rattle.rules.specs.Document01.Plan.{request_of}
use Rattle.rules.specs.Document01.Entries.{fewest, most, entries_of}
use Rattle.claims.specs.Rust.Rcc.{frozen}
use Rattle.rules.specs.Manual.Tree.{among}
use Rattle.claims.specs.Demands.Agreement.{Agreement}
use Rattle.claims.specs.Demands.Legal.{LegalPlan}
use Rattle.claims.specs.Demands.Readings.{Reads, BankReads}
-- what the planner's call and the bank call list
pub use Rattle.rules.specs.Document01.Refusals.{plan_numbers, bank_numbers}

-- ---- demand 1
-- one complete plan, with `fewest` to `most` entries; or one listed refusal, with no plan beside it and no entry
pub record Answered (listed : List ℕ) (x : Result Plan Refusal) : Type 0 where
  pub plan : (p : Plan) → x ≡ Ok p → (fewest ≤ length (entries_of x)) × (length (entries_of x) ≤ most)
  pub refusal : (n : Refusal) → x ≡ Err n → among listed (number_of n) ≡ true
  pub blank : (n : Refusal) → x ≡ Err n → result_ok x ≡ None
  pub none : (n : Refusal) → x ≡ Err n → entries_of x ≡ []

-- a lent bank keeps its words: it held b, and holds b₁ at exit
abbrev pub Kept : Result Plan Refusal → (b b₁ : List ℕ) → Type 0
Kept x b b₁ = (n : Refusal) → x ≡ Err n → b₁ ≡ b

-- ---- demand 2
-- what the Rust's setters and Rcc::freeze do with the request
abbrev pub AsFreeze : (bytes : List ℕ) → Chip → Result Plan Refusal → Type 0
AsFreeze bytes chip x = (a : Asked) → request_of bytes chip ≡ Ok a → Agreement a.request a.chip x (frozen a.request a.chip)

-- what the manuals and IEEE 754 allow
abbrev pub IsLegal : (bytes : List ℕ) → Chip → Result Plan Refusal → Type 0
IsLegal bytes chip x = (a : Asked) (p : Plan) → request_of bytes chip ≡ Ok a → x ≡ Ok p → LegalPlan a.request a.chip p

-- ---- demand 3
-- over a bank at reset values after the whole list
abbrev pub ReadTwice : (bytes : List ℕ) → Chip → Result Plan Refusal → Type 0
ReadTwice bytes chip x = (a : Asked) → request_of bytes chip ≡ Ok a → Reads a.request x

-- over the bank at exit, b₁, where the one lent, b, was at reset values
abbrev pub BankReadTwice : (bytes : List ℕ) → Chip → Result Plan Refusal → (b b₁ : List ℕ) → Type 0
BankReadTwice bytes chip x b b₁ = (a : Asked) → request_of bytes chip ≡ Ok a → BankReads a.request x b b₁
