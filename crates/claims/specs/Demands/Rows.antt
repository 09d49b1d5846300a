-- A list to tick off: rows with a number and a test. The answer has the number of the first row that holds, and is a plan where none does.
use Rattle.types.specs.declared.Plan.{Plan}
use Rattle.std.specs.Prelude.{ℕ, ◌≡◌, ◌↔◌, List, [], ◌∷◌, Bool, cond, Option, Some, None, Result, Err, IsOk}
use Rattle.types.specs.declared.Refusal.{Refusal}
use Rattle.rules.specs.Document01.Refusals.{number_of}

-- a refusal's number, and whether it fits
pub record Row : Type 0 where
  pub number : ℕ
  pub holds : Bool

infix 70 ◌when◌
-- a row, as it is written
abbrev pub ◌when◌ : ℕ → Bool → Row
n when t = record { number = n; holds = t }

-- the number of the first row that holds, or none
abbrev pub first_that : List Row → Option ℕ
first_that [] = None
first_that (r ∷ rs) = cond r.holds (Some r.number) (first_that rs)

-- ---- the claim: a plan exactly where no row holds, and a refusal exactly where the first row that holds has its number
pub record AsRows (rows : List Row) (x : Result Plan Refusal) : Type 0 where
  pub plan : IsOk x ↔ first_that rows ≡ None
  pub refusal : (n : Refusal) → x ≡ Err n ↔ first_that rows ≡ Some (number_of n)
