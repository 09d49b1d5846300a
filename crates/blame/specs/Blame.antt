-- The word that a refusal is about: docs/CODES.md, A request in words.
use Rattle.std.specs.Prelude.{◌≡◌, Bool, true, false, cond, List, [], ◌∷◌, Option, Some, None, ℕ, eqb, take, drop}
use Rattle.std.specs.Result.{result_err}
use Rattle.types.specs.declared.Refusal.{Refusal}
use Rattle.types.specs.declared.Refusal.TheVariants.{SourceZero, NoM, AhbZero}
use Rattle.rules.specs.Document01.Refusals.{number_of}
use Rattle.rules.specs.Document01.Plan.{plan_of}
use Rattle.sheet.specs.Sheet.{request_length, chip_on}
use Rattle.ask.specs.Sheet.{without_key}

-- the order in which keys are tried, by their numbers (crates/ask/specs/Table): hse | the outputs pll1.p pll1.q pll1.r, of PLL2, of PLL3 | the
-- strategies pll1 pll2 pll3 | mco1 mco2 | ahb apb1 apb2 apb3 | sys | per | hse again, bypass | lse | audio | odd1 odd2 odd3 scale hsion hsidiv |
-- chip | bytes
unfoldable pub order : List ℕ
order =
    0 ∷ 13 ∷ 14 ∷ 15 ∷ 17 ∷ 18 ∷ 19 ∷ 21 ∷ 22 ∷ 23 ∷ 12 ∷ 16 ∷ 20 ∷ 10 ∷ 11 ∷ 5 ∷ 6 ∷ 7 ∷ 8 ∷ 3 ∷ 4 ∷ 0 ∷ 9
    ∷ 1 ∷ 2 ∷ 25 ∷ 26 ∷ 27 ∷ 28 ∷ 29 ∷ 30 ∷ 24 ∷ 32 ∷ []

-- what the planner answers to a sheet: its refusal; none for a plan
unfoldable pub refusal_on : (sheet : List ℕ) → Option Refusal
refusal_on s = result_err (plan_of (take (request_length s) s) (chip_on s))

-- the number of what it answers; 0 for a plan
abbrev pub number_on : Option Refusal → ℕ
number_on None = 0
number_on (Some n) = number_of n

-- whether two answers have the same number
abbrev pub same : Option Refusal → Option Refusal → Bool
same a b = eqb (number_on a) (number_on b)

-- whether a refusal is one that the board causes (document 01: 6, 11, 19)
abbrev pub by_board : Option Refusal → Bool
by_board (Some SourceZero) = true
by_board (Some NoM) = true
by_board (Some AhbZero) = true
by_board _ = false

-- where in the order to start: with HSE for such a refusal, else behind it
abbrev pub start_for : Option Refusal → ℕ
start_for r = cond (by_board r) 0 1

-- the first key with which the next sheet that is tried is answered otherwise than a sheet; none where there is none
unfoldable pub freed_from : (next : List ℕ → ℕ → List ℕ) → (sheet tried : List ℕ) → (keys : List ℕ) → Option ℕ
freed_from next s t [] = None
freed_from next s t (k ∷ ks) = cond (same (refusal_on (next t k)) (refusal_on s)) (freed_from next s (next t k) ks) (Some k)

-- whether what follows a call with a sheet and a key is what next has
abbrev pub Gives : (call : List ℕ → ℕ → List ℕ → Type 0) → (next : List ℕ → ℕ → List ℕ) → Type 0
Gives call next = (t : List ℕ) (k : ℕ) (r : List ℕ) → call t k r → r ≡ next t k

-- of the keys in their order
abbrev pub first_freed : (next : List ℕ → ℕ → List ℕ) → (sheet : List ℕ) → Option ℕ
first_freed next s = freed_from next s s (drop (start_for (refusal_on s)) order)

-- the key without which the sheet is answered otherwise
unfoldable pub blamed_of : (sheet : List ℕ) → Option ℕ
blamed_of s = first_freed (λ t k. without_key s k) s

-- the last key of those without which, taken away one after the other, the sheet is answered otherwise
unfoldable pub last_blamed_of : (sheet : List ℕ) → Option ℕ
last_blamed_of s = first_freed without_key s
