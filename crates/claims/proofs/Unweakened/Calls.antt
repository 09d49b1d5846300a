-- The demands of the two calls rule these out. Each line above a theorem names the weakening that would let it pass.
use Rattle.std.specs.Prelude.{Option, Some, None, Result, Ok, Err}
use mathlib.Core.Path.{◌≡◌, refl, sym, ap}
use mathlib.Core.Bool.{true, false}
use mathlib.Core.List.{List, [], ◌∷◌}
use Prim.Native.Nat.{ℕ, ◌≤◌}
use native.Mathlib.Omega.{arith}
use lib.ListN.{length, get_or}
use Rattle.types.specs.declared.Strategy.TheVariants.{Fractional}
use Rattle.types.specs.declared.PllRequest.{PllRequest}
use Rattle.types.specs.declared.Request.{Request}
use Rattle.types.specs.declared.Entry.TheVariants.{Set, Check}
use Rattle.types.specs.declared.Refusal.{Refusal}
use Rattle.types.specs.declared.Refusal.TheVariants.{BankLength, AboveLimit, NOutside, CsiDown}
use Rattle.types.specs.declared.Plan.{Plan}
use Rattle.rules.specs.Document01.Bytes.{request_bytes}
use Rattle.types.specs.declared.Asked.{Asked}
use Rattle.rules.specs.Document01.Plan.{request_of, plan_of}
use Rattle.rules.specs.Document01.Entries.{entries_of, fewest, most}
use Rattle.rules.specs.Document01.Bank.{reset_bank}
use Rattle.rules.specs.Stated.Applied.{Applied}
use Rattle.claims.specs.Demands.Calls.{plan_numbers, bank_numbers, Answered, Kept, AsFreeze, IsLegal, ReadTwice, BankReadTwice}
use Rattle.claims.specs.Demands.Rows.{◌when◌, AsRows}
use Rattle.laws.proofs.Tests.{never}
use Rattle.rules.proofs.Document01.Results.{not_ok}
use Rattle.rules.proofs.Computes.{by_rules, by_bank}
use Rattle.rules.proofs.Samples.{nothing, plls3, chip, state, a, plan_a}
use Rattle.claims.proofs.Readings.NonVacuous as NonVacuous
use Rattle.claims.proofs.Unweakened.Agreement.{one_clock}
use Rattle.claims.proofs.Unweakened.Legal.{dead, in_pll1}
use Rattle.claims.proofs.Unweakened.Wrong.{instead_of_a, slower_a, planned, refusing}
use Rattle.claims.proofs.Unweakened.Readings.{slower_a_is}

-- ---- demand 1
-- numbers that no call of a planner's gives: 12 and 24; and 2 by the planner's call
pub number_12 : Answered plan_numbers (refusing NOutside) → ⊥
number_12 h = never (sym (h.refusal NOutside refl))

pub number_12_bank : Answered bank_numbers (refusing NOutside) → ⊥
number_12_bank h = never (sym (h.refusal NOutside refl))

pub number_24 : Answered plan_numbers (refusing CsiDown) → ⊥
number_24 h = never (sym (h.refusal CsiDown refl))

pub number_24_bank : Answered bank_numbers (refusing CsiDown) → ⊥
number_24_bank h = never (sym (h.refusal CsiDown refl))

pub number_2 : Answered plan_numbers (refusing BankLength) → ⊥
number_2 h = never (sym (h.refusal BankLength refl))

-- a plan beside a refusal: no answer is both
pub not_blank : (n : Refusal) (p : Plan) → refusing n ≡ planned p → ⊥
not_blank n p e = not_ok e

-- fewer entries than `fewest`, or more than `most`. No plan has them, so the claim itself is taken at its word
pub from_fewest : (ns : List ℕ) (x : Result Plan Refusal) (p : Plan) → Answered ns x → x ≡ Ok p → fewest ≤ length (entries_of x)
from_fewest ns x p h e = (h.plan p e).0

pub to_most : (ns : List ℕ) (x : Result Plan Refusal) (p : Plan) → Answered ns x → x ≡ Ok p → length (entries_of x) ≤ most
to_most ns x p h e = (h.plan p e).1

-- both are reached: a request for nothing, and HSE 24,000,000 with P 12,288,000, Q 6,144,000, R 3,072,000 of three PLLs in Fractional strategy
abbrev every : PllRequest
every = record { strategy = Fractional; p = Some 12_288_000; q = Some 6_144_000; r = Some 3_072_000 }

abbrev all : Request
all = plls3 (Some 24_000_000) None every every every

pub shortest_and_longest : length (entries_of (plan_of (request_bytes false nothing) (chip 2 1))) ∷ length (entries_of (plan_of (request_bytes true all) (chip 3 1))) ∷ [] ≡ fewest ∷ most ∷ []
unfolding by_bank
shortest_and_longest = refl

pub no_entries : (ns : List ℕ) (x : Result Plan Refusal) (n : Refusal) → Answered ns x → x ≡ Err n → entries_of x ≡ []
no_entries ns x n h e = h.none n e

-- a word of the bank written by a call that is refused, with any number
pub word_written : (n : Refusal) → Kept (refusing n) (0 ∷ []) (1 ∷ []) → ⊥
word_written n h = let z : ◌≡◌ {A = ℕ} 1 0 = ap (λ (b : List ℕ). get_or b 0 0) (h n refl) in omega arith

-- a plan where a row holds; a refusal where none does; the number of a later row
pub plan_by_rows : (p : Plan) → AsRows (3 when true ∷ []) (planned p) → ⊥
plan_by_rows p h = let e : ◌≡◌ {A = Option ℕ} (Some 3) None = h.plan.0 refl in let z : ◌≡◌ {A = ℕ} 0 1 = cc in omega arith

pub refused_by_rows : AsRows (3 when false ∷ []) (refusing AboveLimit) → ⊥
refused_by_rows h = let e : ◌≡◌ {A = Option ℕ} None (Some 3) = (h.refusal AboveLimit).0 refl in let z : ◌≡◌ {A = ℕ} 0 1 = cc in omega arith

pub later_row : AsRows (2 when true ∷ 3 when true ∷ []) (refusing AboveLimit) → ⊥
later_row h = let e : ◌≡◌ {A = Option ℕ} (Some 2) (Some 3) = (h.refusal AboveLimit).0 refl in let z : ◌≡◌ {A = ℕ} 2 3 = cc in omega arith

-- ---- demands 2 and 3, of A's bytes: any premise that A does not meet, as an HSE, an LSE or an MCO
abbrev bytes_a : List ℕ
bytes_a = request_bytes false a

abbrev asked : Asked
asked = record { request = a; chip = state false }

is_request : request_of bytes_a (chip 2 0) ≡ Ok asked
unfolding by_rules
is_request = refl

pub unlike_freeze : AsFreeze bytes_a (chip 2 0) (planned slower_a) → ⊥
unlike_freeze h = one_clock (h asked is_request)

pub not_legal : IsLegal bytes_a (chip 2 0) (planned (instead_of_a 250_000_000 (Some dead) None None 5 2)) → ⊥
not_legal h = in_pll1 (h asked _ is_request refl)

pub not_read : ReadTwice bytes_a (chip 2 0) (planned slower_a) → ⊥
not_read h = slower_a_is (h asked is_request _ refl)

-- a bank call that writes nothing
pub bank_not_read : BankReadTwice bytes_a (chip 2 0) plan_a reset_bank reset_bank → ⊥
unfolding by_rules
bank_not_read h = NonVacuous.nothing_written (h asked is_request _ refl refl)

-- ---- one entry applied: a check that stores, a set that stores nothing, one that changes another word, a bank that grows
pub check_stores : Applied (Check 1 7) (0 ∷ 0 ∷ []) (0 ∷ 7 ∷ []) → ⊥
check_stores h = let z : ◌≡◌ {A = ℕ} 7 0 = h.each 1 (omega arith) in omega arith

pub set_stores_nothing : Applied (Set 1 7) (0 ∷ 0 ∷ []) (0 ∷ 0 ∷ []) → ⊥
set_stores_nothing h = let z : ◌≡◌ {A = ℕ} 0 7 = h.each 1 (omega arith) in omega arith

pub other_word : Applied (Set 1 7) (0 ∷ 0 ∷ []) (1 ∷ 7 ∷ []) → ⊥
other_word h = let z : ◌≡◌ {A = ℕ} 1 0 = h.each 0 (omega arith) in omega arith

pub bank_grows : Applied (Set 1 7) (0 ∷ 0 ∷ []) (0 ∷ 7 ∷ 0 ∷ []) → ⊥
bank_grows h = let z : ◌≡◌ {A = ℕ} 3 2 = h.words in omega arith
