-- The two calls on bytes: the answer is the number of the first row that holds, and a plan where none does.
use Rattle.std.specs.Prelude.{Option, Ok, Some, None}
use mathlib.Core.Path.{◌≡◌, refl}
use mathlib.Core.Bool.{Bool, true, false, not, ◌&&◌, ◌||◌, cond}
use mathlib.Core.List.{List, append-nil}
use Prim.Native.Nat.{ℕ}
use lib.Dec.{ltb, eqb}
use Rattle.types.specs.declared.Chip.{Chip}
use Rattle.types.specs.declared.Refusal.TheVariants.{OutsideCodes, BankLength}
use Rattle.rules.specs.Document01.Result.{◌>>◌, require}
use Rattle.rules.specs.Document01.Chip.{chip_of, permission}
use Rattle.types.specs.declared.Asked.{Asked}
use Rattle.rules.specs.Document01.Plan.{chosen_plan, request_of, plan_of, bank_plan_of, answer_typed}
use Rattle.claims.specs.Demands.Rows.{first_that, AsRows}
use Rattle.claims.specs.Demands.ByPlaces.{state_of, request_at, part_at}
use Rattle.claims.specs.Demands.Refused.{chip_rows, byte_rows, code_rows, plan_rows, bank_rows}
use Rattle.claims.proofs.Refused.Says.{value, said_by, Says, says_then, says_ok, says_tested}
use Rattle.claims.proofs.Refused.OnePll.{lt_turned, twice}
use Rattle.claims.proofs.Refused.Typed.{says_plan, as_rows}
use Rattle.claims.proofs.Refused.Bytes.{says_request}
use Rattle.types.specs.declared.PllRequest.{PllRequest}
use Rattle.rules.specs.Document01.Bytes.{is_no_part, no_part}
use Rattle.rules.specs.Document01.Request.{pll_at}

-- ---- 1
-- the three permissions
bits_turned : (a b c : ℕ) → ltb a 2 && (ltb b 2 && ltb c 2) ≡ not (ltb 1 a || ltb 1 b || ltb 1 c)
bits_turned a b c = rw (lt_turned a 2, lt_turned b 2, lt_turned c 2) (go (ltb 1 a) (ltb 1 b) (ltb 1 c))
  where
    go : (x y z : Bool) → not x && (not y && not z) ≡ not (x || y || z)
    go true y z = refl
    go false true z = refl
    go false false z = refl

hsidiv_turned : (a b c d : Bool) → a || (b || (c || d)) ≡ not (not (a || b || c || d))
hsidiv_turned true b c d = refl
hsidiv_turned false true c d = refl
hsidiv_turned false false true d = refl
hsidiv_turned false false false d = twice d

says_chip : (c : Chip) → Says (chip_of c) (state_of c) (chip_rows c)
unfolding chip_of
says_chip c =
    says_tested _ OutsideCodes _ (twice (eqb c.plls 2 || eqb c.plls 3))
    (says_tested _ OutsideCodes _ (bits_turned (permission c 0) (permission c 1) (permission c 2))
    (says_tested _ OutsideCodes (ltb 3 c.scale) (lt_turned c.scale 4)
    (says_tested _ OutsideCodes (ltb 1 c.hsion) (lt_turned c.hsion 2)
    (says_tested _ OutsideCodes _ (hsidiv_turned (eqb c.hsidiv 1) (eqb c.hsidiv 2) (eqb c.hsidiv 4) (eqb c.hsidiv 8)) (says_ok (state_of c))))))

abbrev asked_for : List ℕ → Chip → Asked
asked_for bytes chip = record { request = request_at (state_of chip).three bytes; chip = state_of chip }

says_asked : (bytes : List ℕ) (chip : Chip) → Says (request_of bytes chip) (asked_for bytes chip) (code_rows bytes chip)
unfolding request_of
says_asked bytes chip =
    rw (← append-nil (byte_rows (state_of chip).three bytes))
    (says_then _ (says_chip chip) (says_then _ (says_request (state_of chip).three bytes) (says_ok (asked_for bytes chip))))

-- bytes that are a request say what stands in their places
pub by_places : (bytes : List ℕ) (chip : Chip) (a : Asked) → request_of bytes chip ≡ Ok a → a ≡ record { request = request_at (state_of chip).three bytes; chip = state_of chip }
by_places bytes chip a e = go (first_that (code_rows bytes chip)) (rw e at (says_asked bytes chip).same)
  where
    go : (o : Option ℕ) → value a ≡ said_by o (asked_for bytes chip) → a ≡ asked_for bytes chip
    go None e = cc
    go (Some n) e = cc

-- and have nothing in the third part of a request for two PLLs
fits : (three : Bool) (p : PllRequest) → three || is_no_part (cond three p no_part) ≡ true
fits true p = refl
fits false p = refl

nothing_there : (three : Bool) (bytes : List ℕ) → three || is_no_part (pll_at (request_at three bytes) 2) ≡ true
unfolding request_at
nothing_there three bytes = fits three (part_at bytes 90)

pub third_fits : (bytes : List ℕ) (chip : Chip) (a : Asked) → request_of bytes chip ≡ Ok a → answer_typed a.request a.chip ≡ chosen_plan a.request a.chip
unfolding answer_typed chosen_plan
third_fits bytes chip a e = rw (by_places bytes chip a e, nothing_there (state_of chip).three bytes)

-- ---- the calls
pub plan_rows_is : (bytes : List ℕ) (chip : Chip) → AsRows (plan_rows bytes chip) (plan_of bytes chip)
unfolding plan_of
plan_rows_is bytes chip = as_rows _ _ (plan_rows bytes chip) (says_then (λ a. chosen_plan a.request a.chip) (says_asked bytes chip) (says_plan (asked_for bytes chip).request (state_of chip)))

pub bank_rows_is : (bytes : List ℕ) (chip : Chip) (words : ℕ) → AsRows (bank_rows bytes chip words) (bank_plan_of bytes chip words)
unfolding bank_plan_of
bank_rows_is bytes chip words =
    as_rows _ _ (bank_rows bytes chip words)
    (says_then (λ a. require (eqb words 82) BankLength >> chosen_plan a.request a.chip) (says_asked bytes chip)
    (says_tested (eqb words 82) BankLength (not (eqb words 82)) (twice (eqb words 82)) (says_plan (asked_for bytes chip).request (state_of chip))))
