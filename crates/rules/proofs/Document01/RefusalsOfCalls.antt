-- Which refusals the calls answer: the planner's `plan_numbers`, the bank call `bank_numbers`, a walk over a plan's list `walk_numbers`.
use Rattle.std.specs.Prelude.{Option, Result, Ok, Err}
use mathlib.Core.Path.{◌≡◌, refl, subst}
use mathlib.Core.Bool.{Bool, true, false, cond, ◌&&◌, ◌||◌}
use mathlib.Core.List.{List, [], ◌∷◌}
use Prim.Native.Nat.{ℕ, zero, suc}
use lib.Dec.{eqb, ltb}
use Rattle.types.specs.declared.Chip.{Chip}
use Rattle.types.specs.declared.Refusal.{Refusal}
use Rattle.types.specs.declared.Refusal.TheVariants.{OutsideCodes, BankLength, CsiDown}
use Rattle.types.specs.declared.Plan.{Plan}
use Rattle.types.specs.declared.Entry.{Entry}
use Rattle.rules.specs.Document01.Refusals.{number_of, typed_numbers, plan_numbers, bank_numbers, walk_numbers}
use Rattle.rules.specs.Document01.Result.{◌>>=◌, ◌>>◌, require}
use Rattle.rules.specs.Document01.Chip.{is_bit, is_hsidiv, chip_of, permission}
use Rattle.rules.specs.Document01.Walk.{Stand, before, ended, passes, is_check, held, stepped_of}
use Rattle.rules.specs.Stated.Walks.{Pair, after}
use Rattle.rules.specs.Document01.Bytes.{Read, Reader, fits, byte, end, code, u32le, set_to, hertz, flag, mco1_source, mco2_source, strategy, pll_part, third_part, request_part}
use Rattle.rules.specs.Document01.Plan.{chosen_plan, request_of, plan_of, bank_plan_of}
use Rattle.rules.specs.Manual.Tree.{among}
use Rattle.rules.proofs.Document01.Results.{Only, only_require, only_then, only_next}
use Rattle.rules.proofs.Document01.Refusals.{Typed, among_more, chosen_plan_only}

-- ---- reading refuses with 1
module _ (P : Refusal → Type 0) (one : P OutsideCodes) where
  chip_only : (chip : Chip) → Only P (chip_of chip)
  unfolding chip_of
  chip_only chip =
      only_next P (require (eqb chip.plls 2 || eqb chip.plls 3) OutsideCodes) _ (only_require P (eqb chip.plls 2 || eqb chip.plls 3) OutsideCodes one)
      (only_next P (require (is_bit (permission chip 0) && (is_bit (permission chip 1) && is_bit (permission chip 2))) OutsideCodes) _ (only_require P (is_bit (permission chip 0) && (is_bit (permission chip 1) && is_bit (permission chip 2))) OutsideCodes one)
      (only_next P (require (ltb chip.scale 4) OutsideCodes) _ (only_require P (ltb chip.scale 4) OutsideCodes one)
      (only_next P (require (is_bit chip.hsion) OutsideCodes) _ (only_require P (is_bit chip.hsion) OutsideCodes one)
      (only_next P (require (is_hsidiv chip.hsidiv) OutsideCodes) _ (only_require P (is_hsidiv chip.hsidiv) OutsideCodes one) tt))))

  abbrev Refuses : {A : Type 0} → Reader A → Type 0
  Refuses r = (bytes : List ℕ) → Only P (r bytes)

  byte_only : Refuses byte
  unfolding byte
  byte_only [] = one
  byte_only (b ∷ bytes) = tt

  end_only : Refuses end
  unfolding end
  end_only [] = tt
  end_only (b ∷ bytes) = one

  fits_only : (b : Bool) → Refuses (fits b)
  fits_only true bytes = tt
  fits_only false bytes = one

  code_only : (n : ℕ) → Refuses (code n)
  unfolding code
  code_only n bytes = only_then P (byte bytes) _ (byte_only bytes) (λ x. only_then P (fits (ltb x.value n) x.rest) _ (fits_only (ltb x.value n) x.rest) (λ y. tt))

  u32le_only : Refuses u32le
  unfolding u32le
  u32le_only bytes =
      only_then P (byte bytes) _ (byte_only bytes) (λ a. only_then P (byte a.rest) _ (byte_only a.rest)
      (λ b. only_then P (byte b.rest) _ (byte_only b.rest) (λ c. only_then P (byte c.rest) _ (byte_only c.rest) (λ d. tt))))

  set_only : (set n : ℕ) → Refuses (set_to set n)
  set_only zero n bytes = only_then P (fits (eqb n 0) bytes) _ (fits_only (eqb n 0) bytes) (λ x. tt)
  set_only (suc set) n bytes = tt

  hertz_only : Refuses hertz
  unfolding hertz
  hertz_only bytes = only_then P (code 2 bytes) _ (code_only 2 bytes) (λ s. only_then P (u32le s.rest) _ (u32le_only s.rest) (λ n. set_only s.value n.value n.rest))

  flag_only : Refuses flag
  unfolding flag
  flag_only bytes = only_then P (code 2 bytes) _ (code_only 2 bytes) (λ c. tt)

  mco1_only : Refuses mco1_source
  unfolding mco1_source
  mco1_only bytes = only_then P (code 5 bytes) _ (code_only 5 bytes) (λ c. tt)

  mco2_only : Refuses mco2_source
  unfolding mco2_source
  mco2_only bytes = only_then P (code 6 bytes) _ (code_only 6 bytes) (λ c. tt)

  strategy_only : Refuses strategy
  unfolding strategy
  strategy_only bytes = only_then P (code 2 bytes) _ (code_only 2 bytes) (λ c. tt)

  pll_only : Refuses pll_part
  unfolding pll_part
  pll_only bytes =
      only_then P (strategy bytes) _ (strategy_only bytes) (λ s. only_then P (hertz s.rest) _ (hertz_only s.rest)
      (λ p. only_then P (hertz p.rest) _ (hertz_only p.rest) (λ q. only_then P (hertz q.rest) _ (hertz_only q.rest) (λ r. tt))))

  third_only : (three : Bool) → Refuses (third_part three)
  third_only true bytes = pll_only bytes
  third_only false bytes = tt

  -- a reader of hertz, then whatever follows
  after_hertz : {B : Type 0} (bytes : List ℕ) (k : Read (Option ℕ) → Result B Refusal) → ((x : Read (Option ℕ)) → Only P (k x)) → Only P (hertz bytes >>= k)
  after_hertz bytes k f = only_then P (hertz bytes) k (hertz_only bytes) f

  pub request_only : (three : Bool) → Refuses (request_part three)
  unfolding request_part
  request_only three bytes =
      after_hertz bytes _ (λ x. after_hertz x.rest _ (λ x. after_hertz x.rest _ (λ x. after_hertz x.rest _ (λ x. after_hertz x.rest _
      (λ x. after_hertz x.rest _ (λ x. after_hertz x.rest _ (λ x. after_hertz x.rest _ (λ x. after_hertz x.rest _
      (λ x. only_then P (flag x.rest) _ (flag_only x.rest)
      (λ x. only_then P (mco1_source x.rest) _ (mco1_only x.rest)
      (λ x. after_hertz x.rest _
      (λ x. only_then P (mco2_source x.rest) _ (mco2_only x.rest)
      (λ x. after_hertz x.rest _
      (λ x. only_then P (pll_part x.rest) _ (pll_only x.rest)
      (λ x. only_then P (pll_part x.rest) _ (pll_only x.rest)
      (λ x. only_then P (third_part three x.rest) _ (third_only three x.rest)
      (λ x. only_then P (end x.rest) _ (end_only x.rest) (λ x. tt))))))))))))))))))

  asked_only : (bytes : List ℕ) (chip : Chip) → Only P (request_of bytes chip)
  unfolding request_of
  asked_only bytes chip = only_then P (chip_of chip) _ (chip_only chip) (λ c. only_then P (request_part c.three bytes) _ (request_only c.three bytes) (λ q. tt))

pub outside_codes : (bytes : List ℕ) (chip : Chip) (n : Refusal) → request_of bytes chip ≡ Err n → n ≡ OutsideCodes
outside_codes bytes chip n e = subst (Only (λ m. m ≡ OutsideCodes)) e (asked_only (λ m. m ≡ OutsideCodes) refl bytes chip)

-- ---- the calls
abbrev ByPlan : Refusal → Type 0
ByPlan n = among plan_numbers (number_of n) ≡ true

abbrev ByBank : Refusal → Type 0
ByBank n = among bank_numbers (number_of n) ≡ true

more : (P Q : Refusal → Type 0) → ((n : Refusal) → P n → Q n) → {A : Type 0} (x : Result A Refusal) → Only P x → Only Q x
more P Q f (Err n) h = f n h
more P Q f (Ok a) h = tt

read_off : (P : Refusal → Type 0) (x : Result Plan Refusal) (n : Refusal) → Only P x → x ≡ Err n → P n
read_off P x n h e = subst (Only P) e h

plan_only : (bytes : List ℕ) (chip : Chip) → Only ByPlan (request_of bytes chip >>= λ a. chosen_plan a.request a.chip)
plan_only bytes chip =
    only_then ByPlan (request_of bytes chip) (λ a. chosen_plan a.request a.chip) (asked_only ByPlan refl bytes chip)
    (λ a. more Typed ByPlan (λ m. among_more typed_numbers plan_numbers refl (number_of m)) (chosen_plan a.request a.chip) (chosen_plan_only a.request a.chip))

pub plan_numbers_is : (bytes : List ℕ) (chip : Chip) (n : Refusal) → plan_of bytes chip ≡ Err n → ByPlan n
unfolding plan_of
plan_numbers_is bytes chip n e = read_off ByPlan (request_of bytes chip >>= λ a. chosen_plan a.request a.chip) n (plan_only bytes chip) e

bank_only : (bytes : List ℕ) (chip : Chip) (words : ℕ) → Only ByBank (request_of bytes chip >>= λ a. require (eqb words 82) BankLength >> chosen_plan a.request a.chip)
bank_only bytes chip words =
    only_then ByBank (request_of bytes chip) (λ a. require (eqb words 82) BankLength >> chosen_plan a.request a.chip) (asked_only ByBank refl bytes chip)
    (λ a. only_next ByBank (require (eqb words 82) BankLength) (chosen_plan a.request a.chip) (only_require ByBank (eqb words 82) BankLength refl)
    (more Typed ByBank (λ m. among_more typed_numbers bank_numbers refl (number_of m)) (chosen_plan a.request a.chip) (chosen_plan_only a.request a.chip)))

pub bank_numbers_is : (bytes : List ℕ) (chip : Chip) (words : ℕ) (n : Refusal) → bank_plan_of bytes chip words ≡ Err n → ByBank n
unfolding bank_plan_of
bank_numbers_is bytes chip words n e = read_off ByBank (request_of bytes chip >>= λ a. require (eqb words 82) BankLength >> chosen_plan a.request a.chip) n (bank_only bytes chip words) e

-- ---- a walk's own: over any values read, a walk over a list ends with no other number than those
abbrev EndsBy : Stand → Type 0
EndsBy (before es) = Unit
EndsBy (ended n) = among walk_numbers (number_of n) ≡ true

held_ends : (check : Bool) (s : Stand) → EndsBy s → EndsBy (cond check (ended CsiDown) s)
held_ends true s h = refl
held_ends false s h = h

step_ends : (s : Stand) (a b : ℕ) → EndsBy s → EndsBy (stepped_of s a b)
step_ends (before []) a b h = tt
step_ends (before (e ∷ es)) a b h = by (passes e a b)
  where
    by : (t : Bool) → EndsBy (cond t (before es) (held e es))
    by true = tt
    by false = held_ends (is_check e) (before (e ∷ es)) tt
step_ends (ended n) a b h = h

after_ends : (s : Stand) (rs : List Pair) → EndsBy s → EndsBy (after stepped_of s rs)
after_ends s [] h = h
after_ends s (r ∷ rs) h = after_ends (stepped_of s r.a r.b) rs (step_ends s r.a r.b h)

pub walk_numbers_is : (es : List Entry) (rs : List Pair) (n : Refusal) → after stepped_of (before es) rs ≡ ended n → among walk_numbers (number_of n) ≡ true
walk_numbers_is es rs n e = subst EndsBy e (after_ends (before es) rs tt)
