-- What the calls do at their edges, as document 01 states it: a third part on two PLLs, a bank's length, a reset word's PLL count, and the walk of a refused request.
use Rattle.types.specs.declared.Reset.{Reset}
use Rattle.std.specs.Prelude.{Some, None, Result, Ok, Err}
use mathlib.Core.Path.{◌≡◌, refl}
use mathlib.Core.Bool.{true, false}
use mathlib.Core.List.{List, [], ◌∷◌, map}
use Prim.Native.Nat.{ℕ, ◌≤◌}
use borrow.Author.Tests.{ne_eqb, le-ltb}
use Rattle.types.specs.declared.Plan.{Plan}
use Rattle.types.specs.declared.Chip.{Chip}
use Rattle.types.specs.declared.ChipState.{ChipState}
use Rattle.types.specs.declared.PllRequest.{PllRequest}
use Rattle.types.specs.declared.Request.{Request}
use Rattle.types.specs.declared.Strategy.TheVariants.{Integer}
use Rattle.types.specs.declared.Refusal.{Refusal}
use Rattle.types.specs.declared.Refusal.TheVariants.{OutsideCodes, BankLength}
use Rattle.types.specs.declared.ResetReason.TheVariants.{PinReset, Unknown}
use Rattle.types.specs.declared.Shown.TheVariants.{Stopped}
use Rattle.rules.specs.Document01.Refusals.{number_of, code_of}
use Rattle.rules.specs.Document01.Bytes.{request_bytes, is_no_part}
use Rattle.rules.specs.Document01.Request.{pll_at}
use Rattle.types.specs.declared.Asked.{Asked}
use Rattle.rules.specs.Document01.Plan.{request_of, bank_plan_of, answer_typed}
use Rattle.rules.specs.Document01.ResetReason.{reason_by, reason_of, write_back_of, reset_of}
use Rattle.rules.specs.Document01.Walk.{ended, shown_of, fresh_of, stepped_of, voltage_to, voltage_stepped}
use Rattle.rules.specs.Stated.Walks.{Pair, shows, Always}
use Rattle.rules.proofs.Computes.{by_rules}
use Rattle.rules.proofs.Samples.{nothing, chip, none, pll, plls3, state, state3}
use Rattle.rules.proofs.Document01.Walk.{ended_always}

-- ---- 1, a PLL3 part on a two-PLL chip, of a typed request: PLL2 alone and PLL3 alone, on two PLLs and on three; and for every request
abbrev audio : PllRequest
audio = pll Integer (Some 12_000_000) None

pub third_parts :
    map (λ c. map (λ q. code_of (answer_typed q c)) (plls3 None None none audio none ∷ plls3 None None none none audio ∷ [])) (state true ∷ state3 true true true ∷ [])
    ≡ (0 ∷ 1 ∷ []) ∷ (0 ∷ 0 ∷ []) ∷ []
unfolding by_rules answer_typed
third_parts = refl

pub third_part_is : (q : Request) (c : ChipState) → c.three ≡ false → is_no_part (pll_at q 2) ≡ false → answer_typed q c ≡ Err OutsideCodes
unfolding answer_typed
third_part_is q c two there = rw (two, there)

-- ---- 2, a bank that is not 82 words: 0, 81, 82, 83, 164 words, on two PLLs and on three; and for every request
pub bank_lengths :
    map (λ n. code_of (bank_plan_of (request_bytes false nothing) (chip 2 1) n)) (0 ∷ 81 ∷ 82 ∷ 83 ∷ 164 ∷ [])
    ∷ map (λ n. code_of (bank_plan_of (request_bytes true nothing) (chip 3 1) n)) (0 ∷ 81 ∷ 82 ∷ 83 ∷ 164 ∷ []) ∷ []
    ≡ (2 ∷ 2 ∷ 0 ∷ 2 ∷ 2 ∷ []) ∷ (2 ∷ 2 ∷ 0 ∷ 2 ∷ 2 ∷ []) ∷ []
unfolding by_rules
bank_lengths = refl

pub other_length : (bytes : List ℕ) (chip : Chip) (words : ℕ) (a : Asked) → request_of bytes chip ≡ Ok a → (words ≡ 82 → ⊥) → bank_plan_of bytes chip words ≡ Err BankLength
unfolding bank_plan_of
other_length bytes chip words a e n = rw (e, ne_eqb words 82 n)

-- ---- a reset word: PIN alone, for PLL counts 0 to 5; and for every word
abbrev told : Result Reset Refusal → List ℕ
told (Err n) = number_of n ∷ []
told (Ok t) = 0 ∷ t.write_back ∷ []

pub reset_counts : map (λ n. told (reset_of n 67_108_864)) (0 ∷ 1 ∷ 2 ∷ 3 ∷ 4 ∷ 5 ∷ [])
    ≡ (1 ∷ []) ∷ (1 ∷ []) ∷ (0 ∷ 75_497_472 ∷ []) ∷ (0 ∷ 75_497_472 ∷ []) ∷ (1 ∷ []) ∷ (1 ∷ []) ∷ []
unfolding reset_of write_back_of
reset_counts = refl

pub other_count : (plls word : ℕ) → (plls ≡ 2 → ⊥) → (plls ≡ 3 → ⊥) → reset_of plls word ≡ Err OutsideCodes
unfolding reset_of
other_count plls word n2 n3 = rw (ne_eqb plls 2 n2, ne_eqb plls 3 n3)

-- two PLLs: the reason by the flags; three PLLs: unknown, always, with the raw word
pub two_plls : reset_of 2 67_108_864 ≡ Ok (record { reason = PinReset; write_back = 75_497_472 })
unfolding reset_of reason_of reason_by write_back_of
two_plls = refl

pub three_plls : (word : ℕ) → reset_of 3 word ≡ Ok (record { reason = Unknown word; write_back = write_back_of word })
unfolding reset_of reason_of
three_plls word = refl

-- ---- the walk of a refused request shows its refusal, before any step and after each
pub refused_shows : (x : Result Plan Refusal) (n : Refusal) → x ≡ Err n → shown_of (fresh_of x) ≡ Stopped n
refused_shows x n e = rw e

pub refused_always : (x : Result Plan Refusal) (n : Refusal) (rs : List Pair) → x ≡ Err n → Always (Stopped n) (shows stepped_of (fresh_of x) rs)
refused_always x n rs e = rw e (ended_always n rs)

-- and so the voltage walk to a scale above 3
pub voltage_always : (target : ℕ) (rs : List Pair) → 4 ≤ target → Always (Stopped OutsideCodes) (shows (voltage_stepped target) (voltage_to target) rs)
voltage_always target rs h = rw (le-ltb target 4 h) (stays rs)
  where
    stays : (rs : List Pair) → Always (Stopped OutsideCodes) (shows (voltage_stepped target) (ended OutsideCodes) rs)
    stays [] = (refl, tt)
    stays (r ∷ rs) = (refl, stays rs)
