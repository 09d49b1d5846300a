-- Demand 2: what it means that the rules and Rcc::freeze agree. It is stated of every typed request: those that the Rust's setters can
-- build, and those that they cannot (an MCO source other than the default without hertz, MCO1 from LSE), as if a Config could hold them.
use Rattle.std.specs.Prelude.{◌≡◌, ◌⊎◌, ◌↔◌, Bool, true, false, cond, List, ◌∷◌, ◌++◌, ℕ, ◌-◌, ◌%◌, ◌≤◌, ◌<◌, Result, is_some, IsOk, Ok, Err}
use Rattle.types.specs.declared.Plan.{Plan}
use Rattle.types.specs.declared.PllRequest.{PllRequest}
use Rattle.types.specs.declared.Request.{Request}
use Rattle.types.specs.declared.ChipState.{ChipState}
use Rattle.types.specs.declared.Entry.{Entry}
use Rattle.types.specs.declared.Entry.TheVariants.{Set}
use Rattle.types.specs.declared.Refusal.{Refusal}
use Rattle.rules.specs.Document01.Chip.{odd_at}
use Rattle.rules.specs.Document01.Refusals.{number_of}
use Rattle.rules.specs.Document01.Request.{asked_of}
use Rattle.rules.specs.Document01.OnePll.{target_for, divider_p}
use Rattle.rules.specs.Document01.Fields
use Rattle.rules.specs.Document01.Fields.{of_pll}
use Rattle.claims.specs.Rust.Run.{Outcome, panics, ends, as_u8}
use Rattle.claims.specs.Rust.CoreClocks.{CoreClocks}
use Rattle.rules.specs.Manual.PllFields.{allows_p}
use Rattle.claims.specs.Demands.Departures.{Freezes, as_planned}

-- how many PLLs a chip has
abbrev pub pll_count : ChipState → ℕ
pll_count c = cond c.three 3 2

-- something holds of one of the chip's PLLs, from 0
pub record SomePll (c : ChipState) (F : ℕ → Type 0) : Type 0 where
  pub pll : ℕ
  pub there : pll < pll_count c
  pub at : F pll

-- ---- 14 and 15
-- the divider that 14 refuses
abbrev pub Refused14 : Refusal → (divider : ℕ) → Type 0
Refused14 n divider = (number_of n ≡ 14) × (128 < divider) × (divider ≤ 257)

-- the divider that 15 refuses
abbrev pub Refused15 : Refusal → (divider : ℕ) → Type 0
Refused15 n divider = (number_of n ≡ 15) × (divider ≤ 128) × (divider % 2 ≡ 1)

-- the divider of P that the rules come to, where so much is asked of a PLL
abbrev pub divider_for : (odd : Bool) → PllRequest → ℕ
divider_for odd a = divider_p (target_for odd a) a.p

-- what 14 and 15 say of a PLL: P is requested of it, odd dividers are forbidden there, and the divider is one that the number refuses
pub record Forbidden (odd : Bool) (a : PllRequest) (n : Refusal) : Type 0 where
  pub asked : is_some a.p ≡ true
  pub even : odd ≡ false
  pub which : Refused14 n (divider_for odd a) ⊎ Refused15 n (divider_for odd a)

-- one of the chip's PLLs
abbrev pub Cause : Request → ChipState → Refusal → Type 0
Cause q c n = SomePll c (λ k. Forbidden (odd_at c k) (asked_of q k) n)

-- ---- document 01, Departures
-- the operations es set PLL k's P to that divider less 1, as a u8, and the manual forbids the value
pub record WrittenAt (k : ℕ) (odd : Bool) (a : PllRequest) (n : Refusal) (es : List Entry) : Type 0 where
  pub why : Forbidden odd a n
  pub before : List Entry
  pub after : List Entry
  pub written : es ≡ before ++ (Set (of_pll k Fields.P) (as_u8 (divider_for odd a - 1)) ∷ after)
  pub forbidden : allows_p odd (as_u8 (divider_for odd a - 1)) ≡ false

-- one of the chip's PLLs
abbrev pub Departure : Request → ChipState → Refusal → List Entry → Type 0
Departure q c n es = SomePll c (λ k. WrittenAt k (odd_at c k) (asked_of q k) n es)

-- every value that es set the P of one of the chip's PLLs to is one that the manual allows
abbrev pub AllowsEachP : ChipState → List Entry → Type 0
AllowsEachP c es = (k v : ℕ) (before after : List Entry) → k < pll_count c → es ≡ before ++ (Set (of_pll k Fields.P) v ∷ after) → allows_p (odd_at c k) v ≡ true

-- freeze ends, and the manual allows what it has written to every P
pub record EndsAllowed (c : ChipState) (o : Outcome CoreClocks) : Type 0 where
  pub entries : List Entry
  pub clocks : CoreClocks
  pub end : o ≡ ends entries clocks
  pub allowed : AllowsEachP c entries

-- ---- an answer of the rules to a request, and how the Rust's setters and freeze come out
-- where f says what comes out of freeze for a plan
pub record AgreementAs (f : Plan → Freezes) (q : Request) (c : ChipState) (x : Result Plan Refusal) (o : Outcome CoreClocks) : Type 0 where
  -- a plan exactly where freeze ends and the manual allows what it has written to every P
  pub exactly : IsOk x ↔ EndsAllowed c o
  -- a plan: freeze ends with exactly these entries, in order, and these clocks
  pub planned : (p : Plan) → x ≡ Ok p → o ≡ ends (f p).entries (f p).clocks
  -- a panic: the request is refused
  pub panicked : o ≡ panics → (n : Refusal) × (x ≡ Err n)
  -- a refusal other than 14 and 15: the setters or freeze panic
  pub refused : (n : Refusal) → x ≡ Err n → (number_of n ≡ 14 → ⊥) → (number_of n ≡ 15 → ⊥) → o ≡ panics
  -- 14 and 15, whether freeze panics or ends: one of the chip's PLLs has a divider that the number refuses
  pub caused : (n : Refusal) → x ≡ Err n → (number_of n ≡ 14) ⊎ (number_of n ≡ 15) → Cause q c n
  -- a refusal, and freeze ends all the same: it is 14 or 15, and freeze has written that divider, which the manual forbids
  pub departed : (n : Refusal) (es : List Entry) (k : CoreClocks) → x ≡ Err n → o ≡ ends es k → Departure q c n es

-- nothing departs but 14 and 15: freeze ends with exactly the plan's entries, in order, and its clocks
abbrev pub Agreement : Request → ChipState → Result Plan Refusal → Outcome CoreClocks → Type 0
Agreement = AgreementAs as_planned
