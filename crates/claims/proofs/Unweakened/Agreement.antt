-- Demand 2 rules these out: answers and outcomes that do not agree. Each line above a theorem names the weakening that would let it pass.
use Rattle.std.specs.Prelude.{Result, Ok, IsOk}
use mathlib.Core.Path.{◌≡◌, refl, sym, ap, ◌∙◌}
use mathlib.Core.Logic.{◌⊎◌, inl, inr, ⊎_elim}
use mathlib.Core.Bool.{Bool, true, false}
use mathlib.Core.List.{List, [], ◌∷◌, ◌++◌, map}
use Prim.Native.Nat.{ℕ, zero, suc, ◌+◌, ◌-◌, ◌*◌, ◌%◌, ◌<◌, ◌≤◌}
use native.Mathlib.Omega.{arith}
use lib.ListN.{length, drop, get_or}
use Rattle.types.specs.declared.Plan.{Plan}
use Rattle.types.specs.declared.Request.{Request}
use Rattle.types.specs.declared.ChipState.{ChipState}
use Rattle.types.specs.declared.Entry.{Entry}
use Rattle.types.specs.declared.Entry.TheVariants.{Set}
use Rattle.types.specs.declared.Refusal.{Refusal}
use Rattle.types.specs.declared.Refusal.TheVariants.{PDividerAbove128, PDividerOdd}
use Rattle.rules.specs.Document01.Refusals.{number_of}
use Rattle.rules.specs.Document01.Request.{asked_of}
use Rattle.rules.specs.Document01.Entries.{entries_of, fewest, plan_entries}
use Rattle.rules.proofs.Document01.Length.{accepted_length}
use Rattle.rules.specs.Words.{entry_words}
use Rattle.claims.specs.Rust.Run.{Outcome, panics, ends}
use Rattle.claims.specs.Rust.Rcc.{frozen}
use Rattle.claims.specs.Rust.CoreClocks.{CoreClocks}
use Rattle.rules.specs.Manual.PllFields.{allows_p}
use Rattle.claims.specs.Demands.Report.{reported}
use Rattle.claims.specs.Demands.Agreement.{Refused14, Refused15, divider_for, Forbidden, Departure, AllowsEachP, Agreement, pll_count}
use Rattle.rules.proofs.Computes.{by_rules, by_bank}
use Rattle.laws.proofs.Tests.{never}
use Rattle.rules.proofs.Samples.{state, state3, a, plan_a, plan_in}
use Rattle.claims.proofs.Agreement.Whole.{agreement}
use Rattle.claims.proofs.Unweakened.Wrong.{slower_a, planned, refusing}
use Rattle.rules.specs.Document01.Chip.{odd_at}

same_entries : {es fs : List Entry} {j k : CoreClocks} → ends es j ≡ ends fs k → es ≡ fs
same_entries e = cc

same_clocks : {es fs : List Entry} {j k : CoreClocks} → ends es j ≡ ends fs k → j ≡ k
same_clocks e = cc

-- ---- a plan fixes all entries, in order, and all clocks: any of them left free
pub entries_fixed : (q : Request) (c : ChipState) (x : Result Plan Refusal) (p : Plan) (es : List Entry) (k : CoreClocks) → x ≡ Ok p → Agreement q c x (ends es k) → es ≡ plan_entries p
entries_fixed q c x p es k e h = same_entries (h.planned p e)

pub clocks_fixed : (q : Request) (c : ChipState) (x : Result Plan Refusal) (p : Plan) (es : List Entry) (k : CoreClocks) → x ≡ Ok p → Agreement q c x (ends es k) → k ≡ reported p
clocks_fixed q c x p es k e h = same_clocks (h.planned p e)

-- what freeze does with A
frozen_a : frozen a (state false) ≡ ends (plan_entries (plan_in plan_a)) (reported (plan_in plan_a))
unfolding by_rules
frozen_a = (agreement a (state false)).planned (plan_in plan_a) refl

-- clocks not compared: A reported 1 Hz lower
pub one_clock : Agreement a (state false) (planned slower_a) (frozen a (state false)) → ⊥
unfolding by_rules
one_clock h =
    let k = same_clocks (sym frozen_a ∙ h.planned slower_a refl) in
    let z : ◌≡◌ {A = ℕ} 250_000_000 249_999_999 = ap (λ (x : CoreClocks). x.sys_ck) k in
    omega arith

-- fewer entries: the first of A's left out
shorter : (es : List Entry) → fewest ≤ length es → drop 1 es ≡ es → ⊥
shorter [] l e = absurd (omega arith)
shorter (x ∷ es) l e = let z = ap length e in omega arith

pub one_dropped : Agreement a (state false) plan_a (ends (drop 1 (entries_of plan_a)) (reported (plan_in plan_a))) → ⊥
unfolding by_bank
one_dropped h = shorter (entries_of plan_a) (accepted_length plan_a (plan_in plan_a) refl).0 (entries_fixed _ _ plan_a (plan_in plan_a) _ _ refl h)

-- any order: the first two of A's exchanged
abbrev exchanged : List Entry → List Entry
exchanged [] = []
exchanged (e ∷ []) = e ∷ []
exchanged (e ∷ f ∷ es) = f ∷ e ∷ es

pub two_exchanged : Agreement a (state false) plan_a (ends (exchanged (entries_of plan_a)) (reported (plan_in plan_a))) → ⊥
unfolding by_bank
two_exchanged h =
    let z : ◌≡◌ {A = ℕ} 2 1 = ap (λ (es : List Entry). get_or (get_or (map entry_words es) 0 []) 1 0) (entries_fixed _ _ plan_a (plan_in plan_a) _ _ refl h) in
    omega arith

-- ---- panics
-- a plan where the Rust panics
pub plan_for_a_panic : Agreement a (state false) plan_a panics → ⊥
unfolding by_bank
plan_for_a_panic h = let e : panics ≡ ends (entries_of plan_a) (reported (plan_in plan_a)) = h.planned (plan_in plan_a) refl in let z : ◌≡◌ {A = ℕ} 0 1 = cc in omega arith

-- a refusal other than 14 and 15 where freeze ends
pub refused_for_a_plan : (q : Request) (c : ChipState) (n : Refusal) (es : List Entry) (k : CoreClocks) → (number_of n ≡ 14 → ⊥) → (number_of n ≡ 15 → ⊥) → Agreement q c (refusing n) (ends es k) → ⊥
refused_for_a_plan q c n es k n14 n15 h =
    let e : ends es k ≡ panics = h.refused n refl n14 n15 in
    let z : ◌≡◌ {A = ℕ} 0 1 = cc in
    omega arith

-- ---- a plan exactly where freeze ends and the manual allows each P
-- a refusal, with any number, where freeze ends and all that it has written is allowed
pub refused_where_allowed : (q : Request) (c : ChipState) (n : Refusal) (es : List Entry) (k : CoreClocks) → AllowsEachP c es → Agreement q c (refusing n) (ends es k) → ⊥
refused_where_allowed q c n es k l h =
    let e : false ≡ true = h.exactly.1 (record { entries = es; clocks = k; end = refl; allowed = l }) in
    let z : ◌≡◌ {A = ℕ} 0 1 = cc in
    omega arith

-- a plan where freeze ends and has written a divider of 5 that is forbidden
pub plan_where_forbidden : (q : Request) (x : Result Plan Refusal) (k : CoreClocks) → IsOk x → Agreement q (state false) x (ends (Set 6 4 ∷ []) k) → ⊥
plan_where_forbidden q x k e h =
    let r = h.exactly.0 e in
    let t : false ≡ true = r.allowed 0 4 [] [] (omega arith) (sym (same_entries r.end)) in
    let z : ◌≡◌ {A = ℕ} 0 1 = cc in
    omega arith

-- ---- 14 and 15 with no cause in the request: of A, which asks for one P and divides by 2, on any chip, however freeze comes out
not_forbidden : (k : ℕ) (odd : Bool) (n : Refusal) → Forbidden odd (asked_of a k) n → ⊥
unfolding by_rules
not_forbidden zero true n w = never w.even
not_forbidden zero false n w =
    let at14 : Refused14 n 2 → ⊥ = λ t. omega (arith, t.1) in
    let at15 : Refused15 n 2 → ⊥ = λ t. omega (arith, t.2) in
    ⊎_elim at14 at15 w.which
not_forbidden (suc zero) odd n w = never (sym w.asked)
not_forbidden (suc (suc k)) odd n w = never (sym w.asked)

pub without_cause : (c : ChipState) (n : Refusal) (o : Outcome CoreClocks) → (number_of n ≡ 14) ⊎ (number_of n ≡ 15) → Agreement a c (refusing n) o → ⊥
without_cause c n o w h = let d = h.caused n refl w in not_forbidden d.pll _ n d.at

-- so 14 where the third PLL alone, which A does not ask for, may not divide by an odd number
abbrev third_even : ChipState
third_even = state3 true true false

pub refused_14 : Agreement a third_even (refusing PDividerAbove128) (frozen a third_even) → ⊥
refused_14 h = without_cause third_even PDividerAbove128 _ (inl refl) h

pub refused_15 : Agreement a third_even (refusing PDividerOdd) (frozen a third_even) → ⊥
refused_15 h = without_cause third_even PDividerOdd _ (inr refl) h

-- 14 and 15 of any request where every PLL may divide by an odd number
each_odd : (k : ℕ) → k < pll_count (state true) → odd_at (state true) k ≡ true
each_odd zero l = refl
each_odd (suc zero) l = refl
each_odd (suc (suc k)) l = absurd (omega arith)

pub none_forbidden : (q : Request) (n : Refusal) (o : Outcome CoreClocks) → (number_of n ≡ 14) ⊎ (number_of n ≡ 15) → Agreement q (state true) (refusing n) o → ⊥
none_forbidden q n o w h = let d = h.caused n refl w in never (sym (each_odd d.pll d.there) ∙ d.at.even)

-- ---- departures
no_entry : (g : Entry) (before after : List Entry) → [] ≡ before ++ (g ∷ after) → ⊥
no_entry g [] after h = let z : ◌≡◌ {A = ℕ} 0 1 = cc in omega arith
no_entry g (x ∷ before) after h = let z : ◌≡◌ {A = ℕ} 0 1 = cc in omega arith

only_entry : (e g : Entry) (before after : List Entry) → e ∷ [] ≡ before ++ (g ∷ after) → e ≡ g
only_entry e g [] after h = cc
only_entry e g (x ∷ before) after h = let t : [] ≡ before ++ (g ∷ after) = cc in absurd (no_entry g before after t)

-- the divider of the PLL that a departure names
abbrev divider_in : (q : Request) (c : ChipState) {n : Refusal} {es : List Entry} → Departure q c n es → ℕ
divider_in q c d = divider_for (odd_at c d.pll) (asked_of q d.pll)

-- the one value written is the divider less 1, and its field is that PLL's P
value_of : (q : Request) (c : ChipState) {n : Refusal} {f v : ℕ} → (d : Departure q c n (Set f v ∷ [])) → v ≡ (divider_in q c d - 1) % 256
value_of q c d = let e = only_entry _ _ d.at.before d.at.after d.at.written in cc

field_of : (q : Request) (c : ChipState) {n : Refusal} {f v : ℕ} → (d : Departure q c n (Set f v ∷ [])) → f ≡ 15 * d.pll + 6
field_of q c d = let e = only_entry _ _ d.at.before d.at.after d.at.written in cc

-- freeze has written nothing
pub nothing_written : (q : Request) (c : ChipState) (n : Refusal) (k : CoreClocks) → Agreement q c (refusing n) (ends [] k) → ⊥
nothing_written q c n k h = let d = h.departed n [] k refl refl in no_entry _ d.at.before d.at.after d.at.written

-- what is written is allowed: 15 of a PLL that may divide by 5, and 14 of 257, which the register takes as 1
pub allowed_5 : (q : Request) (k : CoreClocks) → Agreement q (state true) (refusing PDividerOdd) (ends (Set 6 4 ∷ []) k) → ⊥
allowed_5 q k h =
    let d = h.departed PDividerOdd _ k refl refl in
    let e : allows_p true 4 ≡ false = rw (← value_of _ _ d, each_odd d.pll d.there) at d.at.forbidden in
    never e

pub allowed_1 : (q : Request) (k : CoreClocks) → Agreement q (state true) (refusing PDividerAbove128) (ends (Set 6 0 ∷ []) k) → ⊥
allowed_1 q k h =
    let d = h.departed PDividerAbove128 _ k refl refl in
    let e : allows_p true 0 ≡ false = rw (← value_of _ _ d, each_odd d.pll d.there) at d.at.forbidden in
    never e

-- another divider than the refusal's: 15 of an even one, 4; 14 of one below 128, 101
pub even_15 : (q : Request) (c : ChipState) (k : CoreClocks) → Agreement q c (refusing PDividerOdd) (ends (Set 6 3 ∷ []) k) → ⊥
even_15 q c k h =
    let d = h.departed PDividerOdd _ k refl refl in
    let v = value_of q c d in
    ⊎_elim (λ w. omega (arith, w.0)) (λ w. omega (arith, v, w.1, w.2)) d.at.why.which

pub below_14 : (q : Request) (c : ChipState) (k : CoreClocks) → Agreement q c (refusing PDividerAbove128) (ends (Set 6 100 ∷ []) k) → ⊥
below_14 q c k h =
    let d = h.departed PDividerAbove128 _ k refl refl in
    let v = value_of q c d in
    ⊎_elim (λ w. omega (arith, v, w.1, w.2)) (λ w. omega (arith, w.0)) d.at.why.which

-- a field that is no PLL's P, Q of PLL1; and P of a third PLL where there are two
pub not_of_p : (q : Request) (c : ChipState) (n : Refusal) (v : ℕ) (k : CoreClocks) → Agreement q c (refusing n) (ends (Set 8 v ∷ []) k) → ⊥
not_of_p q c n v k h = let d = h.departed n _ k refl refl in let f = field_of q c d in omega (arith, f)

pub third_of_two : (q : Request) (odd : Bool) (n : Refusal) (v : ℕ) (k : CoreClocks) → Agreement q (state odd) (refusing n) (ends (Set 36 v ∷ []) k) → ⊥
third_of_two q odd n v k h =
    let d = h.departed n _ k refl refl in
    let f = field_of q (state odd) d in
    let l : d.pll < 2 = d.there in
    omega (arith, f, l)
