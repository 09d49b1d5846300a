-- Which refusals there are: each has its own number, and which numbers a typed request can get.
use Rattle.std.specs.Prelude.{Option, Some, None, Result, Ok, Err, is_some}
use mathlib.Core.Path.{◌≡◌, refl, sym, ap, ◌∙◌, subst}
use mathlib.Core.Bool.{Bool, true, false, not, ◌&&◌, ◌||◌}
use mathlib.Core.List.{List, [], ◌∷◌}
use Prim.Native.Nat.{ℕ, ◌/◌, ◌%◌}
use lib.Dec.{leb, ltb, eqb}
use borrow.Author.Tests.{eqb-true}
use Rattle.types.specs.declared.Strategy.{Strategy}
use Rattle.types.specs.declared.Strategy.TheVariants.{Integer, Fractional}
use Rattle.types.specs.declared.Mco1Source.{Mco1Source}
use Rattle.types.specs.declared.Mco2Source.{Mco2Source}
use Rattle.types.specs.declared.PllRequest.{PllRequest}
use Rattle.types.specs.declared.PllSettings.{PllSettings}
use Rattle.types.specs.declared.Request.{Request}
use Rattle.types.specs.declared.ChipState.{ChipState}
use Rattle.types.specs.declared.Refusal.{Refusal}
use Rattle.types.specs.declared.Refusal.TheVariants.{AboveLimit, McoHseUnstated, Pll1PUnlikeSystem, SourceZero, OutputZero, OutputsTooFarApart, OutputTooHigh, PDividerAbove128, PDividerOdd, HsiOff, HsidivNot2, BusZero, AhbZero, McoZero, McoRatio}
use Rattle.ieee754.specs.Steps.{float, fracn_of}
use Rattle.rules.specs.Manual.Tree.{among}
use Rattle.rules.specs.Document01.Chip.{divisor_of, odd_at, has_pll}
use Rattle.rules.specs.Document01.Result.{◌>>=◌, ◌>>◌, require}
use Rattle.rules.specs.Document01.Refusals.{number_of, refusal_of, typed_numbers}
use Rattle.rules.specs.Document01.Hertz.{not_zero, ratio_of}
use Rattle.rules.specs.Document01.Request.{within, limited, from_hse1, from_hse2, stated, pll1_asked, source_of, system_of, needs_pll1, like, system_fits, configured, asked_of}
use Rattle.rules.specs.Document01.ChoiceOfM.{chosen_m}
use Rattle.rules.specs.Document01.OnePll.{wanted, none_zero, counted_outputs, least, largest, Range, admissible, first_of, taken, fraction_of, divider_p, allowed_p, spanned, range_for, target_for, divided_by, settings_of, settled, runs, running, pll_of, p_clock, q_clock, pll_from}
use Rattle.rules.specs.Document01.Buses.{hpre_for, ppre_for, ahb_of, apb_of}
use Rattle.rules.specs.Document01.Mco.{planned, mco1_input, mco2_input, mco_of}
use Rattle.rules.specs.Document01.Plan.{plls_of, hsi_ready, system_from, buses_of, mcos_of, chosen_plan, planned_at}
use Rattle.laws.proofs.Tests.{by_test, never, and_left, and_right}
use Rattle.rules.proofs.Document01.Listed.{each_found}
use Rattle.rules.proofs.Document01.Results.{Only, only_weaker, only_require, only_then, only_next, only_tested}
use Rattle.rules.proofs.Document01.Multiplier.{range_kind, n_tested, n_known}
use Rattle.types.specs.declared.Mco.{Mco}

-- ---- no two refusals have the same number
pub numbers_differ : (m n : Refusal) → number_of m ≡ number_of n → m ≡ n
numbers_differ m n e = let s : Some m ≡ Some n = sym (each_found m) ∙ ap refusal_of e ∙ each_found n in cc

-- ---- a typed request is refused with one of its numbers
abbrev pub Typed : Refusal → Type 0
Typed n = among typed_numbers (number_of n) ≡ true

-- without the two about a divider of P
abbrev left_out : Bool → ℕ → List ℕ → List ℕ
left_out true x xs = xs
left_out false x xs = x ∷ xs

abbrev without_p : List ℕ → List ℕ
without_p [] = []
without_p (x ∷ xs) = left_out (among (14 ∷ 15 ∷ []) x) x (without_p xs)

-- one of them that is not about a divider of P
abbrev pub others : List ℕ
others = without_p typed_numbers

abbrev pub Other : Refusal → Type 0
Other n = among others (number_of n) ≡ true

-- a number of one list is one of another, where each number is
abbrev each_among : List ℕ → List ℕ → Bool
each_among ys [] = true
each_among ys (x ∷ xs) = among ys x && each_among ys xs

pub among_more : (xs ys : List ℕ) → each_among ys xs ≡ true → (n : ℕ) → among xs n ≡ true → among ys n ≡ true
among_more [] ys h n t = absurd (never (sym t))
among_more (x ∷ xs) ys h n t =
    by_test (eqb n x)
    (λ e. rw (eqb-true n x e) (and_left (among ys x) _ h))
    (λ f. let rest : (eqb n x || among xs n) ≡ among xs n = rw f in among_more xs ys (and_right (among ys x) _ h) n (sym rest ∙ t))

other_typed : (n : Refusal) → Other n → Typed n
other_typed n = among_more others typed_numbers refl (number_of n)

taken_only : (v : Option ℕ) → Only Other (taken v)
taken_only (Some f) = tt
taken_only None = refl

pub fraction_only : (s : Strategy) (ref n d o : ℕ) → Only Other (fraction_of s ref n d o)
fraction_only Integer ref n d o = tt
fraction_only Fractional ref n d o = taken_only (fracn_of (float ref) (float n) (float d) (float o))

allowed_only : (odd : Bool) (d : ℕ) → Only Typed (allowed_p odd d)
allowed_only odd d =
    only_tested Typed (leb d 128) PDividerAbove128 (require (odd || eqb (d % 2) 0) PDividerOdd) refl (only_require Typed (odd || eqb (d % 2) 0) PDividerOdd refl)

pub spanned_only : (odd : Bool) (a : PllRequest) → Only Other (spanned odd a)
unfolding spanned
spanned_only odd a =
    let low : ℕ = least (counted_outputs odd a) in
    let most : ℕ = largest (counted_outputs odd a) in
    only_tested Other (none_zero a) OutputZero (require (leb (most / 128) low) OutputsTooFarApart >> require (ltb most 560_000_000) OutputTooHigh) refl
    (only_tested Other (leb (most / 128) low) OutputsTooFarApart (require (ltb most 560_000_000) OutputTooHigh) refl (only_require Other (ltb most 560_000_000) OutputTooHigh refl))

module _ (odd : Bool) (source : ℕ) (a : PllRequest) where
  abbrev g : Range
  g = range_for odd a

  abbrev target : ℕ
  target = target_for odd a

  settled_only : (m : ℕ) → leb 4 (target / (source / m)) && leb (target / (source / m)) 512 ≡ true → Only Typed (settled odd a g target m (source / m) (target / (source / m)))
  unfolding settled
  settled_only m t =
      rw t
      (only_then Typed (fraction_of a.strategy (source / m) (target / (source / m)) (target / first_of a) (first_of a)) _
      (only_weaker Other Typed (fraction_of a.strategy (source / m) (target / (source / m)) (target / first_of a) (first_of a)) other_typed (fraction_only a.strategy (source / m) (target / (source / m)) (target / first_of a) (first_of a)))
      (λ f. only_next Typed (allowed_p odd (divider_p target a.p)) (Ok (settings_of a g target m (source / m) (target / (source / m)) f)) (allowed_only odd (divider_p target a.p)) tt))

  chosen_only : leb g.start target && leb target g.end ≡ true → (f : Option ℕ) → chosen_m source target g.low g.high ≡ f
      → Only Typed (admissible f >>= λ m. settled odd a g target m (source / m) (target / (source / m)))
  chosen_only t None e = refl
  chosen_only t (Some m) e = settled_only m (n_tested g (range_kind (largest (counted_outputs odd a))) _ (n_known odd source a t m e))

  divided_only : Only Typed (divided_by source g target >>= λ m. settled odd a g target m (source / m) (target / (source / m)))
  unfolding divided_by
  divided_only =
      by_test (leb g.start target && leb target g.end)
      (λ t. rw t (chosen_only t (chosen_m source target g.low g.high) refl))
      (λ f. rw f refl)

  runs_only : Only Typed (runs odd source a)
  unfolding runs
  runs_only = only_next Typed (spanned odd a) _ (only_weaker Other Typed (spanned odd a) other_typed (spanned_only odd a)) divided_only

running_only : (x : Result PllSettings Refusal) → Only Typed x → Only Typed (running x)
running_only (Err n) h = h
running_only (Ok s) h = tt

pll_only : (odd : Bool) (source : ℕ) (a : PllRequest) → Only Typed (pll_of odd source a)
unfolding pll_of
pll_only odd source a = by_test (wanted a) (λ w. rw w (running_only (runs odd source a) (runs_only odd source a))) (λ w. rw w tt)

planned_at_only : (q : Request) (c : ChipState) (k : ℕ) → Only Typed (planned_at q c k)
planned_at_only q c k = by_test (has_pll c k) (λ t. rw t (pll_only (odd_at c k) (source_of q) (asked_of q k))) (λ f. rw f tt)

configured_only : (q : Request) → Only Typed (configured q)
unfolding configured
configured_only q =
    only_next Typed (limited q) _ (only_require Typed (within q.system && (within q.ahb && (within q.apb1 && (within q.apb2 && within q.apb3)))) AboveLimit refl)
    (only_next Typed (stated q) _ (only_require Typed (is_some q.hse || not (from_hse1 q.mco1source || from_hse2 q.mco2source)) McoHseUnstated refl)
    (only_next Typed (system_fits q) _ (only_require Typed (not (needs_pll1 q) || like (pll1_asked q).p (system_of q)) Pll1PUnlikeSystem refl)
    (only_require Typed (not (eqb (source_of q) 0)) SourceZero refl)))

plls_only : (q : Request) (c : ChipState) → Only Typed (plls_of q c)
unfolding plls_of
plls_only q c =
    only_next Typed (configured q) _ (configured_only q)
    (only_then Typed (planned_at q c 0) _ (planned_at_only q c 0)
    (λ x. only_then Typed (planned_at q c 1) _ (planned_at_only q c 1)
    (λ y. only_then Typed (planned_at q c 2) _ (planned_at_only q c 2) (λ z. tt))))

ahb_only : (system : ℕ) (h : Option ℕ) → Only Other (ahb_of system h)
unfolding ahb_of
ahb_only system h =
    let hz : ℕ = system / hpre_for system h in
    only_tested Other (not_zero h) BusZero (require (not (eqb hz 0)) AhbZero >> Ok (record { pre = hpre_for system h; clock = hz })) refl
    (only_tested Other (not (eqb hz 0)) AhbZero (Ok (record { pre = hpre_for system h; clock = hz })) refl tt)

apb_only : (ahb : ℕ) (h : Option ℕ) → Only Other (apb_of ahb h)
unfolding apb_of
apb_only ahb h = only_tested Other (not_zero h) BusZero (Ok (record { pre = ppre_for ahb h; clock = ahb / ppre_for ahb h })) refl tt

pub buses_only : (q : Request) (system : ℕ) → Only Other (buses_of q system)
unfolding buses_of
buses_only q system =
    only_then Other (ahb_of system q.ahb) _ (ahb_only system q.ahb)
    (λ a. only_then Other (apb_of a.clock q.apb1) _ (apb_only a.clock q.apb1)
    (λ x. only_then Other (apb_of a.clock q.apb2) _ (apb_only a.clock q.apb2)
    (λ y. only_then Other (apb_of a.clock q.apb3) _ (apb_only a.clock q.apb3) (λ z. tt))))

planned_only : (h : Option ℕ) → Only Other (planned h)
planned_only None = refl
planned_only (Some h) = tt

mco1_only : (s : Mco1Source) (hse q : Option ℕ) → Only Other (mco1_input s hse q)
unfolding mco1_input
mco1_only Mco1Source.Hsi hse q = tt
mco1_only Mco1Source.Lse hse q = refl
mco1_only Mco1Source.Hse hse q = tt
mco1_only Mco1Source.Pll1Q hse q = planned_only q
mco1_only Mco1Source.Hsi48 hse q = tt

mco2_only : (s : Mco2Source) (system : ℕ) (hse p1 p2 : Option ℕ) → Only Other (mco2_input s system hse p1 p2)
unfolding mco2_input
mco2_only Mco2Source.Sysclk system hse p1 p2 = tt
mco2_only Mco2Source.Pll2P system hse p1 p2 = planned_only p2
mco2_only Mco2Source.Hse system hse p1 p2 = tt
mco2_only Mco2Source.Pll1P system hse p1 p2 = planned_only p1
mco2_only Mco2Source.Csi system hse p1 p2 = tt
mco2_only Mco2Source.Lsi system hse p1 p2 = tt

mco_only : (clock : ℕ) (h : Option ℕ) → Only Other (mco_of clock h)
unfolding mco_of
mco_only clock None = tt
mco_only clock (Some h) =
    let ratio : ℕ = ratio_of clock h in
    let fits : Bool = leb 1 ratio && leb ratio 15 in
    let made : Result Mco Refusal = Ok (record { pre = ratio; clock = Some (clock / ratio) }) in
    only_tested Other (not (eqb h 0)) McoZero (require fits McoRatio >> made) refl (only_tested Other fits McoRatio made refl tt)

pub mcos_only : (q : Request) (l : List (Option PllSettings)) (system : ℕ) → Only Other (mcos_of q l system)
unfolding mcos_of
mcos_only q l system =
    only_then Other (mco1_input q.mco1source q.hse (q_clock (pll_from l 0))) _ (mco1_only q.mco1source q.hse (q_clock (pll_from l 0)))
    (λ i. only_then Other (mco_of i q.mco1) _ (mco_only i q.mco1)
    (λ x. only_then Other (mco2_input q.mco2source system q.hse (p_clock (pll_from l 0)) (p_clock (pll_from l 1))) _ (mco2_only q.mco2source system q.hse (p_clock (pll_from l 0)) (p_clock (pll_from l 1)))
    (λ j. only_then Other (mco_of j q.mco2) _ (mco_only j q.mco2) (λ y. tt))))

pub ready_only : (c : ChipState) → Only Other (hsi_ready c)
ready_only c = only_tested Other c.hsion HsiOff (require (eqb (divisor_of c.hsidiv) 2) HsidivNot2) refl (only_require Other (eqb (divisor_of c.hsidiv) 2) HsidivNot2 refl)

pub chosen_plan_only : (q : Request) (c : ChipState) → Only Typed (chosen_plan q c)
unfolding chosen_plan
chosen_plan_only q c =
    only_then Typed (plls_of q c) _ (plls_only q c)
    (λ l. only_next Typed (hsi_ready c) _ (only_weaker Other Typed (hsi_ready c) other_typed (ready_only c))
    (only_then Typed (buses_of q (system_from q l)) _ (only_weaker Other Typed (buses_of q (system_from q l)) other_typed (buses_only q (system_from q l)))
    (λ b. only_then Typed (mcos_of q l (system_from q l)) _ (only_weaker Other Typed (mcos_of q l (system_from q l)) other_typed (mcos_only q l (system_from q l))) (λ m. tt))))

pub typed_numbers_is : (q : Request) (c : ChipState) (n : Refusal) → chosen_plan q c ≡ Err n → Typed n
typed_numbers_is q c n e = subst (Only Typed) e (chosen_plan_only q c)
