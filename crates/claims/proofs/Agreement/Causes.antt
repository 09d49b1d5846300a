-- 14 and 15 are answered only where one of the chip's PLLs has a divider that they refuse, whether freeze panics or ends.
use Rattle.std.specs.Prelude.{Option, Some, None, Result, Ok, Err, is_some}
use mathlib.Core.Path.{◌≡◌, refl, sym, ap, ◌∙◌}
use mathlib.Core.Logic.{◌⊎◌, inl, inr}
use mathlib.Core.Bool.{Bool, true, false, not, cond, ◌&&◌, ◌||◌}
use Prim.Native.Nat.{ℕ, ◌/◌, ◌%◌, ◌≤◌, ◌<◌}
use native.Mathlib.Omega.{arith}
use lib.Dec.{leb, eqb}
use Rattle.types.specs.declared.PllRequest.{PllRequest}
use Rattle.types.specs.declared.PllSettings.{PllSettings}
use Rattle.types.specs.declared.Request.{Request}
use Rattle.types.specs.declared.ChipState.{ChipState}
use Rattle.types.specs.declared.Refusal.{Refusal}
use Rattle.types.specs.declared.Refusal.TheVariants.{AboveLimit, McoHseUnstated, Pll1PUnlikeSystem, SourceZero, OutputZero, TargetOutside, NoM, NOutside}
use Rattle.rules.specs.Document01.Result.{◌>>=◌}
use Rattle.rules.specs.Document01.Refusals.{number_of}
use Rattle.rules.specs.Document01.Hertz.{not_zero}
use Rattle.rules.specs.Document01.Request.{within, limited, from_hse1, from_hse2, stated, pll1_asked, source_of, system_of, needs_pll1, like, asked_of, system_fits, configured}
use Rattle.rules.specs.Document01.ChoiceOfM.{chosen_m}
use Rattle.rules.specs.Document01.OnePll.{wanted, none_zero, counted_outputs, least, largest, admissible, first_of, fraction_of, divider_p, allowed_p, spanned, range_for, target_for, divided_by, settings_of, settled, runs, running, pll_of}
use Rattle.rules.specs.Document01.Plan.{plls_of, hsi_ready, system_from, buses_of, mcos_of, chosen_plan, planned_at}
use Rattle.claims.specs.Demands.Agreement.{pll_count, Forbidden, Cause}
use Rattle.rules.specs.Manual.Tree.{among}
use Rattle.laws.proofs.Tests.{by_test, never, and_left, and_right}
use Rattle.rules.proofs.Document01.Results.{Only, only_weaker, only_require, only_then, only_next, only_tested}
use Rattle.rules.proofs.Document01.Refusals.{Other, others, fraction_only, spanned_only, buses_only, mcos_only, ready_only}
use Rattle.rules.proofs.Document01.Span.{pos_is, span}
use Rattle.claims.proofs.Agreement.Settle.{CountedDivides, above_why, odd_why}
use Rattle.claims.proofs.Agreement.OnePll.{counted_divides}
use Rattle.claims.proofs.Agreement.Plls.{two_there}
use Rattle.rules.specs.Document01.Chip.{odd_at}

-- a refusal that is 14 or 15 has a cause
abbrev pub Told : (Refusal → Type 0) → Refusal → Type 0
Told F n = (number_of n ≡ 14) ⊎ (number_of n ≡ 15) → F n

-- the others need none
module _ (F : Refusal → Type 0) (n : Refusal) where
  untold : (number_of n ≡ 14 → ⊥) → (number_of n ≡ 15 → ⊥) → Told F n
  untold f g (inl x) = absurd (f x)
  untold f g (inr x) = absurd (g x)

  below : number_of n < 14 → Told F n
  below l = untold (λ e. omega arith) (λ e. omega arith)

  other_told : Other n → Told F n
  other_told h = untold (λ e. never (sym h ∙ ap (among others) e)) (λ e. never (sym h ∙ ap (among others) e))

-- ---- one PLL
module _ (odd : Bool) (source : ℕ) (a : PllRequest) where
  abbrev T : Refusal → Type 0
  T = Told (Forbidden odd a)

  abbrev target : ℕ
  target = target_for odd a

  allowed_told : CountedDivides odd target a.p → Only T (allowed_p odd (divider_p target a.p))
  allowed_told c =
      by_test (leb (divider_p target a.p) 128)
      (λ (t : leb (divider_p target a.p) 128 ≡ true).
      by_test (odd || eqb (divider_p target a.p % 2) 0)
      (λ (s : odd || eqb (divider_p target a.p % 2) 0 ≡ true). rw (t, s) tt)
      (λ (s : odd || eqb (divider_p target a.p % 2) 0 ≡ false). rw (t, s) (λ e. odd_why odd a t s)))
      (λ (t : leb (divider_p target a.p) 128 ≡ false). rw t (λ e. above_why odd a c t))

  settled_told : CountedDivides odd target a.p → (m : ℕ) → Only T (settled odd a (range_for odd a) target m (source / m) (target / (source / m)))
  unfolding settled
  settled_told c m =
      let n : ℕ = target / (source / m) in
      only_tested T (leb 4 n && leb n 512) NOutside _ (below (Forbidden odd a) NOutside (omega arith))
      (only_then T (fraction_of a.strategy (source / m) n (target / first_of a) (first_of a)) _
      (only_weaker Other T (fraction_of a.strategy (source / m) n (target / first_of a) (first_of a)) (other_told (Forbidden odd a)) (fraction_only a.strategy (source / m) n (target / first_of a) (first_of a)))
      (λ f. only_next T (allowed_p odd (divider_p target a.p)) (Ok (settings_of a (range_for odd a) target m (source / m) n f)) (allowed_told c) tt))

  divided_told : CountedDivides odd target a.p → Only T (divided_by source (range_for odd a) target >>= λ m. settled odd a (range_for odd a) target m (source / m) (target / (source / m)))
  unfolding divided_by
  divided_told c =
      by_test (leb (range_for odd a).start target && leb target (range_for odd a).end)
      (λ t. rw t (go (chosen_m source target (range_for odd a).low (range_for odd a).high)))
      (λ f. rw f (below (Forbidden odd a) TargetOutside (omega arith)))
    where
      go : (f : Option ℕ) → Only T (admissible f >>= λ m. settled odd a (range_for odd a) target m (source / m) (target / (source / m)))
      go None = below (Forbidden odd a) NoM (omega arith)
      go (Some m) = settled_told c m

  counted_p : wanted a ≡ true → none_zero a ≡ true → CountedDivides odd target a.p
  counted_p w n =
      let sp = span odd a.p a.q a.r (pos_is a.p (and_left (not_zero a.p) _ n)) (pos_is a.q (and_left (not_zero a.q) _ (and_right (not_zero a.p) _ n))) (pos_is a.r (and_right (not_zero a.q) _ (and_right (not_zero a.p) _ n))) w in
      counted_divides (least (counted_outputs odd a)) (largest (counted_outputs odd a)) (range_for odd a).end odd a.p sp.above sp.in_p

  runs_told : wanted a ≡ true → Only T (runs odd source a)
  unfolding runs spanned
  runs_told w =
      by_test (none_zero a)
      (λ n. only_next T (spanned odd a) _ (only_weaker Other T (spanned odd a) (other_told (Forbidden odd a)) (spanned_only odd a)) (divided_told (counted_p w n)))
      (λ n. rw n (below (Forbidden odd a) OutputZero (omega arith)))

  running_told : (x : Result PllSettings Refusal) → Only T x → Only T (running x)
  running_told (Err n) h = h
  running_told (Ok s) h = tt

  pub pll_told : Only T (pll_of odd source a)
  unfolding pll_of
  pll_told = by_test (wanted a) (λ w. rw w (running_told (runs odd source a) (runs_told w))) (λ w. rw w tt)

-- ---- all of them
module _ (q : Request) (c : ChipState) where
  abbrev C : Refusal → Type 0
  C = Told (Cause q c)

  of_pll : (k : ℕ) → k < pll_count c → Only C (pll_of (odd_at c k) (source_of q) (asked_of q k))
  of_pll k l =
      only_weaker (Told (Forbidden (odd_at c k) (asked_of q k))) C (pll_of (odd_at c k) (source_of q) (asked_of q k))
      (λ n f e. record { pll = k; there = l; at = f e })
      (pll_told (odd_at c k) (source_of q) (asked_of q k))

  third_told : Only C (planned_at q c 2)
  third_told = go c.three refl
    where
      go : (t : Bool) → c.three ≡ t → Only C (cond t (pll_of (odd_at c 2) (source_of q) (asked_of q 2)) (Ok None))
      go true t = of_pll 2 (rw t (omega arith))
      go false t = tt

  configured_told : Only C (configured q)
  unfolding configured
  configured_told =
      only_next C (limited q) _ (only_require C (within q.system && (within q.ahb && (within q.apb1 && (within q.apb2 && within q.apb3)))) AboveLimit (below (Cause q c) AboveLimit (omega arith)))
      (only_next C (stated q) _ (only_require C (is_some q.hse || not (from_hse1 q.mco1source || from_hse2 q.mco2source)) McoHseUnstated (below (Cause q c) McoHseUnstated (omega arith)))
      (only_next C (system_fits q) _ (only_require C (not (needs_pll1 q) || like (pll1_asked q).p (system_of q)) Pll1PUnlikeSystem (below (Cause q c) Pll1PUnlikeSystem (omega arith)))
      (only_require C (not (eqb (source_of q) 0)) SourceZero (below (Cause q c) SourceZero (omega arith)))))

  plls_told : Only C (plls_of q c)
  unfolding plls_of
  plls_told =
      let l : 2 ≤ pll_count c = two_there c in
      only_next C (configured q) _ configured_told
      (only_then C (planned_at q c 0) _ (of_pll 0 (omega arith))
      (λ x. only_then C (planned_at q c 1) _ (of_pll 1 (omega arith))
      (λ y. only_then C (planned_at q c 2) _ third_told (λ z. tt))))

  pub plan_told : Only C (chosen_plan q c)
  unfolding chosen_plan
  plan_told =
      only_then C (plls_of q c) _ plls_told
      (λ l. only_next C (hsi_ready c) _ (only_weaker Other C (hsi_ready c) (other_told (Cause q c)) (ready_only c))
      (only_then C (buses_of q (system_from q l)) _ (only_weaker Other C (buses_of q (system_from q l)) (other_told (Cause q c)) (buses_only q (system_from q l)))
      (λ b. only_then C (mcos_of q l (system_from q l)) _ (only_weaker Other C (mcos_of q l (system_from q l)) (other_told (Cause q c)) (mcos_only q l (system_from q l))) (λ m. tt))))
