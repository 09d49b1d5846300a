-- A plan sets the P of each PLL to values that the manual allows.
use Rattle.std.specs.Prelude.{Option, Some, None}
use mathlib.Core.Path.{◌≡◌, refl, subst}
use mathlib.Core.Bool.{Bool, true, false, cond, ◌&&◌}
use lib.Dec.{leb}
use borrow.Author.Tests.{leb-true}
use Rattle.laws.proofs.Tests.{and_left, and_right}
use mathlib.Core.List.{List, [], ◌∷◌, ◌++◌}
use Prim.Native.Nat.{ℕ, ◌-◌, ◌≤◌, ◌<◌}
use native.Mathlib.Omega.{arith}
use Rattle.types.specs.declared.Entry.{Entry}
use Rattle.types.specs.declared.Entry.TheVariants.{Set, Set2, Set3, Set4, Wait, Wait2, Check, Read}
use Rattle.types.specs.declared.PllRequest.{PllRequest}
use Rattle.types.specs.declared.PllOutput.{PllOutput}
use Rattle.types.specs.declared.PllSettings.{PllSettings}
use Rattle.types.specs.declared.Request.{Request}
use Rattle.types.specs.declared.ChipState.{ChipState}
use Rattle.types.specs.declared.Plan.{Plan}
use Rattle.rules.specs.Document01.Request.{source_of, asked_of}
use Rattle.rules.specs.Document01.Fields
use Rattle.rules.specs.Document01.Fields.{of_pll}
use Rattle.rules.specs.Document01.Entries.{output_entries, fraction_entries, base_entries, setting_entries, setup_entries, pll_in, clock_entries, hse_entries, source_entries, output_start, start_entries, bus_entries, plan_entries, list_with}
use Rattle.rules.specs.Manual.PllFields.{allows_p}
use Rattle.claims.specs.Demands.Agreement.{pll_count, AllowsEachP}
use Rattle.claims.specs.Demands.Legal.{LegalP, LegalPll, LegalThird, LegalPlan}
use Rattle.rules.specs.Document01.Chip.{odd_at}

-- an entry sets no PLL's P, or to a value that is allowed
abbrev Fine : ChipState → Entry → Type 0
Fine c (Set f v) = (k : ℕ) → k < 3 → f ≡ of_pll k Fields.P → allows_p (odd_at c k) v ≡ true
Fine c (Set2 f v g w) = Unit {0}
Fine c (Set3 f v g w h x) = Unit {0}
Fine c (Set4 f v g w h x k y) = Unit {0}
Fine c (Wait f v) = Unit {0}
Fine c (Wait2 f v g w) = Unit {0}
Fine c (Check f v) = Unit {0}
Fine c (Read f) = Unit {0}

-- each field that is set alone is behind the PLLs'
abbrev outside : List Entry → Bool
outside [] = true
outside (Set f v ∷ es) = leb 45 f && outside es
outside (Set2 f v g w ∷ es) = outside es
outside (Set3 f v g w h x ∷ es) = outside es
outside (Set4 f v g w h x k y ∷ es) = outside es
outside (Wait f v ∷ es) = outside es
outside (Wait2 f v g w ∷ es) = outside es
outside (Check f v ∷ es) = outside es
outside (Read f ∷ es) = outside es

abbrev Each : ChipState → List Entry → Type 0
Each c [] = Unit {0}
Each c (e ∷ es) = Fine c e × Each c es

data All (c : ChipState) (es : List Entry) : Type 0 where
  by : Each c es → All c es

module _ (c : ChipState) where
  both : (s t : List Entry) → Each c s → Each c t → Each c (s ++ t)
  both [] t a b = b
  both (e ∷ s) t a b = (a.0, both s t a.1 b)

  infixr 5 ◌then◌
  ◌then◌ : {s t : List Entry} → All c s → All c t → All c (s ++ t)
  ◌then◌ {s} {t} (by a) (by b) = by (both s t a b)

  at_place : (before : List Entry) (e : Entry) (after : List Entry) → Each c (before ++ (e ∷ after)) → Fine c e
  at_place [] e after a = a.0
  at_place (b ∷ bs) e after a = at_place bs e after a.1

  count_3 : pll_count c ≤ 3
  count_3 = go c.three
    where
      go : (t : Bool) → cond t 3 2 ≤ 3
      go true = omega arith
      go false = omega arith

  all_allowed : {es : List Entry} → All c es → AllowsEachP c es
  all_allowed (by a) k v before after l e = let m = count_3 in at_place before (Set (of_pll k Fields.P) v) after (subst (Each c) e a) k (omega arith) refl

  -- ---- the segments
  base_fine : (k : ℕ) (s : PllSettings) → All c (base_entries k s)
  base_fine k s = by (λ j l e. absurd (omega arith), (λ j l e. absurd (omega arith), (λ j l e. absurd (omega arith), (λ j l e. absurd (omega arith), tt))))

  fraction_fine : (k : ℕ) (f : Option ℕ) → All c (fraction_entries k f)
  fraction_fine k None = by tt
  fraction_fine k (Some f) = by (λ j l e. absurd (omega arith), (λ j l e. absurd (omega arith), (λ j l e. absurd (omega arith), tt)))

  p_fine : (k : ℕ) (o : Option PllOutput) → LegalP (odd_at c k) o → All c (output_entries (of_pll k Fields.P) (of_pll k Fields.PEN) o)
  p_fine k None h = by (λ j l e. absurd (omega arith), tt)
  p_fine k (Some o) h = by (λ j l e. let same : k ≡ j = omega arith in subst (λ (i : ℕ). allows_p (odd_at c i) (o.divider - 1) ≡ true) same h, (λ j l e. absurd (omega arith), tt))

  q_fine : (k : ℕ) (o : Option PllOutput) → All c (output_entries (of_pll k Fields.Q) (of_pll k Fields.QEN) o)
  q_fine k None = by (λ j l e. absurd (omega arith), tt)
  q_fine k (Some o) = by (λ j l e. absurd (omega arith), (λ j l e. absurd (omega arith), tt))

  r_fine : (k : ℕ) (o : Option PllOutput) → All c (output_entries (of_pll k Fields.R) (of_pll k Fields.REN) o)
  r_fine k None = by (λ j l e. absurd (omega arith), tt)
  r_fine k (Some o) = by (λ j l e. absurd (omega arith), (λ j l e. absurd (omega arith), tt))

  setup_fine : (k source : ℕ) (a : PllRequest) (x : Option PllSettings) → LegalPll (odd_at c k) source a x → All c (setup_entries k x)
  unfolding setting_entries
  setup_fine k source a None h = by tt
  setup_fine k source a (Some s) h = base_fine k s then fraction_fine k s.fraction then p_fine k s.p h.odd_p then q_fine k s.q then r_fine k s.r

  third_fine : (three : Bool) (source : ℕ) (a : PllRequest) (x : Option PllSettings) → LegalThird three (odd_at c 2) source a x → All c (setup_entries 2 x)
  third_fine true source a x h = setup_fine 2 source a x h
  third_fine false source a x h = rw h (by tt)

  -- entries that set one field alone only behind the PLLs' fields, by a computed test
  outside_fine : (es : List Entry) → outside es ≡ true → Each c es
  outside_fine [] t = tt
  outside_fine (Set f v ∷ es) t = let l = leb-true 45 f (and_left (leb 45 f) _ t) in (λ j k e. absurd (omega arith), outside_fine es (and_right (leb 45 f) _ t))
  outside_fine (Set2 f v g w ∷ es) t = (tt, outside_fine es t)
  outside_fine (Set3 f v g w h x ∷ es) t = (tt, outside_fine es t)
  outside_fine (Set4 f v g w h x k y ∷ es) t = (tt, outside_fine es t)
  outside_fine (Wait f v ∷ es) t = (tt, outside_fine es t)
  outside_fine (Wait2 f v g w ∷ es) t = (tt, outside_fine es t)
  outside_fine (Check f v ∷ es) t = (tt, outside_fine es t)
  outside_fine (Read f ∷ es) t = (tt, outside_fine es t)

  clocks_fine : (p : Plan) → All c (clock_entries p.waits p.selectors p.mcos)
  unfolding clock_entries
  clocks_fine p =
      by (outside_fine (clock_entries p.waits p.selectors p.mcos) refl)

  hse_fine : (h : Option ℕ) (b : Bool) → All c (hse_entries h b)
  hse_fine None b = by tt
  hse_fine (Some h) b = by (tt, (tt, tt))

  source_fine : (three : Bool) (src : ℕ) → All c (source_entries three src)
  source_fine true src = by (λ j l e. absurd (omega arith), (λ j l e. absurd (omega arith), (λ j l e. absurd (omega arith), tt)))
  source_fine false src = by (λ j l e. absurd (omega arith), (λ j l e. absurd (omega arith), tt))

  start_fine : (k : ℕ) (x : Option PllSettings) → All c (start_entries k x)
  start_fine k None = by tt
  start_fine k (Some s) = go s.p
    where
      go : (o : Option PllOutput) → All c (output_start k o)
      go None = by tt
      go (Some o) = by (λ j l e. absurd (omega arith), (tt, tt))

  bus_fine : (p : Plan) → All c (bus_entries p.buses p.selectors)
  unfolding bus_entries
  bus_fine p =
      by (outside_fine (bus_entries p.buses p.selectors) refl)

  plan_fine : (q : Request) (p : Plan) → LegalPlan q c p → All c (plan_entries p)
  unfolding list_with
  plan_fine q p h =
      (setup_fine 0 (source_of q) (asked_of q 0) (pll_in p 0) h.pll1 then setup_fine 1 (source_of q) (asked_of q 1) (pll_in p 1) h.pll2 then third_fine c.three (source_of q) (asked_of q 2) (pll_in p 2) h.pll3)
      then clocks_fine p then hse_fine p.clocks.hse p.bypass then source_fine p.three p.selectors.src
      then (start_fine 0 (pll_in p 0) then start_fine 1 (pll_in p 1) then start_fine 2 (pll_in p 2)) then bus_fine p

  pub plan_allowed : (q : Request) (p : Plan) → LegalPlan q c p → AllowsEachP c (plan_entries p)
  plan_allowed q p h = all_allowed (plan_fine q p h)
