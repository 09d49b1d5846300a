-- In the bank that a plan's whole list leaves of a bank at reset values, M, N, FRACN, dividers and prescalers are at most what the rules choose.
use Rattle.std.specs.Prelude.{Option, Some, None, Ok, unwrap_or}
use mathlib.Core.Path.{◌≡◌, refl, ap, subst}
use mathlib.Core.Bool.{Bool, true, false, cond, not, ◌&&◌, ◌||◌}
use mathlib.Core.List.{List, [], ◌∷◌, ◌++◌}
use Prim.Native.Nat.{ℕ, zero, suc, ◌+◌, ◌-◌, ◌*◌, ◌/◌, ◌%◌, ◌≤◌, ◌<◌}
use native.Mathlib.Omega.{arith}
use lib.Dec.{leb, ltb, eqb}
use lib.ListN.{set, get_or, replicate}
use borrow.Author.Tests.{leb-true, le-leb, lt-ltb}
use Rattle.types.specs.declared.Strategy.{Strategy}
use Rattle.types.specs.declared.Strategy.TheVariants.{Integer, Fractional}
use Rattle.types.specs.declared.Request.{Request}
use Rattle.types.specs.declared.ChipState.{ChipState}
use Rattle.types.specs.declared.PllOutput.{PllOutput}
use Rattle.types.specs.declared.PllRequest.{PllRequest}
use Rattle.types.specs.declared.PllSettings.{PllSettings}
use Rattle.types.specs.declared.Plan.{Plan}
use Rattle.types.specs.declared.Entry.{Entry}
use Rattle.types.specs.declared.Entry.TheVariants.{Set, Set2, Set3, Set4, Wait, Wait2, Check, Read}
use Rattle.types.specs.declared.Refusal.TheVariants.{BusZero, AhbZero, McoZero, McoRatio}
use Rattle.laws.proofs.Tests.{and_left, and_right, at_each}
use Rattle.rules.specs.Document01.Result.{require}
use Rattle.rules.specs.Document01.Hertz.{ratio_of, not_zero}
use Rattle.rules.specs.Document01.Request.{source_of, asked_of}
use Rattle.rules.specs.Document01.OnePll.{first_of, p_clock, q_clock, pll_from}
use Rattle.rules.specs.Document01.Buses.{hpre_for, ahb_of, apb_of}
use Rattle.rules.specs.Document01.Mco.{mco1_input, mco2_input, mco_of}
use Rattle.rules.specs.Document01.Plan.{plls_of, hsi_ready, system_from, buses_of, mcos_of, plan_with, chosen_plan}
use Rattle.rules.specs.Document01.Entries.{output_entries, fraction_entries, base_entries, setting_entries, setup_entries, pll_in, clock_entries, bit, hse_entries, source_entries, output_start, start_entries, bus_entries, plan_entries, list_with}
use Rattle.rules.specs.Document01.Bank.{apply_all, reset_bank}
use Rattle.rules.specs.Manual.Path.{PllName, pll1, pll2, pll3}
use Rattle.rules.specs.Manual.Tree.{number, word}
use Rattle.claims.specs.Demands.Legal.{LegalOutput, LegalVco, LegalPll, LegalThird, LegalPlan}
use Rattle.rules.proofs.Document01.Ratios.{hpre_most, ppre_most}
use Rattle.rules.proofs.Document01.Results.{Holds, holds_then, holds_next, holds_tested, holds_known}
use Rattle.claims.proofs.Legal.Plan.{plan_legal}
use Rattle.fields.proofs.Join.{apply_append}
use Rattle.types.specs.declared.Bus.{Bus}
use Rattle.types.specs.declared.Mco.{Mco}
use Rattle.types.specs.declared.Buses.{Buses}
use Rattle.types.specs.declared.Mcos.{Mcos}
use Rattle.rules.specs.Document01.Chip.{odd_at}

-- ---- the highest value of a field, 0 where any will do. A PLL's: M, N − 1, FRACN and the dividers − 1
abbrev pub pll_limit : ℕ → ℕ
pll_limit i = get_or (0 ∷ 0 ∷ 63 ∷ 511 ∷ 8191 ∷ 0 ∷ 127 ∷ 0 ∷ 127 ∷ 0 ∷ 127 ∷ []) i 0

-- those of no PLL, from 45 on: MCO1PRE, MCO2PRE, HPRE and the PPREs
abbrev pub limit : ℕ → ℕ
limit f = cond (ltb f 45) (pll_limit (f % 15)) (get_or (replicate 10 0 ++ (15 ∷ 0 ∷ 15 ∷ 0 ∷ 0 ∷ 0 ∷ 512 ∷ 16 ∷ 16 ∷ 16 ∷ [])) (f - 45) 0)

abbrev pub under : ℕ → ℕ → Bool
under n v = eqb n 0 || leb v n

-- no word of a bank is above its limit
pub record Within (b : List ℕ) : Type 0 where
  pub at : (f : ℕ) → f < 82 → under (limit f) (word b f) ≡ true

reset_within : Within reset_bank
unfolding reset_bank
reset_within = record { at = at_each (λ f. under (limit f) (word reset_bank f)) 82 refl }

-- ---- a list that keeps a bank so: each field that it sets is within
stored : (F : ℕ → Type 0) (b : List ℕ) (f g v : ℕ) → (f ≡ g → F v) → F (word b g) → F (word (set b f v) g)
stored F [] f g v h k = k
stored F (x ∷ b) zero zero v h k = h refl
stored F (x ∷ b) zero (suc g) v h k = k
stored F (x ∷ b) (suc f) zero v h k = k
stored F (x ∷ b) (suc f) (suc g) v h k = stored F b f g v (λ e. h (ap suc e)) k

put : (f v : ℕ) → under (limit f) v ≡ true → {b : List ℕ} → Within b → Within (set b f v)
put f v h {b} w = record {
  at = λ g l. stored (λ x. under (limit g) x ≡ true) b f g v (λ e. subst (λ (y : ℕ). under (limit y) v ≡ true) e h) (w.at g l);
}

data Keeps (es : List Entry) : Type 0 where
  by : ((b : List ℕ) → Within b → Within (apply_all es b)) → Keeps es

after_reset : {es : List Entry} → Keeps es → Within (apply_all es reset_bank)
after_reset (by h) = h reset_bank reset_within

infixr 5 ◌then◌
◌then◌ : {s t : List Entry} → Keeps s → Keeps t → Keeps (s ++ t)
◌then◌ {s} {t} (by h) (by k) = by λ b w. rw (apply_append s t b) (k _ (h b w))

-- a list whose values fit their fields, by a computed test
abbrev fit : List Entry → Bool
fit [] = true
fit (Set f v ∷ es) = under (limit f) v && fit es
fit (Set2 f v g w ∷ es) = under (limit f) v && (under (limit g) w && fit es)
fit (Set3 f v g w h x ∷ es) = under (limit f) v && (under (limit g) w && (under (limit h) x && fit es))
fit (Set4 f v g w h x k y ∷ es) = under (limit f) v && (under (limit g) w && (under (limit h) x && (under (limit k) y && fit es)))
fit (Wait f v ∷ es) = fit es
fit (Wait2 f v g w ∷ es) = fit es
fit (Check f v ∷ es) = fit es
fit (Read f ∷ es) = fit es

keeping : (es : List Entry) → fit es ≡ true → (b : List ℕ) → Within b → Within (apply_all es b)
keeping [] t b i = i
keeping (Set f v ∷ es) t b i = keeping es (and_right (under (limit f) v) _ t) _ (put f v (and_left _ _ t) i)
keeping (Set2 f v g w ∷ es) t b i =
    let t1 = and_right (under (limit f) v) _ t in
    keeping es (and_right (under (limit g) w) _ t1) _ (put g w (and_left _ _ t1) (put f v (and_left _ _ t) i))
keeping (Set3 f v g w h x ∷ es) t b i =
    let t1 = and_right (under (limit f) v) _ t in
    let t2 = and_right (under (limit g) w) _ t1 in
    keeping es (and_right (under (limit h) x) _ t2) _ (put h x (and_left _ _ t2) (put g w (and_left _ _ t1) (put f v (and_left _ _ t) i)))
keeping (Set4 f v g w h x k y ∷ es) t b i =
    let t1 = and_right (under (limit f) v) _ t in
    let t2 = and_right (under (limit g) w) _ t1 in
    let t3 = and_right (under (limit h) x) _ t2 in
    keeping es (and_right (under (limit k) y) _ t3) _ (put k y (and_left _ _ t3) (put h x (and_left _ _ t2) (put g w (and_left _ _ t1) (put f v (and_left _ _ t) i))))
keeping (Wait f v ∷ es) t b i = keeping es t b i
keeping (Wait2 f v g w ∷ es) t b i = keeping es t b i
keeping (Check f v ∷ es) t b i = keeping es t b i
keeping (Read f ∷ es) t b i = keeping es t b i

fitting : (es : List Entry) → fit es ≡ true → Keeps es
fitting es t = by (keeping es t)

-- ---- the entries of a PLL
pub number_below : (j : PllName) → number j < 3
number_below pll1 = omega arith
number_below pll2 = omega arith
number_below pll3 = omega arith

module _ (j : PllName) where
  pub own_limit : (i : ℕ) → i < 15 → limit (15 * number j + i) ≡ pll_limit i
  own_limit i l =
      let n = number_below j in
      let e : (15 * number j + i) % 15 ≡ i = omega arith in
      rw (lt-ltb (15 * number j + i) 45 (omega arith), e)

  own : (i v : ℕ) → i < 15 → under (pll_limit i) v ≡ true → {b : List ℕ} → Within b → Within (set b (15 * number j + i) v)
  own i v l h w = put (15 * number j + i) v (rw (own_limit i l) h) w

  -- a divider and its enable
  output_keeps : (i vco : ℕ) (r : Option ℕ) (o : Option PllOutput) → i < 14 → ((v : ℕ) → v ≤ 127 → under (pll_limit i) v ≡ true)
      → ((v : ℕ) → under (pll_limit (suc i)) v ≡ true) → LegalOutput vco r o → Keeps (output_entries (15 * number j + i) (15 * number j + suc i) o)
  output_keeps i vco r None l h f g = by λ b w. own (suc i) 0 (omega arith) (f 0) w
  output_keeps i vco None (Some o) l h f g = absurd g
  output_keeps i vco (Some r) (Some o) l h f g = by λ b w. own (suc i) 1 (omega arith) (f 1) (own i (o.divider - 1) (omega arith) (h (o.divider - 1) g.field) w)

  fraction_keeps : (t : Strategy) (source first : ℕ) (s : PllSettings) (x : Option ℕ) → LegalVco t source first s x → Keeps (fraction_entries (number j) x)
  fraction_keeps t source first s None l = by λ b w. w
  fraction_keeps Integer source first s (Some f) l = absurd l
  fraction_keeps Fractional source first s (Some f) l =
      by λ b w. own 5 1 (omega arith) refl (own 5 0 (omega arith) refl (own 4 f (omega arith) (le-leb f 8191 l.field) w))

  setup_keeps : (odd : Bool) (source : ℕ) (a : PllRequest) (x : Option PllSettings) → LegalPll odd source a x → Keeps (setup_entries (number j) x)
  unfolding setting_entries
  setup_keeps odd source a None l = by λ b w. w
  setup_keeps odd source a (Some s) l =
      let base : Keeps (base_entries (number j) s) =
      by λ b w. own 3 (s.n - 1) (omega arith) (le-leb _ 511 l.n.to) (own 2 s.m (omega arith) (le-leb _ 63 l.m.to)
      (own 1 s.rge (omega arith) refl (own 0 s.vcosel (omega arith) refl w))) in
      base then fraction_keeps a.strategy source (first_of a) s s.fraction l.vco
      then output_keeps 6 s.vco a.p s.p (omega arith) (λ v. le-leb v 127) (λ v. refl) l.p
      then output_keeps 8 s.vco a.q s.q (omega arith) (λ v. le-leb v 127) (λ v. refl) l.q
      then output_keeps 10 s.vco a.r s.r (omega arith) (λ v. le-leb v 127) (λ v. refl) l.r

  third_keeps : (three odd : Bool) (source : ℕ) (a : PllRequest) (x : Option PllSettings) → LegalThird three odd source a x → Keeps (setup_entries (number j) x)
  third_keeps true odd source a x l = setup_keeps odd source a x l
  third_keeps false odd source a x l = rw l (by λ b w. w)

  start_keeps : (x : Option PllSettings) → Keeps (start_entries (number j) x)
  start_keeps None = by λ b w. w
  start_keeps (Some s) = go s.p
    where
      go : (o : Option PllOutput) → Keeps (output_start (number j) o)
      go None = by λ b w. w
      go (Some o) = by λ b w. own 13 1 (omega arith) refl w

-- ---- the divisors that the rules choose
abbrev BusMost : ℕ → Bus → Type 0
BusMost n b = b.pre ≤ n

abbrev McoMost : Mco → Type 0
McoMost m = m.pre ≤ 15

abbrev BusesMost : Buses → Type 0
BusesMost b = BusMost 512 b.ahb × BusMost 16 b.apb1 × BusMost 16 b.apb2 × BusMost 16 b.apb3

abbrev McosMost : Mcos → Type 0
McosMost m = McoMost m.mco1 × McoMost m.mco2

ahb_most : (system : ℕ) (h : Option ℕ) → Holds (BusMost 512) (ahb_of system h)
unfolding ahb_of
ahb_most system h =
    holds_next (BusMost 512) (require (not_zero h) BusZero) _
    (holds_next (BusMost 512) (require (not (eqb (system / hpre_for system h) 0)) AhbZero) _ (hpre_most (ratio_of system (unwrap_or h system))))

apb_most : (ahb : ℕ) (h : Option ℕ) → Holds (BusMost 16) (apb_of ahb h)
unfolding apb_of
apb_most ahb h = holds_next (BusMost 16) (require (not_zero h) BusZero) _ (ppre_most (ratio_of ahb (unwrap_or h ahb)))

mco_most : (clock : ℕ) (h : Option ℕ) → Holds McoMost (mco_of clock h)
unfolding mco_of
mco_most clock None = omega arith
mco_most clock (Some h) =
    let r = ratio_of clock h in
    holds_next McoMost (require (not (eqb h 0)) McoZero) _
    (holds_tested McoMost (leb 1 r && leb r 15) McoRatio _ (λ t. leb-true r 15 (and_right (leb 1 r) _ t)))

buses_most : (q : Request) (system : ℕ) → Holds BusesMost (buses_of q system)
unfolding buses_of
buses_most q system =
    holds_known BusesMost (BusMost 512) (ahb_of system q.ahb) _ (ahb_most system q.ahb)
    (λ b h. holds_known BusesMost (BusMost 16) (apb_of b.clock q.apb1) _ (apb_most b.clock q.apb1)
    (λ x i. holds_known BusesMost (BusMost 16) (apb_of b.clock q.apb2) _ (apb_most b.clock q.apb2)
    (λ y j. holds_known BusesMost (BusMost 16) (apb_of b.clock q.apb3) _ (apb_most b.clock q.apb3) (λ z k. (h, i, j, k)))))

mcos_most : (q : Request) (l : List (Option PllSettings)) (system : ℕ) → Holds McosMost (mcos_of q l system)
unfolding mcos_of
mcos_most q l system =
    holds_then McosMost (mco1_input q.mco1source q.hse (q_clock (pll_from l 0))) _
    (λ i. holds_known McosMost McoMost (mco_of i q.mco1) _ (mco_most i q.mco1)
    (λ x h. holds_then McosMost (mco2_input q.mco2source system q.hse (p_clock (pll_from l 0)) (p_clock (pll_from l 1))) _
    (λ j. holds_known McosMost McoMost (mco_of j q.mco2) _ (mco_most j q.mco2) (λ y k. (h, k)))))

-- ---- the entries of no PLL
module _ (p : Plan) where
  clocks_keep : p.mcos.mco1.pre ≤ 15 → p.mcos.mco2.pre ≤ 15 → Keeps (clock_entries p.waits p.selectors p.mcos)
  unfolding clock_entries
  clocks_keep h i =
      fitting _ (rw (le-leb p.mcos.mco1.pre 15 h, le-leb p.mcos.mco2.pre 15 i))

  hse_keeps : (x : Option ℕ) → Keeps (hse_entries x p.bypass)
  hse_keeps None = by λ b w. w
  hse_keeps (Some h) = by λ b w. put 59 (bit p.bypass) refl (put 58 1 refl w)

  source_keeps : (three : Bool) → Keeps (source_entries three p.selectors.src)
  source_keeps true = by λ b w. put 42 p.selectors.src refl (put 27 p.selectors.src refl (put 12 p.selectors.src refl w))
  source_keeps false = by λ b w. put 27 p.selectors.src refl (put 12 p.selectors.src refl w)

  buses_keep : p.buses.ahb.pre ≤ 512 → p.buses.apb1.pre ≤ 16 → p.buses.apb2.pre ≤ 16 → p.buses.apb3.pre ≤ 16 → Keeps (bus_entries p.buses p.selectors)
  unfolding bus_entries
  buses_keep h i j k =
      fitting _ (rw (le-leb p.buses.ahb.pre 512 h, le-leb p.buses.apb1.pre 16 i, le-leb p.buses.apb2.pre 16 j, le-leb p.buses.apb3.pre 16 k))

-- ---- the whole list, and the bank that it leaves
abbrev BusesKeep : Plan → Type 0
BusesKeep p = Keeps (clock_entries p.waits p.selectors p.mcos) × Keeps (bus_entries p.buses p.selectors)

chosen_keep : (q : Request) (c : ChipState) → Holds BusesKeep (chosen_plan q c)
unfolding chosen_plan plan_with
chosen_keep q c =
    holds_then BusesKeep (plls_of q c) _
    (λ l. holds_next BusesKeep (hsi_ready c) _
    (holds_known BusesKeep BusesMost (buses_of q (system_from q l)) _ (buses_most q (system_from q l))
    (λ b h. holds_known BusesKeep McosMost (mcos_of q l (system_from q l)) _ (mcos_most q l (system_from q l))
    (λ m k. (clocks_keep (plan_with q c l b m) k.0 k.1, buses_keep (plan_with q c l b m) h.0 h.1 h.2 h.3)))))

plan_keeps : (q : Request) (c : ChipState) (p : Plan) → LegalPlan q c p → BusesKeep p → Keeps (plan_entries p)
unfolding list_with
plan_keeps q c p l h =
    (setup_keeps pll1 (odd_at c 0) (source_of q) (asked_of q 0) (pll_in p 0) l.pll1
    then setup_keeps pll2 (odd_at c 1) (source_of q) (asked_of q 1) (pll_in p 1) l.pll2
    then third_keeps pll3 c.three (odd_at c 2) (source_of q) (asked_of q 2) (pll_in p 2) l.pll3)
    then h.0 then hse_keeps p p.clocks.hse then source_keeps p p.three
    then (start_keeps pll1 (pll_in p 0) then start_keeps pll2 (pll_in p 1) then start_keeps pll3 (pll_in p 2)) then h.1

pub plan_within : (q : Request) (c : ChipState) (p : Plan) → chosen_plan q c ≡ Ok p → Within (apply_all (plan_entries p) reset_bank)
plan_within q c p e = after_reset (plan_keeps q c p (plan_legal q c p e) (subst (Holds BusesKeep) e (chosen_keep q c)))
