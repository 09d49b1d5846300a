-- A typed request: the answer is the number of the first row that holds, and a plan where none does.
use Rattle.std.specs.Prelude.{Option, Some, None, Result, Ok, Err, unwrap_or, is_some, IsOk}
use mathlib.Core.Logic.{◌↔◌}
use mathlib.Core.Path.{◌≡◌, refl, subst, sym}
use mathlib.Core.Bool.{Bool, true, false, not, cond, ◌&&◌, ◌||◌}
use mathlib.Core.List.{List, [], ◌∷◌, ◌++◌, append_assoc, append-nil}
use Prim.Native.Nat.{ℕ, ◌/◌, ◌≤◌}
use native.Mathlib.Omega.{arith}
use native.Mathlib.Nat.{le_trans, div-le_self}
use lib.Dec.{leb, ltb, eqb, lit≤}
use borrow.Author.Tests.{le-leb}
use Rattle.types.specs.declared.PllSettings.{PllSettings}
use Rattle.laws.proofs.Tests.{by_test, never}
use Rattle.types.specs.declared.Mco1Source.{Mco1Source}
use Rattle.types.specs.declared.Mco2Source.{Mco2Source}
use Rattle.types.specs.declared.Request.{Request}
use Rattle.types.specs.declared.ChipState.{ChipState}
use Rattle.types.specs.declared.Plan.{Plan}
use Rattle.types.specs.declared.Refusal.{Refusal}
use Rattle.types.specs.declared.Refusal.TheVariants.{AboveLimit, McoHseUnstated, Pll1PUnlikeSystem, SourceZero, HsiOff, HsidivNot2, BusZero, AhbZero, McoZero, McoRatio}
use Rattle.rules.specs.Document01.Chip.{divisor_of, odd_at, has_pll}
use Rattle.rules.specs.Document01.Result.{◌>>=◌, ◌>>◌}
use Rattle.rules.specs.Document01.Refusals.{number_of}
use Rattle.rules.specs.Document01.Hertz.{ratio_of, not_zero}
use Rattle.rules.specs.Document01.Request.{within, from_hse1, from_hse2, pll1_asked, source_of, system_of, needs_pll1, like, asked_of, configured}
use Rattle.rules.specs.Document01.OnePll.{pll_of, p_clock, q_clock, pll_from, wanted}
use Rattle.rules.specs.Document01.Buses.{hpre_for, ppre_for, ahb_of, apb_of}
use Rattle.rules.specs.Document01.Mco.{mco1_input, mco2_input, mco_of}
use Rattle.rules.specs.Document01.Plan.{plls_of, hsi_ready, system_from, buses_of, mcos_of, plan_with, chosen_plan, planned_at, by_number}
use Rattle.claims.specs.Demands.Legal.{LegalPll}
use Rattle.claims.specs.Demands.Rows.{Row, ◌when◌, first_that, AsRows}
use Rattle.claims.specs.Demands.Quantities.{any, is_zero, above, unlike, system, input1, input2, ratio_above15}
use Rattle.claims.specs.Demands.Refused.{request_rows, hsi_rows, bus_rows, mco_rows, pll_rows_at, rows_of, pll_rows}
use Rattle.rules.proofs.Document01.Refusals.{numbers_differ}
use Rattle.rules.proofs.Document01.Results.{Holds, not_ok}
use Rattle.rules.proofs.Document01.Span.{pos_of}
use Rattle.claims.proofs.Legal.Plan.{LegalPlls, plls_legal}
use Rattle.claims.proofs.Refused.Above0.{p_some, q_some, ratio_some}
use Rattle.claims.proofs.Refused.Says.{told, said_by, Says, says_given, none_holds, says_then, says_next, says_ok, says_test, says_tested}
use Rattle.claims.proofs.Refused.OnePll.{le_turned, zero_turned, twice, pll_for, says_pll, p_hertz, says_planned_p, says_planned_q}
use Rattle.types.specs.declared.Bus.{Bus}
use Rattle.types.specs.declared.Mco.{Mco}
use Rattle.types.specs.declared.Buses.{Buses}
use Rattle.types.specs.declared.Mcos.{Mcos}

-- ---- 3 to 6
within_turned : (h : Option ℕ) → within h ≡ not (above 250_000_000 h)
within_turned None = refl
within_turned (Some h) = le_turned h 250_000_000

limits_turned : (a b c d e : Option ℕ) → within a && (within b && (within c && (within d && within e)))
    ≡ not (any (above 250_000_000) (a ∷ b ∷ c ∷ d ∷ e ∷ []))
limits_turned a b c d e = rw (within_turned a, within_turned b, within_turned c, within_turned d, within_turned e) (go (above 250_000_000 a) (above 250_000_000 b) (above 250_000_000 c) (above 250_000_000 d) (above 250_000_000 e))
  where
    go : (x y z u v : Bool) → not x && (not y && (not z && (not u && not v))) ≡ not (x || (y || (z || (u || (v || false)))))
    go true y z u v = refl
    go false true z u v = refl
    go false false true u v = refl
    go false false false true v = refl
    go false false false false true = refl
    go false false false false false = refl

stated_turned : (set from : Bool) → set || not from ≡ not (from && not set)
stated_turned true true = refl
stated_turned true false = refl
stated_turned false true = refl
stated_turned false false = refl

like_turned : (s : ℕ) (h : Option ℕ) → like h s ≡ not (unlike s h)
like_turned s None = refl
like_turned s (Some h) = twice (eqb h s)

fits_turned : (t : Bool) (s : ℕ) (h : Option ℕ) → not t || like h s ≡ not (t && unlike s h)
fits_turned false s h = refl
fits_turned true s h = like_turned s h

says_configured : (q : Request) → Says (configured q) tt (request_rows q)
unfolding configured
says_configured q =
    says_tested _ AboveLimit _ (limits_turned q.system q.ahb q.apb1 q.apb2 q.apb3)
    (says_tested _ McoHseUnstated _ (stated_turned (is_some q.hse) (from_hse1 q.mco1source || from_hse2 q.mco2source))
    (says_tested _ Pll1PUnlikeSystem _ (fits_turned (needs_pll1 q) (system_of q) (pll1_asked q).p)
    (says_test (not (eqb (source_of q) 0)) SourceZero (eqb (source_of q) 0) refl)))

-- ---- the PLLs
abbrev pll_on : Request → ChipState → (k : ℕ) → Option PllSettings
pll_on q c k = cond (has_pll c k) (pll_for (odd_at c k) (source_of q) (asked_of q k)) None

abbrev plls_for : Request → ChipState → List (Option PllSettings)
plls_for q c = by_number (pll_on q c 0) (pll_on q c 1) (pll_on q c 2)

says_planned_at : (q : Request) (c : ChipState) (k : ℕ) → Says (planned_at q c k) (pll_on q c k) (pll_rows_at q c k)
says_planned_at q c k = go (has_pll c k)
  where
    go : (t : Bool) → Says (cond t (pll_of (odd_at c k) (source_of q) (asked_of q k)) (Ok None)) (cond t (pll_for (odd_at c k) (source_of q) (asked_of q k)) None) (cond t (cond (wanted (asked_of q k)) (pll_rows (odd_at c k) (source_of q) (asked_of q k)) []) [])
    go true = says_pll (odd_at c k) (source_of q) (asked_of q k)
    go false = says_ok None

says_plls : (q : Request) (c : ChipState) → Says (plls_of q c) (plls_for q c) (request_rows q ++ (pll_rows_at q c 0 ++ (pll_rows_at q c 1 ++ (pll_rows_at q c 2 ++ []))))
unfolding plls_of
says_plls q c =
    says_next (says_configured q)
    (says_then _ (says_planned_at q c 0)
    (says_then _ (says_planned_at q c 1)
    (says_then _ (says_planned_at q c 2) (says_ok (plls_for q c)))))

-- ---- 16 and 17
says_hsi : (c : ChipState) → Says (hsi_ready c) tt (hsi_rows c)
says_hsi c = says_tested c.hsion HsiOff (not c.hsion) (twice c.hsion) (says_test (eqb (divisor_of c.hsidiv) 2) HsidivNot2 (not (eqb (divisor_of c.hsidiv) 2)) (twice (eqb (divisor_of c.hsidiv) 2)))

-- ---- 18 and 19
system_is : (q : Request) (c : ChipState) → system_from q (plls_for q c) ≡ system q c
system_is q c = rw (p_hertz (odd_at c 0) (source_of q) (asked_of q 0))

abbrev apb_for : (clock : ℕ) → Option ℕ → Bus
apb_for clock h = record { pre = ppre_for clock h; clock = clock / ppre_for clock h }

says_apb : (clock : ℕ) (h : Option ℕ) → Says (apb_of clock h) (apb_for clock h) ((18 when is_zero h) ∷ [])
unfolding apb_of
says_apb clock h = says_tested (not_zero h) BusZero (is_zero h) (zero_turned h) (says_ok (apb_for clock h))

abbrev buses_for : Request → (system : ℕ) → Buses
buses_for q s = record {
  ahb = record { pre = hpre_for s q.ahb; clock = s / hpre_for s q.ahb };
  apb1 = apb_for (s / hpre_for s q.ahb) q.apb1;
  apb2 = apb_for (s / hpre_for s q.ahb) q.apb2;
  apb3 = apb_for (s / hpre_for s q.ahb) q.apb3;
}

says_buses : (q : Request) (s : ℕ) → Says (buses_of q s) (buses_for q s)
    ((18 when is_zero q.ahb) ∷ (19 when eqb (s / hpre_for s q.ahb) 0) ∷ (18 when is_zero q.apb1) ∷ (18 when is_zero q.apb2) ∷ (18 when is_zero q.apb3) ∷ [])
unfolding buses_of ahb_of
says_buses q s =
    says_then _
    (says_tested (not_zero q.ahb) BusZero (is_zero q.ahb) (zero_turned q.ahb)
    (says_tested _ AhbZero (eqb (s / hpre_for s q.ahb) 0) refl (says_ok (buses_for q s).ahb)))
    (says_then _ (says_apb (s / hpre_for s q.ahb) q.apb1)
    (says_then _ (says_apb (s / hpre_for s q.ahb) q.apb2)
    (says_then _ (says_apb (s / hpre_for s q.ahb) q.apb3) (says_ok (buses_for q s)))))

-- ---- 20 to 23
says_input1 : (s : Mco1Source) (q : Request) (c : ChipState) → Says (mco1_input s q.hse (q_clock (pll_from (plls_for q c) 0))) (input1 q c s).clock ((20 when (input1 q c s).lse) ∷ (21 when (input1 q c s).unplanned) ∷ [])
unfolding mco1_input
says_input1 Mco1Source.Hsi q c = record { same = refl }
says_input1 Mco1Source.Lse q c = record { same = refl }
says_input1 Mco1Source.Hse q c = record { same = refl }
says_input1 Mco1Source.Pll1Q q c = record { same = (says_planned_q (odd_at c 0) (source_of q) (asked_of q 0)).same }
says_input1 Mco1Source.Hsi48 q c = record { same = refl }

says_input2 : (s : Mco2Source) (q : Request) (c : ChipState) → Says (mco2_input s (system q c) q.hse (p_clock (pll_from (plls_for q c) 0)) (p_clock (pll_from (plls_for q c) 1))) (input2 q c s).clock ((21 when (input2 q c s).unplanned) ∷ [])
unfolding mco2_input
says_input2 Mco2Source.Sysclk q c = record { same = refl }
says_input2 Mco2Source.Pll2P q c = says_planned_p (odd_at c 1) (source_of q) (asked_of q 1)
says_input2 Mco2Source.Hse q c = record { same = refl }
says_input2 Mco2Source.Pll1P q c = says_planned_p (odd_at c 0) (source_of q) (asked_of q 0)
says_input2 Mco2Source.Csi q c = record { same = refl }
says_input2 Mco2Source.Lsi q c = record { same = refl }

abbrev mco_for : (clock : ℕ) → Option ℕ → Mco
mco_for clock None = record { pre = 0; clock = None }
mco_for clock (Some h) = record { pre = ratio_of clock h; clock = Some (clock / ratio_of clock h) }

says_mco : (clock : ℕ) (h : Option ℕ) → 1 ≤ clock → Says (mco_of clock h) (mco_for clock h) ((22 when is_zero h) ∷ (23 when ratio_above15 clock h) ∷ [])
unfolding mco_of
says_mco clock None c = record { same = refl }
says_mco clock (Some h) c =
    by_test (eqb h 0)
    (λ (t : eqb h 0 ≡ true). rw t (record { same = refl }))
    (λ (f : eqb h 0 ≡ false).
    let r : 1 ≤ ratio_of clock h = ratio_some clock h c (pos_of h f) in
    rw (f, le-leb 1 (ratio_of clock h) r)
    (says_tested true McoZero false refl (says_tested (leb (ratio_of clock h) 15) McoRatio (ltb 15 (ratio_of clock h)) (le_turned (ratio_of clock h) 15) (says_ok (mco_for clock (Some h))))))

abbrev mcos_for : Request → ChipState → Mcos
mcos_for q c = record { mco1 = mco_for (input1 q c q.mco1source).clock q.mco1; mco2 = mco_for (input2 q c q.mco2source).clock q.mco2 }

-- the clocks that an MCO can come from are above 0
record Above0 (q : Request) (c : ChipState) : Type 0 where
  hse1 : from_hse1 q.mco1source ≡ true → 1 ≤ unwrap_or q.hse 0
  hse2 : from_hse2 q.mco2source ≡ true → 1 ≤ unwrap_or q.hse 0
  pll1 : LegalPll (odd_at c 0) (source_of q) (asked_of q 0) (pll_from (plls_for q c) 0)
  pll2 : LegalPll (odd_at c 1) (source_of q) (asked_of q 1) (pll_from (plls_for q c) 1)

some1 : (s : Mco1Source) (q : Request) (c : ChipState) → (from_hse1 s ≡ true → 1 ≤ unwrap_or q.hse 0) → LegalPll (odd_at c 0) (source_of q) (asked_of q 0) (pll_from (plls_for q c) 0)
    → mco1_input s q.hse (q_clock (pll_from (plls_for q c) 0)) ≡ Ok (input1 q c s).clock → 1 ≤ (input1 q c s).clock
unfolding mco1_input
some1 Mco1Source.Hsi q c h l e = lit≤ tt
some1 Mco1Source.Lse q c h l e = not_ok e
some1 Mco1Source.Hse q c h l e = h refl
some1 Mco1Source.Pll1Q q c h l e = q_some (odd_at c 0) (source_of q) (asked_of q 0) (pll_from (plls_for q c) 0) l _ e
some1 Mco1Source.Hsi48 q c h l e = lit≤ tt

some2 : (s : Mco2Source) (q : Request) (c : ChipState) → (from_hse2 s ≡ true → 1 ≤ unwrap_or q.hse 0) → LegalPll (odd_at c 0) (source_of q) (asked_of q 0) (pll_from (plls_for q c) 0) → LegalPll (odd_at c 1) (source_of q) (asked_of q 1) (pll_from (plls_for q c) 1)
    → 1 ≤ system q c → mco2_input s (system q c) q.hse (p_clock (pll_from (plls_for q c) 0)) (p_clock (pll_from (plls_for q c) 1)) ≡ Ok (input2 q c s).clock → 1 ≤ (input2 q c s).clock
unfolding mco2_input
some2 Mco2Source.Sysclk q c h l k y e = y
some2 Mco2Source.Pll2P q c h l k y e = p_some (odd_at c 1) (source_of q) (asked_of q 1) (pll_from (plls_for q c) 1) k _ e
some2 Mco2Source.Hse q c h l k y e = h refl
some2 Mco2Source.Pll1P q c h l k y e = p_some (odd_at c 0) (source_of q) (asked_of q 0) (pll_from (plls_for q c) 0) l _ e
some2 Mco2Source.Csi q c h l k y e = lit≤ tt
some2 Mco2Source.Lsi q c h l k y e = lit≤ tt

says_mcos : (q : Request) (c : ChipState) → Above0 q c → 1 ≤ system q c → Says (mcos_of q (plls_for q c) (system q c)) (mcos_for q c) (mco_rows q c)
unfolding mcos_of
says_mcos q c f y =
    says_given _ (says_input1 q.mco1source q c)
    (λ e. says_then _ (says_mco (input1 q c q.mco1source).clock q.mco1 (some1 q.mco1source q c f.hse1 f.pll1 e))
    (says_given _ (says_input2 q.mco2source q c)
    (λ e. says_then _ (says_mco (input2 q c q.mco2source).clock q.mco2 (some2 q.mco2source q c f.hse2 f.pll1 f.pll2 y e)) (says_ok (mcos_for q c)))))

-- ---- all of them
abbrev pub plan_for : Request → ChipState → Plan
plan_for q c = plan_with q c (plls_for q c) (buses_for q (system q c)) (mcos_for q c)

-- rows 4 and 6, once neither holds
hse_some : (from : Bool) (h : Option ℕ) → from && not (is_some h) ≡ false → eqb (unwrap_or h 32_000_000) 0 ≡ false → from ≡ true → 1 ≤ unwrap_or h 0
hse_some from None r4 r6 e = absurd (never (rw e at r4))
hse_some from (Some h) r4 r6 e = pos_of h r6

some_of : (q : Request) (c : ChipState) → plls_of q c ≡ Ok (plls_for q c) → Above0 q c
some_of q c e =
    let n = none_holds (plls_of q c) (plls_for q c) _ (says_plls q c) e in
    let r4 = n.1.0 in
    let r6 = n.1.1.1.0 in
    let l = subst (Holds (LegalPlls q c)) e (plls_legal q c) in
    record {
      hse1 = λ t. hse_some (from_hse1 q.mco1source || from_hse2 q.mco2source) q.hse r4 r6 (rw t);
      hse2 = λ t. hse_some (from_hse1 q.mco1source || from_hse2 q.mco2source) q.hse r4 r6 (either_true (from_hse1 q.mco1source) (from_hse2 q.mco2source) t);
      pll1 = l.pll1;
      pll2 = l.pll2;
    }
  where
    either_true : (a b : Bool) → b ≡ true → a || b ≡ true
    either_true true b t = refl
    either_true false b t = t

-- row 19, once it does not hold
system_some : (q : Request) (s : ℕ) → buses_of q s ≡ Ok (buses_for q s) → 1 ≤ s
system_some q s e =
    let n = none_holds (buses_of q s) (buses_for q s) _ (says_buses q s) e in
    quotient_some s (hpre_for s q.ahb) (pos_of (s / hpre_for s q.ahb) n.1.0)
  where
    quotient_some : (a b : ℕ) → 1 ≤ a / b → 1 ≤ a
    quotient_some a b h = le_trans h (div-le_self a b)

-- behind the PLLs
says_after : (q : Request) (c : ChipState) → Above0 q c → (s : ℕ) → s ≡ system q c →
    Says (hsi_ready c >> (buses_of q s >>= λ b. mcos_of q (plls_for q c) s >>= λ m. Ok (plan_with q c (plls_for q c) b m))) (plan_for q c) (hsi_rows c ++ (bus_rows q c ++ mco_rows q c))
says_after q c f s e = rw e (says_next (says_hsi c) (says_given _ (says_buses q (system q c)) (λ g. says_then _ (says_mcos q c f (system_some q (system q c) g)) (says_ok (plan_for q c)))))

regroup : (a b c d r : List Row) → a ++ (b ++ (c ++ (d ++ []))) ++ r ≡ a ++ (b ++ (c ++ (d ++ r)))
regroup a b c d r = simp (append_assoc, append-nil)

pub says_plan : (q : Request) (c : ChipState) → Says (chosen_plan q c) (plan_for q c) (rows_of q c)
unfolding chosen_plan rows_of
says_plan q c =
    rw (← regroup (request_rows q) (pll_rows_at q c 0) (pll_rows_at q c 1) (pll_rows_at q c 2) (hsi_rows c ++ (bus_rows q c ++ mco_rows q c)))
    (says_given _ (says_plls q c) (λ e. says_after q c (some_of q c e) (system_from q (plls_for q c)) (system_is q c)))

-- ---- the answer
differ : {Q : Type 0} → ◌≡◌ {A = ℕ} 0 1 → Q
differ e = absurd (omega arith)

answers : (x : Result Plan Refusal) (v : Plan) (o : Option ℕ) → told x ≡ said_by o v → (IsOk x ↔ o ≡ None) × ((n : Refusal) → x ≡ Err n ↔ o ≡ Some (number_of n))
answers (Err k) v None e = differ (cc)
answers (Err k) v (Some m) e = (
  (λ h. absurd (never (sym h)), λ h. differ (cc)),
  λ n. (λ h. (let s : k ≡ n = cc in let t : number_of k ≡ m = cc in rw (← t, s)), λ h. (let t : number_of k ≡ number_of n = cc in rw (numbers_differ k n t))),
)
answers (Ok p) v None e = ((λ h. refl, λ h. refl), λ n. (λ h. differ (cc), λ h. differ (cc)))
answers (Ok p) v (Some m) e = differ (cc)

pub as_rows : (x : Result Plan Refusal) (v : Plan) (rows : List Row) → Says x v rows → AsRows rows x
as_rows x v rows h = let a = answers x v (first_that rows) h.same in record { plan = a.0; refusal = a.1 }

pub typed_rows : (q : Request) (c : ChipState) → AsRows (rows_of q c) (chosen_plan q c)
typed_rows q c = as_rows (chosen_plan q c) (plan_for q c) (rows_of q c) (says_plan q c)
