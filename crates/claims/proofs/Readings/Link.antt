-- Every plan that the rules give is consistent, so both readings of every clock that it covers are as demand 3 says.
use Rattle.types.specs.declared.Entry.{Entry}
use Rattle.std.specs.Prelude.{Option, Some, None, Result, Ok, unwrap_or, is_some}
use mathlib.Core.Path.{◌≡◌, refl, sym, ◌∙◌, ap, subst}
use mathlib.Core.Bool.{Bool, true, false, cond, not, ◌||◌}
use mathlib.Core.List.{List}
use Prim.Native.Nat.{ℕ, zero, suc, ◌<◌}
use native.Mathlib.Omega.{arith}
use Rattle.types.specs.declared.Refusal.{Refusal}
use Rattle.types.specs.declared.Strategy.{Strategy}
use Rattle.types.specs.declared.Request.{Request}
use Rattle.types.specs.declared.ChipState.{ChipState}
use Rattle.types.specs.declared.PllSettings.{PllSettings}
use Rattle.types.specs.declared.Plan.{Plan}
use Rattle.types.specs.declared.Refusal.TheVariants.{McoHseUnstated}
use Rattle.rules.specs.Document01.Result.{◌>>=◌, ◌>>◌}
use Rattle.rules.specs.Document01.Request.{pll_at, limited, from_hse1, from_hse2, source_of, system_of, needs_pll1, configured, asked_of}
use Rattle.rules.specs.Document01.OnePll.{pll_of, p_clock, q_clock, pll_from}
use Rattle.rules.specs.Document01.Buses.{peripheral_of, ahb_of, apb_of}
use Rattle.rules.specs.Document01.Mco.{mco1_input, mco2_input, mco_of}
use Rattle.rules.specs.Document01.Plan.{plls_of, hsi_ready, system_from, buses_of, mcos_of, sw_of, plan_with, chosen_plan, planned_at, by_number}
use Rattle.rules.specs.Document01.Entries.{pll_in, entries_of}
use Rattle.rules.specs.Document01.Bank.{apply_all, reset_bank}
use Rattle.claims.specs.Demands.Readings.{TwoReadings, Reads}
use Rattle.laws.proofs.Tests.{by_test}
use Rattle.rules.proofs.Document01.Results.{bind_ok, then_ok, tested_ok}
use Rattle.claims.proofs.Readings.PllFacts.{pll_good, pll_p}
use Rattle.claims.proofs.Readings.BusFacts.{GoodBus, ahb_good, GoodApb, apb_good, GoodPeripheral, at_hsi, at_csi, at_hse, peripheral_good, mco_good}
use Rattle.claims.proofs.Readings.Words.{bank_of}
use Rattle.claims.proofs.Readings.Consistent.{GoodPll, System, source, pll1_p, Peripheral, from_hsi, from_csi, from_hse, Divided, Consistent}
use Rattle.claims.proofs.Readings.Clocks.{two_readings}
use Rattle.types.specs.declared.Bus.{Bus}
use Rattle.types.specs.declared.Mco.{Mco}
use Rattle.types.specs.declared.Buses.{Buses}
use Rattle.types.specs.declared.Mcos.{Mcos}
use Rattle.rules.specs.Document01.Chip.{odd_at}

-- ---- the PLLs
record GoodPlls (q : Request) (three : Bool) (l : List (Option PllSettings)) : Type 0 where
  stated : is_some q.hse || not (from_hse1 q.mco1source || from_hse2 q.mco2source) ≡ true
  first : (s : PllSettings) → pll_from l 0 ≡ Some s → GoodPll (pll_at q 0).strategy (source_of q) s
  second : (s : PllSettings) → pll_from l 1 ≡ Some s → GoodPll (pll_at q 1).strategy (source_of q) s
  last : (s : PllSettings) → pll_from l 2 ≡ Some s → (three ≡ true) × GoodPll (pll_at q 2).strategy (source_of q) s
  -- PLL1 P is there where the system clock needs it
  needed : needs_pll1 q ≡ true → (r : ℕ) × (p_clock (pll_from l 0) ≡ Some r)

-- what PLL1 is asked for keeps its strategy, and has P where the system clock needs it
kept_strategy : (q : Request) → (asked_of q 0).strategy ≡ (pll_at q 0).strategy
kept_strategy q = by_test (needs_pll1 q) (λ t. rw t) (λ f. rw f)

asked_p : (q : Request) → needs_pll1 q ≡ true → (asked_of q 0).p ≡ Some (system_of q)
asked_p q t = rw t

third_good : (q : Request) (odd three : Bool) (s : PllSettings) → cond three (pll_of odd (source_of q) (asked_of q 2)) (Ok None) ≡ Ok (Some s)
    → (three ≡ true) × GoodPll (pll_at q 2).strategy (source_of q) s
third_good q odd true s e = (refl, pll_good odd (source_of q) (asked_of q 2) s e)
third_good q odd false s e = absurd (let y : ◌≡◌ {A = ℕ} 0 1 = cc in omega arith)

-- the steps of the PLLs, each with its value
module _ (q : Request) (c : ChipState) where
  abbrev src : ℕ
  src = source_of q

  made_good : (x y z : Option PllSettings) → is_some q.hse || not (from_hse1 q.mco1source || from_hse2 q.mco2source) ≡ true
      → planned_at q c 0 ≡ Ok x → planned_at q c 1 ≡ Ok y → planned_at q c 2 ≡ Ok z → GoodPlls q c.three (by_number x y z)
  made_good x y z st e₁ e₂ e₃ = record {
    stated = st;
    first = λ s w. subst (λ (t : Strategy). GoodPll t src s) (kept_strategy q) (pll_good (odd_at c 0) src (asked_of q 0) s (e₁ ∙ ap Ok w));
    second = λ s w. pll_good (odd_at c 1) src (asked_of q 1) s (e₂ ∙ ap Ok w);
    last = λ s w. third_good q (odd_at c 2) c.three s (e₃ ∙ ap Ok w);
    needed = λ t. pll_p (odd_at c 0) src (asked_of q 0) x (system_of q) (asked_p q t) e₁;
  }

  abbrev after3 : Option PllSettings → Option PllSettings → Option PllSettings → Result (List (Option PllSettings)) Refusal
  after3 x y z = Ok (by_number x y z)

  abbrev after2 : Option PllSettings → Option PllSettings → Result (List (Option PllSettings)) Refusal
  after2 x y = planned_at q c 2 >>= after3 x y

  abbrev after1 : Option PllSettings → Result (List (Option PllSettings)) Refusal
  after1 x = planned_at q c 1 >>= after2 x

  hse_stated : (u : Unit {0}) → configured q ≡ Ok u → is_some q.hse || not (from_hse1 q.mco1source || from_hse2 q.mco2source) ≡ true
  unfolding configured
  hse_stated u e =
      let e₁ = then_ok (limited q) _ u e in
      (tested_ok (is_some q.hse || not (from_hse1 q.mco1source || from_hse2 q.mco2source)) McoHseUnstated _ u e₁.2).0

  plls_good : (l : List (Option PllSettings)) → plls_of q c ≡ Ok l → GoodPlls q c.three l
  unfolding plls_of
  plls_good l e =
      let e₁ = then_ok (configured q) (planned_at q c 0 >>= after1) l e in
      let e₂ = bind_ok (planned_at q c 0) after1 l e₁.2 in
      let e₃ = bind_ok (planned_at q c 1) (after2 e₂.0) l e₂.2 in
      let e₄ = bind_ok (planned_at q c 2) (after3 e₂.0 e₃.0) l e₃.2 in
      same_plls l (by_number e₂.0 e₃.0 e₄.0) e₄.2 (made_good e₂.0 e₃.0 e₄.0 (hse_stated e₁.0 e₁.1) e₂.1 e₃.1 e₄.1)
    where
      same_plls : (l k : List (Option PllSettings)) → ◌≡◌ {A = Result (List (Option PllSettings)) Refusal} (Ok k) (Ok l) → GoodPlls q c.three k → GoodPlls q c.three l
      same_plls l k e g = let f : k ≡ l = cc in subst (λ (x : List (Option PllSettings)). GoodPlls q c.three x) f g

-- ---- the buses
record GoodBuses (system : ℕ) (b : Buses) : Type 0 where
  ahb : GoodBus system b.ahb
  apb1 : GoodApb b.ahb.clock b.apb1
  apb2 : GoodApb b.ahb.clock b.apb2
  apb3 : GoodApb b.ahb.clock b.apb3

module _ (q : Request) (system : ℕ) where
  abbrev then3 : Bus → Bus → Bus → Bus → Result Buses Refusal
  then3 a x y z = Ok (record { ahb = a; apb1 = x; apb2 = y; apb3 = z })

  abbrev then2 : Bus → Bus → Bus → Result Buses Refusal
  then2 a x y = apb_of a.clock q.apb3 >>= then3 a x y

  abbrev then1 : Bus → Bus → Result Buses Refusal
  then1 a x = apb_of a.clock q.apb2 >>= then2 a x

  abbrev then0 : Bus → Result Buses Refusal
  then0 a = apb_of a.clock q.apb1 >>= then1 a

  same_buses : (b k : Buses) → ◌≡◌ {A = Result Buses Refusal} (Ok k) (Ok b) → GoodBuses system k → GoodBuses system b
  same_buses b k e g = let f : k ≡ b = cc in subst (λ (x : Buses). GoodBuses system x) f g

  buses_good : (b : Buses) → buses_of q system ≡ Ok b → GoodBuses system b
  unfolding buses_of
  buses_good b e =
      let e₁ = bind_ok (ahb_of system q.ahb) then0 b e in
      let a : Bus = e₁.0 in
      let e₂ = bind_ok (apb_of a.clock q.apb1) (then1 a) b e₁.2 in
      let e₃ = bind_ok (apb_of a.clock q.apb2) (then2 a e₂.0) b e₂.2 in
      let e₄ = bind_ok (apb_of a.clock q.apb3) (then3 a e₂.0 e₃.0) b e₃.2 in
      same_buses b _ e₄.2 (record {
        ahb = ahb_good system q.ahb a e₁.1;
        apb1 = apb_good a.clock q.apb1 e₂.0 e₂.1;
        apb2 = apb_good a.clock q.apb2 e₃.0 e₃.1;
        apb3 = apb_good a.clock q.apb3 e₄.0 e₄.1;
      })

-- ---- the MCOs
module _ (q : Request) (l : List (Option PllSettings)) (system : ℕ) where
  abbrev input1 : Result ℕ Refusal
  input1 = mco1_input q.mco1source q.hse (q_clock (pll_from l 0))

  abbrev input2 : Result ℕ Refusal
  input2 = mco2_input q.mco2source system q.hse (p_clock (pll_from l 0)) (p_clock (pll_from l 1))

  record GoodMcos (m : Mcos) : Type 0 where
    mco1 : (r : ℕ) → m.mco1.clock ≡ Some r → Divided input1 m.mco1.pre r
    mco2 : (r : ℕ) → m.mco2.clock ≡ Some r → Divided input2 m.mco2.pre r

  divided : (input : Result ℕ Refusal) (clock : ℕ) (h : Option ℕ) (m : Mco) → input ≡ Ok clock → mco_of clock h ≡ Ok m → (r : ℕ) → m.clock ≡ Some r → Divided input m.pre r
  divided input clock h m i e r w = let g = mco_good clock h m r e w in record { clock = clock; is = i; above = g.0; hertz = g.1 }

  abbrev next3 : Mco → Mco → Result Mcos Refusal
  next3 x y = Ok (record { mco1 = x; mco2 = y })

  abbrev next2 : Mco → ℕ → Result Mcos Refusal
  next2 x i = mco_of i q.mco2 >>= next3 x

  abbrev next1 : Mco → Result Mcos Refusal
  next1 x = input2 >>= next2 x

  abbrev next0 : ℕ → Result Mcos Refusal
  next0 i = mco_of i q.mco1 >>= next1

  same_mcos : (m k : Mcos) → ◌≡◌ {A = Result Mcos Refusal} (Ok k) (Ok m) → GoodMcos k → GoodMcos m
  same_mcos m k e g = let f : k ≡ m = cc in subst (λ (x : Mcos). GoodMcos x) f g

  mcos_good : (m : Mcos) → mcos_of q l system ≡ Ok m → GoodMcos m
  unfolding mcos_of
  mcos_good m e =
      let e₁ = bind_ok input1 next0 m e in
      let e₂ = bind_ok (mco_of e₁.0 q.mco1) next1 m e₁.2 in
      let e₃ = bind_ok input2 (next2 e₂.0) m e₂.2 in
      let e₄ = bind_ok (mco_of e₃.0 q.mco2) (next3 e₂.0) m e₃.2 in
      same_mcos m _ e₄.2 (record {
        mco1 = divided input1 e₁.0 q.mco1 e₂.0 e₁.1 e₂.1;
        mco2 = divided input2 e₃.0 q.mco2 e₄.0 e₃.1 e₄.1;
      })

-- ---- the plan of what was chosen
module _ (q : Request) (c : ChipState) (l : List (Option PllSettings)) (b : Buses) (m : Mcos) (g : GoodPlls q c.three l) (u : GoodBuses (system_from q l) b) (v : GoodMcos q l (system_from q l) m) where
  abbrev plan : Plan
  plan = plan_with q c l b m

  each_pll : (j : ℕ) → j < 3 → (s : PllSettings) → pll_in plan j ≡ Some s → GoodPll (pll_at q j).strategy (source_of q) s
  unfolding plan_with
  each_pll zero h s w = g.first s w
  each_pll (suc zero) h s w = g.second s w
  each_pll (suc (suc zero)) h s w = (g.last s w).1
  each_pll (suc (suc (suc j))) h s w = absurd (omega arith)

  third_there : (s : PllSettings) → pll_in plan 2 ≡ Some s → plan.three ≡ true
  unfolding plan_with
  third_there s w = (g.last s w).0

  system_by : (t : Bool) → needs_pll1 q ≡ t → System q plan
  unfolding plan_with
  system_by false e = source (ap (λ (t : Bool). sw_of t q.hse) e) (ap (λ (t : Bool). cond t (unwrap_or (p_clock (pll_from l 0)) 0) (source_of q)) e)
  system_by true e =
      let y = g.needed e in
      let sys : system_from q l ≡ unwrap_or (p_clock (pll_from l 0)) 0 = ap (λ (t : Bool). cond t (unwrap_or (p_clock (pll_from l 0)) 0) (source_of q)) e in
      let hz : unwrap_or (p_clock (pll_from l 0)) 0 ≡ y.0 = ap (λ (x : Option ℕ). unwrap_or x 0) y.1 in
      pll1_p (ap (λ (t : Bool). sw_of t q.hse) e) (y.1 ∙ ap Some (sym (sys ∙ hz)))

  peripheral_by : GoodPeripheral q.hse (peripheral_of q.peripheral q.hse) → Peripheral q plan
  unfolding plan_with
  peripheral_by (at_hsi s e) = from_hsi s e
  peripheral_by (at_csi s e) = from_csi s e
  peripheral_by (at_hse s e) = from_hse s e

  plan_good : Consistent q plan
  unfolding plan_with
  plan_good = record {
    hse = refl;
    hsi = refl;
    csi = refl;
    hsi48 = refl;
    lsi = refl;
    src = refl;
    plls = each_pll;
    third = third_there;
    system = system_by (needs_pll1 q) refl;
    hpre = u.ahb.above;
    hclk = u.ahb.hertz;
    ppre1 = u.apb1.held;
    ppre2 = u.apb2.held;
    ppre3 = u.apb3.held;
    pclk1 = u.apb1.hertz;
    pclk2 = u.apb2.hertz;
    pclk3 = u.apb3.hertz;
    timx = refl;
    timy = refl;
    per = peripheral_by (peripheral_good q.peripheral q.hse);
    stated = g.stated;
    mco1sel = refl;
    mco2sel = refl;
    mco1 = v.mco1;
    mco2 = v.mco2;
  }

-- ---- every plan that the rules give
module _ (q : Request) (c : ChipState) where
  abbrev step3 : List (Option PllSettings) → Buses → Mcos → Result Plan Refusal
  step3 l b m = Ok (plan_with q c l b m)

  abbrev step2 : List (Option PllSettings) → Buses → Result Plan Refusal
  step2 l b = mcos_of q l (system_from q l) >>= step3 l b

  abbrev step1 : List (Option PllSettings) → Result Plan Refusal
  step1 l = hsi_ready c >> (buses_of q (system_from q l) >>= step2 l)

  pub chosen_good : (p : Plan) → chosen_plan q c ≡ Ok p → Consistent q p
  unfolding chosen_plan
  chosen_good p e =
      let e₁ = bind_ok (plls_of q c) step1 p e in
      let l : List (Option PllSettings) = e₁.0 in
      let e₂ = then_ok (hsi_ready c) (buses_of q (system_from q l) >>= step2 l) p e₁.2 in
      let e₃ = bind_ok (buses_of q (system_from q l)) (step2 l) p e₂.2 in
      let e₄ = bind_ok (mcos_of q l (system_from q l)) (step3 l e₃.0) p e₃.2 in
      same_plan p (plan_with q c l e₃.0 e₄.0) e₄.2 (plan_good q c l e₃.0 e₄.0 (plls_good q c l e₁.1) (buses_good q (system_from q l) e₃.0 e₃.1) (mcos_good q l (system_from q l) e₄.0 e₄.1))
    where
      same_plan : (p k : Plan) → ◌≡◌ {A = Result Plan Refusal} (Ok k) (Ok p) → Consistent q k → Consistent q p
      same_plan p k e g = let f : k ≡ p = cc in subst (λ (x : Plan). Consistent q x) f g

  pub plan_reads : Reads q (chosen_plan q c)
  unfolding entries_of bank_of
  plan_reads p e = rw e (two_readings q p (chosen_good p e))

  -- an answer that is the same plan, whose whole list was applied to b
  pub bank_reads : (x : Result Plan Refusal) (p : Plan) → chosen_plan q c ≡ Ok p → x ≡ Ok p → (b b₁ : List ℕ) → b₁ ≡ apply_all (entries_of x) b → b ≡ reset_bank → TwoReadings q p b₁
  bank_reads x p e h b b₁ f r =
      let g : entries_of (chosen_plan q c) ≡ entries_of x = ap entries_of (e ∙ sym h) in
      subst (λ (l : List ℕ). TwoReadings q p l) (sym (f ∙ ap (apply_all (entries_of x)) r ∙ ap (λ (es : List Entry). apply_all es reset_bank) (sym g))) (plan_reads p e)
