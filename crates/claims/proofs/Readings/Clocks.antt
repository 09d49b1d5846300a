-- Every clock covered, from the oscillator down: its chain in the bank that the whole list leaves ends with the hertz reported.
use Rattle.types.specs.declared.Refusal.{Refusal}
use Rattle.std.specs.Prelude.{Option, Some, None, Ok, unwrap_or, is_some, Result}
use mathlib.Core.Path.{◌≡◌, refl, sym, ◌∙◌, ap, subst}
use mathlib.Core.Bool.{Bool, true, false, cond, not, ◌||◌}
use mathlib.Core.List.{List, [], ◌∷◌}
use Prim.Native.Nat.{ℕ, zero, suc, ◌+◌, ◌-◌, ◌*◌, ◌/◌, ◌≤◌, ◌<◌}
use native.Mathlib.Omega.{arith}
use lib.Dec.{eqb}
use lib.ListN.{get_or}
use Rattle.types.specs.declared.Strategy.TheVariants.{Integer}
use Rattle.types.specs.declared.Mco1Source.{Mco1Source}
use Rattle.types.specs.declared.Mco2Source.{Mco2Source}
use Rattle.types.specs.declared.Request.{Request}
use Rattle.types.specs.declared.PllOutput.{PllOutput}
use Rattle.types.specs.declared.PllSettings.{PllSettings}
use Rattle.types.specs.declared.Plan.{Plan}
use Rattle.rules.specs.Document01.Request.{pll_at, source_of, from_hse1, from_hse2}
use Rattle.rules.specs.Document01.OnePll.{p_clock, q_clock, clock_of}
use Rattle.rules.specs.Document01.Buses.{timer_of}
use Rattle.rules.specs.Document01.Mco.{mco1_input, mco2_input, mco1_code, mco2_code, planned}
use Rattle.rules.specs.Document01.Plan.{src_of, sw_of}
use Rattle.rules.specs.Document01.Entries.{pll_in}
use Rattle.rules.specs.Manual.Path.{PllName, pll1, pll2, pll3, Via, no_pll, by, Path, pll_on}
use Rattle.rules.specs.Manual.Tree
use Rattle.rules.specs.Manual.Tree.{fed_by, Oscillator, off, runs, Chain, none, along, Output, P, Q, R, Clock, sys, hclk, pclk1, pclk2, pclk3, timx, timy, per, hsi, csi, hsi48, lsi, hse, mco1, mco2, output, number, divider, enable, word, pll_word, from_oscillator, switched, over, among, timer_by, path_of}
use Rattle.rules.proofs.Manual.Codes.{by_codes}
use Rattle.rules.proofs.Manual.Chains.{Gives, gives_oscillator, gives_over, gives_vco, ppres, gives_timer, gives_readings, Comes, none_comes, comes_oscillator, comes_over, comes_gated, comes_vco, comes_timer}
use Rattle.claims.specs.Demands.Report.{pll_clocks, reported, output_of, hertz_of}
use Rattle.claims.specs.Demands.Readings.{sys_via, mco1_via, mco2_via, via_of, started, steady, Covered, TreeReads, TwoReadings}
use Rattle.claims.proofs.Readings.Words.{bank_of, src_word, PllWords, pll_words, core_words, hse_bit}
use Rattle.claims.proofs.Readings.Consistent.{StartedInteger, Steady, steady_is, setting_of, pll_hertz, GoodPll, System, source, pll1_p, Peripheral, from_hsi, from_csi, from_hse, Consistent}

-- ---- small facts
less_more : (n : ℕ) → 1 ≤ n → n - 1 + 1 ≡ n
less_more n h = omega arith

ppre_pos : (n : ℕ) → among ppres n ≡ true → 1 ≤ n
ppre_pos n h = by_codes (λ n. 1 ≤ n) ppres n h (omega arith, (omega arith, (omega arith, (omega arith, (omega arith, tt)))))

same : {c : Chain} {r s : ℕ} → s ≡ r → Gives c r → Gives c s
same {c} e g = rw e g

number_below : (j : PllName) → number j < 3
number_below pll1 = omega arith
number_below pll2 = omega arith
number_below pll3 = omega arith

-- what is reported of an output, by its PLL
report_pll : (x : Option PllSettings) (o : Output) → output_of (pll_clocks x) o ≡ pll_hertz o x
report_pll None P = refl
report_pll None Q = refl
report_pll None R = refl
report_pll (Some s) P = refl
report_pll (Some s) Q = refl
report_pll (Some s) R = refl

pub report_output : (p : Plan) (j : PllName) (o : Output) → hertz_of (reported p) (output j o) ≡ pll_hertz o (pll_in p (number j))
report_output p pll1 o = report_pll (pll_in p 0) o
report_output p pll2 o = report_pll (pll_in p 1) o
report_output p pll3 o = report_pll (pll_in p 2) o

-- an output that is reported has settings
reported_setting : (o : Option PllOutput) (h : ℕ) → clock_of o ≡ Some h → (d : ℕ) × (o ≡ Some (record { divider = d; clock = h }))
reported_setting None h e = absurd (let z : ◌≡◌ {A = ℕ} 0 1 = cc in omega arith)
reported_setting (Some o) h e = (o.divider, let s : o.clock ≡ h = cc in ap (λ (y : ℕ). Some (record { divider = o.divider; clock = y })) s)

reported_runs : (o : Output) (x : Option PllSettings) (h : ℕ) → pll_hertz o x ≡ Some h → (s : PllSettings) × (x ≡ Some s) × (clock_of (setting_of o s) ≡ Some h)
reported_runs o None h e = absurd (let z : ◌≡◌ {A = ℕ} 0 1 = cc in omega arith)
reported_runs o (Some s) h e = (s, refl, e)

module _ (q : Request) (p : Plan) (good : Consistent q p) where
  abbrev fed : Oscillator
  fed = fed_by q.hse

  abbrev b : List ℕ
  b = bank_of p

  -- ---- the oscillators
  hsi_is : Tree.hsi_of b fed ≡ runs 32_000_000
  unfolding Tree.hsi_of
  hsi_is = rw ((core_words p).hsion, (core_words p).hsidiv) refl

  csi_is : Tree.csi_of b fed ≡ runs 4_000_000
  unfolding Tree.csi_of
  csi_is = rw (core_words p).csion refl

  hsi48_is : Tree.hsi48_of b fed ≡ runs 48_000_000
  unfolding Tree.hsi48_of
  hsi48_is = rw (core_words p).hsi48on refl

  lsi_is : Tree.lsi_of b fed ≡ runs 32_000
  unfolding Tree.lsi_of
  lsi_is = rw (core_words p).lsion refl

  switched_hse : (x : Option ℕ) → switched (hse_bit x) (fed_by x) ≡ fed_by x
  switched_hse None = refl
  switched_hse (Some h) = refl

  hse_is : Tree.hse_of b fed ≡ fed
  unfolding Tree.hse_of
  hse_is = rw ((core_words p).hseon ∙ ap hse_bit good.hse) (switched_hse q.hse)

  -- ---- a PLL that is started and in Integer strategy
  source_by : (x : Option ℕ) → get_or (off ∷ runs 32_000_000 ∷ runs 4_000_000 ∷ fed_by x ∷ []) (src_of x) off ≡ runs (unwrap_or x 32_000_000)
  source_by None = refl
  source_by (Some h) = refl

  src_word_is : (j : ℕ) → j < 3 → (s : PllSettings) → pll_in p j ≡ Some s → src_word p.three p.selectors.src j ≡ src_of q.hse
  src_word_is zero h s e = good.src
  src_word_is (suc zero) h s e = good.src
  src_word_is (suc (suc zero)) h s e = rw (good.third s e) good.src
  src_word_is (suc (suc (suc j))) h s e = absurd (omega arith)

  module _ (j : PllName) (s : PllSettings) (is : pll_in p (number j) ≡ Some s) where
    words : PllWords b (number j) s (src_word p.three p.selectors.src (number j))
    words = pll_words p (number j) (number_below j) s is

    fine : GoodPll (pll_at q (number j)).strategy (source_of q) s
    fine = good.plls (number j) (number_below j) s is

    source_is : Tree.source_of b fed j ≡ runs (source_of q)
    unfolding Tree.source_of
    source_is = rw (words.source, src_word_is (number j) (number_below j) s is, hsi_is, csi_is, hse_is) (source_by q.hse)

    vco_gives : (pll_at q (number j)).strategy ≡ Integer → Gives (Tree.vco_of b fed j) (source_of q / s.m * s.n)
    unfolding Tree.vco_of
    vco_gives st =
        rw (source_is, words.m, words.n, words.fracen, fine.whole st, less_more s.n fine.n)
        (gives_vco j (source_of q) s.m s.n _ fine.m fine.n)

    output_by : (o : Output) (d h e x : ℕ) → s.p ≡ Some (record { divider = e; clock = x }) → setting_of o s ≡ Some (record { divider = d; clock = h }) → (pll_at q (number j)).strategy ≡ Integer → Gives (Tree.output_of b fed j o) h
    unfolding Tree.output_of
    output_by o d h e x on w st =
        rw (words.on, on, words.enables o, words.divides o, w, less_more d (fine.divider o d h w))
        (same (fine.hertz st o d h w) (gives_over d (fine.divider o d h w) (vco_gives st)))

  -- an output that is reported, of a PLL that is started and in Integer strategy
  output_gives : (j : PllName) (o : Output) (h : ℕ) → StartedInteger q p j → pll_hertz o (pll_in p (number j)) ≡ Some h → Gives (Tree.output_of b fed j o) h
  output_gives j o h st e =
      let runs_p = reported_runs P (pll_in p (number j)) st.hertz (sym (report_output p j P) ∙ st.started) in
      let s : PllSettings = runs_p.0 in
      let is : pll_in p (number j) ≡ Some s = runs_p.1 in
      let on = reported_setting s.p st.hertz runs_p.2 in
      let w = reported_setting (setting_of o s) h (subst (λ (x : Option PllSettings). pll_hertz o x ≡ Some h) is e) in
      output_by j s is o w.0 h on.0 st.hertz on.1 w.1 st.integer

  p_clock_is : (x : Option PllSettings) → p_clock x ≡ pll_hertz P x
  p_clock_is None = refl
  p_clock_is (Some s) = refl

  q_clock_is : (x : Option PllSettings) → q_clock x ≡ pll_hertz Q x
  q_clock_is None = refl
  q_clock_is (Some s) = refl

  -- ---- the system clock and the buses
  sys_by : (x : Option ℕ) (c : Chain)
      → Gives (get_or (from_oscillator (runs 32_000_000) ∷ from_oscillator (runs 4_000_000) ∷ from_oscillator (fed_by x) ∷ c ∷ []) (sw_of false x) none) (unwrap_or x 32_000_000)
  sys_by None c = gives_oscillator 32_000_000
  sys_by (Some h) c = gives_oscillator h

  through_pll1 : p.selectors.sw ≡ 3 → Steady q p (sys_via p) → StartedInteger q p pll1
  through_pll1 e st = subst (λ (n : ℕ). Steady q p (cond (eqb n 3) (by pll1) no_pll)) e st

  sys_from : System q p → Steady q p (sys_via p) → Gives (Tree.sys_of b fed) p.clocks.sys
  unfolding Tree.sys_of
  sys_from (source w e) st = rw ((core_words p).sw ∙ w, hsi_is, csi_is, hse_is) (same e (sys_by q.hse _))
  sys_from (pll1_p w e) st = rw ((core_words p).sw ∙ w) (output_gives pll1 P p.clocks.sys (through_pll1 w st) (sym (p_clock_is (pll_in p 0)) ∙ e))

  sys_gives : Steady q p (sys_via p) → Gives (Tree.sys_of b fed) p.clocks.sys
  sys_gives st = sys_from good.system st

  ahb_gives : Steady q p (sys_via p) → Gives (Tree.ahb_of b fed) p.buses.ahb.clock
  unfolding Tree.ahb_of
  ahb_gives st = rw (core_words p).hpre (same good.hclk (gives_over p.buses.ahb.pre good.hpre (sys_gives st)))

  apb_gives : (f ppre pclk : ℕ) → word b f ≡ ppre → among ppres ppre ≡ true → pclk ≡ p.buses.ahb.clock / ppre → Steady q p (sys_via p) → Gives (over (Tree.ahb_of b fed) (word b f)) pclk
  apb_gives f ppre pclk w h e st = rw w (same e (gives_over ppre (ppre_pos ppre h) (ahb_gives st)))

  timer_gives : (f ppre tim : ℕ) → word b f ≡ ppre → among ppres ppre ≡ true → tim ≡ timer_of p.buses.ahb.clock ppre → Steady q p (sys_via p)
      → Gives (timer_by (word b 66) (word b f) (Tree.ahb_of b fed)) tim
  timer_gives f ppre tim w h e st = rw (w, (core_words p).timpre) (same e (gives_timer ppre h (ahb_gives st)))

  -- ---- the peripheral clock
  fed_gives : (x : Option ℕ) (h : ℕ) → x ≡ Some h → Gives (from_oscillator (fed_by x)) h
  fed_gives x h e = rw e (gives_oscillator h)

  per_from : Peripheral q p → Gives (Tree.per_of b fed) p.clocks.per
  unfolding Tree.per_of
  per_from (from_hsi w e) = rw ((core_words p).ckpersel ∙ w, hsi_is) (same e (gives_oscillator 32_000_000))
  per_from (from_csi w e) = rw ((core_words p).ckpersel ∙ w, csi_is) (same e (gives_oscillator 4_000_000))
  per_from (from_hse w e) = rw ((core_words p).ckpersel ∙ w, hse_is) (fed_gives q.hse p.clocks.per e)

  -- ---- the MCOs
  planned_is : (x : Option ℕ) (c : ℕ) → planned x ≡ Ok c → x ≡ Some c
  planned_is None c e = absurd (let z : ◌≡◌ {A = ℕ} 0 1 = cc in omega arith)
  planned_is (Some h) c e = let s : h ≡ c = cc in ap Some s

  -- HSE where an MCO has it for its source: it is stated
  stated_gives : (x : Option ℕ) (c : ℕ) (t : Bool) → is_some x || t ≡ true → t ≡ false → ◌≡◌ {A = Result ℕ Refusal} (Ok (unwrap_or x 0)) (Ok c) → Gives (from_oscillator (fed_by x)) c
  stated_gives None c t a z e = absurd (let y : true ≡ false = sym a ∙ z in let z : ◌≡◌ {A = ℕ} 0 1 = cc in omega arith)
  stated_gives (Some h) c t a z e = let s : c ≡ h = cc in same s (gives_oscillator h)

  mco1_from : (x : Mco1Source) (c : ℕ) → is_some q.hse || not (from_hse1 x || from_hse2 q.mco2source) ≡ true → mco1_input x q.hse (q_clock (pll_in p 0)) ≡ Ok c
      → Steady q p (mco1_via x)
      → Gives (get_or (from_oscillator (Tree.hsi_of b fed) ∷ none ∷ from_oscillator (Tree.hse_of b fed) ∷ Tree.output_of b fed pll1 Q ∷ from_oscillator (Tree.hsi48_of b fed) ∷ []) (mco1_code x) none) c
  unfolding mco1_input
  mco1_from Mco1Source.Hsi c a e st = let s : c ≡ 32_000_000 = cc in rw hsi_is (same s (gives_oscillator 32_000_000))
  mco1_from Mco1Source.Lse c a e st = absurd (let z : ◌≡◌ {A = ℕ} 0 1 = cc in omega arith)
  mco1_from Mco1Source.Hse c a e st = rw hse_is (stated_gives q.hse c _ a refl e)
  mco1_from Mco1Source.Pll1Q c a e st = output_gives pll1 Q c st (sym (q_clock_is (pll_in p 0)) ∙ planned_is _ c e)
  mco1_from Mco1Source.Hsi48 c a e st = let s : c ≡ 48_000_000 = cc in rw hsi48_is (same s (gives_oscillator 48_000_000))

  or_true : (t : Bool) → not (t || true) ≡ false
  or_true true = refl
  or_true false = refl

  mco2_from : (x : Mco2Source) (c : ℕ) → is_some q.hse || not (from_hse1 q.mco1source || from_hse2 x) ≡ true
      → mco2_input x p.clocks.sys q.hse (p_clock (pll_in p 0)) (p_clock (pll_in p 1)) ≡ Ok c → Steady q p (mco2_via x p)
      → Gives (get_or (Tree.sys_of b fed ∷ Tree.output_of b fed pll2 P ∷ from_oscillator (Tree.hse_of b fed) ∷ Tree.output_of b fed pll1 P ∷ from_oscillator (Tree.csi_of b fed) ∷ from_oscillator (Tree.lsi_of b fed) ∷ []) (mco2_code x) none) c
  unfolding mco2_input
  mco2_from Mco2Source.Sysclk c a e st = let s : c ≡ p.clocks.sys = cc in same s (sys_gives st)
  mco2_from Mco2Source.Pll2P c a e st = output_gives pll2 P c st (sym (p_clock_is (pll_in p 1)) ∙ planned_is _ c e)
  mco2_from Mco2Source.Hse c a e st = rw hse_is (stated_gives q.hse c _ a (or_true (from_hse1 q.mco1source)) e)
  mco2_from Mco2Source.Pll1P c a e st = output_gives pll1 P c st (sym (p_clock_is (pll_in p 0)) ∙ planned_is _ c e)
  mco2_from Mco2Source.Csi c a e st = let s : c ≡ 4_000_000 = cc in rw csi_is (same s (gives_oscillator 4_000_000))
  mco2_from Mco2Source.Lsi c a e st = let s : c ≡ 32_000 = cc in rw lsi_is (same s (gives_oscillator 32_000))

  mco1_gives : (r : ℕ) → p.mcos.mco1.clock ≡ Some r → Steady q p (mco1_via q.mco1source) → Gives (Tree.mco1_of b fed) r
  unfolding Tree.mco1_of
  mco1_gives r e st =
      let d = good.mco1 r e in
      rw ((core_words p).mco1sel ∙ good.mco1sel, (core_words p).mco1pre)
      (same d.hertz (gives_over p.mcos.mco1.pre d.above (mco1_from q.mco1source d.clock good.stated d.is st)))

  mco2_gives : (r : ℕ) → p.mcos.mco2.clock ≡ Some r → Steady q p (mco2_via q.mco2source p) → Gives (Tree.mco2_of b fed) r
  unfolding Tree.mco2_of
  mco2_gives r e st =
      let d = good.mco2 r e in
      rw ((core_words p).mco2sel ∙ good.mco2sel, (core_words p).mco2pre)
      (same d.hertz (gives_over p.mcos.mco2.pre d.above (mco2_from q.mco2source d.clock good.stated d.is st)))

  -- ---- every clock covered
  reads : (h r : ℕ) → Some h ≡ Some r → {c : Chain} → Gives c h → Gives c r
  reads h r e g = let s : r ≡ h = cc in same s g

  clock_gives : (k : Clock) (r : ℕ) → hertz_of (reported p) k ≡ Some r → Steady q p (via_of q p k) → Gives (path_of b fed k) r
  unfolding path_of
  clock_gives sys r e st = reads _ r e (sys_gives st)
  clock_gives hclk r e st = reads _ r e (ahb_gives st)
  clock_gives pclk1 r e st = reads _ r e (apb_gives 62 p.buses.apb1.pre p.buses.apb1.clock (core_words p).ppre1 good.ppre1 good.pclk1 st)
  clock_gives pclk2 r e st = reads _ r e (apb_gives 63 p.buses.apb2.pre p.buses.apb2.clock (core_words p).ppre2 good.ppre2 good.pclk2 st)
  clock_gives pclk3 r e st = reads _ r e (apb_gives 64 p.buses.apb3.pre p.buses.apb3.clock (core_words p).ppre3 good.ppre3 good.pclk3 st)
  clock_gives timx r e st = reads _ r e (timer_gives 62 p.buses.apb1.pre p.clocks.timx (core_words p).ppre1 good.ppre1 good.timx st)
  clock_gives timy r e st = reads _ r e (timer_gives 63 p.buses.apb2.pre p.clocks.timy (core_words p).ppre2 good.ppre2 good.timy st)
  clock_gives per r e st = reads _ r e (per_from good.per)
  clock_gives hsi r e st = reads _ r e (rw hsi_is (same good.hsi (gives_oscillator 32_000_000)))
  clock_gives csi r e st = reads _ r e (rw csi_is (same good.csi (gives_oscillator 4_000_000)))
  clock_gives hsi48 r e st = reads _ r e (rw hsi48_is (same good.hsi48 (gives_oscillator 48_000_000)))
  clock_gives lsi r e st = reads _ r e (rw lsi_is (same good.lsi (gives_oscillator 32_000)))
  clock_gives hse r e st = rw hse_is (fed_gives q.hse r (sym good.hse ∙ e))
  clock_gives mco1 r e st = mco1_gives r e st
  clock_gives mco2 r e st = mco2_gives r e st
  clock_gives (output j o) r e st = output_gives j o r st (sym (report_output p j o) ∙ e)

  -- ---- the PLL on each path
  output_comes : (j : PllName) (o : Output) → Comes (by j) (Tree.output_of b fed j o)
  unfolding Tree.output_of Tree.vco_of
  output_comes j o = comes_gated (pll_word b j 13) (comes_gated (pll_word b j (enable o)) (comes_over (pll_word b j (divider o) + 1) (comes_vco j (Tree.source_of b fed j) (pll_word b j 2) (pll_word b j 3 + 1) (pll_word b j 5) (pll_word b j 4))))

  sys_select : (x : Option ℕ) (c : Chain) → Comes no_pll (get_or (from_oscillator (Tree.hsi_of b fed) ∷ from_oscillator (Tree.csi_of b fed) ∷ from_oscillator (Tree.hse_of b fed) ∷ c ∷ []) (sw_of false x) none)
  sys_select None c = comes_oscillator (Tree.hsi_of b fed)
  sys_select (Some h) c = comes_oscillator (Tree.hse_of b fed)

  sw_direct : (x : Option ℕ) → cond (eqb (sw_of false x) 3) (by pll1) no_pll ≡ no_pll
  sw_direct None = refl
  sw_direct (Some h) = refl

  sys_comes_by : System q p → Comes (sys_via p) (Tree.sys_of b fed)
  unfolding Tree.sys_of
  sys_comes_by (source w e) =
      let v : sys_via p ≡ no_pll = ap (λ (n : ℕ). cond (eqb n 3) (by pll1) no_pll) w ∙ sw_direct q.hse in
      rw (v, (core_words p).sw ∙ w) (sys_select q.hse _)
  sys_comes_by (pll1_p w e) =
      let v : sys_via p ≡ by pll1 = ap (λ (n : ℕ). cond (eqb n 3) (by pll1) no_pll) w in
      rw (v, (core_words p).sw ∙ w) (output_comes pll1 P)

  sys_comes : Comes (sys_via p) (Tree.sys_of b fed)
  sys_comes = sys_comes_by good.system

  ahb_comes : Comes (sys_via p) (Tree.ahb_of b fed)
  unfolding Tree.ahb_of
  ahb_comes = comes_over (word b 61) sys_comes

  per_comes : Peripheral q p → Comes no_pll (Tree.per_of b fed)
  unfolding Tree.per_of
  per_comes (from_hsi w e) = rw ((core_words p).ckpersel ∙ w) (comes_oscillator (Tree.hsi_of b fed))
  per_comes (from_csi w e) = rw ((core_words p).ckpersel ∙ w) (comes_oscillator (Tree.csi_of b fed))
  per_comes (from_hse w e) = rw ((core_words p).ckpersel ∙ w) (comes_oscillator (Tree.hse_of b fed))

  mco1_select : (x : Mco1Source) → Comes (mco1_via x) (get_or (from_oscillator (Tree.hsi_of b fed) ∷ none ∷ from_oscillator (Tree.hse_of b fed) ∷ Tree.output_of b fed pll1 Q ∷ from_oscillator (Tree.hsi48_of b fed) ∷ []) (mco1_code x) none)
  mco1_select Mco1Source.Hsi = comes_oscillator (Tree.hsi_of b fed)
  mco1_select Mco1Source.Lse = none_comes no_pll
  mco1_select Mco1Source.Hse = comes_oscillator (Tree.hse_of b fed)
  mco1_select Mco1Source.Pll1Q = output_comes pll1 Q
  mco1_select Mco1Source.Hsi48 = comes_oscillator (Tree.hsi48_of b fed)

  mco1_comes : Comes (mco1_via q.mco1source) (Tree.mco1_of b fed)
  unfolding Tree.mco1_of
  mco1_comes = rw ((core_words p).mco1sel ∙ good.mco1sel) (comes_over (word b 55) (mco1_select q.mco1source))

  mco2_select : (x : Mco2Source)
      → Comes (mco2_via x p) (get_or (Tree.sys_of b fed ∷ Tree.output_of b fed pll2 P ∷ from_oscillator (Tree.hse_of b fed) ∷ Tree.output_of b fed pll1 P ∷ from_oscillator (Tree.csi_of b fed) ∷ from_oscillator (Tree.lsi_of b fed) ∷ []) (mco2_code x) none)
  mco2_select Mco2Source.Sysclk = sys_comes
  mco2_select Mco2Source.Pll2P = output_comes pll2 P
  mco2_select Mco2Source.Hse = comes_oscillator (Tree.hse_of b fed)
  mco2_select Mco2Source.Pll1P = output_comes pll1 P
  mco2_select Mco2Source.Csi = comes_oscillator (Tree.csi_of b fed)
  mco2_select Mco2Source.Lsi = comes_oscillator (Tree.lsi_of b fed)

  mco2_comes : Comes (mco2_via q.mco2source p) (Tree.mco2_of b fed)
  unfolding Tree.mco2_of
  mco2_comes = rw ((core_words p).mco2sel ∙ good.mco2sel) (comes_over (word b 57) (mco2_select q.mco2source))

  clock_comes : (k : Clock) → Comes (via_of q p k) (path_of b fed k)
  unfolding path_of
  clock_comes sys = sys_comes
  clock_comes hclk = ahb_comes
  clock_comes pclk1 = comes_over (word b 62) ahb_comes
  clock_comes pclk2 = comes_over (word b 63) ahb_comes
  clock_comes pclk3 = comes_over (word b 64) ahb_comes
  clock_comes timx = comes_timer (word b 66) (word b 62) ahb_comes
  clock_comes timy = comes_timer (word b 66) (word b 63) ahb_comes
  clock_comes per = per_comes good.per
  clock_comes hsi = comes_oscillator (Tree.hsi_of b fed)
  clock_comes csi = comes_oscillator (Tree.csi_of b fed)
  clock_comes hsi48 = comes_oscillator (Tree.hsi48_of b fed)
  clock_comes lsi = comes_oscillator (Tree.lsi_of b fed)
  clock_comes hse = comes_oscillator (Tree.hse_of b fed)
  clock_comes mco1 = mco1_comes
  clock_comes mco2 = mco2_comes
  clock_comes (output j o) = output_comes j o

  -- ---- the claim
  one_reads : (k : Clock) (r : ℕ) → Covered q p (started p) k r → TreeReads b fed k r
  one_reads k r covered =
      let g = clock_gives k r covered.report (steady_is q p (via_of q p k) covered.steady_path) in
      record { path = g.path; found = g.is; readings = gives_readings g }

  pub two_readings : TwoReadings q p (bank_of p)
  two_readings = record { reads = one_reads; via = λ k. (clock_comes k).on }

-- every clock reported whose path, in the bank, has no PLL or one that is started and in Integer strategy is covered
pub covers : (q : Request) (p : Plan) (b : List ℕ) → TwoReadings q p b → (k : Clock) (r : ℕ) (path : Path) → hertz_of (reported p) k ≡ Some r → path_of b (fed_by q.hse) k ≡ along path
    → steady q (started p) (pll_on path) ≡ true → Covered q p (started p) k r
covers q p b t k r path e f st = record { report = e; steady_path = subst (λ (v : Via). steady q (started p) v ≡ true) (sym (t.via k path f)) st }
