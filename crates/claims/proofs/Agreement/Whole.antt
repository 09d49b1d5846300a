-- The rules and Rcc::freeze agree.
use Rattle.std.specs.Prelude.{Option, Some, None, Result, Ok, Err, unwrap_or, is_some}
use mathlib.Core.Path.{◌≡◌, refl, sym, ap, ◌∙◌, subst}
use mathlib.Core.List.{List, [], ◌∷◌, ◌++◌, append_assoc}
use mathlib.Core.Logic.{⊎_elim}
use mathlib.Core.Bool.{Bool, true, false}
use Prim.Native.Nat.{ℕ, ◌≤◌}
use native.Mathlib.Omega.{arith}
use lib.Dec.{eqb}
use borrow.Author.Tests.{eqb-true, not-false}
use Rattle.types.specs.declared.PllSettings.{PllSettings}
use Rattle.types.specs.declared.Entry.{Entry}
use Rattle.types.specs.declared.Entry.TheVariants.{Set, Wait}
use Rattle.types.specs.declared.PllRequest.{PllRequest}
use Rattle.types.specs.declared.Request.{Request}
use Rattle.types.specs.declared.Hsidiv.{Hsidiv}
use Rattle.types.specs.declared.ChipState.{ChipState}
use Rattle.types.specs.declared.Refusal.{Refusal}
use Rattle.types.specs.declared.Refusal.TheVariants.{HsiOff, HsidivNot2}
use Rattle.types.specs.declared.Plan.{Plan}
use Rattle.rules.specs.Document01.Chip.{divisor_of}
use Rattle.rules.specs.Document01.Result as Rules
use Rattle.rules.specs.Document01.Result.{require}
use Rattle.rules.specs.Document01.Fields
use Rattle.rules.specs.Document01.Request.{source_of, system_of, needs_pll1, asked_of}
use Rattle.rules.specs.Document01.OnePll.{p_clock, pll_from}
use Rattle.rules.specs.Document01.Buses.{peripheral_of}
use Rattle.rules.specs.Document01.Flash.{flash_of}
use Rattle.rules.specs.Document01.Plan.{system_from, plls_of, hsi_ready, buses_of, mcos_of, plan_with, chosen_plan, sw_of}
use Rattle.rules.specs.Document01.Entries.{setup_entries, clock_entries, hse_entries, bus_entries, plan_entries, entries_of, list_with}
use Rattle.claims.specs.Rust.Run.{Outcome, panics, ends, Run, continue, assert, unwrap}
use Rattle.claims.specs.Rust.Rcc as F
use Rattle.claims.specs.Rust.CoreClocks.{CoreClocks}
use Rattle.claims.specs.Rust.Rcc.{DefaultX2, sys_ck_of, match_per_ck, swbits, buses_calculate, mcos_calculate, start_clocks, start_plls, switch_clocks, core_clocks_of, is_div2, frozen}
use Rattle.claims.specs.Demands.Report.{reported}
use Rattle.claims.specs.Demands.Agreement.{Cause, Departure, AllowsEachP, Agreement}
use Rattle.claims.specs.Demands.Legal.{LegalPlan}
use Rattle.laws.proofs.Tests.{by_test, never}
use Rattle.rules.proofs.Document01.Results.{Holds, Only, holds_more, ok_same}
use Rattle.claims.proofs.Legal.Plan.{chosen_legal}
use Rattle.claims.proofs.Agreement.Agree.{Agree, AgreeOrDepart, departs_still, agree_then, depart_then, agree_always}
use Rattle.claims.proofs.Agreement.Config.{config_after, sys_ck_word}
use Rattle.claims.proofs.Agreement.Buses.{SameBuses, buses_agree}
use Rattle.claims.proofs.Agreement.Mcos.{clocks_of, mcos_rust, KeptMcos, mcos_agree}
use Rattle.claims.proofs.Agreement.Plls.{Ready, Stated, SameReady, ready, plls_ready}
use Rattle.claims.proofs.Agreement.Causes.{Told, plan_told}
use Rattle.claims.proofs.Agreement.Allowed.{plan_allowed}
use Rattle.claims.proofs.Agreement.Split.{after_asserts, rest, rest_keeps, frozen_parts}
use Rattle.claims.proofs.Agreement.Writes.{clock_tail, clocks_end, pll_tail, plls_end}
use Rattle.types.specs.declared.Buses.{Buses}
use Rattle.types.specs.declared.Mcos.{Mcos}

-- ---- the system clock
unwrap_set : (h : Option ℕ) (es : List Entry) → is_some h ≡ true → unwrap h es ≡ ends es (unwrap_or h 0)
unwrap_set None es t = absurd (let z : ◌≡◌ {A = ℕ} 0 1 = cc in omega arith)
unwrap_set (Some h) es t = refl

system_ends : (q : Request) (asked1 : PllRequest) (l : List (Option PllSettings)) (es : List Entry) → (needs_pll1 q ≡ true → is_some (p_clock (pll_from l 0)) ≡ true) → sys_ck_of (sys_ck_word q asked1) (clocks_of l) es ≡ ends es (system_from q l)
system_ends q asked1 l es h =
    by_test (needs_pll1 q)
    (λ (t : needs_pll1 q ≡ true). rw (t, unwrap_set (p_clock (pll_from l 0)) es (h t)))
    (λ (f : needs_pll1 q ≡ false). let e : system_of q ≡ source_of q = eqb-true (system_of q) (source_of q) (not-false (eqb (system_of q) (source_of q)) f) in rw f (ap (λ (x : ℕ). ends es x) e))

-- ---- the peripheral clock and SW
per_sel : (p h : Option ℕ) → (match_per_ck p h).ckpersel ≡ (peripheral_of p h).sel
unfolding match_per_ck peripheral_of
per_sel None h = refl
per_sel (Some p) None = by_test (eqb p 4_000_000) (λ (t : eqb p 4_000_000 ≡ true). rw t) (λ (f : eqb p 4_000_000 ≡ false). rw f)
per_sel (Some p) (Some h) =
    by_test (eqb p h) (λ (t : eqb p h ≡ true). rw t)
    (λ (g : eqb p h ≡ false). by_test (eqb p 4_000_000) (λ (t : eqb p 4_000_000 ≡ true). rw (g, t)) (λ (f : eqb p 4_000_000 ≡ false). rw (g, f)))

per_clock_is : (p h : Option ℕ) → (match_per_ck p h).per_ck ≡ (peripheral_of p h).clock
unfolding match_per_ck peripheral_of
per_clock_is None h = refl
per_clock_is (Some p) None = by_test (eqb p 4_000_000) (λ (t : eqb p 4_000_000 ≡ true). rw t) (λ (f : eqb p 4_000_000 ≡ false). rw f)
per_clock_is (Some p) (Some h) =
    by_test (eqb p h) (λ (t : eqb p h ≡ true). rw t)
    (λ (g : eqb p h ≡ false). by_test (eqb p 4_000_000) (λ (t : eqb p 4_000_000 ≡ true). rw (g, t)) (λ (f : eqb p 4_000_000 ≡ false). rw (g, f)))

sw_is : (n : Bool) (h : Option ℕ) → swbits n (is_some h) ≡ sw_of n h
sw_is true h = refl
sw_is false None = refl
sw_is false (Some h) = refl

-- three lists in a group, and what follows them
grouped : (a b c r : List Entry) → a ++ (b ++ (c ++ r)) ≡ (a ++ (b ++ c)) ++ r
grouped a b c r = sym (append_assoc a (b ++ c) r ∙ ap (λ (x : List Entry). a ++ x) (append_assoc b c r))

-- ---- what is written last, and what is returned
module _ (q : Request) (c : ChipState) (asked1 : PllRequest) (l : List (Option PllSettings)) (b : Buses) (m : Mcos) (es : List Entry) (rb : F.Buses) (same : SameBuses es b es rb) where
  abbrev plan : Plan
  plan = plan_with q c l b m

  switch_ends : (at : List Entry) → switch_clocks (config_after q asked1) (needs_pll1 q) rb (match_per_ck q.peripheral q.hse).ckpersel DefaultX2 at ≡ ends (at ++ bus_entries plan.buses plan.selectors) tt
  unfolding switch_clocks bus_entries plan_with
  switch_ends at =
      rw (same.hclk, same.pclk1.pre, same.pclk2.pre, same.pclk3.pre, sw_is (needs_pll1 q) q.hse, per_sel q.peripheral q.hse)
      (ap (λ (x : List Entry). ends x tt) (simp append_assoc))

  clocks_same : core_clocks_of (system_from q l) (config_after q asked1) (clocks_of l) rb (mcos_rust m) DefaultX2 ≡ reported plan
  unfolding core_clocks_of plan_with
  clocks_same =
      rw (same.hclk, same.pclk1.pre, same.pclk2.pre, same.pclk3.pre, same.pclk1.clock, same.pclk2.clock, same.pclk3.clock, same.pclk1.timer, same.pclk2.timer, per_clock_is q.peripheral q.hse)

  -- the whole list
  abbrev setups : List Entry
  setups = setup_entries 0 (pll_from l 0) ++ (setup_entries 1 (pll_from l 1) ++ setup_entries 2 (pll_from l 2))

  list_is : (((setups ++ (Set Fields.LSION 1 ∷ [])) ++ (Wait Fields.LSIRDY 1 ∷ [])) ++ (clock_tail (flash_of c.scale rb.hclk.rcc_hclk) q m ++ hse_entries q.hse q.bypass)) ++ pll_tail q c.three l ++ bus_entries plan.buses plan.selectors ≡ plan_entries plan
  unfolding list_with clock_entries plan_with
  list_is = rw same.hclk (simp append_assoc)

-- ---- from the PLLs on
abbrev pub Final : Plan → List Entry → CoreClocks → Type 0
Final p es k = (es ≡ plan_entries p) × (k ≡ reported p)

abbrev after_plls : Request → ChipState → List (Option PllSettings) → Result Plan Refusal
after_plls q c l = Rules.◌>>◌ (hsi_ready c) (Rules.◌>>=◌ (buses_of q (system_from q l)) (λ b. Rules.◌>>=◌ (mcos_of q l (system_from q l)) (λ m. Ok (plan_with q c l b m))))

-- refusals 16 and 17
asserted : (a : Bool) (d : Hsidiv) (x : Result Plan Refusal) (y : Run CoreClocks) (es : List Entry) → Agree Final x (y es) → Agree Final (Rules.◌>>◌ (Rules.◌>>◌ (require a HsiOff) (require (eqb (divisor_of d) 2) HsidivNot2)) x) (continue (assert a es) (λ u es. continue (assert (is_div2 d) es) (λ u. y)))
asserted true Hsidiv.Div1 x y es h = tt
asserted true Hsidiv.Div2 x y es h = h
asserted true Hsidiv.Div4 x y es h = tt
asserted true Hsidiv.Div8 x y es h = tt
asserted false d x y es h = tt

module _ (q : Request) (c : ChipState) (l : List (Option PllSettings)) (asked1 : PllRequest) (needed : needs_pll1 q ≡ true → is_some (p_clock (pll_from l 0)) ≡ true) (third : c.three ≡ false → pll_from l 2 ≡ None) (st : Stated q) where
  abbrev es0 : List Entry
  es0 = setup_entries 0 (pll_from l 0) ++ (setup_entries 1 (pll_from l 1) ++ setup_entries 2 (pll_from l 2))

  abbrev es2 : List Entry
  es2 = (es0 ++ (Set Fields.LSION 1 ∷ [])) ++ (Wait Fields.LSIRDY 1 ∷ [])

  abbrev r : Ready
  r = record { s = sys_ck_word q asked1; plls = clocks_of l }

  abbrev sys : ℕ
  sys = system_from q l

  -- all that follows the MCOs is written and returned
  ending : (b : Buses) (m : Mcos) (rb : F.Buses) → SameBuses es2 b es2 rb → Agree Final (Ok (plan_with q c l b m)) (continue (start_clocks c.scale (config_after q asked1) rb (mcos_rust m) es2) (λ u es. continue (start_plls c (config_after q asked1) (clocks_of l) es) (λ u es. continue (switch_clocks (config_after q asked1) (needs_pll1 q) rb (match_per_ck q.peripheral q.hse).ckpersel DefaultX2 es) (λ u es. ends es (core_clocks_of sys (config_after q asked1) (clocks_of l) rb (mcos_rust m) DefaultX2)))))
  ending b m rb s =
      let h : rb.hclk.rcc_hclk ≡ b.ahb.clock = ap (λ (x : F.Hclk). x.rcc_hclk) s.hclk in
      let p : 1 ≤ rb.hclk.rcc_hclk = rw h s.some in
      rw (clocks_end c.scale q asked1 rb m es2 p, plls_end q asked1 c l _ third, switch_ends q c asked1 l b m es2 rb s _)
      (list_is q c asked1 l b m es2 rb s, clocks_same q c asked1 l b m es2 rb s)

  running : Agree Final (Rules.◌>>=◌ (buses_of q sys) (λ b. Rules.◌>>=◌ (mcos_of q l sys) (λ m. Ok (plan_with q c l b m)))) (after_asserts c r sys es0)
  running =
      agree_then (SameBuses es2) Final (buses_of q sys) (buses_calculate sys (config_after q asked1) es2) _ _ (buses_agree q (config_after q asked1) (refl, refl, refl, refl) sys es2)
      (λ b es3 rb s. rw s.kept
      (agree_then (KeptMcos es2) Final (mcos_of q l sys) (mcos_calculate sys (config_after q asked1) (clocks_of l) es2) _ _ (mcos_agree q asked1 l sys es2 st.one st.two)
      (λ m es4 rm k. rw (k.0, k.1) (ending b m rb (record { kept = refl; some = s.some; hclk = s.hclk; pclk1 = s.pclk1; pclk2 = s.pclk2; pclk3 = s.pclk3 })))))

  pub rest_agrees : AgreeOrDepart q c Final (after_plls q c l) (rest c r es0)
  rest_agrees = agree_always (Departure q c) Final (after_plls q c l) (rest c r es0) (rw (system_ends q asked1 l es0 needed) (asserted c.hsion c.hsidiv _ (after_asserts c r sys) es0 running))

-- ---- the whole
pub all_agree : (q : Request) (c : ChipState) → AgreeOrDepart q c Final (chosen_plan q c) (frozen q c)
unfolding chosen_plan
all_agree q c =
    rw (frozen_parts q c)
    (depart_then (SameReady q c) Final (plls_of q c) (ready q c) _ _ (Departure q c) (plls_ready q c) (λ n es r d. rest_keeps (Departure q c n) (departs_still q c n) c r es d)
    (λ l es r h. rw (h.entries, h.value) (rest_agrees q c l (asked_of q 0) h.needed h.third h.states)))

-- freeze ends as the plan says, and 14 and 15 have their cause
module _ (q : Request) (c : ChipState) where
  agreement_of : (x : Result Plan Refusal) (o : Outcome CoreClocks) → AgreeOrDepart q c Final x o → Only (Told (Cause q c)) x → Holds (λ p. AllowsEachP c (plan_entries p)) x → Agreement q c x o
  unfolding entries_of
  agreement_of (Err n) panics h w l = record {
    exactly = (λ e. absurd (let z : ◌≡◌ {A = ℕ} 0 1 = cc in omega arith), λ r. absurd (let f = r.end in let z : ◌≡◌ {A = ℕ} 0 1 = cc in omega arith));
    planned = λ p e. absurd (let z : ◌≡◌ {A = ℕ} 0 1 = cc in omega arith);
    panicked = λ e. (n, refl);
    refused = λ m e d14 d15. refl;
    caused = λ m e. subst (λ (x : Refusal). Told (Cause q c) x) (cc) w;
    departed = λ m es k e f. absurd (let z : ◌≡◌ {A = ℕ} 0 1 = cc in omega arith);
  }
  agreement_of (Err n) (ends es k) h w l = record {
    exactly = (
      λ e. absurd (let z : ◌≡◌ {A = ℕ} 0 1 = cc in omega arith),
      λ r. let f : es ≡ r.entries = let g = r.end in cc in
          let t = r.allowed h.pll _ h.at.before h.at.after h.there (sym f ∙ h.at.written) in
          absurd (never (sym t ∙ h.at.forbidden)),
    );
    planned = λ p e. absurd (let z : ◌≡◌ {A = ℕ} 0 1 = cc in omega arith);
    panicked = λ e. absurd (let z : ◌≡◌ {A = ℕ} 0 1 = cc in omega arith);
    refused = λ m e d14 d15. let d : Departure q c m es = subst (λ (x : Refusal). Departure q c x es) (cc) h in absurd (⊎_elim (λ w. d14 w.0) (λ w. d15 w.0) d.at.why.which);
    caused = λ m e. subst (λ (x : Refusal). Told (Cause q c) x) (cc) w;
    departed = λ m es' k' e f. let d : Departure q c m es = subst (λ (x : Refusal). Departure q c x es) (cc) h in subst (λ (l : List Entry). Departure q c m l) (cc) d;
  }
  agreement_of (Ok p) panics h w l = absurd h
  agreement_of (Ok p) (ends es k) h w l = record {
    exactly = (λ e. record { entries = es; clocks = k; end = refl; allowed = subst (AllowsEachP c) (sym h.0) l }, λ r. refl);
    planned = λ p₁ e. ap (λ (x : List Entry). ends x k) h.0 ∙ ap (λ (x : CoreClocks). ends (plan_entries p) x) h.1 ∙ ap (λ (x : Plan). ends (plan_entries x) (reported x)) (ok_same e);
    panicked = λ e. absurd (let z : ◌≡◌ {A = ℕ} 0 1 = cc in omega arith);
    refused = λ m e d14 d15. absurd (let z : ◌≡◌ {A = ℕ} 0 1 = cc in omega arith);
    caused = λ m e. absurd (let z : ◌≡◌ {A = ℕ} 0 1 = cc in omega arith);
    departed = λ m es k e f. absurd (let z : ◌≡◌ {A = ℕ} 0 1 = cc in omega arith);
  }

-- for every request, whether or not the setters can build it
pub agreement : (q : Request) (c : ChipState) → Agreement q c (chosen_plan q c) (frozen q c)
unfolding chosen_plan
agreement q c = agreement_of q c (chosen_plan q c) (frozen q c) (all_agree q c) (plan_told q c) (holds_more (LegalPlan q c) _ (chosen_plan q c) (plan_allowed c q) (chosen_legal q c))
