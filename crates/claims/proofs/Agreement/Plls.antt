-- From the setters to the PLLs: steps 1 to 4 against the Rust up to `plls_setup`, refusals 3 to 15.
use Rattle.std.specs.Prelude.{Option, Some, None, Result, Ok, Err, is_some}
use mathlib.Core.Path.{◌≡◌, refl, sym, ap, subst, ◌∙◌}
use mathlib.Core.List.{List, [], ◌++◌, append_assoc, append-nil}
use mathlib.Core.Bool.{Bool, true, false, not, cond, ◌&&◌, ◌||◌}
use Prim.Native.Nat.{ℕ, ◌/◌, ◌≤◌, ◌<◌}
use native.Mathlib.Omega.{arith}
use lib.Dec.{leb, eqb}
use borrow.Author.Tests.{eqb-true, not-false}
use Rattle.types.specs.declared.Refusal.{Refusal}
use Rattle.types.specs.declared.Entry.{Entry}
use Rattle.types.specs.declared.PllRequest.{PllRequest}
use Rattle.types.specs.declared.PllSettings.{PllSettings}
use Rattle.types.specs.declared.Request.{Request}
use Rattle.types.specs.declared.ChipState.{ChipState}
use Rattle.rules.specs.Document01.Result as Rules
use Rattle.rules.specs.Document01.Result.{require}
use Rattle.rules.specs.Document01.Request.{for_pll1_q, pll_at, within, from_hse1, from_hse2, pll1_asked, source_of, needs_pll1, asked_of, sourced, system_fits, configured, limited, stated}
use Rattle.types.specs.declared.Refusal.TheVariants.{NOutside}
use Rattle.rules.specs.Document01.OnePll.{Range, settings_of, vco_by, output_of, clock_of, p_clock, spanned, divided_by, settled, fraction_of, allowed_p, divider_p, runs, running, pll_of, range_for, target_for, first_of, pll_from}
use Rattle.rules.specs.Document01.Entries.{setup_entries}
use Rattle.rules.specs.Document01.Plan.{plls_of, planned_at, by_number}
use Rattle.claims.specs.Rust.Run.{Outcome, panics, ends, Run, continue}
use Rattle.claims.specs.Rust.CoreClocks.{PllClocks}
use Rattle.claims.specs.Rust.Pll.{pll_setup}
use Rattle.claims.specs.Rust.Rcc as F
use Rattle.claims.specs.Rust.Rcc.{Config, SysCk, pll_config, config_of, setters, mco1_setup, mco2_setup, sys_ck_setup, if_rm0481, no_pll, plls_setup}
use Rattle.claims.specs.Demands.Report.{pll_clocks}
use Rattle.claims.specs.Demands.Agreement.{pll_count, WrittenAt, Departure}
use Rattle.laws.proofs.Tests.{by_test, never, or_false, or_true}
use Rattle.rules.proofs.Document01.Results.{Holds, holds_then, holds_next, regroup}
use Rattle.claims.proofs.Agreement.Keeps.{ending, sets_up, laws}
use Rattle.claims.proofs.Agreement.Agree.{AgreeOrDepart, departs_still, departs_too, depart_then, agree_next, agree_holds, agree_map}
use Rattle.rules.proofs.Document01.Span.{pos_of}
use Rattle.claims.proofs.Agreement.Numbers.{or_same}
use Rattle.claims.proofs.Agreement.Config.{config_after, config_with, setters_end, setters_panic, fill_q, mco1_fills, mco1_panics, mco2_fills, mco2_panics, sys_ck_word, KeptSys, system_agrees}
use Rattle.claims.proofs.Agreement.Mcos.{clocks_of}
use Rattle.claims.proofs.Agreement.OnePll.{SamePll, pll_agrees, source_panics}
use Rattle.rules.specs.Document01.Chip.{odd_at}

-- ---- a PLL whose P is requested reports one
p_of : (target vco : ℕ) (h : Option ℕ) → is_some h ≡ true → is_some (clock_of (output_of target vco h)) ≡ true
p_of target vco None t = t
p_of target vco (Some h) t = refl

abbrev HasP : Option PllSettings → Type 0
HasP x = is_some (p_clock x) ≡ true

abbrev ReportsP : PllSettings → Type 0
ReportsP s = is_some (clock_of s.p) ≡ true

settled_p : (odd : Bool) (a : PllRequest) (g : Range) (target m ref n : ℕ) → is_some a.p ≡ true → Holds ReportsP (settled odd a g target m ref n)
unfolding settled
settled_p odd a g target m ref n t =
    holds_next ReportsP (require (leb 4 n && leb n 512) NOutside) _
    (holds_then ReportsP (fraction_of a.strategy ref n (target / first_of a) (first_of a)) _
    (λ f. holds_next ReportsP (allowed_p odd (divider_p target a.p)) (Ok (settings_of a g target m ref n f)) (p_of target (vco_by f ref n) a.p t)))

runs_p : (odd : Bool) (source : ℕ) (a : PllRequest) → is_some a.p ≡ true → Holds ReportsP (runs odd source a)
unfolding runs
runs_p odd source a t =
    holds_next ReportsP (spanned odd a) _
    (holds_then ReportsP (divided_by source (range_for odd a) (target_for odd a)) _
    (λ m. settled_p odd a (range_for odd a) (target_for odd a) m (source / m) (target_for odd a / (source / m)) t))

running_p : (x : Result PllSettings Refusal) → Holds ReportsP x → Holds HasP (running x)
running_p (Err n) h = tt
running_p (Ok s) h = h

pll_p : (odd : Bool) (source : ℕ) (a : PllRequest) → is_some a.p ≡ true → Holds HasP (pll_of odd source a)
unfolding pll_of
pll_p odd source a t = rw (or_true (is_some a.p) (is_some a.q || is_some a.r) t) (running_p (runs odd source a) (runs_p odd source a t))

-- where the system clock needs PLL1, P is requested of it
asked_p : (q : Request) → needs_pll1 q ≡ true → is_some (asked_of q 0).p ≡ true
asked_p q t = rw t

-- ---- up to `plls_setup`: what the Rust then has
pub record Ready : Type 0 where
  pub s : SysCk
  pub plls : F.Plls

abbrev pub after_sys : ChipState → SysCk → Run Ready
after_sys c s = λ es. continue (plls_setup c s.config es) (λ l es. ends es (record { s = s; plls = l }))

abbrev pub after_mco2 : ChipState → Config → Run Ready
after_mco2 c config = λ es. continue (sys_ck_setup config es) (after_sys c)

abbrev pub after_mco1 : ChipState → Config → Run Ready
after_mco1 c config = λ es. continue (mco2_setup config es) (after_mco2 c)

abbrev pub after_setters : ChipState → Config → Run Ready
after_setters c config = λ es. continue (mco1_setup config es) (after_mco1 c)

abbrev pub ready : Request → ChipState → Outcome Ready
ready q c = continue (setters q []) (after_setters c)

-- the HSE is stated where an MCO takes it
pub record Stated (q : Request) : Type 0 where
  pub one : from_hse1 q.mco1source ≡ true → is_some q.hse ≡ true
  pub two : from_hse2 q.mco2source ≡ true → is_some q.hse ≡ true

pub record SameReady (q : Request) (c : ChipState) (l : List (Option PllSettings)) (es : List Entry) (r : Ready) : Type 0 where
  pub entries : es ≡ setup_entries 0 (pll_from l 0) ++ (setup_entries 1 (pll_from l 1) ++ setup_entries 2 (pll_from l 2))
  pub value : r ≡ record { s = sys_ck_word q (asked_of q 0); plls = clocks_of l }
  pub needed : needs_pll1 q ≡ true → is_some (p_clock (pll_from l 0)) ≡ true
  pub third : c.three ≡ false → pll_from l 2 ≡ None
  pub states : Stated q

-- ---- the PLLs
third_idle : (q : Request) (c : ChipState) → Holds (λ (x : Option PllSettings). c.three ≡ false → x ≡ None) (planned_at q c 2)
third_idle q c =
    by_test c.three
    (λ (t : c.three ≡ true). holds_any (planned_at q c 2) (λ x e. absurd (never (sym t ∙ e))))
    (λ (f : c.three ≡ false). rw f (λ e. refl))
  where
    holds_any : (x : Result (Option PllSettings) Refusal) → ((y : Option PllSettings) → c.three ≡ false → y ≡ None) → Holds (λ (y : Option PllSettings). c.three ≡ false → y ≡ None) x
    holds_any (Err n) h = tt
    holds_any (Ok y) h = h y

-- PLL k of the chip agrees
pll_departs : (q : Request) (c : ChipState) (k : ℕ) (es : List Entry) → k < pll_count c → 1 ≤ source_of q → AgreeOrDepart q c (SamePll k es) (pll_of (odd_at c k) (source_of q) (asked_of q k)) (pll_setup k (odd_at c k) (source_of q) (pll_config (asked_of q k)) es)
pll_departs q c k es l h =
    departs_too (WrittenAt k (odd_at c k) (asked_of q k)) (Departure q c) (SamePll k es) (pll_of (odd_at c k) (source_of q) (asked_of q k)) (pll_setup k (odd_at c k) (source_of q) (pll_config (asked_of q k)) es)
    (λ n es' d. record { pll = k; there = l; at = d })
    (pll_agrees k (source_of q) (asked_of q k) (odd_at c k) es h)

-- each chip has two
pub two_there : (c : ChipState) → 2 ≤ pll_count c
two_there c = go c.three
  where
    go : (t : Bool) → 2 ≤ cond t 3 2
    go true = omega arith
    go false = omega arith

third_agrees : (q : Request) (c : ChipState) (es : List Entry) → 1 ≤ source_of q → (three : Bool) → c.three ≡ three → AgreeOrDepart q c (SamePll 2 es) (cond three (pll_of (odd_at c 2) (source_of q) (asked_of q 2)) (Ok None)) (if_rm0481 three (pll_setup 2 (odd_at c 2) (source_of q) (pll_config (asked_of q 2))) no_pll es)
third_agrees q c es h true t = pll_departs q c 2 es (rw t (omega arith)) h
third_agrees q c es h false t = (sym (append-nil es), refl)

abbrev rules : Request → ChipState → Result (List (Option PllSettings)) Refusal
rules q c =
    Rules.◌>>=◌ (planned_at q c 0) (λ pll1.
    Rules.◌>>=◌ (planned_at q c 1) (λ pll2.
    Rules.◌>>=◌ (planned_at q c 2) (λ pll3. Ok (by_number pll1 pll2 pll3))))

module _ (q : Request) (c : ChipState) (st : Stated q) where
  abbrev source : ℕ
  source = source_of q

  -- 6
  no_source : eqb source 0 ≡ true → AgreeOrDepart q c (SameReady q c) (Rules.◌>>◌ (sourced q) (rules q c)) (after_sys c (sys_ck_word q (asked_of q 0)) [])
  unfolding plls_setup
  no_source t =
      let e : source ≡ 0 = eqb-true source 0 t in
      let none : pll_setup 0 (odd_at c 0) source (pll_config (asked_of q 0)) [] ≡ panics = subst (λ (s : ℕ). pll_setup 0 (odd_at c 0) s (pll_config (asked_of q 0)) [] ≡ panics) (sym e) (source_panics 0 (asked_of q 0) (odd_at c 0) []) in
      rw (t, or_same q.hse 32_000_000, none) tt

  -- 7 to 15, for each PLL
  abbrev SamePlls : List (Option PllSettings) → List Entry → F.Plls → Type 0
  SamePlls l es r =
      (es ≡ setup_entries 0 (pll_from l 0) ++ (setup_entries 1 (pll_from l 1) ++ setup_entries 2 (pll_from l 2)))
      × (r ≡ clocks_of l)
      × (needs_pll1 q ≡ true → is_some (p_clock (pll_from l 0)) ≡ true)
      × (c.three ≡ false → pll_from l 2 ≡ None)

  abbrev Needed : Option PllSettings → Type 0
  Needed x = needs_pll1 q ≡ true → is_some (p_clock x) ≡ true

  abbrev Third : Option PllSettings → Type 0
  Third x = c.three ≡ false → x ≡ None

  needed_p : Holds Needed (planned_at q c 0)
  needed_p = by_test (needs_pll1 q) (λ (t : needs_pll1 q ≡ true). weaken (planned_at q c 0) (pll_p (odd_at c 0) source (asked_of q 0) (asked_p q t))) (λ (f : needs_pll1 q ≡ false). vacuous (planned_at q c 0) f)
    where
      weaken : (x : Result (Option PllSettings) Refusal) → Holds HasP x → Holds Needed x
      weaken (Err n) h = tt
      weaken (Ok y) h = λ e. h

      vacuous : (x : Result (Option PllSettings) Refusal) → needs_pll1 q ≡ false → Holds Needed x
      vacuous (Err n) f = tt
      vacuous (Ok y) f = λ e. absurd (never (sym e ∙ f))

  abbrev rust : (k : ℕ) → Run PllClocks
  rust k = pll_setup k (odd_at c k) source (pll_config (asked_of q k))

  plls_agree : 1 ≤ source → AgreeOrDepart q c SamePlls (rules q c) (plls_setup c (config_after q (asked_of q 0)) [])
  unfolding plls_setup
  plls_agree h =
      rw (or_same q.hse 32_000_000)
      (depart_then (λ x es b. SamePll 0 [] x es b × Needed x) SamePlls (planned_at q c 0) (rust 0 []) _ _ (Departure q c)
      (agree_holds (Departure q c) (SamePll 0 []) Needed (planned_at q c 0) (rust 0 []) (pll_departs q c 0 [] (let l = two_there c in omega arith) h) needed_p)
      (λ n es b d. search (laws, sets_up, departs_still q c n))
      (λ x1 es1 b1 s1. rw (s1.0.0, s1.0.1)
      (depart_then (SamePll 1 (setup_entries 0 x1)) SamePlls (planned_at q c 1) (rust 1 (setup_entries 0 x1)) _ _ (Departure q c) (pll_departs q c 1 (setup_entries 0 x1) (let l = two_there c in omega arith) h)
      (λ n es b d. search (laws, sets_up, departs_still q c n))
      (λ x2 es2 b2 s2. rw (s2.0, s2.1)
      (depart_then (λ x es b. SamePll 2 (setup_entries 0 x1 ++ setup_entries 1 x2) x es b × Third x) SamePlls (planned_at q c 2) (if_rm0481 c.three (rust 2) no_pll (setup_entries 0 x1 ++ setup_entries 1 x2)) _ _ (Departure q c)
      (agree_holds (Departure q c) (SamePll 2 (setup_entries 0 x1 ++ setup_entries 1 x2)) Third (planned_at q c 2) (if_rm0481 c.three (rust 2) no_pll (setup_entries 0 x1 ++ setup_entries 1 x2)) (third_agrees q c (setup_entries 0 x1 ++ setup_entries 1 x2) h c.three refl) (third_idle q c))
      (λ n es b d. ending d)
      (λ x3 es3 b3 s3. (s3.0.0 ∙ append_assoc (setup_entries 0 x1) (setup_entries 1 x2) (setup_entries 2 x3), ap (λ (z : PllClocks). record { pll1 = pll_clocks x1; pll2 = pll_clocks x2; pll3 = z }) s3.0.1, s1.1, s3.1)))))))

  some_source : eqb source 0 ≡ false → AgreeOrDepart q c (SameReady q c) (Rules.◌>>◌ (sourced q) (rules q c)) (after_sys c (sys_ck_word q (asked_of q 0)) [])
  some_source f =
      rw f
      (agree_map (Departure q c) SamePlls (SameReady q c) (rules q c) (plls_setup c (config_after q (asked_of q 0)) []) (λ l. record { s = sys_ck_word q (asked_of q 0); plls = l }) (plls_agree (pos_of source f))
      (λ l es r h. record { entries = h.0; value = ap (λ (z : F.Plls). record { s = sys_ck_word q (asked_of q 0); plls = z }) h.1; needed = h.2; third = h.3; states = st }))

  pub after_sys_is : AgreeOrDepart q c (SameReady q c) (Rules.◌>>◌ (sourced q) (rules q c)) (after_sys c (sys_ck_word q (asked_of q 0)) [])
  after_sys_is = by_test (eqb source 0) no_source some_source

-- ---- the MCOs' HSE, and refusal 4
hse_stated : (a b c : Bool) → a || not (b || c) ≡ true → (b ≡ true → a ≡ true) × (c ≡ true → a ≡ true)
hse_stated true b c h = (λ e. refl, λ e. refl)
hse_stated false true c h = absurd (never (sym h))
hse_stated false false true h = absurd (never (sym h))
hse_stated false false false h = (λ e. absurd (never (sym e)), λ e. absurd (never (sym e)))

module _ (q : Request) (c : ChipState) where
  abbrev filled1 : PllRequest
  filled1 = fill_q (pll_at q 0) (for_pll1_q q.mco1source q.mco1)

  mco1_ends : (from_hse1 q.mco1source ≡ true → is_some q.hse ≡ true) → mco1_setup (config_of q) [] ≡ ends [] (config_with q q.system filled1 (pll_at q 1))
  unfolding mco1_setup
  mco1_ends h = mco1_fills q q.system (pll_at q 0) (pll_at q 1) [] q.mco1source h

  mco2_ends : (from_hse2 q.mco2source ≡ true → is_some q.hse ≡ true) → mco2_setup (config_with q q.system filled1 (pll_at q 1)) [] ≡ ends [] (config_after q (pll1_asked q))
  unfolding mco2_setup
  mco2_ends h = mco2_fills q q.system filled1 (pll_at q 1) [] q.mco2source h

  unstated : is_some q.hse || not (from_hse1 q.mco1source || from_hse2 q.mco2source) ≡ false → after_setters c (config_of q) [] ≡ panics
  unfolding mco1_setup mco2_setup
  unstated f =
      let u = or_false (is_some q.hse) (not (from_hse1 q.mco1source || from_hse2 q.mco2source)) f in
      let some : from_hse1 q.mco1source || from_hse2 q.mco2source ≡ true = not-false (from_hse1 q.mco1source || from_hse2 q.mco2source) u.1 in
      by_test (from_hse1 q.mco1source)
      (λ (t : from_hse1 q.mco1source ≡ true). rw (mco1_panics q q.system (pll_at q 0) (pll_at q 1) [] q.mco1source t u.0))
      (λ (n : from_hse1 q.mco1source ≡ false).
      let two : from_hse2 q.mco2source ≡ true = rw n at some in
      rw (mco1_fills q q.system (pll_at q 0) (pll_at q 1) [] q.mco1source (λ e. absurd (never (sym e ∙ n))), mco2_panics q q.system filled1 (pll_at q 1) [] q.mco2source two u.0))

  filled_agrees : Stated q → AgreeOrDepart q c (SameReady q c) (Rules.◌>>◌ (system_fits q) (Rules.◌>>◌ (sourced q) (rules q c))) (after_mco2 c (config_after q (pll1_asked q)) [])
  filled_agrees st =
      agree_next (Departure q c) (KeptSys q []) (SameReady q c) (system_fits q) (sys_ck_setup (config_after q (pll1_asked q)) []) _ _ (system_agrees q [])
      (λ u es s h. rw (h.0, h.1) (after_sys_is q c st))

  pub plls_ready : AgreeOrDepart q c (SameReady q c) (plls_of q c) (ready q c)
  unfolding plls_of configured
  plls_ready =
      rw (regroup (limited q) (stated q) (system_fits q) (sourced q) (rules q c))
      (by_test (within q.system && (within q.ahb && (within q.apb1 && (within q.apb2 && within q.apb3))))
      (λ (t : within q.system && (within q.ahb && (within q.apb1 && (within q.apb2 && within q.apb3))) ≡ true).
      by_test (is_some q.hse || not (from_hse1 q.mco1source || from_hse2 q.mco2source))
      (λ (s : is_some q.hse || not (from_hse1 q.mco1source || from_hse2 q.mco2source) ≡ true).
      let h = hse_stated (is_some q.hse) (from_hse1 q.mco1source) (from_hse2 q.mco2source) s in
      rw (t, s, setters_end q [] t, mco1_ends h.0, mco2_ends h.1) (filled_agrees (record { one = h.0; two = h.1 })))
      (λ (f : is_some q.hse || not (from_hse1 q.mco1source || from_hse2 q.mco2source) ≡ false). rw (t, f, setters_end q [] t, unstated f) tt))
      (λ (f : within q.system && (within q.ahb && (within q.apb1 && (within q.apb2 && within q.apb3))) ≡ false). rw (f, setters_panic q [] f) tt))
