-- The setters, `mco1_setup`, `mco2_setup` and `sys_ck_setup` against steps 1 to 3, with refusals 3, 4 and 5.
use Rattle.std.specs.Prelude.{Option, Some, None, is_some}
use mathlib.Core.Path.{◌≡◌, refl, sym, ap}
use mathlib.Core.List.{List}
use mathlib.Core.Bool.{true, false, ◌&&◌}
use Prim.Native.Nat.{ℕ}
use native.Mathlib.Omega.{arith}
use lib.Dec.{eqb}
use borrow.Author.Tests.{eqb-true}
use Rattle.std.specs.Option.{option_or}
use Rattle.types.specs.declared.Entry.{Entry}
use Rattle.types.specs.declared.Mco1Source.{Mco1Source}
use Rattle.types.specs.declared.Mco2Source.{Mco2Source}
use Rattle.types.specs.declared.PllRequest.{PllRequest}
use Rattle.types.specs.declared.Request.{Request}
use Rattle.types.specs.declared.Refusal.TheVariants.{Pll1PUnlikeSystem}
use Rattle.rules.specs.Document01.Result.{require}
use Rattle.rules.specs.Document01.Request.{pll_at, within, from_hse1, from_hse2, for_pll1_q, for_system, for_pll2_p, for_pll1_p, system_asked, pll1_asked, pll2_asked, source_of, system_of, needs_pll1, like, asked_of, system_fits}
use Rattle.claims.specs.Rust.Run.{panics, ends}
use Rattle.claims.specs.Rust.Rcc.{Config, set_capped, pll_config, config_of, setters, mco1_source, mco2_source, SysCk, pll1_p_for, sys_ck_from, sys_ck_setup}
use Rattle.laws.proofs.Tests.{and_left, and_right, by_test, never}
use Rattle.claims.proofs.Agreement.Numbers.{or_same}
use Rattle.claims.proofs.Agreement.Agree.{Agree, agree_on}

-- the config once `sys_ck_setup` is through
abbrev pub config_with : Request → Option ℕ → PllRequest → PllRequest → Config
config_with q sys_ck pll1 pll2 = record {
  hse = q.hse;
  bypass_hse = q.bypass;
  lse = q.lse;
  sys_ck = sys_ck;
  per_ck = q.peripheral;
  audio_ck = q.audio;
  rcc_hclk = q.ahb;
  rcc_pclk1 = q.apb1;
  rcc_pclk2 = q.apb2;
  rcc_pclk3 = q.apb3;
  mco1 = record { source = q.mco1source; frequency = q.mco1 };
  mco2 = record { source = q.mco2source; frequency = q.mco2 };
  pll1 = pll_config pll1;
  pll2 = pll_config pll2;
  pll3 = pll_config (pll_at q 2);
}

abbrev pub config_after : Request → PllRequest → Config
config_after q asked1 = config_with q (system_asked q) asked1 (pll2_asked q)

-- ---- refusal 3
capped : (h : Option ℕ) (es : List Entry) → within h ≡ true → set_capped h es ≡ ends es tt
capped None es t = refl
capped (Some f) es t = rw t

uncapped : (h : Option ℕ) (es : List Entry) → within h ≡ false → set_capped h es ≡ panics
uncapped None es t = absurd (let z : ◌≡◌ {A = ℕ} 0 1 = cc in omega arith)
uncapped (Some f) es t = rw t

-- ---- what the MCOs fill
or_is : (a b : Option ℕ) → option_or a b ≡ option_or a b
or_is None b = refl
or_is (Some a) b = refl

or_unset : (a : Option ℕ) → option_or a None ≡ a
or_unset None = refl
or_unset (Some a) = refl

-- ---- refusals 3, 4 and 5, one after the other
-- each of five is in its limit, or the first that is not panics
pub setters_end : (q : Request) (es : List Entry) → within q.system && (within q.ahb && (within q.apb1 && (within q.apb2 && within q.apb3))) ≡ true → setters q es ≡ ends es (config_of q)
unfolding setters
setters_end q es t =
    let b : within q.ahb && (within q.apb1 && (within q.apb2 && within q.apb3)) ≡ true = and_right (within q.system) _ t in
    let c : within q.apb1 && (within q.apb2 && within q.apb3) ≡ true = and_right (within q.ahb) _ b in
    let d : within q.apb2 && within q.apb3 ≡ true = and_right (within q.apb1) _ c in
    rw (capped q.system es (and_left (within q.system) _ t), capped q.ahb es (and_left (within q.ahb) _ b), capped q.apb1 es (and_left (within q.apb1) _ c), capped q.apb2 es (and_left (within q.apb2) _ d), capped q.apb3 es (and_right (within q.apb2) _ d))

pub setters_panic : (q : Request) (es : List Entry) → within q.system && (within q.ahb && (within q.apb1 && (within q.apb2 && within q.apb3))) ≡ false → setters q es ≡ panics
unfolding setters
setters_panic q es t =
    by_test (within q.system) (λ (a : within q.system ≡ true).
    by_test (within q.ahb) (λ (b : within q.ahb ≡ true).
    by_test (within q.apb1) (λ (c : within q.apb1 ≡ true).
    by_test (within q.apb2) (λ (d : within q.apb2 ≡ true).
    by_test (within q.apb3) (λ (e : within q.apb3 ≡ true). absurd (never (rw (a, b, c, d, e) at t)))
    (λ f. rw (capped q.system es a, capped q.ahb es b, capped q.apb1 es c, capped q.apb2 es d, uncapped q.apb3 es f)))
    (λ f. rw (capped q.system es a, capped q.ahb es b, capped q.apb1 es c, uncapped q.apb2 es f)))
    (λ f. rw (capped q.system es a, capped q.ahb es b, uncapped q.apb1 es f)))
    (λ f. rw (capped q.system es a, uncapped q.ahb es f)))
    (λ f. rw (uncapped q.system es f))

-- ---- the MCOs
some_is : (h : Option ℕ) → is_some h ≡ is_some h
some_is None = refl
some_is (Some h) = refl

abbrev pub fill_q : PllRequest → Option ℕ → PllRequest
fill_q a h = record { strategy = a.strategy; p = a.p; q = option_or a.q h; r = a.r }

abbrev pub fill_p : PllRequest → Option ℕ → PllRequest
fill_p a h = record { strategy = a.strategy; p = option_or a.p h; q = a.q; r = a.r }

module _ (q : Request) (sys : Option ℕ) (a b : PllRequest) (es : List Entry) where
  pub mco1_fills : (s : Mco1Source) → (from_hse1 s ≡ true → is_some q.hse ≡ true) → mco1_source s (config_with q sys a b) es ≡ ends es (config_with q sys (fill_q a (for_pll1_q s q.mco1)) b)
  mco1_fills Mco1Source.Hsi h = rw (or_unset a.q)
  mco1_fills Mco1Source.Lse h = rw (or_unset a.q)
  mco1_fills Mco1Source.Hse h = rw (or_unset a.q, some_is q.hse, h refl)
  mco1_fills Mco1Source.Pll1Q h = rw (or_is a.q q.mco1)
  mco1_fills Mco1Source.Hsi48 h = rw (or_unset a.q)

  pub mco1_panics : (s : Mco1Source) → from_hse1 s ≡ true → is_some q.hse ≡ false → mco1_source s (config_with q sys a b) es ≡ panics
  mco1_panics Mco1Source.Hsi t f = absurd (never (sym t))
  mco1_panics Mco1Source.Lse t f = absurd (never (sym t))
  mco1_panics Mco1Source.Hse t f = rw (some_is q.hse, f)
  mco1_panics Mco1Source.Pll1Q t f = absurd (never (sym t))
  mco1_panics Mco1Source.Hsi48 t f = absurd (never (sym t))

  pub mco2_fills : (s : Mco2Source) → (from_hse2 s ≡ true → is_some q.hse ≡ true) → mco2_source s (config_with q sys a b) es ≡ ends es (config_with q (option_or sys (for_system s q.mco2)) (fill_p a (for_pll1_p s q.mco2)) (fill_p b (for_pll2_p s q.mco2)))
  mco2_fills Mco2Source.Sysclk h = rw (or_unset a.p, or_unset b.p, or_is sys q.mco2)
  mco2_fills Mco2Source.Pll2P h = rw (or_unset sys, or_unset a.p, or_is b.p q.mco2)
  mco2_fills Mco2Source.Hse h = rw (or_unset sys, or_unset a.p, or_unset b.p, some_is q.hse, h refl)
  mco2_fills Mco2Source.Pll1P h = rw (or_unset sys, or_unset b.p, or_is a.p q.mco2)
  mco2_fills Mco2Source.Csi h = rw (or_unset sys, or_unset a.p, or_unset b.p)
  mco2_fills Mco2Source.Lsi h = rw (or_unset sys, or_unset a.p, or_unset b.p)

  pub mco2_panics : (s : Mco2Source) → from_hse2 s ≡ true → is_some q.hse ≡ false → mco2_source s (config_with q sys a b) es ≡ panics
  mco2_panics Mco2Source.Sysclk t f = absurd (never (sym t))
  mco2_panics Mco2Source.Pll2P t f = absurd (never (sym t))
  mco2_panics Mco2Source.Hse t f = rw (some_is q.hse, f)
  mco2_panics Mco2Source.Pll1P t f = absurd (never (sym t))
  mco2_panics Mco2Source.Csi t f = absurd (never (sym t))
  mco2_panics Mco2Source.Lsi t f = absurd (never (sym t))

-- ---- the system clock
abbrev pub sys_ck_word : Request → PllRequest → SysCk
sys_ck_word q asked1 = record { config = config_after q asked1; sys_ck = system_of q; sys_use_pll1_p = needs_pll1 q }

abbrev pub KeptSys : Request → List Entry → Unit {0} → List Entry → SysCk → Type 0
KeptSys q es u es' s = (es' ≡ es) × (s ≡ sys_ck_word q (asked_of q 0))

-- refusal 5
p_agrees : (s : ℕ) (h : Option ℕ) (es : List Entry) → Agree (λ u es' p. (es' ≡ es) × (p ≡ Some s)) (require (like h s) Pll1PUnlikeSystem) (pll1_p_for s h es)
p_agrees s None es = (refl, refl)
p_agrees s (Some p) es =
    by_test (eqb p s) (λ (t : eqb p s ≡ true). rw t (refl, ap Some (eqb-true p s t))) (λ (f : eqb p s ≡ false). rw f tt)

module _ (q : Request) (es : List Entry) where
  abbrev Goal : Type 0
  Goal = Agree (KeptSys q es) (system_fits q) (sys_ck_setup (config_after q (pll1_asked q)) es)

  direct : needs_pll1 q ≡ false → Goal
  unfolding sys_ck_setup sys_ck_from
  direct f = rw (or_same q.hse 32_000_000, or_same (system_asked q) (source_of q), f) (refl, rw f)

  through_pll1 : needs_pll1 q ≡ true → Goal
  unfolding sys_ck_setup sys_ck_from
  through_pll1 t =
      rw (or_same q.hse 32_000_000, or_same (system_asked q) (source_of q), t)
      (agree_on (λ u es' p. (es' ≡ es) × (p ≡ Some (system_of q))) (KeptSys q es) (require (like (pll1_asked q).p (system_of q)) Pll1PUnlikeSystem) (pll1_p_for (system_of q) (pll1_asked q).p es) _ (p_agrees (system_of q) (pll1_asked q).p es)
      (λ u es1 p s. rw (s.0, s.1, t) (refl, refl)))

  pub system_agrees : Goal
  system_agrees = by_test (needs_pll1 q) through_pll1 direct
