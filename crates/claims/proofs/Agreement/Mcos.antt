-- The MCOs: `calculate_prescaler` and the matches on the source against step 8, with refusals 20 to 23.
use Rattle.std.specs.Prelude.{Option, Some, None, Ok, unwrap_or, is_some}
use mathlib.Core.Path.{◌≡◌, refl, ap}
use mathlib.Core.List.{List}
use mathlib.Core.Bool.{true, false, ◌&&◌}
use Prim.Native.Nat.{ℕ, ◌/◌, ◌%◌, ◌≤◌}
use native.Mathlib.Omega.{arith}
use native.Mathlib.Nat.{mod-eq_of_lt}
use lib.Dec.{leb, eqb}
use borrow.Author.Tests.{leb-true}
use Rattle.types.specs.declared.PllSettings.{PllSettings}
use Rattle.types.specs.declared.Entry.{Entry}
use Rattle.types.specs.declared.Mco1Source.{Mco1Source}
use Rattle.types.specs.declared.Mco2Source.{Mco2Source}
use Rattle.types.specs.declared.PllRequest.{PllRequest}
use Rattle.types.specs.declared.Request.{Request}
use Rattle.rules.specs.Document01.Hertz.{ratio_of}
use Rattle.rules.specs.Document01.Request.{from_hse1, from_hse2}
use Rattle.rules.specs.Document01.OnePll.{p_clock, q_clock, pll_from}
use Rattle.rules.specs.Document01.Mco.{planned, mco1_input, mco2_input, mco_of}
use Rattle.rules.specs.Document01.Plan.{mcos_of}
use Rattle.claims.specs.Rust.Run.{unwrap}
use Rattle.claims.specs.Rust.Mco.{Prescaled, calculate_prescaler}
use Rattle.claims.specs.Rust.Rcc as F
use Rattle.claims.specs.Rust.Rcc.{Config, mco1_in, mco2_in, mcos_calculate}
use Rattle.claims.specs.Demands.Report.{pll_clocks}
use Rattle.laws.proofs.Tests.{and_left, and_right, by_test}
use Rattle.claims.proofs.Agreement.Agree.{Agree, agree_then}
use Rattle.rules.proofs.Document01.Span.{pos_of}
use Rattle.claims.proofs.Agreement.Numbers.{nonzero, ceil_is}
use Rattle.claims.proofs.Agreement.Config.{config_after}
use Rattle.types.specs.declared.Mco.{Mco}
use Rattle.types.specs.declared.Mcos.{Mcos}

abbrev pub prescaled_of : Mco → Prescaled
prescaled_of m = record { prescaler = m.pre; ck = m.clock }

abbrev pub KeptMco : List Entry → Mco → List Entry → Prescaled → Type 0
KeptMco es m es' p = (es' ≡ es) × (p ≡ prescaled_of m)

-- 22, 23 and the prescaler
module _ (clock f : ℕ) (es : List Entry) where
  abbrev Goal : Type 0
  Goal = Agree (KeptMco es) (mco_of clock (Some f)) (calculate_prescaler clock (Some f) es)

  zero_asked : eqb f 0 ≡ true → Goal
  unfolding mco_of calculate_prescaler
  zero_asked t = rw t tt

  out_of_range : eqb f 0 ≡ false → leb 1 (ratio_of clock f) && leb (ratio_of clock f) 15 ≡ false → Goal
  unfolding mco_of calculate_prescaler
  out_of_range n t = rw (n, ceil_is clock f (pos_of f n), t) tt

  prescaled : eqb f 0 ≡ false → leb 1 (ratio_of clock f) && leb (ratio_of clock f) 15 ≡ true → Goal
  unfolding mco_of calculate_prescaler
  prescaled n t =
      let low : 1 ≤ ratio_of clock f = leb-true 1 (ratio_of clock f) (and_left (leb 1 (ratio_of clock f)) _ t) in
      let high : ratio_of clock f ≤ 15 = leb-true (ratio_of clock f) 15 (and_right (leb 1 (ratio_of clock f)) _ t) in
      let small : ratio_of clock f % 256 ≡ ratio_of clock f = mod-eq_of_lt (omega arith) in
      rw (n, ceil_is clock f (pos_of f n), t, nonzero (ratio_of clock f) low) (refl, ap (λ (x : ℕ). record { prescaler = x; ck = Some (clock / ratio_of clock f) }) small)

  pub asked_agrees : Goal
  asked_agrees = by_test (eqb f 0) zero_asked (λ n. by_test (leb 1 (ratio_of clock f) && leb (ratio_of clock f) 15) (prescaled n) (out_of_range n))

pub prescaler_agrees : (clock : ℕ) (h : Option ℕ) (es : List Entry) → Agree (KeptMco es) (mco_of clock h) (calculate_prescaler clock h es)
unfolding mco_of calculate_prescaler
prescaler_agrees clock None es = (refl, refl)
prescaler_agrees clock (Some f) es = asked_agrees clock f es

-- ---- the clock of the source
abbrev pub Kept : List Entry → ℕ → List Entry → ℕ → Type 0
Kept es a es' b = (es' ≡ es) × (b ≡ a)

unwrapped : (h : Option ℕ) (es : List Entry) → Agree (Kept es) (planned h) (unwrap h es)
unwrapped None es = tt
unwrapped (Some h) es = (refl, refl)

hse_there : (h : Option ℕ) (es : List Entry) → is_some h ≡ true → Agree (Kept es) (Ok (unwrap_or h 0)) (unwrap h es)
hse_there None es t = absurd (let z : ◌≡◌ {A = ℕ} 0 1 = cc in omega arith)
hse_there (Some h) es t = (refl, refl)

abbrev pub clocks_of : List (Option PllSettings) → F.Plls
clocks_of l = record { pll1 = pll_clocks (pll_from l 0); pll2 = pll_clocks (pll_from l 1); pll3 = pll_clocks (pll_from l 2) }

mco1_agrees : (s : Mco1Source) (c : Config) (l : List (Option PllSettings)) (es : List Entry) → (from_hse1 s ≡ true → is_some c.hse ≡ true) → Agree (Kept es) (mco1_input s c.hse (q_clock (pll_from l 0))) (mco1_in s c (clocks_of l) es)
unfolding mco1_input mco1_in
mco1_agrees Mco1Source.Hsi c l es h = (refl, refl)
mco1_agrees Mco1Source.Lse c l es h = tt
mco1_agrees Mco1Source.Hse c l es h = hse_there c.hse es (h refl)
mco1_agrees Mco1Source.Pll1Q c l es h = unwrapped (q_clock (pll_from l 0)) es
mco1_agrees Mco1Source.Hsi48 c l es h = (refl, refl)

mco2_agrees : (s : Mco2Source) (system : ℕ) (c : Config) (l : List (Option PllSettings)) (es : List Entry) → (from_hse2 s ≡ true → is_some c.hse ≡ true) → Agree (Kept es) (mco2_input s system c.hse (p_clock (pll_from l 0)) (p_clock (pll_from l 1))) (mco2_in s system c (clocks_of l) es)
unfolding mco2_input mco2_in
mco2_agrees Mco2Source.Sysclk system c l es h = (refl, refl)
mco2_agrees Mco2Source.Pll2P system c l es h = unwrapped (p_clock (pll_from l 1)) es
mco2_agrees Mco2Source.Hse system c l es h = hse_there c.hse es (h refl)
mco2_agrees Mco2Source.Pll1P system c l es h = unwrapped (p_clock (pll_from l 0)) es
mco2_agrees Mco2Source.Csi system c l es h = (refl, refl)
mco2_agrees Mco2Source.Lsi system c l es h = (refl, refl)

-- ---- both
abbrev pub mcos_rust : Mcos → F.Mcos
mcos_rust m = record { mco1 = prescaled_of m.mco1; mco2 = prescaled_of m.mco2 }

abbrev pub KeptMcos : List Entry → Mcos → List Entry → F.Mcos → Type 0
KeptMcos es m es' r = (es' ≡ es) × (r ≡ mcos_rust m)

pub mcos_agree : (q : Request) (asked1 : PllRequest) (l : List (Option PllSettings)) (system : ℕ) (es : List Entry) → (from_hse1 q.mco1source ≡ true → is_some q.hse ≡ true) → (from_hse2 q.mco2source ≡ true → is_some q.hse ≡ true) → Agree (KeptMcos es) (mcos_of q l system) (mcos_calculate system (config_after q asked1) (clocks_of l) es)
unfolding mcos_of mcos_calculate
mcos_agree q asked1 l system es h1 h2 =
    let c : Config = config_after q asked1 in
    agree_then (Kept es) (KeptMcos es) (mco1_input q.mco1source q.hse (q_clock (pll_from l 0))) (mco1_in q.mco1source c (clocks_of l) es) _ _ (mco1_agrees q.mco1source c l es h1)
    (λ a1 es1 b1 s1. rw (s1.0, s1.1)
    (agree_then (KeptMco es) (KeptMcos es) (mco_of a1 q.mco1) (calculate_prescaler a1 q.mco1 es) _ _ (prescaler_agrees a1 q.mco1 es)
    (λ m1 es2 p1 s2. rw (s2.0, s2.1)
    (agree_then (Kept es) (KeptMcos es) (mco2_input q.mco2source system q.hse (p_clock (pll_from l 0)) (p_clock (pll_from l 1))) (mco2_in q.mco2source system c (clocks_of l) es) _ _ (mco2_agrees q.mco2source system c l es h2)
    (λ a2 es3 b2 s3. rw (s3.0, s3.1)
    (agree_then (KeptMco es) (KeptMcos es) (mco_of a2 q.mco2) (calculate_prescaler a2 q.mco2 es) _ _ (prescaler_agrees a2 q.mco2 es)
    (λ m2 es4 p2 s4. (s4.0, ap (λ (x : Prescaled). record { mco1 = prescaled_of m1; mco2 = x }) s4.1))))))))
