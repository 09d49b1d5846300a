-- AHB and APB: `hclk_calculate` and `ppre_calculate` against steps 6 and 7.
use Rattle.std.specs.Prelude.{Option, Some, None, Result, Ok, unwrap_or}
use mathlib.Core.Path.{◌≡◌, refl, ap}
use mathlib.Core.List.{List}
use mathlib.Core.Logic.{◌⊎◌, inl, inr, ⊎_elim}
use mathlib.Core.Bool.{true, false, cond}
use Prim.Native.Nat.{ℕ, ◌/◌, ◌≤◌}
use native.Mathlib.Omega.{arith}
use native.Mathlib.Nat.{div-le_self, zero-div, zero-mod}
use lib.Dec.{eqb}
use borrow.Author.Tests.{eqb-true, ne_eqb, not-true, not-false}
use Rattle.types.specs.declared.Refusal.{Refusal}
use Rattle.types.specs.declared.Entry.{Entry}
use Rattle.types.specs.declared.Request.{Request}
use Rattle.rules.specs.Document01.Result as Rules
use Rattle.rules.specs.Document01.Hertz.{ratio_of, not_zero}
use Rattle.rules.specs.Document01.Buses.{hpre_of, hpre_for, ahb_of, apb_of, timer_of}
use Rattle.rules.specs.Document01.Plan.{buses_of}
use Rattle.claims.specs.Rust.Run.{Outcome, panics, ends, Run, continue, return, div_ceil}
use Rattle.claims.specs.Rust.Rcc as F
use Rattle.claims.specs.Rust.Rcc.{Config, match_hpre, PPRE, Div1, Div2, Div4, Div8, Div16, ppre_div, DefaultX2, match_ppre, Pclk, ppre_calculate, rcc_tim_ker_clk, Hclk, hclk_calculate, buses_calculate}
use Rattle.laws.proofs.Tests.{by_test, row, one_row}
use Rattle.rules.proofs.Document01.Ratios.{every, hpre_pos, ppre_pos}
use Rattle.claims.proofs.Agreement.Agree.{Agree, agree_then}
use Rattle.rules.proofs.Document01.Span.{pos_of}
use Rattle.claims.proofs.Agreement.Numbers.{nonzero, or_same, ceil_is}
use Rattle.rules.proofs.Document01.RoundedUp.{ratio_none}
use Rattle.types.specs.declared.Bus.{Bus}
use Rattle.types.specs.declared.Buses.{Buses}
use Rattle.claims.specs.Demands.Departures.{freeze_hpre}
use Rattle.claims.specs.Demands.Departures.{freeze_ppre}
use Rattle.claims.specs.Demands.Departures.{freeze_apb_rows}

-- the match ranges against the rows
hpre_match : (x : ℕ) → 1 ≤ x → match_hpre x ≡ return (freeze_hpre x)
hpre_match x h =
    rw (nonzero x h)
    (one_row return x _ _ _ _ h
    (λ g1. one_row return x _ _ _ _ g1
    (λ g2. row return x _ _ _ _ _ g2
    (λ g3. row return x _ _ _ _ _ g3
    (λ g4. row return x _ _ _ _ _ g4
    (λ g5. row return x _ _ _ _ _ g5
    (λ g6. row return x _ _ _ _ _ g6
    (λ g7. row return x _ _ _ _ _ g7 (λ g8. refl)))))))))

pub hpre_row : (x : ℕ) (es : List Entry) → 1 ≤ x → match_hpre x es ≡ ends es (freeze_hpre x)
hpre_row x es h = ap (λ (r : Run ℕ). r es) (hpre_match x h)

-- the same for APB, with the bits that stand for the divisor
abbrev pub bits_for : (divisor : ℕ) → PPRE
bits_for d = cond (eqb d 1) Div1 (cond (eqb d 2) Div2 (cond (eqb d 4) Div4 (cond (eqb d 8) Div8 Div16)))

abbrev pub bits_of : (ratio : ℕ) → PPRE
bits_of x = bits_for (freeze_ppre x)

ppre_match : (x : ℕ) → 1 ≤ x → match_ppre x ≡ return (bits_of x)
ppre_match x h =
    let f : ℕ → Run PPRE = λ d. return (bits_for d) in
    rw (nonzero x h)
    (one_row f x 1 1 _ _ h
    (λ g1. one_row f x 2 2 _ _ g1
    (λ g2. row f x 5 4 _ _ 3 g2
    (λ g3. row f x 11 8 16 _ 6 g3 (λ g4. refl)))))

pub ppre_row : (x : ℕ) (es : List Entry) → 1 ≤ x → match_ppre x es ≡ ends es (bits_of x)
ppre_row x es h = ap (λ (r : Run PPRE). r es) (ppre_match x h)

pub bits_div : (x : ℕ) → ppre_div (bits_of x) ≡ freeze_ppre x
bits_div x = every (λ d. ppre_div (bits_for d) ≡ d) freeze_apb_rows 16 (refl, (refl, (refl, (refl, refl)))) x

pub bits_timer : (x hclk : ℕ) → rcc_tim_ker_clk (bits_of x) DefaultX2 hclk ≡ timer_of hclk (freeze_ppre x)
unfolding timer_of
bits_timer x hclk = every (λ d. rcc_tim_ker_clk (bits_for d) DefaultX2 hclk ≡ timer_of hclk d) freeze_apb_rows 16 (refl, (refl, (refl, (refl, refl)))) x

-- a divisor's clock, from a ratio that is not 0
module _ (clock wanted : ℕ) (some : 1 ≤ clock) (set : 1 ≤ wanted) (es : List Entry) where
  pub ratio_pos : 1 ≤ ratio_of clock wanted
  ratio_pos = by_test (eqb (ratio_of clock wanted) 0) (λ t. absurd (let z : clock ≡ 0 = ratio_none clock wanted set (eqb-true _ _ t) in omega arith)) (λ f. pos_of (ratio_of clock wanted) f)

  pub ceil_ends : div_ceil clock wanted es ≡ ends es (ratio_of clock wanted)
  ceil_ends = let z : eqb wanted 0 ≡ false = ne_eqb wanted 0 (λ e. omega arith) in simp (z, ceil_is clock wanted set)

-- ---- AHB
-- what `hclk_calculate` takes for unset is the system clock
some_wanted : (d : ℕ) (h : Option ℕ) → 1 ≤ d → not_zero h ≡ true → 1 ≤ unwrap_or h d
some_wanted d None p q = p
some_wanted d (Some w) p q = pos_of w (not-true (eqb w 0) q)

abbrev pub hclk_of : Bus → Hclk
hclk_of b = record { hpre_div = b.pre; rcc_hclk = b.clock }

abbrev ahb_bus : ℕ → Option ℕ → Bus
ahb_bus system h = record { pre = hpre_for system h; clock = system / hpre_for system h }

hclk_ends : (system : ℕ) (h : Option ℕ) (es : List Entry) → 1 ≤ system → not_zero h ≡ true → hclk_calculate system h es ≡ ends es (hclk_of (ahb_bus system h))
unfolding hclk_calculate
hclk_ends system h es p q =
    let s : 1 ≤ unwrap_or h system = some_wanted system h p q in
    let x : ℕ = ratio_of system (unwrap_or h system) in
    let z : eqb (hpre_of x) 0 ≡ false = ne_eqb (hpre_of x) 0 (λ e. let y = hpre_pos x in omega arith) in
    rw (or_same h system, ceil_ends system (unwrap_or h system) p s es, hpre_row x es (ratio_pos system (unwrap_or h system) p s es), z)

-- 0 Hz requested, or nothing to divide: it panics
zero_panics : (clock : ℕ) (h : Option ℕ) (es : List Entry) → not_zero h ≡ false → div_ceil clock (unwrap_or h clock) es ≡ panics
zero_panics clock None es q = absurd (let z : ◌≡◌ {A = ℕ} 0 1 = cc in omega arith)
zero_panics clock (Some w) es q = simp (not-false (eqb w 0) q)

-- the ratio of 0 to anything, in Rust
none_ratio : (h : Option ℕ) (es : List Entry) → (div_ceil 0 (unwrap_or h 0) es ≡ panics) ⊎ (div_ceil 0 (unwrap_or h 0) es ≡ ends es 0)
none_ratio None es = inl refl
none_ratio (Some w) es = by_test (eqb w 0) (λ (t : eqb w 0 ≡ true). inl (simp t)) (λ (f : eqb w 0 ≡ false). inr (simp (f, zero-mod w, zero-div w)))

pub hclk_none : (h : Option ℕ) (es : List Entry) → hclk_calculate 0 h es ≡ panics
unfolding hclk_calculate
hclk_none h es = ⊎_elim (λ (e : div_ceil 0 (unwrap_or h 0) es ≡ panics). rw e) (λ (e : div_ceil 0 (unwrap_or h 0) es ≡ ends es 0). rw e) (none_ratio h es)

pub pclk_none : (h : Option ℕ) (es : List Entry) → ppre_calculate 0 h es ≡ panics
unfolding ppre_calculate
pclk_none h es = ⊎_elim (λ (e : div_ceil 0 (unwrap_or h 0) es ≡ panics). rw e) (λ (e : div_ceil 0 (unwrap_or h 0) es ≡ ends es 0). rw e) (none_ratio h es)

-- ---- APB
pub record SameApb (ahb : ℕ) (b : Bus) (p : Pclk) : Type 0 where
  pub pre : ppre_div p.bits ≡ b.pre
  pub clock : p.pclk ≡ b.clock
  pub timer : rcc_tim_ker_clk p.bits DefaultX2 ahb ≡ timer_of ahb b.pre

abbrev KeptApb : ℕ → List Entry → Bus → List Entry → Pclk → Type 0
KeptApb ahb es b es' p = (es' ≡ es) × SameApb ahb b p

apb_refused : (ahb : ℕ) (h : Option ℕ) (es : List Entry) → not_zero h ≡ false → Agree (KeptApb ahb es) (apb_of ahb h) (ppre_calculate ahb h es)
unfolding apb_of ppre_calculate
apb_refused ahb h es q = rw (q, zero_panics ahb h es q) tt

apb_runs : (ahb : ℕ) (h : Option ℕ) (es : List Entry) → 1 ≤ ahb → not_zero h ≡ true → Agree (KeptApb ahb es) (apb_of ahb h) (ppre_calculate ahb h es)
unfolding apb_of ppre_calculate
apb_runs ahb h es p q =
    let s : 1 ≤ unwrap_or h ahb = some_wanted ahb h p q in
    let x : ℕ = ratio_of ahb (unwrap_or h ahb) in
    let z : eqb (ppre_div (bits_of x)) 0 ≡ false = ne_eqb (ppre_div (bits_of x)) 0 (λ e. let y = ppre_pos x in let d = bits_div x in omega arith) in
    rw (q, or_same h ahb, ceil_ends ahb (unwrap_or h ahb) p s es, ppre_row x es (ratio_pos ahb (unwrap_or h ahb) p s es), z)
    (refl, record { pre = bits_div x; clock = ap (λ (d : ℕ). ahb / d) (bits_div x); timer = bits_timer x ahb })

pub apb_agrees : (ahb : ℕ) (h : Option ℕ) (es : List Entry) → 1 ≤ ahb → Agree (KeptApb ahb es) (apb_of ahb h) (ppre_calculate ahb h es)
apb_agrees ahb h es p = by_test (not_zero h) (λ t. apb_runs ahb h es p t) (λ f. apb_refused ahb h es f)

-- ---- the buses
pub record SameBuses (es : List Entry) (b : Buses) (es' : List Entry) (r : F.Buses) : Type 0 where
  pub kept : es' ≡ es
  pub some : 1 ≤ b.ahb.clock
  pub hclk : r.hclk ≡ hclk_of b.ahb
  pub pclk1 : SameApb b.ahb.clock b.apb1 r.pclk1
  pub pclk2 : SameApb b.ahb.clock b.apb2 r.pclk2
  pub pclk3 : SameApb b.ahb.clock b.apb3 r.pclk3

module _ (q : Request) (c : Config) (same : (c.rcc_hclk ≡ q.ahb) × (c.rcc_pclk1 ≡ q.apb1) × (c.rcc_pclk2 ≡ q.apb2) × (c.rcc_pclk3 ≡ q.apb3)) (system : ℕ) (es : List Entry) where
  abbrev Goal : Type 0
  Goal = Agree (SameBuses es) (buses_of q system) (buses_calculate system c es)

  -- 18 for AHB
  ahb_zero : not_zero q.ahb ≡ false → Goal
  unfolding buses_of buses_calculate ahb_of hclk_calculate
  ahb_zero f = rw (f, same.0, zero_panics system q.ahb es f) tt

  -- 19: the next step of the Rust panics
  none_left : not_zero q.ahb ≡ true → eqb (system / hpre_for system q.ahb) 0 ≡ true → Goal
  unfolding buses_of buses_calculate ahb_of
  none_left t z =
      by_test (eqb system 0)
      (λ (s : eqb system 0 ≡ true). let e : system ≡ 0 = eqb-true system 0 s in rw (t, z, same.0, e, hclk_none q.ahb es) tt)
      (λ (s : eqb system 0 ≡ false). let n : system / hpre_for system q.ahb ≡ 0 = eqb-true (system / hpre_for system q.ahb) 0 z in rw (t, z, same.0, hclk_ends system q.ahb es (pos_of system s) t, n, pclk_none c.rcc_pclk1 es) tt)

  -- AHB is there: the APBs one after the other
  abbrev bus : Bus
  bus = ahb_bus system q.ahb

  abbrev ahb : ℕ
  ahb = bus.clock

  abbrev apbs : Result Buses Refusal
  apbs = Rules.◌>>=◌ (apb_of ahb q.apb1) (λ b1. Rules.◌>>=◌ (apb_of ahb q.apb2) (λ b2. Rules.◌>>=◌ (apb_of ahb q.apb3) (λ b3. Ok (record { ahb = bus; apb1 = b1; apb2 = b2; apb3 = b3 }))))

  abbrev pclks : Outcome F.Buses
  pclks = continue (ppre_calculate ahb q.apb1 es) (λ p1 es. continue (ppre_calculate ahb q.apb2 es) (λ p2 es. continue (ppre_calculate ahb q.apb3 es) (λ p3 es. ends es (record { hclk = hclk_of bus; pclk1 = p1; pclk2 = p2; pclk3 = p3 }))))

  apbs_agree : 1 ≤ ahb → Agree (SameBuses es) apbs pclks
  apbs_agree l =
      agree_then (KeptApb ahb es) (SameBuses es) (apb_of ahb q.apb1) (ppre_calculate ahb q.apb1 es) _ _ (apb_agrees ahb q.apb1 es l)
      (λ b1 es1 p1 s1. rw s1.0
      (agree_then (KeptApb ahb es) (SameBuses es) (apb_of ahb q.apb2) (ppre_calculate ahb q.apb2 es) _ _ (apb_agrees ahb q.apb2 es l)
      (λ b2 es2 p2 s2. rw s2.0
      (agree_then (KeptApb ahb es) (SameBuses es) (apb_of ahb q.apb3) (ppre_calculate ahb q.apb3 es) _ _ (apb_agrees ahb q.apb3 es l)
      (λ b3 es3 p3 s3. record { kept = s3.0; some = l; hclk = refl; pclk1 = s1.1; pclk2 = s2.1; pclk3 = s3.1 })))))

  ahb_runs : not_zero q.ahb ≡ true → eqb (system / hpre_for system q.ahb) 0 ≡ false → Goal
  unfolding buses_of buses_calculate ahb_of
  ahb_runs t f =
      let l : 1 ≤ system / hpre_for system q.ahb = pos_of (system / hpre_for system q.ahb) f in
      let d : system / hpre_for system q.ahb ≤ system = div-le_self system (hpre_for system q.ahb) in
      let p : 1 ≤ system = omega arith in
      rw (t, f, same.0, same.1, same.2, same.3, hclk_ends system q.ahb es p t) (apbs_agree l)

  pub buses_agree : Goal
  buses_agree = by_test (not_zero q.ahb) (λ t. by_test (eqb (system / hpre_for system q.ahb) 0) (λ z. none_left t z) (λ f. ahb_runs t f)) (λ f. ahb_zero f)
