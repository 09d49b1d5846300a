-- A PLL that the rules set up: M, N and the dividers are at least 1, and in Integer strategy its clocks are floors.
use Rattle.types.specs.declared.PllOutput.{PllOutput}
use Rattle.std.specs.Prelude.{Option, Some, None, Result, Ok, Err, is_some}
use mathlib.Core.Path.{◌≡◌, refl, sym, ◌∙◌, ap, subst}
use mathlib.Core.Bool.{Bool, true, false, cond, not, ◌&&◌, ◌||◌}
use mathlib.Core.List.{List, ◌++◌}
use Prim.Native.Nat.{ℕ, ◌+◌, ◌*◌, ◌/◌, ◌≤◌, ◌<◌}
use native.Mathlib.Omega.{arith}
use lib.Dec.{leb, ltb, eqb}
use borrow.Author.Tests.{leb-true, ltb-true, eqb-false, not-true}
use Rattle.types.specs.declared.Refusal.{Refusal}
use Rattle.types.specs.declared.Strategy.{Strategy}
use Rattle.types.specs.declared.Strategy.TheVariants.{Integer, Fractional}
use Rattle.types.specs.declared.PllRequest.{PllRequest}
use Rattle.types.specs.declared.PllSettings.{PllSettings}
use Rattle.types.specs.declared.Refusal.TheVariants.{OutputZero, OutputsTooFarApart, OutputTooHigh, TargetOutside, NOutside}
use Rattle.rules.specs.Document01.ChoiceOfM.{chosen_m}
use Rattle.rules.proofs.Document01.ChoiceOfM.{chosen_some}
use Rattle.rules.proofs.Document01.Target.{divider_pos}
use Rattle.rules.specs.Document01.Result.{◌>>=◌, ◌>>◌}
use Rattle.rules.specs.Document01.Hertz.{not_zero}
use Rattle.rules.specs.Document01.OnePll.{wanted, none_zero, counted_p, counted, counted_outputs, least, largest, Range, medium, wide, range_of, admissible, fraction_of, vco_by, output_of, divider_p, allowed_p, spanned, range_for, target_for, divided_by, settings_of, settled, runs, running, pll_of, clock_of, p_clock, first_of}
use Rattle.rules.specs.Manual.Tree.{Output, P, Q, R}
use Rattle.rules.proofs.Document01.Results.{bind_ok, then_ok, tested_ok, require_ok}
use Rattle.laws.proofs.Tests.{and_left, and_right}
use Rattle.claims.proofs.Readings.Consistent.{setting_of, GoodPll}

-- ---- the least and the largest output
abbrev asked_of : Output → PllRequest → Option ℕ
asked_of P a = a.p
asked_of Q a = a.q
asked_of R a = a.r

-- what the outputs requested have to do with the list of them as they count
record Spans (p q r : Option ℕ) (l : List ℕ) : Type 0 where
  low : 1 ≤ least l
  ordered : least l ≤ largest l
  p_in : (x : ℕ) → p ≡ Some x → (1 ≤ x) × (x ≤ largest l)
  q_in : (x : ℕ) → q ≡ Some x → (1 ≤ x) × (x ≤ largest l)
  r_in : (x : ℕ) → r ≡ Some x → (1 ≤ x) × (x ≤ largest l)

above_zero : (h : ℕ) → not (eqb h 0) ≡ true → 1 ≤ h
above_zero h e = let f : h ≡ 0 → ⊥ = eqb-false h 0 (not-true _ e) in go h f
  where
    go : (n : ℕ) → (n ≡ 0 → ⊥) → 1 ≤ n
    go Prim.Native.Nat.zero f = absurd (f refl)
    go (Prim.Native.Nat.suc n) f = omega arith

never : {A : Type 0} (x : ℕ) → None ≡ Some x → A
never x e = absurd (let z : ◌≡◌ {A = ℕ} 0 1 = cc in omega arith)

inside : (h x t : ℕ) → Some h ≡ Some x → 1 ≤ h → h ≤ t → (1 ≤ x) × (x ≤ t)
inside h x t e a b = let s : h ≡ x = cc in omega arith

-- f counts P; each count is at least its output
module _ (f : ℕ → ℕ) (more : (h : ℕ) → h ≤ f h) where
  abbrev ls : Option ℕ → Option ℕ → Option ℕ → List ℕ
  ls p q r = counted f p ++ (counted (λ h. h) q ++ counted (λ h. h) r)

  spans : (p q r : Option ℕ) → not_zero p && (not_zero q && not_zero r) ≡ true → is_some p || (is_some q || is_some r) ≡ true → Spans p q r (ls p q r)
  spans None None None z w = absurd (let y : ◌≡◌ {A = ℕ} 0 1 = cc in omega arith)
  spans (Some a) None None z w =
      let ha : 1 ≤ a = above_zero a (and_left _ _ z) in
      let fa = more a in
      record { low = omega arith; ordered = omega arith; p_in = λ x e. inside a x _ e ha (omega arith); q_in = λ x e. never x e; r_in = λ x e. never x e }
  spans None (Some b) None z w =
      let hb : 1 ≤ b = above_zero b (and_left _ _ z) in
      record { low = omega arith; ordered = omega arith; p_in = λ x e. never x e; q_in = λ x e. inside b x _ e hb (omega arith); r_in = λ x e. never x e }
  spans None None (Some c) z w =
      let hc : 1 ≤ c = above_zero c z in
      record { low = omega arith; ordered = omega arith; p_in = λ x e. never x e; q_in = λ x e. never x e; r_in = λ x e. inside c x _ e hc (omega arith) }
  spans (Some a) (Some b) None z w =
      let ha : 1 ≤ a = above_zero a (and_left _ _ z) in
      let fa = more a in
      let hb : 1 ≤ b = above_zero b (and_left _ _ (and_right (not_zero (Some a)) _ z)) in
      record { low = omega arith; ordered = omega arith; p_in = λ x e. inside a x _ e ha (omega arith); q_in = λ x e. inside b x _ e hb (omega arith); r_in = λ x e. never x e }
  spans (Some a) None (Some c) z w =
      let ha : 1 ≤ a = above_zero a (and_left _ _ z) in
      let fa = more a in
      let hc : 1 ≤ c = above_zero c (and_right (not_zero (Some a)) _ z) in
      record { low = omega arith; ordered = omega arith; p_in = λ x e. inside a x _ e ha (omega arith); q_in = λ x e. never x e; r_in = λ x e. inside c x _ e hc (omega arith) }
  spans None (Some b) (Some c) z w =
      let hb : 1 ≤ b = above_zero b (and_left _ _ z) in
      let hc : 1 ≤ c = above_zero c (and_right (not_zero (Some b)) _ z) in
      record { low = omega arith; ordered = omega arith; p_in = λ x e. never x e; q_in = λ x e. inside b x _ e hb (omega arith); r_in = λ x e. inside c x _ e hc (omega arith) }
  spans (Some a) (Some b) (Some c) z w =
      let ha : 1 ≤ a = above_zero a (and_left _ _ z) in
      let fa = more a in
      let hb : 1 ≤ b = above_zero b (and_left _ _ (and_right (not_zero (Some a)) _ z)) in
      let hc : 1 ≤ c = above_zero c (and_right (not_zero (Some b)) _ (and_right (not_zero (Some a)) _ z)) in
      record { low = omega arith; ordered = omega arith; p_in = λ x e. inside a x _ e ha (omega arith); q_in = λ x e. inside b x _ e hb (omega arith); r_in = λ x e. inside c x _ e hc (omega arith) }

counts_more : (odd : Bool) (h : ℕ) → h ≤ counted_p odd h
counts_more true h = omega arith
counts_more false h = omega arith

asked_in : (o : Output) (a : PllRequest) (l : List ℕ) → Spans a.p a.q a.r l → (x : ℕ) → asked_of o a ≡ Some x → (1 ≤ x) × (x ≤ largest l)
asked_in P a l s = s.p_in
asked_in Q a l s = s.q_in
asked_in R a l s = s.r_in

-- ---- the range
record GoodRange (top : ℕ) (g : Range) : Type 0 where
  over : top < g.end
  limit : g.end ≤ 560_000_000
  bottom : 128_000_000 ≤ g.start

range_good : (top : ℕ) → top < 560_000_000 → GoodRange top (range_of top)
range_good top h = go (ltb top 420_000_000) refl
  where
    go : (t : Bool) → ltb top 420_000_000 ≡ t → GoodRange top (cond t medium wide)
    go true e = record { over = ltb-true _ _ e; limit = omega arith; bottom = omega arith }
    go false e = record { over = h; limit = omega arith; bottom = omega arith }

-- ---- an output set, from the output requested
set_from : (target vco : ℕ) (h : Option ℕ) (d r : ℕ) → output_of target vco h ≡ Some (record { divider = d; clock = r }) → (x : ℕ) × (h ≡ Some x) × (d ≡ target / x) × (r ≡ vco / d)
set_from target vco None d r e = absurd (let z : ◌≡◌ {A = ℕ} 0 1 = cc in omega arith)
set_from target vco (Some x) d r e =
    let f : ◌≡◌ {A = PllOutput} (record { divider = target / x; clock = vco / (target / x) }) (record { divider = d; clock = r }) = cc in
    let s : target / x ≡ d = ap (λ (o : PllOutput). o.divider) f in
    let t : vco / (target / x) ≡ r = ap (λ (o : PllOutput). o.clock) f in
    (x, refl, sym s, sym t ∙ ap (λ (y : ℕ). vco / y) s)

set_by : (o : Output) (a : PllRequest) (g : Range) (target m ref n : ℕ) (f : Option ℕ) → setting_of o (settings_of a g target m ref n f) ≡ output_of target (vco_by f ref n) (asked_of o a)
set_by P a g target m ref n f = refl
set_by Q a g target m ref n f = refl
set_by R a g target m ref n f = refl

-- ---- the steps of one PLL
found_m : (f : Option ℕ) (m : ℕ) → admissible f ≡ Ok m → f ≡ Some m
found_m None m e = absurd (let z : ◌≡◌ {A = ℕ} 0 1 = cc in omega arith)
found_m (Some k) m e = let s : k ≡ m = cc in ap Some s

fraction_whole : (st : Strategy) (ref n d o : ℕ) (f : Option ℕ) → fraction_of st ref n d o ≡ Ok f → st ≡ Integer → f ≡ None
fraction_whole Integer ref n d o f e i = cc
fraction_whole Fractional ref n d o f e i = absurd (let z : ◌≡◌ {A = ℕ} 0 1 = cc in omega arith)

-- what a settled PLL was settled from
record Settled (a : PllRequest) (source : ℕ) (g : Range) (target : ℕ) (s : PllSettings) : Type 0 where
  m : ℕ
  chosen : 1 ≤ m
  n : 4 ≤ target / (source / m)
  fraction : Option ℕ
  whole : a.strategy ≡ Integer → fraction ≡ None
  is : s ≡ settings_of a g target m (source / m) (target / (source / m)) fraction

settled_ok : (odd : Bool) (a : PllRequest) (source : ℕ) (g : Range) (target m : ℕ) (s : PllSettings)
    → chosen_m source target g.low g.high ≡ Some m → settled odd a g target m (source / m) (target / (source / m)) ≡ Ok s → Settled a source g target s
unfolding settled
settled_ok odd a source g target m s c e =
    let ref : ℕ = source / m in
    let n : ℕ = target / ref in
    let e₁ = tested_ok (leb 4 n && leb n 512) NOutside _ s e in
    let e₂ = bind_ok (fraction_of a.strategy ref n (target / first_of a) (first_of a)) (λ f. allowed_p odd (divider_p target a.p) >> Ok (settings_of a g target m ref n f)) s e₁.1 in
    let e₃ = then_ok (allowed_p odd (divider_p target a.p)) (Ok (settings_of a g target m ref n e₂.0)) s e₂.2 in
    let last : Ok (settings_of a g target m ref n e₂.0) ≡ Ok s = e₃.2 in
    record {
      m = m;
      chosen = (chosen_some source target g.low g.high m c).admissible.above;
      n = leb-true 4 n (and_left _ _ e₁.0);
      fraction = e₂.0;
      whole = fraction_whole a.strategy ref n (target / first_of a) (first_of a) e₂.0 e₂.1;
      is = cc;
    }

-- a PLL that was settled is good
settled_good : (odd : Bool) (a : PllRequest) (source : ℕ) (s : PllSettings) → wanted a ≡ true → none_zero a ≡ true
    → largest (counted_outputs odd a) / 128 ≤ least (counted_outputs odd a) → largest (counted_outputs odd a) < 560_000_000
    → (range_for odd a).start ≤ target_for odd a → Settled a source (range_for odd a) (target_for odd a) s → GoodPll a.strategy source s
settled_good odd a source s w z far top start t =
    let l : List ℕ = counted_outputs odd a in
    let g : Range = range_for odd a in
    let target : ℕ = target_for odd a in
    let sp : Spans a.p a.q a.r l = spans (counted_p odd) (counts_more odd) a.p a.q a.r z w in
    let range : GoodRange (largest l) g = range_good (largest l) top in
    let pos : (x : ℕ) → 1 ≤ x → x ≤ largest l → 1 ≤ target / x =
    divider_pos (least l) (largest l) g.end sp.low sp.ordered range.over range.limit far (omega (arith, range.bottom)) in
    let set : (o : Output) (d h : ℕ) → setting_of o s ≡ Some (record { divider = d; clock = h }) → (x : ℕ) × (asked_of o a ≡ Some x) × (d ≡ target / x) × (h ≡ vco_by t.fraction (source / t.m) (target / (source / t.m)) / d) =
    λ o d h e. set_from target _ (asked_of o a) d h
    (sym (set_by o a g target t.m (source / t.m) (target / (source / t.m)) t.fraction) ∙ sym (ap (setting_of o) t.is) ∙ e) in
    record {
      m = rw t.is t.chosen;
      n = rw t.is (omega (arith, t.n));
      divider = λ o d h e.
          let f = set o d h e in
          let i = asked_in o a l sp f.0 f.1 in
          rw f.2 (pos f.0 i.0 i.1);
      whole = λ st. rw t.is (t.whole st);
      hertz = λ st o d h e.
          let f = set o d h e in
          let v : vco_by t.fraction (source / t.m) (target / (source / t.m)) ≡ source / t.m * (target / (source / t.m)) = rw (t.whole st) refl in
          let y : source / s.m * s.n ≡ source / t.m * (target / (source / t.m)) = rw t.is refl in
          f.3 ∙ ap (λ (x : ℕ). x / d) (v ∙ sym y);
    }

runs_good : (odd : Bool) (source : ℕ) (a : PllRequest) (s : PllSettings) → wanted a ≡ true → runs odd source a ≡ Ok s → GoodPll a.strategy source s
unfolding runs spanned divided_by
runs_good odd source a s w e =
    let l : List ℕ = counted_outputs odd a in
    let g : Range = range_for odd a in
    let target : ℕ = target_for odd a in
    let e₁ = then_ok (spanned odd a) (divided_by source g target >>= λ m. settled odd a g target m (source / m) (target / (source / m))) s e in
    let t₁ = tested_ok (none_zero a) OutputZero _ e₁.0 e₁.1 in
    let t₂ = tested_ok (leb (largest l / 128) (least l)) OutputsTooFarApart _ e₁.0 t₁.1 in
    let t₃ = require_ok (ltb (largest l) 560_000_000) OutputTooHigh e₁.0 t₂.1 in
    let e₂ = bind_ok (divided_by source g target) (λ m. settled odd a g target m (source / m) (target / (source / m))) s e₁.2 in
    let t₄ = tested_ok (leb g.start target && leb target g.end) TargetOutside _ e₂.0 e₂.1 in
    settled_good odd a source s w t₁.0 (leb-true _ _ t₂.0) (ltb-true _ _ t₃) (leb-true _ _ (and_left _ _ t₄.0))
    (settled_ok odd a source g target e₂.0 s (found_m _ e₂.0 t₄.1) e₂.2)

running_is : (r : Result PllSettings Refusal) (s : PllSettings) → running r ≡ Ok (Some s) → r ≡ Ok s
running_is (Err n) s e = absurd (let z : ◌≡◌ {A = ℕ} 0 1 = cc in omega arith)
running_is (Ok t) s e = let f : t ≡ s = cc in ap Ok f

-- every PLL that runs
pub pll_good : (odd : Bool) (source : ℕ) (a : PllRequest) (s : PllSettings) → pll_of odd source a ≡ Ok (Some s) → GoodPll a.strategy source s
unfolding pll_of
pll_good odd source a s e = go (wanted a) refl e
  where
    go : (t : Bool) → wanted a ≡ t → cond t (running (runs odd source a)) (Ok None) ≡ Ok (Some s) → GoodPll a.strategy source s
    go true w f = runs_good odd source a s w (running_is (runs odd source a) s f)
    go false w f = absurd (let z : ◌≡◌ {A = ℕ} 0 1 = cc in omega arith)

-- ---- a PLL with P requested reports P
settled_p : (odd : Bool) (a : PllRequest) (g : Range) (target m ref n : ℕ) (s : PllSettings) (h : ℕ) → a.p ≡ Some h → settled odd a g target m ref n ≡ Ok s → (r : ℕ) × (clock_of s.p ≡ Some r)
unfolding settled
settled_p odd a g target m ref n s h w e =
    let e₁ = tested_ok (leb 4 n && leb n 512) NOutside _ s e in
    let e₂ = bind_ok (fraction_of a.strategy ref n (target / first_of a) (first_of a)) (λ f. allowed_p odd (divider_p target a.p) >> Ok (settings_of a g target m ref n f)) s e₁.1 in
    let e₃ = then_ok (allowed_p odd (divider_p target a.p)) (Ok (settings_of a g target m ref n e₂.0)) s e₂.2 in
    let last : Ok (settings_of a g target m ref n e₂.0) ≡ Ok s = e₃.2 in
    let is : settings_of a g target m ref n e₂.0 ≡ s = cc in
    (vco_by e₂.0 ref n / (target / h), sym (ap (λ (x : PllSettings). clock_of x.p) is) ∙ ap (λ (x : Option ℕ). clock_of (output_of target (vco_by e₂.0 ref n) x)) w)

runs_p : (odd : Bool) (source : ℕ) (a : PllRequest) (s : PllSettings) (h : ℕ) → a.p ≡ Some h → runs odd source a ≡ Ok s → (r : ℕ) × (clock_of s.p ≡ Some r)
unfolding runs
runs_p odd source a s h w e =
    let g : Range = range_for odd a in
    let target : ℕ = target_for odd a in
    let e₁ = then_ok (spanned odd a) (divided_by source g target >>= λ m. settled odd a g target m (source / m) (target / (source / m))) s e in
    let e₂ = bind_ok (divided_by source g target) (λ m. settled odd a g target m (source / m) (target / (source / m))) s e₁.2 in
    settled_p odd a g target e₂.0 (source / e₂.0) (target / (source / e₂.0)) s h w e₂.2

running_p : (odd : Bool) (source : ℕ) (a : PllRequest) (h : ℕ) → a.p ≡ Some h → (y : Result PllSettings Refusal) → runs odd source a ≡ y → (x : Option PllSettings) → running y ≡ Ok x → (r : ℕ) × (p_clock x ≡ Some r)
running_p odd source a h w (Err n) y x e = absurd (let z : ◌≡◌ {A = ℕ} 0 1 = cc in omega arith)
running_p odd source a h w (Ok s) y x e =
    let f : Some s ≡ x = cc in
    let g = runs_p odd source a s h w y in
    (g.0, sym (ap p_clock f) ∙ g.1)

pub pll_p : (odd : Bool) (source : ℕ) (a : PllRequest) (x : Option PllSettings) (h : ℕ) → a.p ≡ Some h → pll_of odd source a ≡ Ok x → (r : ℕ) × (p_clock x ≡ Some r)
unfolding pll_of
pll_p odd source a x h w e =
    running_p odd source a h w (runs odd source a) refl x
    (subst (λ (t : Option ℕ). cond (is_some t || (is_some a.q || is_some a.r)) (running (runs odd source a)) (Ok None) ≡ Ok x) w e)
