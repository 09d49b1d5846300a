-- `write_pll` against document 01, One PLL, refusals 12 to 15, and the entries that set a PLL up.
use Rattle.std.specs.Prelude.{Option, Some, None, Ok, Err, unwrap_or, is_some}
use mathlib.Core.Path.{◌≡◌, refl, sym, ap, ◌∙◌}
use mathlib.Core.List.{List, [], ◌∷◌, ◌++◌, append_assoc, append-nil}
use mathlib.Core.Logic.{◌⊎◌, inl, inr}
use mathlib.Core.Bool.{Bool, true, false, ◌&&◌, ◌||◌}
use Prim.Native.Nat.{ℕ, ◌+◌, ◌-◌, ◌*◌, ◌/◌, ◌%◌, ◌≤◌, ◌<◌}
use native.Mathlib.Omega.{arith}
use native.Mathlib.Nat.{mod-eq_of_lt, mul-div-le, div-div-eq-div-mul}
use lib.Dec.{leb, eqb, leb-suc-suc}
use lib.Ieee.{le}
use borrow.Author.Tests.{leb-true, leb-false, le-leb, lt-ltb, eqb-false}
use Rattle.std.specs.Option.{option_or}
use Rattle.types.specs.declared.Entry.{Entry}
use Rattle.types.specs.declared.Entry.TheVariants.{Set}
use Rattle.types.specs.declared.Strategy.{Strategy}
use Rattle.types.specs.declared.Strategy.TheVariants.{Integer, Fractional}
use Rattle.types.specs.declared.PllRequest.{PllRequest}
use Rattle.types.specs.declared.PllSettings.{PllSettings}
use Rattle.types.specs.declared.Refusal.{Refusal}
use Rattle.types.specs.declared.Refusal.TheVariants.{PDividerAbove128, PDividerOdd}
use Rattle.ieee754.specs.Steps.{float, fracn_float, fracn_of, vco_of}
use Rattle.rules.specs.Document01.Result as Rules
use Rattle.rules.specs.Document01.Fields
use Rattle.rules.specs.Document01.Fields.{of_pll}
use Rattle.rules.specs.Document01.OnePll.{wanted, counted_p, Range, range_for, target_for, rge_of, first_of, fraction_of, vco_by, output_of, divider_p, allowed_p, settings_of, settled, clock_of}
use Rattle.rules.specs.Document01.Entries.{output_entries, fraction_entries, setting_entries}
use Rattle.claims.proofs.Legal.OnePll.{Divides, SomeDivider, divides_p}
use Rattle.claims.specs.Rust.Run.{Outcome, ends, continue, as_u8}
use Rattle.claims.specs.Rust.CoreClocks.{PllClocks}
use Rattle.claims.specs.Rust.Pll.{rge, pll_divider_setup, calc_fracn, calc_vco_ck, vco_ck_of, write_pll}
use Rattle.rules.specs.Manual.PllFields.{allows_p}
use Rattle.claims.specs.Demands.Agreement.{Refused14, Refused15, divider_for, Forbidden, WrittenAt}
use Rattle.laws.proofs.Tests.{by_test, never, row}
use Rattle.claims.proofs.Agreement.Keeps.{Keeps, ending, follows, output, laws}
use Rattle.claims.proofs.Agreement.Agree.{Agree, AgreeOr, agree_then_depart, written_still, departed}
use Rattle.claims.proofs.Agreement.Numbers.{nonzero}
use Rattle.claims.proofs.Agreement.Setup.{output_rust, setup_of}

-- RGE: the match ranges against the rows
pub rge_is : (ref : ℕ) → 1_000_000 ≤ ref → rge ref ≡ rge_of ref
rge_is ref h =
    rw (leb-suc-suc ref 1_999_999, leb-suc-suc ref 3_999_999, leb-suc-suc ref 7_999_999)
    (row (λ r. r) ref 1_999_999 0 _ _ 1_000_000 h
    (λ g1. row (λ r. r) ref 3_999_999 1 _ _ 2_000_000 g1
    (λ g2. row (λ r. r) ref 7_999_999 2 3 _ 4_000_000 g2 (λ g4. refl))))

-- ---- an output: its divider is from 1 to 128
pub output_ends : (field enable vco target : ℕ) (h : Option ℕ) (es : List Entry) → Divides target h → pll_divider_setup field enable vco (output_rust target h) es ≡ ends (es ++ output_entries field enable (output_of target vco h)) (clock_of (output_of target vco h))
unfolding pll_divider_setup
output_ends field enable vco target None es d = refl
output_ends field enable vco target (Some h) es d =
    let one : 1 ≤ target / h = d.0 in
    let most : target / h ≤ 128 = d.1 in
    let u : (target / h - 1) % 256 ≡ target / h - 1 = mod-eq_of_lt (omega arith) in
    rw (le-leb 1 (target / h) one, nonzero (target / h) one, u, append_assoc es (Set field (target / h - 1) ∷ []) (Set enable 1 ∷ []))

-- ---- FRACN and the VCO
abbrev VcoSame : ℕ → ℕ → ℕ → List Entry → Option ℕ → List Entry → ℕ → Type 0
VcoSame k ref n es f es' v = (es' ≡ es ++ fraction_entries k f) × (v ≡ vco_by f ref n)

module _ (k ref n d o : ℕ) (es : List Entry) where
  whole_agrees : ref * n < 4_294_967_296 → Agree (VcoSame k ref n es) (fraction_of Integer ref n d o) (vco_ck_of k Integer ref n (Some (record { ck = o; div = d })) es)
  unfolding vco_ck_of
  whole_agrees h = rw (lt-ltb (ref * n) 4_294_967_296 h) (sym (append-nil es), refl)

  part_agrees : Agree (VcoSame k ref n es) (fraction_of Fractional ref n d o) (vco_ck_of k Fractional ref n (Some (record { ck = o; div = d })) es)
  unfolding vco_ck_of calc_fracn calc_vco_ck fracn_of vco_of
  part_agrees =
      by_test (le (float 0) (fracn_float (float ref) (float n) (float d) (float o)))
      (λ (s : le (float 0) (fracn_float (float ref) (float n) (float d) (float o)) ≡ true).
      by_test (le (fracn_float (float ref) (float n) (float d) (float o)) (float 8191))
      (λ (t : le (fracn_float (float ref) (float n) (float d) (float o)) (float 8191) ≡ true). rw (s, t) (simp append_assoc, refl))
      (λ (f : le (fracn_float (float ref) (float n) (float d) (float o)) (float 8191) ≡ false). rw (s, f) tt))
      (λ (f : le (float 0) (fracn_float (float ref) (float n) (float d) (float o)) ≡ false). rw f tt)

  pub vco_agrees : (s : Strategy) → ref * n < 4_294_967_296 → Agree (VcoSame k ref n es) (fraction_of s ref n d o) (vco_ck_of k s ref n (Some (record { ck = o; div = d })) es)
  vco_agrees Integer h = whole_agrees h
  vco_agrees Fractional h = part_agrees

-- the first requested of P, Q, R
pub first_is : (target : ℕ) (p q r : Option ℕ) → is_some p || (is_some q || is_some r) ≡ true → option_or (output_rust target p) (option_or (output_rust target q) (output_rust target r)) ≡ Some (record { ck = unwrap_or (option_or p (option_or q r)) 0; div = target / unwrap_or (option_or p (option_or q r)) 0 })
first_is target (Some p) q r w = refl
first_is target None (Some q) r w = refl
first_is target None None (Some r) w = refl
first_is target None None None w = absurd (let z : ◌≡◌ {A = ℕ} 0 1 = cc in omega arith)

-- ---- refusals 14 and 15: a divider that is forbidden
-- the divider of P as it counts is at most 128
abbrev pub CountedDivides : Bool → ℕ → Option ℕ → Type 0
CountedDivides odd target None = Unit {0}
CountedDivides odd target (Some h) = target / counted_p odd h ≤ 128

-- 14: odd dividers are forbidden, and the divider is at most 257
above_by : (odd : Bool) (target : ℕ) (h : Option ℕ) → CountedDivides odd target h → leb (divider_p target h) 128 ≡ false → (is_some h ≡ true) × (odd ≡ false) × (128 < divider_p target h) × (divider_p target h ≤ 257)
above_by odd target None c t = absurd (never t)
above_by true target (Some h) c t = absurd (let l = leb-false (target / h) 128 t in omega arith)
above_by false target (Some h) c t =
    let half : target / h / 2 ≤ 128 = rw div-div-eq-div-mul c in
    (refl, refl, leb-false (target / h) 128 t, omega arith)

pub above_why : (odd : Bool) (a : PllRequest) → CountedDivides odd (target_for odd a) a.p → leb (divider_for odd a) 128 ≡ false → Forbidden odd a PDividerAbove128
above_why odd a c t = let b = above_by odd (target_for odd a) a.p c t in record { asked = b.0; even = b.1; which = inl (refl, b.2, b.3) }

-- 15
odd_by : (odd : Bool) (target : ℕ) (h : Option ℕ) → odd || eqb (divider_p target h % 2) 0 ≡ false → (is_some h ≡ true) × (odd ≡ false) × (divider_p target h % 2 ≡ 1)
odd_by true target h s = absurd (never s)
odd_by false target None s = absurd (never s)
odd_by false target (Some h) s = (refl, refl, let e = eqb-false (target / h % 2) 0 s in omega arith)

pub odd_why : (odd : Bool) (a : PllRequest) → leb (divider_for odd a) 128 ≡ true → odd || eqb (divider_for odd a % 2) 0 ≡ false → Forbidden odd a PDividerOdd
odd_why odd a t s = let b = odd_by odd (target_for odd a) a.p s in record { asked = b.0; even = b.1; which = inr (refl, leb-true (divider_for odd a) 128 t, b.2) }

-- the manual forbids what is written for it. 15: the field holds the divider less 1
odd_forbidden : (d : ℕ) → d ≤ 128 → d % 2 ≡ 1 → allows_p false (as_u8 (d - 1)) ≡ false
odd_forbidden d most o =
    let u : (d - 1) % 256 ≡ d - 1 = mod-eq_of_lt (omega arith) in
    let e : d - 1 + 1 ≡ d = omega arith in
    rw (u, e, le-leb (d - 1) 127 (omega arith), o)

-- 14: the field holds 128 or more, or 0, for a divider of 1, where 256 is cut to 8 bits
above_forbidden : (d : ℕ) → 128 < d → d ≤ 257 → allows_p false (as_u8 (d - 1)) ≡ false
above_forbidden d low most =
    by_test (leb ((d - 1) % 256) 127)
    (λ (t : leb ((d - 1) % 256) 127 ≡ true). let z : (d - 1) % 256 ≡ 0 = let l = leb-true ((d - 1) % 256) 127 t in omega arith in rw z)
    (λ (f : leb ((d - 1) % 256) 127 ≡ false). rw f)

why_forbids : (odd : Bool) (a : PllRequest) (n : Refusal) → Forbidden odd a n → allows_p odd (as_u8 (divider_for odd a - 1)) ≡ false
why_forbids odd a n w = go odd (divider_for odd a) w.even w.which
  where
    go : (o : Bool) (d : ℕ) → o ≡ false → Refused14 n d ⊎ Refused15 n d → allows_p o (as_u8 (d - 1)) ≡ false
    go o d e (inl x) = rw e (above_forbidden d x.1 x.2)
    go o d e (inr x) = rw e (odd_forbidden d x.1 x.2)

-- it is written, and that is a departure
writes_wrong : (k vco : ℕ) (odd : Bool) (a : PllRequest) (n : Refusal) (es : List Entry) → Forbidden odd a n → (target : ℕ) (h : Option ℕ) → divider_p target h ≡ divider_for odd a → is_some h ≡ true → SomeDivider target h
    → Keeps (WrittenAt k odd a n) (pll_divider_setup (of_pll k Fields.P) (of_pll k Fields.PEN) vco (output_rust target h) es)
unfolding pll_divider_setup
writes_wrong k vco odd a n es why target None is t d = absurd (never (sym t))
writes_wrong k vco odd a n es why target (Some h) is t d =
    rw (le-leb 1 (target / h) d, nonzero (target / h) d)
    (ending (record {
      why = why;
      before = es;
      after = Set (of_pll k Fields.PEN) 1 ∷ [];
      written = append_assoc es (Set (of_pll k Fields.P) (as_u8 (target / h - 1)) ∷ []) (Set (of_pll k Fields.PEN) 1 ∷ []) ∙ ap (λ (x : ℕ). es ++ (Set (of_pll k Fields.P) (as_u8 (x - 1)) ∷ Set (of_pll k Fields.PEN) 1 ∷ [])) is;
      forbidden = why_forbids odd a n why;
    }))

-- ---- refusals 12 to 15, and all that is written
abbrev pub setting_clocks : PllSettings → PllClocks
setting_clocks s = record { p_ck = clock_of s.p; q_ck = clock_of s.q; r_ck = clock_of s.r }

abbrev pub SameSettings : ℕ → List Entry → PllSettings → List Entry → PllClocks → Type 0
SameSettings k es s es' c = (es' ≡ es ++ setting_entries k s) × (c ≡ setting_clocks s)

module _ (k source : ℕ) (a : PllRequest) (odd : Bool) (m : ℕ) (es0 : List Entry) (w : wanted a ≡ true) (small : target_for odd a < 2_147_483_648) (m63 : m ≤ 63) (ref1 : 1_000_000 ≤ source / m) (dp : SomeDivider (target_for odd a) a.p) (cp : CountedDivides odd (target_for odd a) a.p) (dq : Divides (target_for odd a) a.q) (dr : Divides (target_for odd a) a.r) where
  abbrev g : Range
  g = range_for odd a

  abbrev target : ℕ
  target = target_for odd a

  abbrev ref : ℕ
  ref = source / m

  abbrev n : ℕ
  n = target / ref

  -- VCOSEL and RGE are written
  abbrev es2 : List Entry
  es2 = (es0 ++ (Set (of_pll k Fields.VCOSEL) g.vcosel ∷ [])) ++ (Set (of_pll k Fields.RGE) (rge ref) ∷ [])

  -- M and N too
  abbrev es4 : List Entry
  es4 = (es2 ++ (Set (of_pll k Fields.M) m ∷ [])) ++ (Set (of_pll k Fields.N) (n - 1) ∷ [])

  abbrev Goal : Type 0
  Goal = AgreeOr (WrittenAt k odd a) (SameSettings k es0) (settled (odd) a g target m ref n) (write_pll k a.strategy (setup_of source a g target m) es2)

  n_outside : leb 4 n && leb n 512 ≡ false → Goal
  unfolding settled write_pll
  n_outside f =
      by_test (leb 4 n)
      (λ (s : leb 4 n ≡ true). let e : leb n 512 ≡ false = rw s at f in rw (nonzero ref (omega arith), s, e) tt)
      (λ (s : leb 4 n ≡ false). rw (nonzero ref (omega arith), s) tt)

  -- all is allowed: the outputs are written
  abbrev outputs : Option ℕ → Outcome PllClocks
  outputs f =
      continue (pll_divider_setup (of_pll k Fields.P) (of_pll k Fields.PEN) (vco_by f ref n) (output_rust target a.p) (es4 ++ fraction_entries k f)) (λ p es.
      continue (pll_divider_setup (of_pll k Fields.Q) (of_pll k Fields.QEN) (vco_by f ref n) (output_rust target a.q) es) (λ q es.
      continue (pll_divider_setup (of_pll k Fields.R) (of_pll k Fields.REN) (vco_by f ref n) (output_rust target a.r) es) (λ r es. ends es (record { p_ck = p; q_ck = q; r_ck = r }))))

  abbrev settings : Option ℕ → PllSettings
  settings f = settings_of a g target m ref n f

  written : (f : Option ℕ) → Divides target a.p → outputs f ≡ ends (es0 ++ setting_entries k (settings f)) (setting_clocks (settings f))
  unfolding setting_entries
  written f d =
      rw (
        output_ends (of_pll k Fields.P) (of_pll k Fields.PEN) (vco_by f ref n) target a.p (es4 ++ fraction_entries k f) d,
        output_ends (of_pll k Fields.Q) (of_pll k Fields.QEN) (vco_by f ref n) target a.q ((es4 ++ fraction_entries k f) ++ output_entries (of_pll k Fields.P) (of_pll k Fields.PEN) (output_of target (vco_by f ref n) a.p)) dq,
        output_ends (of_pll k Fields.R) (of_pll k Fields.REN) (vco_by f ref n) target a.r (((es4 ++ fraction_entries k f) ++ output_entries (of_pll k Fields.P) (of_pll k Fields.PEN) (output_of target (vco_by f ref n) a.p)) ++ output_entries (of_pll k Fields.Q) (of_pll k Fields.QEN) (output_of target (vco_by f ref n) a.q)) dr,
        rge_is ref ref1,
      )
      (ap (λ (l : List Entry). ends l (setting_clocks (settings f))) (simp append_assoc))

  -- 14 and 15 are departures
  departs : (f : Option ℕ) (x : Refusal) → Forbidden odd a x → AgreeOr (WrittenAt k odd a) (SameSettings k es0) (Err x) (outputs f)
  departs f x why =
      departed (WrittenAt k odd a) (SameSettings k es0) x
      (follows (WrittenAt k odd a x) (written_still k odd a x) _ (writes_wrong k (vco_by f ref n) odd a x (es4 ++ fraction_entries k f) why target a.p refl why.asked dp) (λ p es d. search (laws, output, written_still k odd a x)))

  allowed_agrees : (f : Option ℕ) → AgreeOr (WrittenAt k odd a) (SameSettings k es0) (Rules.◌>>◌ (allowed_p odd (divider_p target a.p)) (Ok (settings f))) (outputs f)
  allowed_agrees f =
      by_test (leb (divider_p target a.p) 128)
      (λ (t : leb (divider_p target a.p) 128 ≡ true).
      by_test (odd || eqb (divider_p target a.p % 2) 0)
      (λ (s : odd || eqb (divider_p target a.p % 2) 0 ≡ true). rw (t, s, written f (divides_p target a.p dp t)) (refl, refl))
      (λ (s : odd || eqb (divider_p target a.p % 2) 0 ≡ false). rw (t, s) (departs f PDividerOdd (odd_why odd a t s))))
      (λ (t : leb (divider_p target a.p) 128 ≡ false). rw t (departs f PDividerAbove128 (above_why odd a cp t)))

  n_inside : leb 4 n && leb n 512 ≡ true → Goal
  unfolding settled write_pll
  n_inside t =
      by_test (leb 4 n)
      (λ (s : leb 4 n ≡ true).
      let e : leb n 512 ≡ true = rw s at t in
      let l : n ≤ 512 = leb-true n 512 e in
      let um : m % 256 ≡ m = mod-eq_of_lt (omega arith) in
      let un : (n - 1) % 65_536 ≡ n - 1 = mod-eq_of_lt (omega arith) in
      let fits : ref * n < 4_294_967_296 = let x : ref * n ≤ target = mul-div-le target ref in omega arith in
      rw (nonzero ref (omega arith), s, e, um, un, first_is target a.p a.q a.r w)
      (agree_then_depart (VcoSame k ref n es4) (SameSettings k es0) (fraction_of a.strategy ref n (target / first_of a) (first_of a)) (vco_ck_of k a.strategy ref n (Some (record { ck = first_of a; div = target / first_of a })) es4) _ _ (WrittenAt k odd a) (vco_agrees k ref n (target / first_of a) (first_of a) es4 a.strategy fits)
      (λ f es1 v h. rw (h.0, h.1) (allowed_agrees f))))
      (λ (s : leb 4 n ≡ false). absurd (let e : false ≡ true = rw s at t in let z : ◌≡◌ {A = ℕ} 0 1 = cc in omega arith))

  pub settled_agrees : Goal
  settled_agrees = by_test (leb 4 n && leb n 512) n_inside n_outside
