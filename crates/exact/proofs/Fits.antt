-- No plan has a number above 64 bits: the fractions of the bank that its whole list leaves of a bank at reset values show as they are.
use Rattle.std.specs.Prelude.{Option, Some, None, Ok}
use mathlib.Core.Path.{◌≡◌, refl, sym, subst, ap}
use mathlib.Core.Bool.{true, false}
use mathlib.Core.List.{List, [], ◌∷◌}
use Prim.Native.Nat.{ℕ, zero, suc, ◌+◌, ◌*◌, ◌/◌, ◌≤◌, ◌<◌}
use native.Mathlib.Nat.{le_trans, mul-le-mul, div-le_self}
use native.Mathlib.Omega.{arith}
use lib.Dec.{leb}
use lib.ListN.{get_or}
use borrow.Author.Tests.{leb-true, leb-false}
use Rattle.types.specs.declared.Request.{Request}
use Rattle.types.specs.declared.ChipState.{ChipState}
use Rattle.types.specs.declared.Plan.{Plan}
use Rattle.laws.proofs.Tests.{by_test, either}
use Rattle.rules.specs.Document01.Plan.{chosen_plan}
use Rattle.rules.specs.Document01.Entries.{plan_entries}
use Rattle.rules.specs.Document01.Bank.{apply_all, reset_bank}
use Rattle.rules.specs.Manual.Path.{PllName, pll1, pll2, Path, num, den, extend}
use Rattle.rules.specs.Manual.Tree
use Rattle.rules.specs.Manual.Tree.{Oscillator, off, runs, Chain, none, along, Output, P, Q, R, Clock, sys, hclk, pclk1, pclk2, pclk3, timx, timy, per, hsi, csi, hsi48, lsi, hse, mco1, mco2, output, number, divider, enable, word, pll_word, from_oscillator, switched, gated, over, among, vco_by, timer_by, path_of}
use Rattle.exact.specs.declared.Exact.{Exact}
use Rattle.rules.specs.Manual.Tree.{fed_by}
use Rattle.rules.proofs.Manual.Codes.{by_timer}
use Rattle.exact.specs.Exact.{cap, reading_of}
use Rattle.exact.proofs.Cap.{max, cap_fits, cap_full}
use Rattle.exact.proofs.Chains.{over_scaled}
use Rattle.exact.proofs.Within.{pll_limit, under, Within, number_below, own_limit, plan_within}

-- ---- a chain whose two numbers show as at most top and d, and an oscillator of 32 bits
abbrev top : ℕ
top = 4_294_967_296 * (8192 * 513)

data Small (d : ℕ) : Chain → Type 0 where
  nothing : Small d none
  path : {p : Path} → cap (num p) ≤ top → cap (den p) ≤ d → Small d (along p)

data Slow : Oscillator → Type 0 where
  stopped : Slow off
  slow : {h : ℕ} → h < 4_294_967_296 → Slow (runs h)

cap_most : (n : ℕ) {m : ℕ} → n ≤ m → cap n ≤ m
unfolding cap
cap_most n h =
    by_test (leb n max) (λ (t : leb n max ≡ true). rw t h) (λ (f : leb n max ≡ false). rw f (omega (arith, leb-false n max f)))

wider : {d e : ℕ} {c : Chain} → d ≤ e → Small d c → Small e c
wider l nothing = nothing
wider l (path h k) = path h (le_trans k l)

-- ---- the steps
-- the highest denominator of an output
abbrev outputs : ℕ
outputs = 63 * 8192 * 128

-- the two numbers that show
abbrev num_shown : Option Exact → ℕ
num_shown None = 0
num_shown (Some x) = x.numerator

abbrev den_shown : Option Exact → ℕ
den_shown None = 0
den_shown (Some x) = x.denominator

over_small : {e d : ℕ} {c : Chain} (m : ℕ) → m ≤ d → Small e c → Small (e * d) (over c m)
over_small m l nothing = nothing
over_small zero l (path h k) = nothing
over_small (suc m) l (path {p} h k) =
    let e = over_scaled (along p) (suc m) (omega arith) in
    let n : cap (num (extend p (suc m))) ≡ cap (cap (num p) * 1) = sym (ap num_shown e) in
    let d : cap (den (extend p (suc m))) ≡ cap (cap (den p) * suc m) = sym (ap den_shown e) in
    path {p = extend p (suc m)} (rw n (cap_most (cap (num p) * 1) (omega arith))) (rw d (cap_most (cap (den p) * suc m) (mul-le-mul k l)))

gated_small : {d : ℕ} (on : ℕ) {c : Chain} → Small d c → Small d (gated on c)
gated_small zero h = nothing
gated_small (suc on) h = h

timer_small : {d : ℕ} (t ppre : ℕ) {c : Chain} → ppre ≤ 16 → Small d c → Small (d * 16) (timer_by t ppre c)
timer_small {d} t ppre l h =
    by_timer (Small (d * 16)) t ppre (wider (omega arith) h) (over_small (ppre / 2) (omega arith) h) (over_small (ppre / 4) (omega arith) h) nothing

switched_slow : (w : ℕ) {o : Oscillator} → Slow o → Slow (switched w o)
switched_slow zero h = stopped
switched_slow (suc w) h = h

oscillates : {o : Oscillator} → Slow o → Small outputs (from_oscillator o)
unfolding num den
oscillates stopped = nothing
oscillates (slow {h} l) = path (cap_most h (omega arith)) (cap_most 1 (omega arith))

times : (h x : ℕ) → h < 4_294_967_296 → x ≤ 8192 * 513 → cap (h * x) ≤ top
times h x l m = cap_most (h * x) (mul-le-mul {n₂ = 4_294_967_296} {m₂ = 8192 * 513} (omega arith) m)

vco_small : (j : PllName) {o : Oscillator} (m n e f : ℕ) → Slow o → m ≤ 63 → n ≤ 512 → f ≤ 8191 → Small (63 * 8192) (vco_by j o m n e f)
unfolding num den
vco_small j m n e f stopped a b c = nothing
vco_small j zero n e f (slow l) a b c = nothing
vco_small j (suc m) n zero f (slow {h} l) a b c = path (times h n l (omega arith)) (cap_most (suc m * 1) (omega arith))
vco_small j (suc m) n (suc e) f (slow {h} l) a b c = path (times h (8192 * n + f) l (omega arith)) (cap_most (suc m * 8192) (omega arith))

-- what a selector picks
infixr 5 ◌also◌
data Every {A : Type 0} (F : A → Type 0) : List A → Type 0 where
  end : Every F []
  ◌also◌ : {x : A} {xs : List A} → F x → Every F xs → Every F (x ∷ xs)

picked : {A : Type 0} (F : A → Type 0) {xs : List A} (w : ℕ) (d : A) → F d → Every F xs → F (get_or xs w d)
picked F w d k end = k
picked F zero d k (h also hs) = h
picked F (suc w) d k (h also hs) = picked F w d k hs

-- ---- the tree of a bank within the limits
module _ (b : List ℕ) (fed : Oscillator) (w : Within b) (fed_slow : Slow fed) where
  hsi_slow : Slow (Tree.hsi_of b fed)
  unfolding Tree.hsi_of
  hsi_slow =
      switched_slow (word b 76)
      (either Slow (among (1 ∷ 2 ∷ 4 ∷ 8 ∷ []) (word b 77)) _ _ (slow (omega (arith, div-le_self 64_000_000 (word b 77)))) stopped)

  csi_slow : Slow (Tree.csi_of b fed)
  unfolding Tree.csi_of
  csi_slow = switched_slow (word b 50) (slow (omega arith))

  hsi48_slow : Slow (Tree.hsi48_of b fed)
  unfolding Tree.hsi48_of
  hsi48_slow = switched_slow (word b 52) (slow (omega arith))

  lsi_slow : Slow (Tree.lsi_of b fed)
  unfolding Tree.lsi_of
  lsi_slow = switched_slow (word b 45) (slow (omega arith))

  hse_slow : Slow (Tree.hse_of b fed)
  unfolding Tree.hse_of
  hse_slow = switched_slow (word b 58) fed_slow

  source_slow : (j : PllName) → Slow (Tree.source_of b fed j)
  unfolding Tree.source_of
  source_slow j = picked Slow (pll_word b j 12) off stopped (stopped also hsi_slow also csi_slow also hse_slow also end)

  own_word : (j : PllName) (i : ℕ) → i < 15 → under (pll_limit i) (pll_word b j i) ≡ true
  own_word j i l = let n = number_below j in rw (own_limit j i l) at (w.at (15 * number j + i) (omega arith))

  divider_most : (j : PllName) (o : Output) → pll_word b j (divider o) ≤ 127
  divider_most j P = leb-true _ 127 (own_word j 6 (omega arith))
  divider_most j Q = leb-true _ 127 (own_word j 8 (omega arith))
  divider_most j R = leb-true _ 127 (own_word j 10 (omega arith))

  output_small : (j : PllName) (o : Output) → Small outputs (Tree.output_of b fed j o)
  unfolding Tree.output_of Tree.vco_of
  output_small j o =
      let m : pll_word b j 2 ≤ 63 = leb-true _ 63 (own_word j 2 (omega arith)) in
      let n : pll_word b j 3 ≤ 511 = leb-true _ 511 (own_word j 3 (omega arith)) in
      let f : pll_word b j 4 ≤ 8191 = leb-true _ 8191 (own_word j 4 (omega arith)) in
      let vco = vco_small j (pll_word b j 2) (pll_word b j 3 + 1) (pll_word b j 5) (pll_word b j 4) (source_slow j) m (omega arith) f in
      gated_small (pll_word b j 13) (gated_small (pll_word b j (enable o))
      (over_small {d = 128} (pll_word b j (divider o) + 1) (omega (arith, divider_most j o)) vco))

  sys_small : Small outputs (Tree.sys_of b fed)
  unfolding Tree.sys_of
  sys_small =
      picked (Small outputs) (word b 67) none nothing
      (oscillates hsi_slow also oscillates csi_slow also oscillates hse_slow also output_small pll1 P also end)

  ahb_small : Small (outputs * 512) (Tree.ahb_of b fed)
  unfolding Tree.ahb_of
  ahb_small = over_small (word b 61) (leb-true _ 512 (w.at 61 (omega arith))) sys_small

  -- a clock before AHB, and one that an MCO divides
  early : {c : Chain} → Small outputs c → Small (outputs * 512 * 16) c
  early h = wider (omega arith) h

  mco_small : (s : ℕ) {cs : List Chain} (m : ℕ) → m ≤ 15 → Every (Small outputs) cs → Small (outputs * 512 * 16) (over (get_or cs s none) m)
  mco_small s m l h = wider (omega arith) (over_small m l (picked (Small outputs) s none nothing h))

  clock_small : (k : Clock) → Small (outputs * 512 * 16) (path_of b fed k)
  unfolding path_of Tree.per_of Tree.mco1_of Tree.mco2_of
  clock_small sys = early sys_small
  clock_small hclk = wider (omega arith) ahb_small
  clock_small pclk1 = over_small (word b 62) (leb-true _ 16 (w.at 62 (omega arith))) ahb_small
  clock_small pclk2 = over_small (word b 63) (leb-true _ 16 (w.at 63 (omega arith))) ahb_small
  clock_small pclk3 = over_small (word b 64) (leb-true _ 16 (w.at 64 (omega arith))) ahb_small
  clock_small timx = timer_small (word b 66) (word b 62) (leb-true _ 16 (w.at 62 (omega arith))) ahb_small
  clock_small timy = timer_small (word b 66) (word b 63) (leb-true _ 16 (w.at 63 (omega arith))) ahb_small
  clock_small per =
      early (picked (Small outputs) (word b 65) none nothing (oscillates hsi_slow also oscillates csi_slow also oscillates hse_slow also end))
  clock_small hsi = early (oscillates hsi_slow)
  clock_small csi = early (oscillates csi_slow)
  clock_small hsi48 = early (oscillates hsi48_slow)
  clock_small lsi = early (oscillates lsi_slow)
  clock_small hse = early (oscillates hse_slow)
  clock_small mco1 =
      mco_small (word b 54) (word b 55) (leb-true _ 15 (w.at 55 (omega arith)))
      (oscillates hsi_slow also nothing also oscillates hse_slow also output_small pll1 Q also oscillates hsi48_slow also end)
  clock_small mco2 =
      mco_small (word b 56) (word b 57) (leb-true _ 15 (w.at 57 (omega arith)))
      (sys_small also output_small pll2 P also oscillates hse_slow also output_small pll1 P
      also oscillates csi_slow also oscillates lsi_slow also end)
  clock_small (output j o) = early (output_small j o)

-- ---- what shows below the last number of 64 bits is the number itself
shows : (n : ℕ) {m : ℕ} → cap n ≤ m → m < max → cap n ≡ n
shows n h l =
    by_test (leb n max)
    (λ (t : leb n max ≡ true). sym (cap_fits n (leb-true n max t)))
    (λ (f : leb n max ≡ false). absurd (let g = leb-false n max f in omega (arith, cap_full n (omega arith))))

-- a clock that shows as these two numbers
abbrev pub exactly : ℕ → ℕ → Option Exact
exactly n d = Some (record { numerator = n; denominator = d })

both_show : {p : Path} → Small (outputs * 512 * 16) (along p) → reading_of (along p) ≡ exactly (num p) (den p)
both_show (path {p} h k) = rw (shows (num p) h (omega arith), shows (den p) k (omega arith))

-- no plan has a number above 64 bits: the tree's exact fractions of the bank that its list leaves show as they are
pub no_plan_is_capped :
    (q : Request) (c : ChipState) (x : Plan) → chosen_plan q c ≡ Ok x → ((h : ℕ) → q.hse ≡ Some h → h < 4_294_967_296) →
    (k : Clock) (p : Path) → path_of (apply_all (plan_entries x) reset_bank) (fed_by q.hse) k ≡ along p →
    reading_of (along p) ≡ exactly (num p) (den p)
no_plan_is_capped q c x a h k p e =
    both_show (subst (Small (outputs * 512 * 16)) e (clock_small _ (fed_by q.hse) (plan_within q c x a) (fed_slow q.hse h) k))
  where
    fed_slow : (x : Option ℕ) → ((h : ℕ) → x ≡ Some h → h < 4_294_967_296) → Slow (fed_by x)
    fed_slow None l = stopped
    fed_slow (Some h) l = slow (l h refl)
