-- The words that the tree reads, in the bank that a plan's whole list leaves of a bank at reset values.
use Rattle.std.specs.Prelude.{Option, Some, None}
use mathlib.Core.Path.{◌≡◌, refl, ◌∙◌, ap}
use mathlib.Core.Logic.{◌≢◌}
use mathlib.Core.Bool.{Bool, true, false, cond}
use mathlib.Core.List.{List, ◌++◌}
use Prim.Native.Nat.{ℕ, zero, suc, ◌+◌, ◌-◌, ◌*◌, ◌≤◌, ◌<◌}
use native.Mathlib.Omega.{arith}
use lib.ListN.{length, get_or, get_or-append, get_or-replicate, replicate, length-replicate}
use Rattle.types.specs.declared.PllOutput.{PllOutput}
use Rattle.types.specs.declared.PllSettings.{PllSettings}
use Rattle.types.specs.declared.Plan.{Plan}
use Rattle.rules.specs.Document01.Entries.{setting_entries, setup_entries, pll_in, clock_entries, hse_entries, source_entries, output_start, start_entries, bus_entries, plan_entries}
use Rattle.rules.specs.Document01.Bank.{apply_all, reset_bank, reset_rest}
use Rattle.rules.proofs.Document01.Last.{val_all, at_all, put_same}
use Rattle.rules.specs.Manual.Tree.{Output, word, divider, enable}
use Rattle.claims.proofs.Readings.Segments.{own_only, none_own, other_pll, other_field, setup_keeps, start_keeps, source_keeps, hse_keeps, clock_keeps, bus_keeps, setups, starts, whole_val}
use Rattle.claims.proofs.Readings.Own.{divider_word, enable_bit, fracen_bit, own_m, own_n, own_fracen, own_divider, own_enable}
use Rattle.claims.proofs.Readings.Consistent.{setting_of}

unfoldable pub bank_of : Plan → List ℕ
bank_of p = apply_all (plan_entries p) reset_bank

-- ---- the bank at reset values
reset_length : length reset_bank ≡ 82
unfolding reset_bank
reset_length = refl

zeros_first : (n f : ℕ) (t : List ℕ) → f < n → get_or (replicate n 0 ++ t) f 0 ≡ 0
zeros_first n f t h = get_or-append (replicate n 0) t 0 f (rw length-replicate h) ∙ get_or-replicate n f 0 0 h

reset_zero : (f : ℕ) → f < 61 → word reset_bank f ≡ 0
unfolding reset_bank
reset_zero f h = zeros_first 61 f reset_rest h

-- a word after the whole list, by the word before
word_of : (p : Plan) (f : ℕ) → f < 82 → word (bank_of p) f ≡ val_all (plan_entries p) f (word reset_bank f)
unfolding bank_of
word_of p f h = at_all (plan_entries p) reset_bank f (rw reset_length h)

pll_word : (p : Plan) (j k : ℕ) → j < 3 → k < 15 → word (bank_of p) (15 * j + k) ≡ val_all (plan_entries p) (15 * j + k) 0
pll_word p j k a b = word_of p (15 * j + k) (omega arith) ∙ ap (val_all (plan_entries p) (15 * j + k)) (reset_zero (15 * j + k) (omega arith))

-- ---- a PLL's fields: which part of the list decides them
module _ (p : Plan) (j k : ℕ) (j3 : j < 3) where
  abbrev at : ℕ
  at = 15 * j + k

  starts_keep : k < 15 → k ≢ 13 → (d : ℕ) → val_all (starts p 2) at (val_all (starts p 1) at (val_all (starts p 0) at d)) ≡ d
  starts_keep h a d = none_own (starts p) at (λ i e l. start_keeps i (pll_in p i) at e (other_field i j k 13 h (omega arith) a)) d

  setups_keep : k < 15 → 12 ≤ k → (d : ℕ) → val_all (setups p 2) at (val_all (setups p 1) at (val_all (setups p 0) at d)) ≡ d
  setups_keep h a d = none_own (setups p) at (λ i e l. setup_keeps i (pll_in p i) at e (λ x y. other_field i j k x h (omega arith) (omega arith))) d

  -- SRC, HSE and the clocks between
  middle_keeps : k < 15 → k ≢ 12 → (d : ℕ) → val_all (source_entries p.three p.selectors.src) at (val_all (hse_entries p.clocks.hse p.bypass) at (val_all (clock_entries p.waits p.selectors p.mcos) at d)) ≡ d
  middle_keeps h a d =
      source_keeps p.three p.selectors.src at _ (other_field 0 j k 12 h (omega arith) a) (other_field 1 j k 12 h (omega arith) a) (other_field 2 j k 12 h (omega arith) a)
      ∙ hse_keeps p.clocks.hse p.bypass at _ (omega arith) (omega arith) ∙ clock_keeps p at d (omega arith)

  -- fields 0 to 11: the PLL's own list
  own_decides : k < 12 → (d : ℕ) → val_all (plan_entries p) at d ≡ val_all (setups p j) at d
  own_decides h d =
      whole_val p at d ∙ bus_keeps p at _ (omega arith) ∙ starts_keep (omega arith) (omega arith) _ ∙ middle_keeps (omega arith) (omega arith) _
      ∙ own_only (setups p) at j j3 (λ i e n. setup_keeps i (pll_in p i) at e (λ x y. other_pll i j k x n (omega arith) (omega arith))) d

-- SRC
source_decides : (p : Plan) (j : ℕ) → j < 3 → (d : ℕ) → val_all (plan_entries p) (15 * j + 12) d ≡ val_all (source_entries p.three p.selectors.src) (15 * j + 12) d
source_decides p j h d =
    whole_val p (15 * j + 12) d ∙ bus_keeps p (15 * j + 12) _ (omega arith) ∙ starts_keep p j 12 h (omega arith) (omega arith) _
    ∙ ap (val_all (source_entries p.three p.selectors.src) (15 * j + 12))
    (hse_keeps p.clocks.hse p.bypass (15 * j + 12) _ (omega arith) (omega arith) ∙ clock_keeps p (15 * j + 12) _ (omega arith)
    ∙ setups_keep p j 12 h (omega arith) (omega arith) d)

-- ON
start_decides : (p : Plan) (j : ℕ) → j < 3 → (d : ℕ) → val_all (plan_entries p) (15 * j + 13) d ≡ val_all (starts p j) (15 * j + 13) d
start_decides p j h d =
    whole_val p (15 * j + 13) d ∙ bus_keeps p (15 * j + 13) _ (omega arith)
    ∙ own_only (starts p) (15 * j + 13) j h (λ i e n. start_keeps i (pll_in p i) (15 * j + 13) e (other_pll i j 13 13 n (omega arith) (omega arith))) _
    ∙ ap (val_all (starts p j) (15 * j + 13)) (middle_keeps p j 13 h (omega arith) (omega arith) _ ∙ setups_keep p j 13 h (omega arith) (omega arith) d)

-- the third SRC is set where there is a third PLL
abbrev pub src_word : Bool → ℕ → ℕ → ℕ
src_word three src zero = src
src_word three src (suc zero) = src
src_word three src (suc (suc j)) = cond three src 0

source_val : (three : Bool) (src j : ℕ) → j < 3 → val_all (source_entries three src) (15 * j + 12) 0 ≡ src_word three src j
source_val true src zero h = refl
source_val true src (suc zero) h = refl
source_val true src (suc (suc zero)) h = refl
source_val true src (suc (suc (suc j))) h = absurd (omega arith)
source_val false src zero h = refl
source_val false src (suc zero) h = refl
source_val false src (suc (suc zero)) h = refl
source_val false src (suc (suc (suc j))) h = absurd (omega arith)

start_val : (j : ℕ) (o : Option PllOutput) → val_all (output_start j o) (15 * j + 13) 0 ≡ enable_bit o
start_val j None = refl
start_val j (Some o) = put_same (15 * j + 13) 1 0

-- ---- all that the tree reads of a PLL that runs
pub record PllWords (b : List ℕ) (j : ℕ) (s : PllSettings) (src : ℕ) : Type 0 where
  pub m : word b (15 * j + 2) ≡ s.m
  pub n : word b (15 * j + 3) ≡ s.n - 1
  pub fracen : word b (15 * j + 5) ≡ fracen_bit s.fraction
  pub divides : (o : Output) → word b (15 * j + divider o) ≡ divider_word (setting_of o s)
  pub enables : (o : Output) → word b (15 * j + enable o) ≡ enable_bit (setting_of o s)
  pub source : word b (15 * j + 12) ≡ src
  pub on : word b (15 * j + 13) ≡ enable_bit s.p

divider_below : (o : Output) → divider o < 12
divider_below Output.P = omega arith
divider_below Output.Q = omega arith
divider_below Output.R = omega arith

enable_below : (o : Output) → enable o < 12
enable_below Output.P = omega arith
enable_below Output.Q = omega arith
enable_below Output.R = omega arith

-- fields 0 to 11 are what the PLL's own list leaves, and SRC what the list of sources does
pub setup_word : (p : Plan) (j k : ℕ) → j < 3 → k < 12 → word (bank_of p) (15 * j + k) ≡ val_all (setup_entries j (pll_in p j)) (15 * j + k) 0
setup_word p j k j3 h = pll_word p j k j3 (omega arith) ∙ own_decides p j k j3 h 0

pub source_word : (p : Plan) (j : ℕ) → j < 3 → word (bank_of p) (15 * j + 12) ≡ src_word p.three p.selectors.src j
source_word p j j3 = pll_word p j 12 j3 (omega arith) ∙ source_decides p j j3 0 ∙ source_val p.three p.selectors.src j j3

module _ (p : Plan) (j : ℕ) (j3 : j < 3) (s : PllSettings) (is : pll_in p j ≡ Some s) where
  own_word : (k v : ℕ) → k < 12 → val_all (setting_entries j s) (15 * j + k) 0 ≡ v → word (bank_of p) (15 * j + k) ≡ v
  own_word k v h e = setup_word p j k j3 h ∙ ap (λ (x : Option PllSettings). val_all (setup_entries j x) (15 * j + k) 0) is ∙ e

  pub pll_words : PllWords (bank_of p) j s (src_word p.three p.selectors.src j)
  pll_words = record {
    m = own_word 2 _ (omega arith) (own_m j s);
    n = own_word 3 _ (omega arith) (own_n j s);
    fracen = own_word 5 _ (omega arith) (own_fracen j s);
    divides = λ o. own_word (divider o) _ (divider_below o) (own_divider j s o);
    enables = λ o. own_word (enable o) _ (enable_below o) (own_enable j s o);
    source = source_word p j j3;
    on = pll_word p j 13 j3 (omega arith) ∙ start_decides p j j3 0 ∙ ap (λ (x : Option PllSettings). val_all (start_entries j x) (15 * j + 13) 0) is ∙ start_val j s.p;
  }

-- ---- the fields of no PLL
others : (p : Plan) (f d : ℕ) → 45 ≤ f → val_all (plan_entries p) f d ≡ val_all (bus_entries p.buses p.selectors) f (val_all (hse_entries p.clocks.hse p.bypass) f (val_all (clock_entries p.waits p.selectors p.mcos) f d))
others p f d h =
    whole_val p f d
    ∙ ap (val_all (bus_entries p.buses p.selectors) f)
    (none_own (starts p) f (λ i e l. start_keeps i (pll_in p i) f e (omega arith)) _
    ∙ source_keeps p.three p.selectors.src f _ (omega arith) (omega arith) (omega arith)
    ∙ ap (λ (x : ℕ). val_all (hse_entries p.clocks.hse p.bypass) f (val_all (clock_entries p.waits p.selectors p.mcos) f x))
    (none_own (setups p) f (λ i e l. setup_keeps i (pll_in p i) f e (λ x y. omega arith)) d))

-- a field that HSE's entries leave is what the constant segments make of the reset word, which computes
plain : (p : Plan) (f : ℕ) → 45 ≤ f → f < 82 → f ≢ 58 → f ≢ 59 → word (bank_of p) f ≡ val_all (bus_entries p.buses p.selectors) f (val_all (clock_entries p.waits p.selectors p.mcos) f (word reset_bank f))
plain p f l u a b = word_of p f u ∙ others p f _ l ∙ ap (val_all (bus_entries p.buses p.selectors) f) (hse_keeps p.clocks.hse p.bypass f _ a b)

abbrev pub hse_bit : Option ℕ → ℕ
hse_bit None = 0
hse_bit (Some h) = 1

hse_val : (x : Option ℕ) (y : Bool) → val_all (hse_entries x y) 58 0 ≡ hse_bit x
hse_val None y = refl
hse_val (Some h) y = refl

pub record CoreWords (b : List ℕ) (p : Plan) : Type 0 where
  pub lsion : word b 45 ≡ 1
  pub csion : word b 50 ≡ 1
  pub hsi48on : word b 52 ≡ 1
  pub mco1sel : word b 54 ≡ p.selectors.mco1sel
  pub mco1pre : word b 55 ≡ p.mcos.mco1.pre
  pub mco2sel : word b 56 ≡ p.selectors.mco2sel
  pub mco2pre : word b 57 ≡ p.mcos.mco2.pre
  pub hseon : word b 58 ≡ hse_bit p.clocks.hse
  pub hpre : word b 61 ≡ p.buses.ahb.pre
  pub ppre1 : word b 62 ≡ p.buses.apb1.pre
  pub ppre2 : word b 63 ≡ p.buses.apb2.pre
  pub ppre3 : word b 64 ≡ p.buses.apb3.pre
  pub ckpersel : word b 65 ≡ p.selectors.ckpersel
  pub timpre : word b 66 ≡ 0
  pub sw : word b 67 ≡ p.selectors.sw
  pub hsion : word b 76 ≡ 1
  pub hsidiv : word b 77 ≡ 2

pub core_words : (p : Plan) → CoreWords (bank_of p) p
unfolding bus_entries clock_entries reset_bank
core_words p = record {
  lsion = plain p 45 (omega arith) (omega arith) (omega arith) (omega arith);
  csion = plain p 50 (omega arith) (omega arith) (omega arith) (omega arith);
  hsi48on = plain p 52 (omega arith) (omega arith) (omega arith) (omega arith);
  mco1sel = plain p 54 (omega arith) (omega arith) (omega arith) (omega arith);
  mco1pre = plain p 55 (omega arith) (omega arith) (omega arith) (omega arith);
  mco2sel = plain p 56 (omega arith) (omega arith) (omega arith) (omega arith);
  mco2pre = plain p 57 (omega arith) (omega arith) (omega arith) (omega arith);
  hseon = word_of p 58 (omega arith) ∙ others p 58 _ (omega arith) ∙ hse_val p.clocks.hse p.bypass;
  hpre = plain p 61 (omega arith) (omega arith) (omega arith) (omega arith);
  ppre1 = plain p 62 (omega arith) (omega arith) (omega arith) (omega arith);
  ppre2 = plain p 63 (omega arith) (omega arith) (omega arith) (omega arith);
  ppre3 = plain p 64 (omega arith) (omega arith) (omega arith) (omega arith);
  ckpersel = plain p 65 (omega arith) (omega arith) (omega arith) (omega arith);
  timpre = plain p 66 (omega arith) (omega arith) (omega arith) (omega arith);
  sw = plain p 67 (omega arith) (omega arith) (omega arith) (omega arith);
  hsion = plain p 76 (omega arith) (omega arith) (omega arith) (omega arith);
  hsidiv = plain p 77 (omega arith) (omega arith) (omega arith) (omega arith);
}
