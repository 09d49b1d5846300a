-- pll.rs, from the top, with its names.
use Rattle.std.specs.Prelude.{List, [], ◌∷◌, ◌++◌, Bool, true, false, cond, ◌&&◌, ℕ, zero, suc, ◌-◌, ◌/◌, min, max, leb, ltb, eqb, ℤ, Float, Option, Some, None, is_some}
use Rattle.std.specs.Int.Signed.{lt_z}
use Rattle.std.specs.Float.{binary32}
use Rattle.std.specs.Float.Ieee.{add, sub, mul, div, le, to_unsigned}
use Rattle.std.specs.Option.{option_or}
use Rattle.types.specs.declared.Entry.TheVariants.{Set}
use Rattle.types.specs.declared.Strategy.{Strategy}
use Rattle.types.specs.declared.Strategy.TheVariants.{Integer, Fractional}
use Rattle.ieee754.specs.Steps.{float}
use Rattle.rules.specs.Document01.Fields
use Rattle.rules.specs.Document01.Fields.{of_pll}
use Rattle.claims.specs.Rust.CoreClocks.{PllClocks}
use Rattle.claims.specs.Rust.Run as Rust
use Rattle.claims.specs.Rust.Run.{Run, ◌>>=◌, ◌>>◌, return, panic, assert, modify, div_ceil, as_u8, as_u16, as_i32, sub_i32, contains}

-- const PLL_N_MIN
abbrev pub PLL-N-MIN : ℕ
PLL-N-MIN = 4

-- const PLL_N_MAX
abbrev pub PLL-N-MAX : ℕ
PLL-N-MAX = 512

-- const PLL_OUT_DIV_MAX
abbrev pub PLL-OUT-DIV-MAX : ℕ
PLL-OUT-DIV-MAX = 128

-- const PLL_M_MAX
abbrev pub PLL-M-MAX : ℕ
PLL-M-MAX = 63

-- struct PllConfig
pub record PllConfig : Type 0 where
  pub strategy : Strategy
  pub p_ck : Option ℕ
  pub q_ck : Option ℕ
  pub r_ck : Option ℕ

-- struct VcoRange
pub record VcoRange : Type 0 where
  pub output_start : ℕ
  pub output_end : ℕ
  pub input_start : ℕ
  pub input_end : ℕ
  pub vcosel : ℕ

-- const VCO_RANGE_MEDIUM
abbrev pub VCO-RANGE-MEDIUM : VcoRange
VCO-RANGE-MEDIUM = record { output_start = 150_000_000; output_end = 420_000_000; input_start = 1_000_000; input_end = 2_000_000; vcosel = 1 }

-- const VCO_RANGE_WIDE
abbrev pub VCO-RANGE-WIDE : VcoRange
VCO-RANGE-WIDE = record { output_start = 128_000_000; output_end = 560_000_000; input_start = 2_000_000; input_end = 16_000_000; vcosel = 0 }

-- struct PllOutput
pub record PllOutput : Type 0 where
  pub ck : ℕ
  pub div : ℕ

-- struct PllSetup
pub record PllSetup : Type 0 where
  pub vco_range : VcoRange
  pub vco_out_target : ℕ
  pub ref_ck : ℕ
  pub pll_m : ℕ
  pub pll_p : Option PllOutput
  pub pll_q : Option PllOutput
  pub pll_r : Option PllOutput

-- ---- fn vco_output_divider_setup

-- .filter(is_some).map(..): doubled where P cannot be odd
abbrev pub mapped : Option ℕ → Bool → Run (List ℕ)
mapped None odd = return []
mapped (Some ck) true = return (ck ∷ [])
mapped (Some ck) false = do
  doubled ← Rust.mul ck 2
  return (doubled ∷ [])

-- let outputs = [(p_ck, p_odd_allowed), (q_ck, true), (r_ck, true)]
abbrev pub outputs_of : PllConfig → (p-odd-allowed : Bool) → Run (List ℕ)
outputs_of pllcfg p-odd-allowed = do
  p ← mapped pllcfg.p_ck p-odd-allowed
  q ← mapped pllcfg.q_ck true
  r ← mapped pllcfg.r_ck true
  return (p ++ (q ++ r))

-- .fold((0, 0), ..)
abbrev pub fold_min : ℕ → List ℕ → ℕ
fold_min least [] = least
fold_min least (ck ∷ cks) = fold_min (cond (eqb least 0) ck (min least ck)) cks

-- the other part of the fold
abbrev pub fold_max : ℕ → List ℕ → ℕ
fold_max most [] = most
fold_max most (ck ∷ cks) = fold_max (max most ck) cks

-- vco_ranges.find(|range| range.end() > &max_output).expect(..)
abbrev pub find_range : (max-output : ℕ) → Run VcoRange
find_range max-output =
    cond (ltb max-output 420_000_000) (return VCO-RANGE-MEDIUM)
    (cond (ltb max-output 560_000_000) (return VCO-RANGE-WIDE) panic)

-- let vco_out_target = if (vco_out_target / min_output) > PLL_OUT_DIV_MAX { .. }
abbrev pub lowered : (vco_out_target quotient : ℕ) → Run ℕ
lowered vco_out_target quotient =
    cond (ltb PLL-OUT-DIV-MAX quotient) (div_ceil quotient PLL-OUT-DIV-MAX >>= λ f. Rust.div vco_out_target f) (return vco_out_target)

-- pllcfg.p_ck.map(|ck| PllOutput { ck, div: vco_out_target / ck })
abbrev pub output_div : (vco_out_target : ℕ) → Option ℕ → Run (Option PllOutput)
output_div vco_out_target None = return None
output_div vco_out_target (Some ck) = do
  d ← Rust.div vco_out_target ck
  return (Some (record { ck = ck; div = d }))

-- the key of .min_by_key: vco_out_target as i32 - (ref_x_ck * pll_x_n) as i32
unfoldable pub key_of : (pllsrc vco_out_target pll-x-m : ℕ) → Run ℤ
key_of pllsrc vco_out_target pll-x-m = do
  ref-x-ck ← Rust.div pllsrc pll-x-m
  pll-x-n ← Rust.div vco_out_target ref-x-ck
  product ← Rust.mul ref-x-ck pll-x-n
  sub_i32 (as_i32 vco_out_target) (as_i32 product)

-- .min_by_key(..).unwrap() over the m from one on, so many: a later one takes the place only with a smaller key
unfoldable pub min_from : (pllsrc vco_out_target : ℕ) → (best : ℕ) → (least : ℤ) → (from count : ℕ) → Run ℕ
min_from pllsrc vco_out_target best least from zero = return best
min_from pllsrc vco_out_target best least from (suc count) = do
  key ← key_of pllsrc vco_out_target from
  min_from pllsrc vco_out_target (cond (lt_z key least) from best) (cond (lt_z key least) key least) (suc from) count

-- .min_by_key(..).unwrap() over a range: the first is the best so far, and none panics
unfoldable pub min_by_key : (pllsrc vco_out_target : ℕ) → (from count : ℕ) → Run ℕ
min_by_key pllsrc vco_out_target from zero = panic
min_by_key pllsrc vco_out_target from (suc count) = do
  key ← key_of pllsrc vco_out_target from
  min_from pllsrc vco_out_target from key (suc from) count

-- (pll_x_m_min..=pll_x_m_max).min_by_key(..).unwrap()
unfoldable pub search_m : (pllsrc : ℕ) → VcoRange → (vco_out_target : ℕ) → Run ℕ
search_m pllsrc range vco_out_target = do
  pll-x-m-min ← div_ceil pllsrc range.input_end
  pll-x-m-max ← Rust.div pllsrc range.input_start
  min_by_key pllsrc vco_out_target pll-x-m-min (suc (min pll-x-m-max PLL-M-MAX) - pll-x-m-min)

-- from the assert on min_output to the target
unfoldable pub target_setup : (min-output max-output : ℕ) → VcoRange → Run ℕ
target_setup min-output max-output range = do
  min-div ← Rust.div range.output_end max-output
  vco_out_target ← Rust.mul max-output min-div
  quotient ← Rust.div vco_out_target min-output
  lowered vco_out_target quotient

-- from the target on
unfoldable pub divider_setup : (pllsrc : ℕ) → PllConfig → VcoRange → (vco_out_target : ℕ) → Run PllSetup
divider_setup pllsrc pllcfg range vco_out_target = do
  assert (contains range.output_start range.output_end vco_out_target)
  pll-x-p ← output_div vco_out_target pllcfg.p_ck
  pll-x-q ← output_div vco_out_target pllcfg.q_ck
  pll-x-r ← output_div vco_out_target pllcfg.r_ck
  pll-x-m ← search_m pllsrc range vco_out_target
  assert (leb pll-x-m PLL-M-MAX)
  ref_ck ← Rust.div pllsrc pll-x-m
  assert (contains range.input_start range.input_end ref_ck)
  return (record {
    vco_range = range;
    vco_out_target = vco_out_target;
    ref_ck = ref_ck;
    pll_m = pll-x-m;
    pll_p = pll-x-p;
    pll_q = pll-x-q;
    pll_r = pll-x-r;
  })

-- assert!(min_output >= max_output / PLL_OUT_DIV_MAX), the range, and on
unfoldable pub range_setup : (pllsrc : ℕ) → PllConfig → (min-output max-output : ℕ) → Run PllSetup
range_setup pllsrc pllcfg min-output max-output = do
  assert (leb (max-output / PLL-OUT-DIV-MAX) min-output)
  range ← find_range max-output
  vco_out_target ← target_setup min-output max-output range
  divider_setup pllsrc pllcfg range vco_out_target

-- the whole function
unfoldable pub vco_output_divider_setup : (pllsrc : ℕ) → PllConfig → (p-odd-allowed : Bool) → Run PllSetup
vco_output_divider_setup pllsrc pllcfg p-odd-allowed = do
  outputs ← outputs_of pllcfg p-odd-allowed
  range_setup pllsrc pllcfg (fold_min 0 outputs) (fold_max 0 outputs)

-- ---- vco_setup!, for PLL k from 0

-- match pll_setup.ref_ck
abbrev pub rge : (ref_ck : ℕ) → ℕ
rge ref_ck =
    cond (leb 1_000_000 ref_ck && leb ref_ck 1_999_999) 0
    (cond (leb 2_000_000 ref_ck && leb ref_ck 3_999_999) 1
    (cond (leb 4_000_000 ref_ck && leb ref_ck 7_999_999) 2 3))

-- VCOSEL, then RGE
abbrev pub vco_setup : (k pllsrc : ℕ) → PllConfig → (odd-allowed : Bool) → Run PllSetup
vco_setup k pllsrc pllcfg odd-allowed = do
  pll_setup ← vco_output_divider_setup pllsrc pllcfg odd-allowed
  modify (Set (of_pll k Fields.VCOSEL) pll_setup.vco_range.vcosel)
  modify (Set (of_pll k Fields.RGE) (rge pll_setup.ref_ck))
  return pll_setup

-- ---- pll_divider_setup!, for one of p, q, r
unfoldable pub pll_divider_setup : (field enable vco-ck : ℕ) → Option PllOutput → Run (Option ℕ)
pll_divider_setup field enable vco-ck None = do
  modify (Set enable 0)
  return None
pll_divider_setup field enable vco-ck (Some o) = do
  less ← Rust.sub o.div 1
  modify (Set field (as_u8 less))
  modify (Set enable 1)
  hz ← Rust.div vco-ck o.div
  return (Some hz)

-- ---- fn calc_fracn and fn calc_vco_ck: every operation is rounded once (`lib.Ieee`)
unfoldable pub calc_fracn : (ref-clk pll_n pll_p output : Float) → Run ℕ
calc_fracn ref-clk pll_n pll_p output = do
  assert (le (float 0) (mul binary32 (float 8192) (sub binary32 (div binary32 (mul binary32 output pll_p) ref-clk) pll_n)))
  assert (le (mul binary32 (float 8192) (sub binary32 (div binary32 (mul binary32 output pll_p) ref-clk) pll_n)) (float 8191))
  return (to_unsigned 16 (mul binary32 (float 8192) (sub binary32 (div binary32 (mul binary32 output pll_p) ref-clk) pll_n)))

-- fn calc_vco_ck
unfoldable pub calc_vco_ck : (ref_ck pll_n pll-fracn : ℕ) → ℕ
calc_vco_ck ref_ck pll_n pll-fracn = to_unsigned 32 (mul binary32 (float ref_ck) (add binary32 (float pll_n) (div binary32 (float pll-fracn) (float 8192))))

-- ---- pll_setup!

-- match pll.strategy
abbrev pub fractional_vco : (k : ℕ) → (ref_ck pll-x-n : ℕ) → Option PllOutput → Run ℕ
fractional_vco k ref_ck pll-x-n None = panic
fractional_vco k ref_ck pll-x-n (Some o) = do
  pll-x-fracn ← calc_fracn (float ref_ck) (float pll-x-n) (float o.div) (float o.ck)
  modify (Set (of_pll k Fields.FRACN) pll-x-fracn)
  modify (Set (of_pll k Fields.FRACEN) 0)
  modify (Set (of_pll k Fields.FRACEN) 1)
  return (calc_vco_ck ref_ck pll-x-n pll-x-fracn)

-- PllConfigStrategy::Fractional, or ref_ck * pll_x_n
unfoldable pub vco_ck_of : (k : ℕ) → Strategy → (ref_ck pll-x-n : ℕ) → Option PllOutput → Run ℕ
vco_ck_of k Integer ref_ck pll-x-n pll-x = Rust.mul ref_ck pll-x-n
vco_ck_of k Fractional ref_ck pll-x-n pll-x = fractional_vco k ref_ck pll-x-n pll-x

-- from vco_setup! on
unfoldable pub write_pll : (k : ℕ) → Strategy → PllSetup → Run PllClocks
write_pll k strategy pll_setup = do
  pll-x-n ← Rust.div pll_setup.vco_out_target pll_setup.ref_ck
  modify (Set (of_pll k Fields.M) (as_u8 pll_setup.pll_m))
  assert (leb PLL-N-MIN pll-x-n)
  assert (leb pll-x-n PLL-N-MAX)
  modify (Set (of_pll k Fields.N) (as_u16 (pll-x-n - 1)))
  vco-ck ← vco_ck_of k strategy pll_setup.ref_ck pll-x-n (option_or pll_setup.pll_p (option_or pll_setup.pll_q pll_setup.pll_r))
  p-ck-hz ← pll_divider_setup (of_pll k Fields.P) (of_pll k Fields.PEN) vco-ck pll_setup.pll_p
  q-ck-hz ← pll_divider_setup (of_pll k Fields.Q) (of_pll k Fields.QEN) vco-ck pll_setup.pll_q
  r-ck-hz ← pll_divider_setup (of_pll k Fields.R) (of_pll k Fields.REN) vco-ck pll_setup.pll_r
  return (record { p_ck = p-ck-hz; q_ck = q-ck-hz; r_ck = r-ck-hz })

-- fn pllX_setup
unfoldable pub pll_setup : (k : ℕ) → (odd-allowed : Bool) → (pllsrc : ℕ) → PllConfig → Run PllClocks
pll_setup k odd-allowed pllsrc pll = do
  assert (ltb 0 pllsrc)
  cond (is_some (option_or pll.p_ck (option_or pll.q_ck pll.r_ck)))
      (vco_setup k pllsrc pll odd-allowed >>= write_pll k pll.strategy)
      (return (record { p_ck = None; q_ck = None; r_ck = None }))
