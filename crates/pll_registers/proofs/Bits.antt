-- What is packed is read back: every field that fits its bits stands in the bits that document 02, Item 1, gives it, and in no other.
use mathlib.Core.Path.{◌≡◌, sym, ◌∙◌}
use mathlib.Core.Bool.{Bool, true, false}
use Prim.Native.Nat.{ℕ, ◌+◌, ◌-◌, ◌*◌, ◌/◌, ◌%◌, ◌<◌}
use native.Mathlib.Nat.{mod-eq_of_lt}
use native.Mathlib.Omega.{arith}
use lib.Dec.{ltb}
use Rattle.rules.specs.Document01.Entries.{bit}
use Rattle.rules.specs.Document01.Fields
use Rattle.pll_registers.specs.declared.PllFields.{PllFields}
use Rattle.pll_registers.specs.Registers.{enabled, cfgr_of, divr_of, fracr_of}
use Rattle.pll_registers.specs.Stated.{Hold, Fit}

-- ---- in numbers
-- the fields of CFGR fit: source, range, FRACEN, VCOSEL, M, the enables
record InCfgr (a b c d e p q r : ℕ) : Type 0 where
  source : a < 4
  range : b < 4
  fracen : c < 2
  vcosel : d < 2
  m : e < 64
  pen : p < 2
  qen : q < 2
  ren : r < 2

module _ {a b c d e p q r : ℕ} (h : InCfgr a b c d e p q r) where
  abbrev cfgr : ℕ
  cfgr = a + b * 4 + c * 16 + d * 32 + e * 256 + p * 65536 + q * 131072 + r * 262144

  cfgr_0 : cfgr / 1 % 4 ≡ a
  cfgr_0 = omega arith

  cfgr_2 : cfgr / 4 % 4 ≡ b
  cfgr_2 = omega arith

  cfgr_4 : cfgr / 16 % 2 ≡ c
  cfgr_4 = omega arith

  cfgr_5 : cfgr / 32 % 2 ≡ d
  cfgr_5 = omega arith

  cfgr_6 : cfgr / 64 % 4 ≡ 0
  cfgr_6 = omega arith

  cfgr_8 : cfgr / 256 % 64 ≡ e
  cfgr_8 = omega arith

  cfgr_14 : cfgr / 16384 % 4 ≡ 0
  cfgr_14 = omega arith

  cfgr_16 : cfgr / 65536 % 2 ≡ p
  cfgr_16 = omega arith

  cfgr_17 : cfgr / 131072 % 2 ≡ q
  cfgr_17 = omega arith

  cfgr_18 : cfgr / 262144 % 2 ≡ r
  cfgr_18 = omega arith

  cfgr_19 : cfgr < 524288
  cfgr_19 = omega arith

-- those of DIVR
record InDivr (n p q r : ℕ) : Type 0 where
  multiplier : n < 512
  first : p < 128
  second : q < 128
  third : r < 128

module _ {n p q r : ℕ} (h : InDivr n p q r) where
  abbrev divr : ℕ
  divr = n + p * 512 + q * 65536 + r * 16777216

  divr_0 : divr / 1 % 512 ≡ n
  divr_0 = omega arith

  divr_9 : divr / 512 % 128 ≡ p
  divr_9 = omega arith

  divr_16 : divr / 65536 % 128 ≡ q
  divr_16 = omega arith

  divr_23 : divr / 8388608 % 2 ≡ 0
  divr_23 = omega arith

  divr_24 : divr / 16777216 % 128 ≡ r
  divr_24 = omega arith

  divr_31 : divr < 2147483648
  divr_31 = omega arith

fracr_0 : (f : ℕ) → f * 8 / 1 % 8 ≡ 0
fracr_0 f = omega arith

fracr_3 : (f : ℕ) → f < 8192 → f * 8 / 8 % 8192 ≡ f
fracr_3 f h = omega arith

fracr_16 : (f : ℕ) → f < 8192 → f * 8 < 65536
fracr_16 f h = omega arith

-- ---- of the fields: what a function of the bank's field numbers says, and the record
pub record Are (field : ℕ → ℕ) (f : PllFields) : Type 0 where
  pub src : field Fields.SRC ≡ f.src
  pub rge : field Fields.RGE ≡ f.rge
  pub fracen : field Fields.FRACEN ≡ f.fracen
  pub vcosel : field Fields.VCOSEL ≡ f.vcosel
  pub m : field Fields.M ≡ f.m
  pub n : field Fields.N ≡ f.n - 1
  pub fracn : field Fields.FRACN ≡ f.fracn
  pub p : field Fields.P ≡ f.p - 1
  pub q : field Fields.Q ≡ f.q - 1
  pub r : field Fields.R ≡ f.r - 1
  pub pen : field Fields.PEN ≡ enabled f.p
  pub qen : field Fields.QEN ≡ enabled f.q
  pub ren : field Fields.REN ≡ enabled f.r

bit_fits : (b : Bool) → bit b < 2
bit_fits true = omega arith
bit_fits false = omega arith

module _ (f : PllFields) (t : Fit f) where
  on : (d : ℕ) → enabled d < 2
  on d = bit_fits (ltb 0 d)

  cfgr_is : cfgr_of f ≡ f.src + f.rge * 4 + f.fracen * 16 + f.vcosel * 32 + f.m * 256 + enabled f.p * 65536 + enabled f.q * 131072 + enabled f.r * 262144
  unfolding cfgr_of
  cfgr_is =
      rw (
        mod-eq_of_lt t.src,
        mod-eq_of_lt t.rge,
        mod-eq_of_lt t.fracen,
        mod-eq_of_lt t.vcosel,
        mod-eq_of_lt t.m,
        mod-eq_of_lt (on f.p),
        mod-eq_of_lt (on f.q),
        mod-eq_of_lt (on f.r),
      ) (omega arith)

  divr_is : divr_of f ≡ (f.n - 1) + (f.p - 1) * 512 + (f.q - 1) * 65536 + (f.r - 1) * 16777216
  unfolding divr_of
  divr_is = rw (mod-eq_of_lt t.n, mod-eq_of_lt t.p, mod-eq_of_lt t.q, mod-eq_of_lt t.r) (omega arith)

  fracr_is : fracr_of f ≡ f.fracn * 8
  unfolding fracr_of
  fracr_is = rw (mod-eq_of_lt t.fracn)

  in_cfgr : InCfgr f.src f.rge f.fracen f.vcosel f.m (enabled f.p) (enabled f.q) (enabled f.r)
  in_cfgr = record {
    source = t.src;
    range = t.rge;
    fracen = t.fracen;
    vcosel = t.vcosel;
    m = t.m;
    pen = on f.p;
    qen = on f.q;
    ren = on f.r;
  }

  in_divr : InDivr (f.n - 1) (f.p - 1) (f.q - 1) (f.r - 1)
  in_divr = record { multiplier = t.n; first = t.p; second = t.q; third = t.r }

  -- every bit of the three words
  pub hold : (field : ℕ → ℕ) → Are field f → Hold (cfgr_of f) (divr_of f) (fracr_of f) field
  hold field a = let c = in_cfgr in let d = in_divr in rw (cfgr_is, divr_is, fracr_is) (record {
    source = cfgr_0 c ∙ sym a.src;
    range = cfgr_2 c ∙ sym a.rge;
    fracen = cfgr_4 c ∙ sym a.fracen;
    vcosel = cfgr_5 c ∙ sym a.vcosel;
    m = cfgr_8 c ∙ sym a.m;
    p_enable = cfgr_16 c ∙ sym a.pen;
    q_enable = cfgr_17 c ∙ sym a.qen;
    r_enable = cfgr_18 c ∙ sym a.ren;
    n = divr_0 d ∙ sym a.n;
    p = divr_9 d ∙ sym a.p;
    q = divr_16 d ∙ sym a.q;
    r = divr_24 d ∙ sym a.r;
    fracn = fracr_3 f.fracn t.fracn ∙ sym a.fracn;
    cfgr_6_7 = cfgr_6 c;
    cfgr_14_15 = cfgr_14 c;
    cfgr_end = cfgr_19 c;
    divr_23 = divr_23 d;
    divr_end = divr_31 d;
    fracr_0_2 = fracr_0 f.fracn;
    fracr_end = fracr_16 f.fracn t.fracn;
  })
