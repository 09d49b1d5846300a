-- What the whole list leaves of a bank at reset values in the fields of one PLL: what its registers hold (document 02, Item 1).
use Rattle.std.specs.Prelude.{Option, Some, None}
use mathlib.Core.Path.{◌≡◌, refl, ◌∙◌, ap}
use mathlib.Core.Bool.{Bool, true}
use Prim.Native.Nat.{ℕ, zero, suc, ◌+◌, ◌-◌, ◌*◌, ◌<◌}
use native.Mathlib.Omega.{arith}
use borrow.Author.Tests.{lt-ltb}
use Rattle.types.specs.declared.PllSettings.{PllSettings}
use Rattle.types.specs.declared.PllOutput.{PllOutput}
use Rattle.types.specs.declared.PllRequest.{PllRequest}
use Rattle.types.specs.declared.Plan.{Plan}
use Rattle.rules.specs.Document01.Entries.{setup_entries, pll_in}
use Rattle.rules.specs.Manual.Tree.{P, Q, R, word}
use Rattle.rules.proofs.Document01.Last.{val_all}
use Rattle.claims.specs.Demands.Legal.{LegalOutput, LegalPll}
use Rattle.claims.proofs.Readings.Own.{divider_word, enable_bit, fracen_bit, fracn_word, own_vcosel, own_rge, own_m, own_n, own_fracn, own_fracen, own_divider, own_enable}
use Rattle.claims.proofs.Readings.Words.{bank_of, src_word, setup_word, source_word}
use Rattle.pll_words.specs.PllWords.{fracen_of, fracn_of, divider_of}
use Rattle.pll_registers.specs.Fields.{fields_of}
use Rattle.pll_registers.specs.Registers.{enabled}
use Rattle.pll_registers.proofs.Bits.{Are}

-- ---- an output and a fraction, as the list and the registers have them
divider_is : (o : Option PllOutput) → divider_word o ≡ divider_of o - 1
divider_is None = refl
divider_is (Some o) = refl

enable_is : (vco : ℕ) (w : Option ℕ) (o : Option PllOutput) → LegalOutput vco w o → enable_bit o ≡ enabled (divider_of o)
enable_is vco w None l = refl
enable_is vco None (Some o) l = absurd l
enable_is vco (Some w) (Some o) l = rw (lt-ltb 0 o.divider l.some)

fracen_is : (f : Option ℕ) → fracen_bit f ≡ fracen_of f
fracen_is None = refl
fracen_is (Some f) = refl

fracn_is : (f : Option ℕ) → fracn_word f ≡ fracn_of f
fracn_is None = refl
fracn_is (Some f) = refl

-- ---- each PLL of the chip has the source
src_is : (three : Bool) (src k : ℕ) → k < 3 → (k ≡ 2 → three ≡ true) → src_word three src k ≡ src
src_is three src zero h t = refl
src_is three src (suc zero) h t = refl
src_is three src (suc (suc zero)) h t = rw (t refl)
src_is three src (suc (suc (suc k))) h t = absurd (omega arith)

-- ---- PLL k of a plan
module _ (p : Plan) (k : ℕ) (k3 : k < 3) (there : k ≡ 2 → p.three ≡ true) where
  abbrev src : ℕ
  src = p.selectors.src

  left : (x : Option PllSettings) → pll_in p k ≡ x → (f v : ℕ) → f < 12 → val_all (setup_entries k x) (15 * k + f) 0 ≡ v → word (bank_of p) (15 * k + f) ≡ v
  left x is f v h e = setup_word p k f k3 h ∙ ap (λ (y : Option PllSettings). val_all (setup_entries k y) (15 * k + f) 0) is ∙ e

  source : word (bank_of p) (15 * k + 12) ≡ src
  source = source_word p k k3 ∙ src_is p.three src k k3 there

  pub are : (odd : Bool) (from : ℕ) (a : PllRequest) (x : Option PllSettings) → pll_in p k ≡ x → LegalPll odd from a x → Are (λ f. word (bank_of p) (15 * k + f)) (fields_of src x)
  are odd from a None is l = record {
    src = source;
    rge = left None is 1 _ (omega arith) refl;
    fracen = left None is 5 _ (omega arith) refl;
    vcosel = left None is 0 _ (omega arith) refl;
    m = left None is 2 _ (omega arith) refl;
    n = left None is 3 _ (omega arith) refl;
    fracn = left None is 4 _ (omega arith) refl;
    p = left None is 6 _ (omega arith) refl;
    q = left None is 8 _ (omega arith) refl;
    r = left None is 10 _ (omega arith) refl;
    pen = left None is 7 _ (omega arith) refl;
    qen = left None is 9 _ (omega arith) refl;
    ren = left None is 11 _ (omega arith) refl;
  }
  are odd from a (Some s) is l = record {
    src = source;
    rge = left (Some s) is 1 _ (omega arith) (own_rge k s);
    fracen = left (Some s) is 5 _ (omega arith) (own_fracen k s ∙ fracen_is s.fraction);
    vcosel = left (Some s) is 0 _ (omega arith) (own_vcosel k s);
    m = left (Some s) is 2 _ (omega arith) (own_m k s);
    n = left (Some s) is 3 _ (omega arith) (own_n k s);
    fracn = left (Some s) is 4 _ (omega arith) (own_fracn k s ∙ fracn_is s.fraction);
    p = left (Some s) is 6 _ (omega arith) (own_divider k s P ∙ divider_is s.p);
    q = left (Some s) is 8 _ (omega arith) (own_divider k s Q ∙ divider_is s.q);
    r = left (Some s) is 10 _ (omega arith) (own_divider k s R ∙ divider_is s.r);
    pen = left (Some s) is 7 _ (omega arith) (own_enable k s P ∙ enable_is s.vco a.p s.p l.p);
    qen = left (Some s) is 9 _ (omega arith) (own_enable k s Q ∙ enable_is s.vco a.q s.q l.q);
    ren = left (Some s) is 11 _ (omega arith) (own_enable k s R ∙ enable_is s.vco a.r s.r l.r);
  }
