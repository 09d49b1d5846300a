-- Bytes that are stored part by part are the bytes of a request (document 01, One call, from the top).
use Rattle.std.specs.Prelude.{Option, Some, None, is_none}
use mathlib.Core.Path.{◌≡◌, refl, sym, ap, ◌∙◌}
use mathlib.Core.Bool.{Bool, true, false}
use mathlib.Core.List.{List, [], ◌∷◌, ◌++◌, append_assoc, append-nil}
use Prim.Native.Nat.{ℕ, suc, ◌+◌, ◌≤◌}
use native.Mathlib.Omega.{arith}
use lib.Dec.{eqb, ltb}
use lib.ListN.{length, set, drop, drop_of_length-le, length-append}
use lib.Seq.{sets, sets-eq, length-sets, set_out}
use borrow.Author.Tests.{eqb-true, ltb-true, ltb-false}
use denote.Enum.Declared.{tag_of}
use mir.Val.{bool_byte}
use Rattle.types.specs.contracts.Mco1Source.{the_type as the_mco1}
use Rattle.types.specs.contracts.Mco2Source.{the_type as the_mco2}
use Rattle.types.specs.declared.Mco1Source.{Mco1Source}
use Rattle.types.specs.declared.Mco2Source.{Mco2Source}
use Rattle.rules.specs.Document01.Mco.{mco1_code, mco2_code}
use Rattle.types.specs.declared.Strategy.{Strategy}
use Rattle.types.specs.declared.Strategy.TheVariants.{Integer, Fractional}
use Rattle.types.specs.declared.PllRequest.{PllRequest}
use Rattle.types.specs.declared.Request.{Request}
use Rattle.rules.specs.Document01.Bytes.{no_part, flag_byte, hertz_bytes, request_bytes, size_of}
use Rattle.rules.proofs.Document01.BytesWhole.{written_length}
use Rattle.laws.proofs.Tests.{by_test, never, and_left, and_right}
use Rattle.request_bytes.specs.Writing.{is_written, room_after, clocks_bytes, part_bytes, mco1_bytes, mco2_bytes, outputs_bytes, plls_bytes}
use Rattle.rules.specs.Document01.Bytes.{is_integer, is_no_part}

-- bytes that fill the whole
filled : (l bs : List ℕ) → length bs ≡ length l → sets l 0 bs ≡ bs
filled l bs e =
    let r : drop (length bs) l ≡ [] = drop_of_length-le l {i = length bs} (omega arith) in
    let n : 0 + length bs ≡ length bs = omega arith in
    sets-eq bs l 0 (omega arith) ∙ rw (n, r) (append-nil bs)

-- ---- a flag and the sources, as bytes
pub flag_is : (b : Bool) → bool_byte b ≡ flag_byte b
flag_is true = refl
flag_is false = refl

pub source1_is : (s : Mco1Source) → tag_of the_mco1 s ≡ mco1_code s
source1_is Mco1Source.Hsi = refl
source1_is Mco1Source.Lse = refl
source1_is Mco1Source.Hse = refl
source1_is Mco1Source.Pll1Q = refl
source1_is Mco1Source.Hsi48 = refl

pub source2_is : (s : Mco2Source) → tag_of the_mco2 s ≡ mco2_code s
source2_is Mco2Source.Sysclk = refl
source2_is Mco2Source.Pll2P = refl
source2_is Mco2Source.Hse = refl
source2_is Mco2Source.Pll1P = refl
source2_is Mco2Source.Csi = refl
source2_is Mco2Source.Lsi = refl

-- for `using`
pub ruleset codes = (flag_is, source1_is, source2_is)

-- ---- the whole request
-- its nine clocks, and what stands behind them
abbrev clocks_then : Request → List ℕ → List ℕ
clocks_then q r =
    hertz_bytes q.hse ++ (hertz_bytes q.lse ++ (hertz_bytes q.audio ++ (hertz_bytes q.system ++ (hertz_bytes q.peripheral ++ (hertz_bytes q.ahb
    ++ (hertz_bytes q.apb1 ++ (hertz_bytes q.apb2 ++ (hertz_bytes q.apb3 ++ r))))))))

clocks_lead : (q : Request) (r : List ℕ) → clocks_bytes q ++ r ≡ clocks_then q r
unfolding clocks_bytes
clocks_lead q r = simp append_assoc

pub groups : (three : Bool) (q : Request) → request_bytes three q ≡ clocks_bytes q ++ (outputs_bytes q ++ plls_bytes three q)
unfolding mco1_bytes mco2_bytes part_bytes plls_bytes request_bytes
groups three q =
    sym
    (clocks_lead q (outputs_bytes q ++ plls_bytes three q)
    ∙ ap (clocks_then q) (append_assoc (mco1_bytes q.bypass q.mco1source q.mco1) (mco2_bytes q.mco2source q.mco2) (plls_bytes three q)))

-- the test on the third part is that it is the part that a two-PLL chip has
unset : (h : Option ℕ) → is_none h ≡ true → h ≡ None
unset None e = refl
unset (Some h) e = absurd (never (sym e))

integer : (s : Strategy) → is_integer s ≡ true → s ≡ Integer
integer Integer e = refl
integer Fractional e = absurd (never (sym e))

pub no_part_is : (a : PllRequest) → is_no_part a ≡ true → a ≡ no_part
no_part_is a e =
    let b = and_right (is_integer a.strategy) _ e in
    let c = and_right (is_none a.p) _ b in
    let s = integer a.strategy (and_left (is_integer a.strategy) _ e) in
    let p = unset a.p (and_left (is_none a.p) _ b) in
    let q = unset a.q (and_left (is_none a.q) _ c) in
    let r = unset a.r (and_right (is_none a.q) _ c) in
    rw (s, p, q, r)

pub is_no_part_is : is_no_part no_part ≡ true
is_no_part_is = refl

-- the answer and the room after it
module _ (three : Bool) (q : Request) (l : List ℕ) where
  pub not_written : is_written three q (length l) ≡ false → (false ≡ is_written three q (length l)) × (l ≡ room_after three q l)
  unfolding room_after
  not_written f = (sym f, rw f)

  pub all_written : is_written three q (length l) ≡ true → sets l 0 (request_bytes three q) ≡ room_after three q l
  unfolding is_written room_after
  all_written t =
      let n : length l ≡ size_of three = eqb-true (length l) (size_of three) (and_left (eqb (length l) (size_of three)) _ t) in
      rw t (filled l (request_bytes three q) (written_length three q ∙ sym n))

-- the room behind a call
pub ruleset writing = (not_written, all_written)
