-- A request's byte form, whole: what can be written is read again, nothing else is read, and its length (document 01, One call, from the top).
use Rattle.std.specs.Prelude.{Option, Some, None, Result, Ok}
use mathlib.Core.Path.{◌≡◌, refl, sym, ap, subst, ◌∙◌}
use mathlib.Core.Bool.{Bool, true, false}
use mathlib.Core.List.{List, [], ◌∷◌, append-nil}
use Prim.Native.Nat.{ℕ, ◌≤◌}
use native.Mathlib.Omega.{arith}
use lib.ListN.{get_or, length, length-append}
use Rattle.types.specs.declared.Refusal.{Refusal}
use Rattle.types.specs.declared.PllRequest.{PllRequest}
use Rattle.types.specs.declared.Request.{Request}
use Rattle.types.specs.declared.Chip.{Chip}
use Rattle.types.specs.declared.ChipState.{ChipState}
use Rattle.rules.specs.Document01.Result as Result
use Rattle.rules.specs.Document01.Request.{pll_at}
use Rattle.rules.specs.Document01.Chip.{chip_of}
use Rattle.rules.specs.Document01.Bytes.{Read, end, request_part, hertz_bytes, pll_bytes, third_bytes, request_bytes, size_of, AllBytes, Writable}
use Rattle.types.specs.declared.Asked.{Asked}
use Rattle.rules.specs.Document01.Plan.{request_of}
use Rattle.rules.proofs.Document01.Results.{ok_same, not_ok}
use Rattle.rules.proofs.Document01.Bytes.{with_ok, give, take, flag_inverse, hertz_inverse, mco1_inverse, mco2_inverse, pll_inverse, third_inverse}

-- ---- what can be written is read again
-- three parts are the first, the second and the third
parts : (l : List PllRequest) (none : PllRequest) → length l ≡ 3 → get_or l 0 none ∷ get_or l 1 none ∷ get_or l 2 none ∷ [] ≡ l
parts [] none e = absurd (omega arith)
parts (a ∷ []) none e = absurd (omega arith)
parts (a ∷ b ∷ []) none e = absurd (omega arith)
parts (a ∷ b ∷ c ∷ []) none e = refl
parts (a ∷ b ∷ c ∷ d ∷ l) none e = absurd (omega arith)

-- a request with other parts
abbrev with_parts : Request → List PllRequest → Request
with_parts q l = record {
  hse = q.hse;
  lse = q.lse;
  audio = q.audio;
  system = q.system;
  peripheral = q.peripheral;
  ahb = q.ahb;
  apb1 = q.apb1;
  apb2 = q.apb2;
  apb3 = q.apb3;
  bypass = q.bypass;
  mco1source = q.mco1source;
  mco1 = q.mco1;
  mco2source = q.mco2source;
  mco2 = q.mco2;
  plls = l;
}

pub written_reads : (three : Bool) (q : Request) → Writable three q → request_part three (request_bytes three q) ≡ Ok (record { value = q; rest = [] })
unfolding request_part request_bytes end
written_reads three q w =
    give hertz_inverse _ q.hse _ w.hse
    (give hertz_inverse _ q.lse _ w.lse
    (give hertz_inverse _ q.audio _ w.audio
    (give hertz_inverse _ q.system _ w.system
    (give hertz_inverse _ q.peripheral _ w.peripheral
    (give hertz_inverse _ q.ahb _ w.ahb
    (give hertz_inverse _ q.apb1 _ w.apb1
    (give hertz_inverse _ q.apb2 _ w.apb2
    (give hertz_inverse _ q.apb3 _ w.apb3
    (give flag_inverse _ q.bypass _ tt
    (give mco1_inverse _ q.mco1source _ tt
    (give hertz_inverse _ q.mco1 _ w.mco1
    (give mco2_inverse _ q.mco2source _ tt
    (give hertz_inverse _ q.mco2 _ w.mco2
    (give pll_inverse _ (pll_at q 0) _ w.pll1
    (give pll_inverse _ (pll_at q 1) _ w.pll2
    (rw (← append-nil (third_bytes three (pll_at q 2)))
    (give (third_inverse three) _ (pll_at q 2) [] (w.pll3, w.third)
    (ap (λ l. Ok (record { value = with_parts q l; rest = [] })) (parts q.plls _ w.three_parts)))))))))))))))))))

-- ---- nothing else is read
pub record AsWritten (three : Bool) (bytes : List ℕ) (x : Read Request) : Type 0 where
  pub written : bytes ≡ request_bytes three x.value
  pub whole : x.rest ≡ []
  pub writable : Writable three x.value

at_end : {B : Type 0} {P : Type 0} (k : Read (Unit {0}) → Result B Refusal) (l : List ℕ) (x : B) → Result.◌>>=◌ (end l) k ≡ Ok x → (l ≡ [] → k (record { value = tt; rest = [] }) ≡ Ok x → P) → P
unfolding end
at_end k [] x e f = f refl e
at_end k (b ∷ l) x e f = not_ok e

pub accepted_written : (three : Bool) (bytes : List ℕ) (x : Read Request) → AllBytes bytes → request_part three bytes ≡ Ok x → AsWritten three bytes x
unfolding request_part request_bytes
accepted_written three bytes x h e =
    take hertz_inverse _ x bytes h e λ hse l0 b0 h0 g0 e.
    take hertz_inverse _ x l0 h0 e λ lse l1 b1 h1 g1 e.
    take hertz_inverse _ x l1 h1 e λ audio l2 b2 h2 g2 e.
    take hertz_inverse _ x l2 h2 e λ system l3 b3 h3 g3 e.
    take hertz_inverse _ x l3 h3 e λ peripheral l4 b4 h4 g4 e.
    take hertz_inverse _ x l4 h4 e λ ahb l5 b5 h5 g5 e.
    take hertz_inverse _ x l5 h5 e λ apb1 l6 b6 h6 g6 e.
    take hertz_inverse _ x l6 h6 e λ apb2 l7 b7 h7 g7 e.
    take hertz_inverse _ x l7 h7 e λ apb3 l8 b8 h8 g8 e.
    take flag_inverse _ x l8 h8 e λ bypass l9 b9 h9 g9 e.
    take mco1_inverse _ x l9 h9 e λ mco1source l10 b10 h10 g10 e.
    take hertz_inverse _ x l10 h10 e λ mco1 l11 b11 h11 g11 e.
    take mco2_inverse _ x l11 h11 e λ mco2source l12 b12 h12 g12 e.
    take hertz_inverse _ x l12 h12 e λ mco2 l13 b13 h13 g13 e.
    take pll_inverse _ x l13 h13 e λ pll1 l14 b14 h14 g14 e.
    take pll_inverse _ x l14 h14 e λ pll2 l15 b15 h15 g15 e.
    take (third_inverse three) _ x l15 h15 e λ pll3 l16 b16 h16 g16 e.
    at_end _ l16 x e λ n e.
    subst (AsWritten three bytes) (ok_same e) (record {
      written = rw (b0, b1, b2, b3, b4, b5, b6, b7, b8, b9, b10, b11, b12, b13, b14, b15, b16, n, append-nil);
      whole = refl;
      writable = record {
        hse = g0;
        lse = g1;
        audio = g2;
        system = g3;
        peripheral = g4;
        ahb = g5;
        apb1 = g6;
        apb2 = g7;
        apb3 = g8;
        mco1 = g11;
        mco2 = g13;
        three_parts = refl;
        pll1 = g14;
        pll2 = g15;
        pll3 = g16.0;
        third = g16.1;
      };
    })

-- ---- the length
pub hertz_length : (a : Option ℕ) → length (hertz_bytes a) ≡ 5
hertz_length None = refl
hertz_length (Some h) = refl

pub pll_length : (a : PllRequest) → length (pll_bytes a) ≡ 16
pll_length a = simp (length-append, hertz_length)

pub written_length : (three : Bool) (q : Request) → length (request_bytes three q) ≡ size_of three
unfolding request_bytes
written_length true q = simp (length-append, hertz_length)
written_length false q = simp (length-append, hertz_length)

-- the first two PLLs' parts are in every request
pub at_least : (three : Bool) → 90 ≤ size_of three
at_least true = omega arith
at_least false = omega arith

-- ---- on the bytes and the chip's numbers
pub reads_back : (q : Request) (chip : Chip) (c : ChipState) → chip_of chip ≡ Ok c → Writable c.three q → request_of (request_bytes c.three q) chip ≡ Ok (record { request = q; chip = c })
unfolding request_of
reads_back q chip c e w = rw (e, written_reads c.three q w)

-- what was asked: the chip is allowed, and the bytes are those of the request
pub record AskedBy (bytes : List ℕ) (chip : Chip) (a : Asked) : Type 0 where
  pub allowed : chip_of chip ≡ Ok a.chip
  pub written : bytes ≡ request_bytes a.chip.three a.request
  pub writable : Writable a.chip.three a.request

pub asked_by : (bytes : List ℕ) (chip : Chip) (a : Asked) → AllBytes bytes → request_of bytes chip ≡ Ok a → AskedBy bytes chip a
unfolding request_of
asked_by bytes chip a h e =
    with_ok (chip_of chip) _ a e λ c p e.
    with_ok (request_part c.three bytes) _ a e λ x r e.
    let o = accepted_written c.three bytes x h r in
    subst (AskedBy bytes chip) (ok_same e) (record { allowed = p; written = o.written; writable = o.writable })

pub bytes_unique : (bs cs : List ℕ) (chip : Chip) (a : Asked) → AllBytes bs → AllBytes cs → request_of bs chip ≡ Ok a → request_of cs chip ≡ Ok a → bs ≡ cs
bytes_unique bs cs chip a hb hc eb ec = (asked_by bs chip a hb eb).written ∙ sym (asked_by cs chip a hc ec).written

pub accepted_length : (bs : List ℕ) (chip : Chip) (a : Asked) → AllBytes bs → request_of bs chip ≡ Ok a → length bs ≡ size_of a.chip.three
accepted_length bs chip a h e = rw (asked_by bs chip a h e).written (written_length a.chip.three a.request)

pub accepted_writable : (bs : List ℕ) (chip : Chip) (a : Asked) → AllBytes bs → request_of bs chip ≡ Ok a → Writable a.chip.three a.request
accepted_writable bs chip a h e = (asked_by bs chip a h e).writable
