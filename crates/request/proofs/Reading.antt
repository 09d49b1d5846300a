-- The byte form by places is what the readers of document 01 read from the front, part by part.
use Rattle.std.specs.Prelude.{Some, None, Result, Ok, Err}
use mathlib.Core.Path.{◌≡◌, refl, sym, ap, ◌∙◌}
use mathlib.Core.Bool.{Bool, true, false, cond, ◌&&◌, ◌||◌}
use mathlib.Core.List.{List, [], ◌∷◌}
use Prim.Native.Nat.{ℕ, zero, suc, ◌+◌, ◌≤◌, ◌<◌}
use native.Mathlib.Omega.{arith}
use native.Mathlib.Numerals.{add-one}
use lib.Dec.{eqb, ltb}
use lib.ListN.{length, get_or, drop, drop_of_length-le}
use lib.Seq.{drop-cons}
use borrow.Author.Tests.{ltb-true, eq-eqb, ne_eqb}
use Rattle.types.specs.declared.Refusal.{Refusal}
use Rattle.laws.proofs.Tests.{by_test}
use Rattle.types.specs.declared.Refusal.TheVariants.{OutsideCodes}
use Rattle.types.specs.declared.Chip.{Chip}
use Rattle.types.specs.declared.ChipState.{ChipState}
use Rattle.types.specs.declared.Strategy.TheVariants.{Integer, Fractional}
use Rattle.types.specs.declared.Mco1Source.{Mco1Source}
use Rattle.types.specs.declared.Mco2Source.{Mco2Source}
use Rattle.types.specs.declared.PllRequest.{PllRequest}
use Rattle.types.specs.declared.Request.{Request}
use Rattle.rules.specs.Document01.Chip.{chip_of}
use Rattle.rules.specs.Document01.Result as Result
use Rattle.rules.specs.Document01.Bytes.{Read, Reader, ◌>>=◌, return, mco1_sources, mco2_sources, byte, end, code, u32le, set_to, hertz, flag, mco1_source, mco2_source, strategy, pll_part, third_part, request_part, size_of, AllBytes}
use Rattle.types.specs.declared.Asked.{Asked}
use Rattle.rules.specs.Document01.Plan.{request_of}
use Rattle.rules.proofs.Document01.Results.{ok_same}
use Rattle.rules.proofs.Document01.BytesWhole.{at_least, accepted_length, asked_by}
use Rattle.request.specs.Parts.{code_ok, u32le_at, hertz_ok, hertz_at, three_ok, flag_at, mco1_at, mco2_at, strategy_at, pll_ok, part_at, part_coded, third_hertz_ok, third_code_ok, third_at, clocks_ok, outputs_ok, plls_ok, formed, codes_ok, request_with, decoded, only}
use Rattle.request.specs.Request.{part_of}
use Rattle.rules.proofs.Document01.RefusalsOfCalls.{outside_codes}

-- a reader takes n bytes at any place where there are as many: the value there, if they are well-formed
record Part {A : Type 0} (r : Reader A) (n : ℕ) (good : List ℕ → ℕ → Bool) (val : List ℕ → ℕ → A) : Type 0 where
  reads : (l : List ℕ) (i : ℕ) → i + n ≤ length l → r (drop i l) ≡ only (good l i) (record { value = val l i; rest = drop (i + n) l })

-- one part, then the next
stage :
    {A B : Type 0} {r : Reader A} {n : ℕ} {good : List ℕ → ℕ → Bool} {val : List ℕ → ℕ → A} → Part r n good val →
    (k : Read A → Result B Refusal) (l : List ℕ) (i : ℕ) (b : Bool) (y : B) → i + n ≤ length l →
    (good l i ≡ true → k (record { value = val l i; rest = drop (i + n) l }) ≡ only b y) → Result.◌>>=◌ (r (drop i l)) k ≡ only (good l i && b) y
stage {good = good} p k l i b y h f =
    by_test (good l i) (λ (t : good l i ≡ true). rw (p.reads l i h, t) (f t)) (λ (t : good l i ≡ false). rw (p.reads l i h, t))

-- the last part
last :
    {A B : Type 0} {r : Reader A} {n : ℕ} {good : List ℕ → ℕ → Bool} {val : List ℕ → ℕ → A} → Part r n good val →
    (k : Read A → Result B Refusal) (l : List ℕ) (i : ℕ) (y : B) → i + n ≤ length l →
    (good l i ≡ true → k (record { value = val l i; rest = drop (i + n) l }) ≡ Ok y) → Result.◌>>=◌ (r (drop i l)) k ≡ only (good l i) y
last {good = good} p k l i y h f =
    by_test (good l i) (λ (t : good l i ≡ true). rw (p.reads l i h, t) (f t)) (λ (t : good l i ≡ false). rw (p.reads l i h, t))

-- ---- the parts
code_part : (n : ℕ) → Part (code n) 1 (code_ok n) (λ l i. get_or l i 0)
unfolding code byte
code_part n = record {
  reads = λ l i h. rw (drop-cons l i 0 (omega arith), ← add-one i)
      (by_test (ltb (get_or l i 0) n) (λ (t : ltb (get_or l i 0) n ≡ true). rw t) (λ (t : ltb (get_or l i 0) n ≡ false). rw t));
}

u32le_part : Part u32le 4 (λ l i. true) u32le_at
unfolding u32le byte u32le_at
u32le_part = record {
  reads = λ l i h.
      let e1 : suc i ≡ i + 1 = omega arith in
      let e2 : suc (i + 1) ≡ i + 2 = omega arith in
      let e3 : suc (i + 2) ≡ i + 3 = omega arith in
      let e4 : suc (i + 3) ≡ i + 4 = omega arith in
      rw (drop-cons l i 0 (omega arith), e1, drop-cons l (i + 1) 0 (omega arith), e2, drop-cons l (i + 2) 0 (omega arith), e3, drop-cons l (i + 3) 0 (omega arith), e4);
}

set_to_is : (s w : ℕ) (rest : List ℕ) → s < 2 → set_to s w rest ≡ only (eqb s 1 || eqb w 0) (record { value = cond (eqb s 0) None (Some w); rest = rest })
set_to_is zero w rest h = by_test (eqb w 0) (λ (t : eqb w 0 ≡ true). rw t) (λ (t : eqb w 0 ≡ false). rw t)
set_to_is (suc zero) w rest h = refl
set_to_is (suc (suc s)) w rest h = absurd (omega arith)

hertz_part : Part hertz 5 hertz_ok hertz_at
unfolding hertz hertz_ok hertz_at
hertz_part = record {
  reads = λ l i h.
      let e : i + 1 + 4 ≡ i + 5 = omega arith in
      stage (code_part 2) _ l i _ _ (omega arith) λ t.
      rw (u32le_part.reads l (i + 1) (omega arith), e) (set_to_is (get_or l i 0) (u32le_at l (i + 1)) (drop (i + 5) l) (ltb-true (get_or l i 0) 2 t));
}

-- a code that names a value
coded_part : {A : Type 0} (n : ℕ) (f : ℕ → A) → Part (code n >>= λ c. return (f c)) 1 (code_ok n) (λ l i. f (get_or l i 0))
coded_part n f = record { reads = λ l i h. last (code_part n) _ l i _ h λ t. refl }

flag_part : Part flag 1 (code_ok 2) flag_at
unfolding flag
flag_part = coded_part 2 (λ c. eqb c 1)

mco1_part : Part mco1_source 1 (code_ok 5) mco1_at
unfolding mco1_source
mco1_part = coded_part 5 (λ c. get_or mco1_sources c Mco1Source.Hsi)

mco2_part : Part mco2_source 1 (code_ok 6) mco2_at
unfolding mco2_source
mco2_part = coded_part 6 (λ c. get_or mco2_sources c Mco2Source.Sysclk)

strategy_part : Part strategy 1 (code_ok 2) strategy_at
unfolding strategy
strategy_part = coded_part 2 (λ c. cond (eqb c 0) Integer Fractional)

pll_part_is : Part pll_part 16 pll_ok part_at
unfolding pll_part three_ok
pll_part_is = record {
  reads = λ l i h.
      let p6 : i + 1 + 5 ≡ i + 6 = omega arith in
      let p11 : i + 1 + 10 ≡ i + 11 = omega arith in
      let q11 : i + 6 + 5 ≡ i + 11 = omega arith in
      let q16 : i + 11 + 5 ≡ i + 16 = omega arith in
      rw (p6, p11)
      (stage strategy_part _ l i _ _ (omega arith) λ s.
      stage hertz_part _ l (i + 1) _ _ (omega arith) λ t.
      rw p6
      (stage hertz_part _ l (i + 6) _ _ (omega arith) λ u.
      rw q11
      (last hertz_part _ l (i + 11) _ (omega arith) λ v.
      rw q16)));
}

-- the PLL3 part, and the end
abbrev third_ok : (three : Bool) → List ℕ → Bool
third_ok three l = third_code_ok three l && third_hertz_ok three l

third_part_is :
    {B : Type 0} (three : Bool) (l : List ℕ) (k : Read PllRequest → Result B Refusal) (y : B) → length l ≡ size_of three →
    ((rest : List ℕ) → rest ≡ [] → k (record { value = third_at three l; rest = rest }) ≡ Ok y) → Result.◌>>=◌ (third_part three (drop 90 l)) k ≡ only (third_ok three l) y
third_part_is true l k y h f = last pll_part_is k l 90 y (omega arith) λ t. f (drop 106 l) (drop_of_length-le l {i = 106} (omega arith))
third_part_is false l k y h f = f (drop 90 l) (drop_of_length-le l {i = 90} (omega arith))

-- ---- the whole request
and_assoc : (a b c : Bool) → (a && b) && c ≡ a && (b && c)
and_assoc true b c = refl
and_assoc false b c = refl

and_true : (a : Bool) → a && true ≡ a
and_true true = refl
and_true false = refl

and_false : (a : Bool) → a && false ≡ false
and_false true = refl
and_false false = refl

-- the tests in a row, and those on codes apart. A row: nine hertz, a flag, a source and a hertz twice, three parts
regroup :
    (a b c d e f g h i j m o t u v k n p q r : Bool) →
    a && (b && (c && (d && (e && (f && (g && (h && (i && (j && (k && (m && (n && (o && ((p && t) && ((q && u) && (r && v))))))))))))))))
    ≡ (((a && (b && c)) && ((d && (e && f)) && (g && (h && i)))) && ((j && (m && o)) && (t && (u && v)))) && (k && (n && (p && (q && r))))
regroup a b c d e f g h i j m o t u v true true true true true = simp (and_assoc, and_true)
regroup a b c d e f g h i j m o t u v false n p q r = simp (and_assoc, and_false)
regroup a b c d e f g h i j m o t u v true false p q r = simp (and_assoc, and_false)
regroup a b c d e f g h i j m o t u v true true false q r = simp (and_assoc, and_false)
regroup a b c d e f g h i j m o t u v true true true false r = simp (and_assoc, and_false)
regroup a b c d e f g h i j m o t u v true true true true false = simp (and_assoc, and_false)

module _ (three : Bool) (l : List ℕ) (size : length l ≡ size_of three) where
  long : 90 ≤ length l
  long = omega (arith, at_least three)

  request_is : request_part three l ≡ only (formed three l && codes_ok three l) (record { value = decoded three l; rest = [] })
  unfolding request_part formed clocks_ok outputs_ok plls_ok three_ok codes_ok decoded request_with end
  request_is =
      let n = long in
      rw (← regroup (hertz_ok l 0) (hertz_ok l 5) (hertz_ok l 10) (hertz_ok l 15) (hertz_ok l 20) (hertz_ok l 25) (hertz_ok l 30) (hertz_ok l 35) (hertz_ok l 40) (code_ok 2 l 45) (hertz_ok l 47) (hertz_ok l 53) (three_ok l 59) (three_ok l 75) (third_hertz_ok three l) (code_ok 5 l 46) (code_ok 6 l 52) (code_ok 2 l 58) (code_ok 2 l 74) (third_code_ok three l))
      (stage hertz_part _ l 0 _ _ (omega arith) λ t0.
      stage hertz_part _ l 5 _ _ (omega arith) λ t1.
      stage hertz_part _ l 10 _ _ (omega arith) λ t2.
      stage hertz_part _ l 15 _ _ (omega arith) λ t3.
      stage hertz_part _ l 20 _ _ (omega arith) λ t4.
      stage hertz_part _ l 25 _ _ (omega arith) λ t5.
      stage hertz_part _ l 30 _ _ (omega arith) λ t6.
      stage hertz_part _ l 35 _ _ (omega arith) λ t7.
      stage hertz_part _ l 40 _ _ (omega arith) λ t8.
      stage flag_part _ l 45 _ _ (omega arith) λ t9.
      stage mco1_part _ l 46 _ _ (omega arith) λ t10.
      stage hertz_part _ l 47 _ _ (omega arith) λ t11.
      stage mco2_part _ l 52 _ _ (omega arith) λ t12.
      stage hertz_part _ l 53 _ _ (omega arith) λ t13.
      stage pll_part_is _ l 58 _ _ (omega arith) λ t14.
      stage pll_part_is _ l 74 _ _ (omega arith) λ t15.
      third_part_is three l _ _ size λ rest e.
      rw e)

-- ---- with the chip
-- a slice of bytes is a list of bytes
pub all_bytes : (l : List ℕ) → ((i : ℕ) → get_or l i 0 < 256) → AllBytes l
all_bytes [] f = tt
all_bytes (b ∷ l) f = (f 0, all_bytes l (λ i. f (suc i)))

module _ (l : List ℕ) (chip : Chip) (state : ChipState) (known : chip_of chip ≡ Ok state) where
  pub bad_size : AllBytes l → (length l ≡ size_of state.three → ⊥) → Err OutsideCodes ≡ request_of l chip
  bad_size h n = go (request_of l chip) refl where
    go : (r : Result Asked Refusal) → request_of l chip ≡ r → Err OutsideCodes ≡ r
    go (Err x) e = ap Err (sym (outside_codes l chip x e))
    go (Ok a) e =
        let same : state.three ≡ a.chip.three = ap (λ (s : ChipState). s.three) (ok_same (sym known ∙ (asked_by l chip a h e).allowed)) in
        absurd (n (rw same (accepted_length l chip a h e)))

  module _ (size : length l ≡ size_of state.three) where
    pub bad_form : formed state.three l ≡ false → Err OutsideCodes ≡ request_of l chip
    unfolding request_of
    bad_form t = rw (known, request_is state.three l size, t)

    module _ (good : formed state.three l ≡ true) where
      abbrev asked_of : Result Request Refusal → Result Asked Refusal
      asked_of (Ok q) = Ok (record { request = q; chip = state })
      asked_of (Err n) = Err n

      decoded_is : asked_of (only (codes_ok state.three l) (decoded state.three l)) ≡ request_of l chip
      unfolding request_of
      decoded_is =
          by_test (codes_ok state.three l) (λ (t : codes_ok state.three l ≡ true). rw (known, request_is state.three l size, good, t))
          (λ (t : codes_ok state.three l ≡ false). rw (known, request_is state.three l size, good, t))

      pub taken : (q : Request) → Ok q ≡ only (codes_ok state.three l) (decoded state.three l) → ◌≡◌ {A = Result Asked Refusal} (Ok (record { request = q; chip = state })) (request_of l chip)
      taken q e = ap asked_of e ∙ decoded_is

      pub bad_code : (n : Refusal) → Err n ≡ only (codes_ok state.three l) (decoded state.three l) → ◌≡◌ {A = Result Asked Refusal} (Err n) (request_of l chip)
      bad_code n e = ap asked_of e ∙ decoded_is

-- ---- one PLL's part by itself
module _ (l : List ℕ) where
  pub bad_part_size : (length l ≡ 16 → ⊥) → Err OutsideCodes ≡ part_of l
  unfolding part_of
  bad_part_size n = rw (ne_eqb (length l) 16 n)

  module _ (size : length l ≡ 16) where
    part_is : pll_part l ≡ only (pll_ok l 0) (record { value = part_at l 0; rest = drop 16 l })
    part_is = pll_part_is.reads l 0 (omega arith)

    pub bad_part : three_ok l 1 ≡ false → Err OutsideCodes ≡ part_of l
    unfolding part_of
    bad_part t =
        by_test (code_ok 2 l 0) (λ (c : code_ok 2 l 0 ≡ true). rw (eq-eqb (length l) 16 size, part_is, c, t))
        (λ (c : code_ok 2 l 0 ≡ false). rw (eq-eqb (length l) 16 size, part_is, c))

    pub part_taken : three_ok l 1 ≡ true → part_coded l 0 ≡ part_of l
    unfolding part_of
    part_taken t =
        by_test (code_ok 2 l 0) (λ (c : code_ok 2 l 0 ≡ true). rw (eq-eqb (length l) 16 size, part_is, c, t))
        (λ (c : code_ok 2 l 0 ≡ false). rw (eq-eqb (length l) 16 size, part_is, c))

-- what a request, and a part by itself, are read by
pub ruleset reads = (all_bytes, bad_size, bad_form, taken, bad_code)

pub ruleset part_reads = (bad_part_size, bad_part, part_taken)
