-- The parts of a request's byte form: what is written is read again, and only what is written is read (document 01, One call, from the top).
use Rattle.std.specs.Prelude.{Option, Some, None, Result, Ok}
use mathlib.Core.Path.{◌≡◌, refl, sym, ap, subst, ◌∙◌}
use mathlib.Core.Bool.{Bool, true, false, cond}
use mathlib.Core.List.{List, [], ◌∷◌, ◌++◌, append_assoc}
use Prim.Native.Nat.{ℕ, zero, suc, ◌+◌, ◌*◌, ◌/◌, ◌%◌, ◌<◌}
use native.Mathlib.Omega.{arith}
use native.Mathlib.Nat.{div-div-eq-div-mul, div-eq_of_lt-le, mod-add-div, mod-eq_of_lt, add-mul-mod_self_left}
use lib.Dec.{eqb, ltb}
use lib.ListN.{get_or}
use borrow.Author.Tests.{ltb-true, lt-ltb, eqb-true}
use Rattle.types.specs.declared.Refusal.{Refusal}
use Rattle.laws.proofs.Tests.{by_test, all_below, at_each}
use Rattle.types.specs.declared.Strategy.TheVariants.{Integer, Fractional}
use Rattle.types.specs.declared.Mco1Source.{Mco1Source}
use Rattle.types.specs.declared.Mco2Source.{Mco2Source}
use Rattle.types.specs.declared.PllRequest.{PllRequest}
use Rattle.rules.specs.Document01.Result as Result
use Rattle.rules.specs.Document01.Mco.{mco1_code, mco2_code}
use Rattle.rules.proofs.Document01.Results.{ok_same, not_ok, bind_ok}
use Rattle.rules.specs.Document01.Bytes.{Read, Reader, ◌>>=◌, return, byte, code, u32le, set_to, hertz, flag, mco1_sources, mco1_source, mco2_sources, mco2_source, strategy, pll_part, third_part, u32le_bytes, hertz_bytes, flag_byte, strategy_code, pll_bytes, third_bytes, AllBytes, Hertz32, Pll32, Third}

-- a value that was read, with the bytes after it
abbrev pub read_as : {A : Type 0} → A → List ℕ → Result (Read A) Refusal
read_as a rest = Ok (record { value = a; rest = rest })

-- bytes are those of a good value, and the rest
pub record Written {A : Type 0} (w : A → List ℕ) (Good : A → Type 0) (bytes : List ℕ) (x : Read A) : Type 0 where
  pub split : bytes ≡ w x.value ++ x.rest
  pub after : AllBytes x.rest
  pub good : Good x.value

-- a good value is read again from its bytes, whatever follows them; and nothing else is read
pub record Inverse {A : Type 0} (r : Reader A) (w : A → List ℕ) (Good : A → Type 0) : Type 0 where
  pub back : (a : A) (rest : List ℕ) → Good a → r (w a ++ rest) ≡ read_as a rest
  pub only : (bytes : List ℕ) (x : Read A) → AllBytes bytes → r bytes ≡ Ok x → Written w Good bytes x

-- ---- results
-- where two steps come to a value, so does the first
pub with_ok : {A B Q : Type 0} (s : Result A Refusal) (k : A → Result B Refusal) (x : B) → Result.◌>>=◌ s k ≡ Ok x → ((a : A) → s ≡ Ok a → k a ≡ Ok x → Q) → Q
with_ok s k x e f = let b = bind_ok s k x e in f b.0 b.1 b.2

-- the value made at the end is what was read
ends :
    {A : Type 0} {w : A → List ℕ} {Good : A → Type 0} {bytes : List ℕ} {x : Read A} {a : A} {rest : List ℕ} →
    read_as a rest ≡ Ok x → bytes ≡ w a ++ rest → AllBytes rest → Good a → Written w Good bytes x
ends {w = w} {Good = Good} {bytes = bytes} e s h g = subst (Written w Good bytes) (ok_same e) (record { split = s; after = h; good = g })

-- ---- one part, then the next: writing, and reading
module _ {A B : Type 0} {r : Reader A} {w : A → List ℕ} {Good : A → Type 0} (i : Inverse r w Good) where
  pub give : (k : Read A → Result B Refusal) (a : A) (rest : List ℕ) {y : Result B Refusal} → Good a → k (record { value = a; rest = rest }) ≡ y → Result.◌>>=◌ (r (w a ++ rest)) k ≡ y
  give k a rest g e = rw (i.back a rest g) e

  pub take :
      {Q : Type 0} (k : Read A → Result B Refusal) (x : B) (bytes : List ℕ) → AllBytes bytes → Result.◌>>=◌ (r bytes) k ≡ Ok x →
      ((a : A) (rest : List ℕ) → bytes ≡ w a ++ rest → AllBytes rest → Good a → k (record { value = a; rest = rest }) ≡ Ok x → Q) → Q
  take k x bytes h e f =
      with_ok (r bytes) k x e λ y p n.
      let o = i.only bytes y h p in
      f y.value y.rest o.split o.after o.good n

-- ---- codes
code_only : (n : ℕ) (bytes : List ℕ) (x : Read ℕ) → AllBytes bytes → code n bytes ≡ Ok x → Written (λ b. b ∷ []) (λ b. b < n) bytes x
unfolding code byte
code_only n [] x h e = not_ok e
code_only n (b ∷ rest) x h e =
    by_test (ltb b n)
    (λ (t : ltb b n ≡ true). ends (rw t at e) refl h.1 (ltb-true b n t))
    (λ (f : ltb b n ≡ false). not_ok (rw f at e))

code_inverse : (n : ℕ) → Inverse (code n) (λ b. b ∷ []) (λ b. b < n)
unfolding code byte
code_inverse n = record { back = λ a rest g. rw (lt-ltb a n g); only = code_only n }

-- ---- a word
-- the number of four bytes
word_is : (h : ℕ) → h < 4_294_967_296 → h % 256 + 256 * (h / 256 % 256) + 65_536 * (h / 65_536 % 256) + 16_777_216 * (h / 16_777_216 % 256) ≡ h
word_is h g =
    let top : h / 16_777_216 < 256 = omega arith in
    let b0 : h % 256 + 256 * (h / 256) ≡ h = mod-add-div h 256 in
    let b1 : h / 256 % 256 + 256 * (h / 65_536) ≡ h / 256 = rw (← div-div-eq-div-mul h 256 256) (mod-add-div (h / 256) 256) in
    let b2 : h / 65_536 % 256 + 256 * (h / 16_777_216) ≡ h / 65_536 = rw (← div-div-eq-div-mul h 65_536 256) (mod-add-div (h / 65_536) 256) in
    let b3 : h / 16_777_216 % 256 ≡ h / 16_777_216 = mod-eq_of_lt top in
    omega arith

-- the low byte of a number
low : (a n : ℕ) → a < 256 → (a + 256 * n) % 256 ≡ a
low a n h = add-mul-mod_self_left a 256 n ∙ mod-eq_of_lt h

-- the bytes of a number
module _ (a b c d : ℕ) (ha : a < 256) (hb : b < 256) (hc : c < 256) (hd : d < 256) where
  bytes_are : (h : ℕ) → h ≡ a + 256 * b + 65_536 * c + 16_777_216 * d → (rest : List ℕ) → a ∷ b ∷ c ∷ d ∷ rest ≡ u32le_bytes h ++ rest
  bytes_are h e rest =
      let d0 : h ≡ a + 256 * (b + 256 * (c + 256 * d)) = omega arith in
      let b0 : h % 256 ≡ a = rw d0 (low a (b + 256 * (c + 256 * d)) ha) in
      let d1 : h / 256 ≡ b + 256 * (c + 256 * d) = div-eq_of_lt-le 256 (omega arith) (omega arith) in
      let b1 : h / 256 % 256 ≡ b = rw d1 (low b (c + 256 * d) hb) in
      let d2 : h / 65_536 ≡ c + 256 * d = div-eq_of_lt-le 65_536 (omega arith) (omega arith) in
      let b2 : h / 65_536 % 256 ≡ c = rw d2 (low c d hc) in
      let d3 : h / 16_777_216 ≡ d = div-eq_of_lt-le 16_777_216 (omega arith) (omega arith) in
      let b3 : h / 16_777_216 % 256 ≡ d = rw d3 (mod-eq_of_lt hd) in
      cc

u32le_only : (bytes : List ℕ) (x : Read ℕ) → AllBytes bytes → u32le bytes ≡ Ok x → Written u32le_bytes (λ h. h < 4_294_967_296) bytes x
unfolding u32le byte
u32le_only [] x h e = not_ok e
u32le_only (a ∷ []) x h e = not_ok e
u32le_only (a ∷ b ∷ []) x h e = not_ok e
u32le_only (a ∷ b ∷ c ∷ []) x h e = not_ok e
u32le_only (a ∷ b ∷ c ∷ d ∷ rest) x h e =
    ends e (bytes_are a b c d h.0 h.1.0 h.1.1.0 h.1.1.1.0 _ refl rest) h.1.1.1.1 (omega arith)

u32le_inverse : Inverse u32le u32le_bytes (λ h. h < 4_294_967_296)
unfolding u32le byte
u32le_inverse = record { back = λ a rest g. ap (λ (h : ℕ). read_as h rest) (word_is a g); only = u32le_only }

-- ---- hertz
hertz_back : (a : Option ℕ) (rest : List ℕ) → Hertz32 a → hertz (hertz_bytes a ++ rest) ≡ read_as a rest
unfolding hertz
hertz_back None rest g = give (code_inverse 2) _ 0 _ (omega arith) (give u32le_inverse _ 0 rest (omega arith) refl)
hertz_back (Some h) rest g = give (code_inverse 2) _ 1 _ (omega arith) (give u32le_inverse _ h rest g refl)

set_only : (set n : ℕ) (rest : List ℕ) (x : Read (Option ℕ)) → AllBytes rest → set < 2 → n < 4_294_967_296 → set_to set n rest ≡ Ok x → Written hertz_bytes Hertz32 (set ∷ (u32le_bytes n ++ rest)) x
set_only zero n rest x h s g e =
    by_test (eqb n 0)
    (λ (t : eqb n 0 ≡ true). ends (rw t at e) (rw (eqb-true n 0 t)) h tt)
    (λ (f : eqb n 0 ≡ false). not_ok (rw f at e))
set_only (suc zero) n rest x h s g e = ends e refl h g
set_only (suc (suc set)) n rest x h s g e = absurd (omega arith)

hertz_only : (bytes : List ℕ) (x : Read (Option ℕ)) → AllBytes bytes → hertz bytes ≡ Ok x → Written hertz_bytes Hertz32 bytes x
unfolding hertz
hertz_only bytes x h e =
    take (code_inverse 2) _ x bytes h e λ set l p h s e.
    take u32le_inverse _ x l h e λ n rest q h g e.
    rw (p, q) (set_only set n rest x h s g e)

pub hertz_inverse : Inverse hertz hertz_bytes Hertz32
hertz_inverse = record { back = hertz_back; only = hertz_only }

-- ---- a code that names a value
module _ {A : Type 0} (n : ℕ) (f : ℕ → A) (w : A → ℕ) (below : (a : A) → w a < n) (back : (a : A) → f (w a) ≡ a) (each : all_below (λ c. eqb (w (f c)) c) n ≡ true) where
  coded : Inverse (code n >>= λ c. return (f c)) (λ a. w a ∷ []) (λ a. Unit {0})
  coded = record {
    back = λ a rest g. give (code_inverse n) _ (w a) rest (below a) (ap (λ (v : A). read_as v rest) (back a));
    only = λ bytes x h e.
        take (code_inverse n) _ x bytes h e λ c rest p h s e.
        ends e (rw (eqb-true (w (f c)) c (at_each (λ c. eqb (w (f c)) c) n each c s)) p) h tt;
  }

pub flag_inverse : Inverse flag (λ a. flag_byte a ∷ []) (λ a. Unit {0})
unfolding flag
flag_inverse = coded 2 (λ c. eqb c 1) flag_byte (elim [ false ↦ omega arith | true ↦ omega arith ]) (elim [ false ↦ refl | true ↦ refl ]) refl

strategy_inverse : Inverse strategy (λ a. strategy_code a ∷ []) (λ a. Unit {0})
unfolding strategy
strategy_inverse =
    coded 2 (λ c. cond (eqb c 0) Integer Fractional) strategy_code
    (elim [ Integer ↦ omega arith | Fractional ↦ omega arith ])
    (elim [ Integer ↦ refl | Fractional ↦ refl ])
    refl

pub mco1_inverse : Inverse mco1_source (λ a. mco1_code a ∷ []) (λ a. Unit {0})
unfolding mco1_source
mco1_inverse =
    coded 5 (λ c. get_or mco1_sources c Mco1Source.Hsi) mco1_code
    (elim [ Mco1Source.Hsi ↦ omega arith | Mco1Source.Lse ↦ omega arith | Mco1Source.Hse ↦ omega arith | Mco1Source.Pll1Q ↦ omega arith | Mco1Source.Hsi48 ↦ omega arith ])
    (elim [ Mco1Source.Hsi ↦ refl | Mco1Source.Lse ↦ refl | Mco1Source.Hse ↦ refl | Mco1Source.Pll1Q ↦ refl | Mco1Source.Hsi48 ↦ refl ])
    refl

pub mco2_inverse : Inverse mco2_source (λ a. mco2_code a ∷ []) (λ a. Unit {0})
unfolding mco2_source
mco2_inverse =
    coded 6 (λ c. get_or mco2_sources c Mco2Source.Sysclk) mco2_code
    (elim [ Mco2Source.Sysclk ↦ omega arith | Mco2Source.Pll2P ↦ omega arith | Mco2Source.Hse ↦ omega arith | Mco2Source.Pll1P ↦ omega arith | Mco2Source.Csi ↦ omega arith | Mco2Source.Lsi ↦ omega arith ])
    (elim [ Mco2Source.Sysclk ↦ refl | Mco2Source.Pll2P ↦ refl | Mco2Source.Hse ↦ refl | Mco2Source.Pll1P ↦ refl | Mco2Source.Csi ↦ refl | Mco2Source.Lsi ↦ refl ])
    refl

-- ---- a PLL's part
pll_back : (a : PllRequest) (rest : List ℕ) → Pll32 a → pll_part (pll_bytes a ++ rest) ≡ read_as a rest
unfolding pll_part
pll_back a rest g =
    give strategy_inverse _ a.strategy _ tt (rw append_assoc
    (give hertz_inverse _ a.p _ g.p (rw append_assoc
    (give hertz_inverse _ a.q _ g.q
    (give hertz_inverse _ a.r _ g.r refl)))))

pll_only : (bytes : List ℕ) (x : Read PllRequest) → AllBytes bytes → pll_part bytes ≡ Ok x → Written pll_bytes Pll32 bytes x
unfolding pll_part
pll_only bytes x h e =
    take strategy_inverse _ x bytes h e λ s l0 b0 h0 g0 e0.
    take hertz_inverse _ x l0 h0 e0 λ p l1 b1 h1 g1 e1.
    take hertz_inverse _ x l1 h1 e1 λ q l2 b2 h2 g2 e2.
    take hertz_inverse _ x l2 h2 e2 λ r l3 b3 h3 g3 e3.
    ends e3 (simp append_assoc (cc (b0, b1, b2, b3))) h3 (record { p = g1; q = g2; r = g3 })

pub pll_inverse : Inverse pll_part pll_bytes Pll32
pll_inverse = record { back = pll_back; only = pll_only }

pub third_inverse : (three : Bool) → Inverse (third_part three) (third_bytes three) (λ a. Pll32 a × Third three a)
third_inverse true = record {
  back = λ a rest g. pll_back a rest g.0;
  only = λ bytes x h e. let o = pll_only bytes x h e in record { split = o.split; after = o.after; good = (o.good, tt) };
}
third_inverse false = record {
  back = λ a rest g. ap (λ v. read_as v rest) (sym g.1);
  only = λ bytes x h e. ends e refl h (record { p = tt; q = tt; r = tt }, refl);
}
