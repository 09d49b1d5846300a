-- The bytes of a request: reading them part by part says what the rows by places say, and comes to the request by places.
use Rattle.std.specs.Prelude.{Some, None, Result, Ok, Err, Option}
use mathlib.Core.Path.{◌≡◌, refl, ap, ◌∙◌, subst}
use mathlib.Core.Bool.{Bool, true, false, not, cond, ◌&&◌, ◌||◌}
use mathlib.Core.List.{List, [], ◌∷◌, ◌++◌, append-nil}
use Prim.Native.Nat.{ℕ, zero, suc, ◌+◌, ◌*◌, ◌≤◌}
use native.Mathlib.Omega.{arith}
use lib.Dec.{leb, ltb, eqb}
use lib.ListN.{length, get_or, drop, drop_of_length-le}
use lib.Seq.{drop-cons}
use borrow.Author.Tests.{eqb-true, eqb-false, le-ltb, le-leb}
use Rattle.types.specs.declared.Refusal.{Refusal}
use Rattle.laws.proofs.Tests.{by_test}
use Rattle.types.specs.declared.Strategy.TheVariants.{Integer, Fractional}
use Rattle.types.specs.declared.Mco1Source.{Mco1Source}
use Rattle.types.specs.declared.Mco2Source.{Mco2Source}
use Rattle.types.specs.declared.Request.{Request}
use Rattle.types.specs.declared.Refusal.TheVariants.{OutsideCodes}
use Rattle.rules.specs.Document01.Result as Result
use Rattle.rules.specs.Document01.Bytes.{Read, Reader, ◌>>=◌, ◌>>◌, return, fits, byte, end, code, u32le, set_to, hertz, flag, mco1_sources, mco1_source, mco2_sources, mco2_source, strategy, pll_part, no_part, third_part, request_part}
use Rattle.claims.specs.Demands.Rows.{◌when◌}
use Rattle.claims.specs.Demands.ByPlaces.{at, hertz_at, bad_code, bad_hertz, part_at, request_at}
use Rattle.claims.specs.Demands.Refused.{part_rows, byte_rows}
use Rattle.rules.proofs.Document01.Results.{Only, ok_same, not_ok}
use Rattle.rules.proofs.Document01.RefusalsOfCalls.{request_only}
use Rattle.rules.proofs.Document01.BytesWhole.{at_least}
use Rattle.rules.proofs.Document01.Bytes.{read_as, with_ok}
use Rattle.claims.proofs.Refused.Says.{number, told, Says, says_then, says_ok}
use Rattle.claims.proofs.Refused.OnePll.{lt_turned}

-- ---- bytes in hand
says_code : (n x : ℕ) (l : List ℕ) → Says (code n (x ∷ l)) (record { value = x; rest = l }) ((1 when leb n x) ∷ [])
unfolding code byte
says_code n x l = rw (lt_turned x n) (go (leb n x))
  where
    go : (b : Bool) → Says (Result.◌>>=◌ (fits (not b) l) (λ y. read_as x y.rest)) (record { value = x; rest = l }) ((1 when b) ∷ [])
    go true = record { same = refl }
    go false = record { same = refl }

says_set : (w : ℕ) (l : List ℕ) → Says (set_to zero w l) (record { value = None; rest = l }) ((1 when not (eqb w 0)) ∷ [])
says_set w l = go (eqb w 0)
  where
    go : (b : Bool) → Says (Result.◌>>=◌ (fits b l) (λ y. read_as {A = Option ℕ} None y.rest)) (record { value = None; rest = l }) ((1 when not b) ∷ [])
    go true = record { same = refl }
    go false = record { same = refl }

says_hertz : (x a b c d : ℕ) (l : List ℕ) → let w : ℕ = a + 256 * b + 65_536 * c + 16_777_216 * d in
    Says (hertz (x ∷ a ∷ b ∷ c ∷ d ∷ l)) (record { value = cond (eqb x 0) None (Some w); rest = l }) ((1 when (leb 2 x || (eqb x 0 && not (eqb w 0)))) ∷ [])
unfolding hertz u32le byte code
says_hertz zero a b c d l = says_set (a + 256 * b + 65_536 * c + 16_777_216 * d) l
says_hertz (suc zero) a b c d l = record { same = refl }
says_hertz (suc (suc x)) a b c d l = rw (le-ltb (suc (suc x)) 2 (omega arith), le-leb 2 (suc (suc x)) (omega arith)) (record { same = refl })

-- ---- bytes at a place, where there are enough; j is the place after them
module _ (bytes : List ℕ) where
  one : (k j : ℕ) → k + 1 ≡ j → j ≤ length bytes → drop k bytes ≡ at bytes k ∷ drop j bytes
  one k j e h = let s : j ≡ suc k = omega arith in rw s (drop-cons bytes k 0 (omega arith))

  five : (k j : ℕ) → k + 5 ≡ j → j ≤ length bytes → drop k bytes ≡ at bytes k ∷ at bytes (k + 1) ∷ at bytes (k + 1 + 1) ∷ at bytes (k + 1 + 2) ∷ at bytes (k + 1 + 3) ∷ drop j bytes
  five k j e h =
      one k (k + 1) refl (omega arith)
      ∙ ap (λ l. at bytes k ∷ l) (one (k + 1) (k + 1 + 1) refl (omega arith)
      ∙ ap (λ l. at bytes (k + 1) ∷ l) (one (k + 1 + 1) (k + 1 + 2) (omega arith) (omega arith)
      ∙ ap (λ l. at bytes (k + 1 + 1) ∷ l) (one (k + 1 + 2) (k + 1 + 3) (omega arith) (omega arith)
      ∙ ap (λ l. at bytes (k + 1 + 2) ∷ l) (one (k + 1 + 3) j (omega arith) h))))

  module _ (k j : ℕ) where
    says_code_at : (n : ℕ) → k + 1 ≡ j → j ≤ length bytes → Says (code n (drop k bytes)) (record { value = at bytes k; rest = drop j bytes }) ((1 when bad_code n bytes k) ∷ [])
    says_code_at n e h = rw (one k j e h) (says_code n (at bytes k) (drop j bytes))

    says_hertz_at : k + 5 ≡ j → j ≤ length bytes → Says (hertz (drop k bytes)) (record { value = hertz_at bytes k; rest = drop j bytes }) ((1 when bad_hertz bytes k) ∷ [])
    says_hertz_at e h = rw (five k j e h) (says_hertz (at bytes k) (at bytes (k + 1)) (at bytes (k + 1 + 1)) (at bytes (k + 1 + 2)) (at bytes (k + 1 + 3)) (drop j bytes))

    -- a code that names a value
    says_coded : {A : Type 0} (n : ℕ) (f : ℕ → A) → k + 1 ≡ j → j ≤ length bytes
        → Says ((code n >>= λ c. return (f c)) (drop k bytes)) (record { value = f (at bytes k); rest = drop j bytes }) ((1 when bad_code n bytes k) ∷ [])
    says_coded n f e h = says_then _ (says_code_at n e h) (says_ok (record { value = f (at bytes k); rest = drop j bytes }))

  says_part_at : (k j : ℕ) → k + 16 ≡ j → j ≤ length bytes → Says (pll_part (drop k bytes)) (record { value = part_at bytes k; rest = drop j bytes }) (part_rows bytes k)
  unfolding pll_part strategy
  says_part_at k j e h =
      says_then _ (says_coded k (k + 1) 2 (λ c. cond (eqb c 0) Integer Fractional) refl (omega arith))
      (says_then _ (says_hertz_at (k + 1) (k + 6) (omega arith) (omega arith))
      (says_then _ (says_hertz_at (k + 6) (k + 11) (omega arith) (omega arith))
      (says_then _ (says_hertz_at (k + 11) j (omega arith) h) (says_ok (record { value = part_at bytes k; rest = drop j bytes })))))

  says_third_at : (three : Bool) (j : ℕ) → cond three 106 90 ≡ j → j ≤ length bytes
      → Says (third_part three (drop 90 bytes)) (record { value = cond three (part_at bytes 90) no_part; rest = drop j bytes }) (cond three (part_rows bytes 90) [])
  says_third_at true j e h = says_part_at 90 j e h
  says_third_at false j e h = rw (← e) (says_ok (record { value = no_part; rest = drop 90 bytes }))

  says_end : (j : ℕ) → length bytes ≡ j → Says (end (drop j bytes)) (record { value = tt; rest = [] }) []
  unfolding end
  says_end j e = rw (drop_of_length-le bytes {i = j} (omega arith)) (record { same = refl })

  -- the whole request, where the length is right
  says_places : (three : Bool) → length bytes ≡ cond three 106 90 → 90 ≤ length bytes
      → Says (request_part three bytes) (record { value = request_at three bytes; rest = [] })
      (1 when bad_hertz bytes 0
      ∷ 1 when bad_hertz bytes 5
      ∷ 1 when bad_hertz bytes 10
      ∷ 1 when bad_hertz bytes 15
      ∷ 1 when bad_hertz bytes 20
      ∷ 1 when bad_hertz bytes 25
      ∷ 1 when bad_hertz bytes 30
      ∷ 1 when bad_hertz bytes 35
      ∷ 1 when bad_hertz bytes 40
      ∷ 1 when bad_code 2 bytes 45
      ∷ 1 when bad_code 5 bytes 46
      ∷ 1 when bad_hertz bytes 47
      ∷ 1 when bad_code 6 bytes 52
      ∷ 1 when bad_hertz bytes 53
      ∷ (part_rows bytes 58 ++ (part_rows bytes 74 ++ (cond three (part_rows bytes 90) [] ++ []))))
  unfolding request_part request_at flag mco1_source mco2_source
  says_places three e h =
      says_then _ (says_hertz_at 0 5 refl (omega arith))
      (says_then _ (says_hertz_at 5 10 refl (omega arith))
      (says_then _ (says_hertz_at 10 15 refl (omega arith))
      (says_then _ (says_hertz_at 15 20 refl (omega arith))
      (says_then _ (says_hertz_at 20 25 refl (omega arith))
      (says_then _ (says_hertz_at 25 30 refl (omega arith))
      (says_then _ (says_hertz_at 30 35 refl (omega arith))
      (says_then _ (says_hertz_at 35 40 refl (omega arith))
      (says_then _ (says_hertz_at 40 45 refl (omega arith))
      (says_then _ (says_coded 45 46 2 (λ c. eqb c 1) refl (omega arith))
      (says_then _ (says_coded 46 47 5 (λ c. get_or mco1_sources c Mco1Source.Hsi) refl (omega arith))
      (says_then _ (says_hertz_at 47 52 refl (omega arith))
      (says_then _ (says_coded 52 53 6 (λ c. get_or mco2_sources c Mco2Source.Sysclk) refl (omega arith))
      (says_then _ (says_hertz_at 53 58 refl (omega arith))
      (says_then _ (says_part_at 58 74 refl (omega arith))
      (says_then _ (says_part_at 74 90 refl (omega arith))
      (says_then _ (says_third_at three (cond three 106 90) refl (omega arith))
      (says_then _ (says_end (cond three 106 90) e) (says_ok (record { value = request_at three bytes; rest = [] })))))))))))))))))))

-- ---- the length of what is read
-- a reader that takes w bytes, and one that takes w bytes and finds no more
abbrev Takes : {A : Type 0} → Reader A → ℕ → Type 0
Takes {A} r w = (l : List ℕ) (x : Read A) → r l ≡ Ok x → length l ≡ w + length x.rest

abbrev Ends : {A : Type 0} → Reader A → ℕ → Type 0
Ends {A} r w = (l : List ℕ) (x : Read A) → r l ≡ Ok x → length l ≡ w

takes_then : {A B : Type 0} (r : Reader A) (k : A → Reader B) (w v : ℕ) → Takes r w → ((a : A) → Takes (k a) v) → Takes (r >>= k) (w + v)
takes_then r k w v g h l x e = with_ok (r l) (λ y. k y.value y.rest) x e λ y p n. let s = g l y p in let t = h y.value y.rest x n in omega arith

ends_then : {A B : Type 0} (r : Reader A) (k : A → Reader B) (w v : ℕ) → Takes r w → ((a : A) → Ends (k a) v) → Ends (r >>= k) (w + v)
ends_then r k w v g h l x e = with_ok (r l) (λ y. k y.value y.rest) x e λ y p n. let s = g l y p in let t = h y.value y.rest x n in omega arith

return_takes : {A : Type 0} (a : A) → Takes (return a) 0
return_takes a l x e = let h : length l ≡ length x.rest = ap (λ y. length y.rest) (ok_same e) in omega arith

fits_takes : {A : Type 0} (t : Bool) (r : Reader A) (w : ℕ) → Takes r w → Takes (fits t >> r) w
fits_takes true r w h l x e = h l x e
fits_takes false r w h l x e = not_ok e

byte_takes : Takes byte 1
unfolding byte
byte_takes [] x e = not_ok e
byte_takes (b ∷ l) x e = let h : length l ≡ length x.rest = ap (λ y. length y.rest) (ok_same e) in omega arith

code_takes : (n : ℕ) → Takes (code n) 1
unfolding code
code_takes n = takes_then byte (λ b. fits (ltb b n) >> return b) 1 0 byte_takes (λ b. fits_takes (ltb b n) (return b) 0 (return_takes b))

coded_takes : {A : Type 0} (n : ℕ) (f : ℕ → A) → Takes (code n >>= λ c. return (f c)) 1
coded_takes n f = takes_then (code n) (λ c. return (f c)) 1 0 (code_takes n) (λ c. return_takes (f c))

u32le_takes : Takes u32le 4
unfolding u32le
u32le_takes = takes_then byte _ 1 3 byte_takes λ a. takes_then byte _ 1 2 byte_takes λ b. takes_then byte _ 1 1 byte_takes λ c. takes_then byte _ 1 0 byte_takes λ d. return_takes _

set_takes : (set w : ℕ) → Takes (set_to set w) 0
set_takes zero w = fits_takes (eqb w 0) (return None) 0 (return_takes None)
set_takes (suc set) w = return_takes (Some w)

hertz_takes : Takes hertz 5
unfolding hertz
hertz_takes = takes_then (code 2) _ 1 4 (code_takes 2) λ s. takes_then u32le (set_to s) 4 0 u32le_takes (set_takes s)

part_takes : Takes pll_part 16
unfolding pll_part strategy
part_takes =
    takes_then _ _ 1 15 (coded_takes 2 (λ c. cond (eqb c 0) Integer Fractional)) λ s.
    takes_then hertz _ 5 10 hertz_takes λ p. takes_then hertz _ 5 5 hertz_takes λ q. takes_then hertz _ 5 0 hertz_takes λ r. return_takes _

third_takes : (three : Bool) → Takes (third_part three) (cond three 16 0)
third_takes true = part_takes
third_takes false = return_takes no_part

end_ends : {A : Type 0} (a : A) → Ends (end >> return a) 0
unfolding end
end_ends a [] x e = refl
end_ends a (b ∷ l) x e = not_ok e

request_ends : (three : Bool) → Ends (request_part three) (5 + (5 + (5 + (5 + (5 + (5 + (5 + (5 + (5 + (1 + (1 + (5 + (1 + (5 + (16 + (16 + (cond three 16 0 + 0)))))))))))))))))
unfolding request_part flag mco1_source mco2_source
request_ends three =
    ends_then hertz _ 5 _ hertz_takes λ hse. ends_then hertz _ 5 _ hertz_takes λ lse. ends_then hertz _ 5 _ hertz_takes λ audio.
    ends_then hertz _ 5 _ hertz_takes λ system. ends_then hertz _ 5 _ hertz_takes λ peripheral. ends_then hertz _ 5 _ hertz_takes λ ahb.
    ends_then hertz _ 5 _ hertz_takes λ apb1. ends_then hertz _ 5 _ hertz_takes λ apb2. ends_then hertz _ 5 _ hertz_takes λ apb3.
    ends_then _ _ 1 _ (coded_takes 2 (λ c. eqb c 1)) λ bypass.
    ends_then _ _ 1 _ (coded_takes 5 (λ c. get_or mco1_sources c Mco1Source.Hsi)) λ mco1source. ends_then hertz _ 5 _ hertz_takes λ mco1.
    ends_then _ _ 1 _ (coded_takes 6 (λ c. get_or mco2_sources c Mco2Source.Sysclk)) λ mco2source. ends_then hertz _ 5 _ hertz_takes λ mco2.
    ends_then pll_part _ 16 _ part_takes λ pll1. ends_then pll_part _ 16 _ part_takes λ pll2.
    ends_then (third_part three) _ (cond three 16 0) 0 (third_takes three) λ pll3. end_ends _

request_length : (three : Bool) → Ends (request_part three) (cond three 106 90)
request_length true = request_ends true
request_length false = request_ends false

-- ---- the whole request
-- of another length it is refused, with 1
wrong_length : (three : Bool) (bytes : List ℕ) → eqb (length bytes) (cond three 106 90) ≡ false → (x : Result (Read Request) Refusal) → request_part three bytes ≡ x → told x ≡ number 1
wrong_length three bytes f (Err n) e = rw (subst (Only (λ m. m ≡ OutsideCodes)) e (request_only (λ m. m ≡ OutsideCodes) refl three bytes))
wrong_length three bytes f (Ok x) e = absurd (eqb-false (length bytes) (cond three 106 90) f (request_length three bytes x e))

pub says_request : (three : Bool) (bytes : List ℕ) → Says (request_part three bytes) (record { value = request_at three bytes; rest = [] }) (byte_rows three bytes)
unfolding byte_rows
says_request three bytes =
    by_test (eqb (length bytes) (cond three 106 90))
    (λ (t : eqb (length bytes) (cond three 106 90) ≡ true).
    let e = eqb-true (length bytes) (cond three 106 90) t in
    let h : 90 ≤ length bytes = rw e (at_least three) in
    let s = says_places bytes three e h in
    record { same = rw t (rw (append-nil (cond three (part_rows bytes 90) [])) at s.same) })
    (λ (f : eqb (length bytes) (cond three 106 90) ≡ false). record { same = rw f (wrong_length three bytes f (request_part three bytes) refl) })
