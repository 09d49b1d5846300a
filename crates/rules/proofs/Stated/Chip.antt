-- The chip's numbers as document 01 and docs/CODES.md state them: which are codes, and which PLL a permission is for.
use Rattle.std.specs.Prelude.{Some, None, Result, Ok, Err}
use mathlib.Core.Path.{◌≡◌, refl, sym, ap, ◌∙◌}
use mathlib.Core.Bool.{Bool, true, false, cond, ◌&&◌, ◌||◌}
use mathlib.Core.List.{List, [], ◌∷◌, map}
use Prim.Native.Nat.{ℕ}
use native.Mathlib.Omega.{arith}
use lib.Dec.{eqb, ltb}
use borrow.Author.Tests.{eqb-true}
use lib.ListN.{get_or}
use Rattle.types.specs.declared.Refusal.{Refusal}
use Rattle.laws.proofs.Tests.{by_test}
use Rattle.types.specs.declared.Strategy.TheVariants.{Integer}
use Rattle.types.specs.declared.PllRequest.{PllRequest}
use Rattle.types.specs.declared.Request.{Request}
use Rattle.types.specs.declared.Scale.TheVariants.{Scale0, Scale1, Scale2, Scale3}
use Rattle.types.specs.declared.Chip.{Chip}
use Rattle.types.specs.declared.ChipState.{ChipState}
use Rattle.types.specs.declared.Refusal.TheVariants.{OutsideCodes}
use Rattle.rules.specs.Document01.Refusals.{code_of}
use Rattle.rules.specs.Document01.Result.{◌>>◌, require}
use Rattle.rules.specs.Document01.Chip.{is_bit, is_hsidiv, hsidiv_of, divisor_of, scale_of, chip_of, permission}
use Rattle.rules.specs.Document01.Bytes.{request_bytes}
use Rattle.rules.specs.Document01.Plan.{plan_of}
use Rattle.rules.proofs.Computes.{by_rules}
use Rattle.rules.proofs.Samples.{pll, none, plls3, chip7}
use Rattle.rules.proofs.Stated.Bank.{counted}
use Rattle.rules.proofs.Document01.Results.{ok_same}

-- ---- which numbers are codes
abbrev is_ok : {A : Type 0} → Result A Refusal → Bool
is_ok (Err n) = false
is_ok (Ok a) = true

-- those of 0 to 19 for which the chip is one
abbrev only : (ℕ → Chip) → List ℕ → List ℕ
only c [] = []
only c (n ∷ ns) = cond (is_ok (chip_of (c n))) (n ∷ only c ns) (only c ns)

abbrev codes : (ℕ → Chip) → List ℕ
codes c = only c (counted 20 0)

-- PLL count 2, 3; permissions 0, 1, each; voltage scale 0 to 3; HSION 0, 1; HSIDIV 1, 2, 4, 8
pub code_lists :
    codes (λ n. chip7 n 0 0 0 0 1 2)
    ∷ codes (λ n. chip7 2 n 0 0 0 1 2) ∷ codes (λ n. chip7 2 0 n 0 0 1 2) ∷ codes (λ n. chip7 2 0 0 n 0 1 2)
    ∷ codes (λ n. chip7 3 1 1 1 n 1 2)
    ∷ codes (λ n. chip7 3 1 1 1 0 n 2)
    ∷ codes (λ n. chip7 3 1 1 1 0 1 n) ∷ []
    ≡ (2 ∷ 3 ∷ []) ∷ (0 ∷ 1 ∷ []) ∷ (0 ∷ 1 ∷ []) ∷ (0 ∷ 1 ∷ []) ∷ (0 ∷ 1 ∷ 2 ∷ 3 ∷ []) ∷ (0 ∷ 1 ∷ []) ∷ (1 ∷ 2 ∷ 4 ∷ 8 ∷ []) ∷ []
unfolding chip_of
code_lists = refl

-- ---- what they say: permissions by PLL number, and the rest as it stands
pub record Says (c : Chip) (s : ChipState) : Type 0 where
  pub three : s.three ≡ eqb c.plls 3
  pub odd : s.odd ≡ eqb (get_or c.odd 0 0) 1 ∷ eqb (get_or c.odd 1 0) 1 ∷ eqb (get_or c.odd 2 0) 1 ∷ []
  pub hsion : s.hsion ≡ eqb c.hsion 1
  pub hsidiv : divisor_of s.hsidiv ≡ c.hsidiv

passed : {A : Type 0} (t : Bool) (x : Result A Refusal) {a : A} → (require t OutsideCodes >> x) ≡ Ok a → (t ≡ true) × (x ≡ Ok a)
passed true x e = (refl, e)
passed false x e = absurd (let z : ◌≡◌ {A = ℕ} 0 1 = cc in omega arith)

-- a number that is HSIDIV's is what HSIDIV divides by
divisor_back : (n : ℕ) → is_hsidiv n ≡ true → divisor_of (hsidiv_of n) ≡ n
divisor_back n t =
    by_test (eqb n 1) (λ a. rw a (sym (eqb-true n 1 a)))
    (λ a. by_test (eqb n 2) (λ b. rw (a, b) (sym (eqb-true n 2 b)))
    (λ b. by_test (eqb n 4) (λ d. rw (a, b, d) (sym (eqb-true n 4 d)))
    (λ d. let last : is_hsidiv n ≡ eqb n 8 = rw (a, b, d) in rw (a, b, d) (sym (eqb-true n 8 (sym last ∙ t))))))

pub said : (c : Chip) (s : ChipState) → chip_of c ≡ Ok s → Says c s
unfolding chip_of
said c s e =
    let plls = passed (eqb c.plls 2 || eqb c.plls 3) _ e in
    let odds = passed (is_bit (permission c 0) && (is_bit (permission c 1) && is_bit (permission c 2))) _ plls.1 in
    let scale = passed (ltb c.scale 4) _ odds.1 in
    let hsion = passed (is_bit c.hsion) _ scale.1 in
    let hsidiv = passed (is_hsidiv c.hsidiv) _ hsion.1 in
    let k = sym (ok_same hsidiv.1) in
    record { three = ap (λ (x : ChipState). x.three) k; odd = ap (λ (x : ChipState). x.odd) k; hsion = ap (λ (x : ChipState). x.hsion) k; hsidiv = ap (λ (x : ChipState). divisor_of x.hsidiv) k ∙ divisor_back c.hsidiv hsidiv.0 }

-- the scales by number
pub scales : map scale_of (0 ∷ 1 ∷ 2 ∷ 3 ∷ []) ≡ Scale0 ∷ Scale1 ∷ Scale2 ∷ Scale3 ∷ []
scales = refl

-- ---- a permission is for its own PLL: on three PLLs, one of which is asked for P 80,000,000 with Q 200,000,000 (an odd divider, 5), and one of
-- which may divide by an odd number. A row for each PLL asked, a column for each permission
abbrev asked : PllRequest
asked = pll Integer (Some 80_000_000) (Some 200_000_000)

abbrev answers : Request → List ℕ
answers q = map (λ c. code_of (plan_of (request_bytes true q) c)) (chip7 3 1 0 0 0 1 2 ∷ chip7 3 0 1 0 0 1 2 ∷ chip7 3 0 0 1 0 1 2 ∷ [])

pub by_number : map answers (plls3 None None asked none none ∷ plls3 None None none asked none ∷ plls3 None None none none asked ∷ [])
    ≡ (0 ∷ 15 ∷ 15 ∷ []) ∷ (15 ∷ 0 ∷ 15 ∷ []) ∷ (15 ∷ 15 ∷ 0 ∷ []) ∷ []
unfolding by_rules
by_number = refl
