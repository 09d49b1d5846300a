-- The chip's numbers, as this crate judges them, are the chip's numbers as document 01 does.
use Rattle.std.specs.Prelude.{Ok, Err}
use mathlib.Core.Path.{◌≡◌, refl}
use Prim.Native.Nat.{ℕ}
use mathlib.Core.Bool.{Bool, true, false, cond, ◌&&◌, ◌||◌}
use lib.Dec.{eqb, ltb}
use Rattle.types.specs.declared.Chip.{Chip}
use Rattle.types.specs.declared.Refusal.TheVariants.{OutsideCodes}
use Rattle.types.specs.declared.Scale.TheVariants.{Scale0}
use Rattle.types.specs.Codes.{coded, scales, hsidiv_coded}
use Rattle.laws.proofs.Tests.{by_test}
use Rattle.rules.specs.Document01.Result.{◌>>=◌, ◌>>◌, require}
use Rattle.rules.specs.Document01.Chip.{is_bit, is_hsidiv, scale_of, hsidiv_of, chip_of}
use Rattle.request.specs.Chips.{odds_ok, flags_ok, state_of}
use Rattle.request.specs.Parts.{only}
use Rattle.types.proofs.Coded.{coded_is}

-- the tests of document 01 in their order, and as they are made: three at once, then the scale, then HSIDIV
in_order :
    {A B C : Type 0} (a b c d e : Bool) (s : A) (h : B) (x : A → B → C) →
    (require a OutsideCodes >> (require b OutsideCodes >> (require c OutsideCodes >> (require d OutsideCodes >> (require e OutsideCodes >> Ok (x s h))))))
    ≡ cond (a && (b && d)) (only c s >>= λ s. only e h >>= λ h. Ok (x s h)) (Err OutsideCodes)
in_order false b c d e s h x = refl
in_order true false c d e s h x = refl
in_order true true false true e s h x = refl
in_order true true false false e s h x = refl
in_order true true true false e s h x = refl
in_order true true true true false s h x = refl
in_order true true true true true s h x = refl

hsidiv_is : (n : ℕ) → hsidiv_coded n ≡ only (is_hsidiv n) (hsidiv_of n)
hsidiv_is n =
    by_test (eqb n 1) (λ (t : eqb n 1 ≡ true). rw t) (λ (t : eqb n 1 ≡ false). rw t
    (by_test (eqb n 2) (λ (u : eqb n 2 ≡ true). rw u) (λ (u : eqb n 2 ≡ false). rw u
    (by_test (eqb n 4) (λ (v : eqb n 4 ≡ true). rw v) (λ (v : eqb n 4 ≡ false). rw v
    (by_test (eqb n 8) (λ (w : eqb n 8 ≡ true). rw w) (λ (w : eqb n 8 ≡ false). rw w)))))))

pub chip_is :
    (c : Chip) →
    chip_of c ≡ cond (flags_ok c) (coded scales c.scale >>= λ s. hsidiv_coded c.hsidiv >>= λ h. Ok (state_of c s h)) (Err OutsideCodes)
unfolding chip_of flags_ok
chip_is c =
    rw (coded_is scales Scale0 c.scale, hsidiv_is c.hsidiv)
    (in_order (eqb c.plls 2 || eqb c.plls 3) (odds_ok c) (ltb c.scale 4) (is_bit c.hsion) (is_hsidiv c.hsidiv) (scale_of c.scale) (hsidiv_of c.hsidiv) (state_of c))
