-- Document 01, refusal 1, for the numbers beside a request: PLL count 2 or 3, odd-P permissions and HSION 0 or 1, voltage scale 0 to 3,
-- HSIDIV 1, 2, 4, 8. All three permissions are judged on either chip.
use Rattle.std.specs.Prelude.{Bool, false, cond, ◌&&◌, ◌||◌, [], ◌∷◌, ℕ, eqb, ltb, get_or, Result, Ok}
use Rattle.types.specs.declared.Refusal.{Refusal}
use Rattle.types.specs.declared.Scale.{Scale}
use Rattle.types.specs.declared.Scale.TheVariants.{Scale0}
use Rattle.types.specs.Codes.{scales}
use Rattle.types.specs.declared.Hsidiv.{Hsidiv}
use Rattle.types.specs.declared.Chip.{Chip}
use Rattle.types.specs.declared.ChipState.{ChipState}
use Rattle.types.specs.declared.Refusal.TheVariants.{OutsideCodes}
use Rattle.rules.specs.Document01.Result.{◌>>◌, require}

-- 0 or 1
abbrev pub is_bit : ℕ → Bool
is_bit n = ltb n 2

-- HSIDIV: 1, 2, 4, 8
abbrev pub is_hsidiv : ℕ → Bool
is_hsidiv n = eqb n 1 || (eqb n 2 || (eqb n 4 || eqb n 8))

-- the one that the number stands for, where it is one of them
abbrev pub hsidiv_of : ℕ → Hsidiv
hsidiv_of n = cond (eqb n 1) Hsidiv.Div1 (cond (eqb n 2) Hsidiv.Div2 (cond (eqb n 4) Hsidiv.Div4 Hsidiv.Div8))

-- what it divides HSI by
abbrev pub divisor_of : Hsidiv → ℕ
divisor_of Hsidiv.Div1 = 1
divisor_of Hsidiv.Div2 = 2
divisor_of Hsidiv.Div4 = 4
divisor_of Hsidiv.Div8 = 8

-- voltage scale 0 to 3
abbrev pub scale_of : ℕ → Scale
scale_of n = get_or scales n Scale0

-- the number that stands for PLL k's permission, from 0
abbrev pub permission : Chip → (k : ℕ) → ℕ
permission c k = get_or c.odd k 0

-- whether PLL k, from 0, may divide P by an odd number
abbrev pub odd_at : ChipState → (k : ℕ) → Bool
odd_at c k = get_or c.odd k false

-- whether the chip has PLL k, from 0: two on each chip, the third on one with three
abbrev pub has_pll : ChipState → (k : ℕ) → Bool
has_pll c k = ltb k 2 || (ltb k 3 && c.three)

-- the chip's numbers, as a state
unfoldable pub chip_of : Chip → Result ChipState Refusal
chip_of c = do
  require (eqb c.plls 2 || eqb c.plls 3) OutsideCodes
  require (is_bit (permission c 0) && (is_bit (permission c 1) && is_bit (permission c 2))) OutsideCodes
  require (ltb c.scale 4) OutsideCodes
  require (is_bit c.hsion) OutsideCodes
  require (is_hsidiv c.hsidiv) OutsideCodes
  Ok (record {
    three = eqb c.plls 3;
    odd = eqb (permission c 0) 1 ∷ eqb (permission c 1) 1 ∷ eqb (permission c 2) 1 ∷ [];
    scale = scale_of c.scale;
    hsion = eqb c.hsion 1;
    hsidiv = hsidiv_of c.hsidiv;
  })
