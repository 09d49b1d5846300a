-- The chip's numbers, judged and taken: document 01, refusal 1. That this is `chip_of` of crates/rules is proved in proofs/Chips.antt.
use Rattle.std.specs.Prelude.{Bool, ◌&&◌, ◌||◌, [], ◌∷◌, eqb}
use Rattle.types.specs.declared.Chip.{Chip}
use Rattle.types.specs.declared.ChipState.{ChipState}
use Rattle.types.specs.declared.Hsidiv.{Hsidiv}
use Rattle.types.specs.declared.Scale.{Scale}
use Rattle.rules.specs.Document01.Chip.{is_bit, permission}

-- permissions 0 or 1
abbrev pub odds_ok : Chip → Bool
odds_ok c = is_bit (permission c 0) && (is_bit (permission c 1) && is_bit (permission c 2))

-- PLL count 2 or 3, permissions and HSION 0 or 1
unfoldable pub flags_ok : Chip → Bool
flags_ok c = (eqb c.plls 2 || eqb c.plls 3) && (odds_ok c && is_bit c.hsion)

-- the state that they stand for, by the scale and the divisor
abbrev pub state_of : Chip → Scale → Hsidiv → ChipState
state_of c s h = record {
  three = eqb c.plls 3;
  odd = eqb (permission c 0) 1 ∷ eqb (permission c 1) 1 ∷ eqb (permission c 2) 1 ∷ [];
  scale = s;
  hsion = eqb c.hsion 1;
  hsidiv = h;
}
