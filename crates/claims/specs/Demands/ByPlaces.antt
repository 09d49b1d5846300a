-- The chip's numbers and the bytes of a request, read by places (document 01, One call, from the top: 90 bytes, or 106 with a PLL3 part), and not
-- part by part as specs/Document01/Bytes reads them.
use Rattle.std.specs.Prelude.{ℕ, ◌+◌, ◌*◌, List, [], ◌∷◌, Bool, not, cond, ◌&&◌, ◌||◌, leb, eqb, get_or, Option, Some, None}
use Rattle.types.specs.declared.Strategy.TheVariants.{Integer, Fractional}
use Rattle.types.specs.declared.Mco1Source.{Mco1Source}
use Rattle.types.specs.declared.Mco2Source.{Mco2Source}
use Rattle.types.specs.declared.PllRequest.{PllRequest}
use Rattle.types.specs.declared.Request.{Request}
use Rattle.types.specs.declared.Chip.{Chip}
use Rattle.types.specs.declared.ChipState.{ChipState}
use Rattle.rules.specs.Document01.Chip.{scale_of, hsidiv_of}
use Rattle.rules.specs.Document01.Bytes.{mco1_sources, mco2_sources, no_part}

-- the number at a place, from 0; 0 past the end
abbrev pub at : List ℕ → ℕ → ℕ
at b k = get_or b k 0

-- ---- the chip's numbers
abbrev pub state_of : Chip → ChipState
state_of c = record {
  three = eqb c.plls 3;
  odd = eqb (at c.odd 0) 1 ∷ eqb (at c.odd 1) 1 ∷ eqb (at c.odd 2) 1 ∷ [];
  scale = scale_of c.scale;
  hsion = eqb c.hsion 1;
  hsidiv = hsidiv_of c.hsidiv;
}

-- ---- the bytes, by places: 4 bytes, little-endian
abbrev pub u32le_at : List ℕ → ℕ → ℕ
u32le_at b k = at b k + 256 * at b (k + 1) + 65_536 * at b (k + 2) + 16_777_216 * at b (k + 3)

-- each hertz is a byte 0 or 1 (unset, set) and 4 bytes
abbrev pub hertz_at : List ℕ → ℕ → Option ℕ
hertz_at b k = cond (eqb (at b k) 0) None (Some (u32le_at b (k + 1)))

-- a byte that is none of n codes from 0; a set byte that is neither 0 nor 1, or an unset hertz not 0
abbrev pub bad_code : (n : ℕ) → List ℕ → ℕ → Bool
bad_code n b k = leb n (at b k)

-- for hertz
abbrev pub bad_hertz : List ℕ → ℕ → Bool
bad_hertz b k = leb 2 (at b k) || (eqb (at b k) 0 && not (eqb (u32le_at b (k + 1)) 0))

-- a PLL's part: strategy, P, Q, R
abbrev pub part_at : List ℕ → ℕ → PllRequest
part_at b k = record { strategy = cond (eqb (at b k) 0) Integer Fractional; p = hertz_at b (k + 1); q = hertz_at b (k + 6); r = hertz_at b (k + 11) }

-- the whole request
unfoldable pub request_at : (three : Bool) → List ℕ → Request
request_at three b = record {
  hse = hertz_at b 0;
  lse = hertz_at b 5;
  audio = hertz_at b 10;
  system = hertz_at b 15;
  peripheral = hertz_at b 20;
  ahb = hertz_at b 25;
  apb1 = hertz_at b 30;
  apb2 = hertz_at b 35;
  apb3 = hertz_at b 40;
  bypass = eqb (at b 45) 1;
  mco1source = get_or mco1_sources (at b 46) Mco1Source.Hsi;
  mco1 = hertz_at b 47;
  mco2source = get_or mco2_sources (at b 52) Mco2Source.Sysclk;
  mco2 = hertz_at b 53;
  plls = part_at b 58 ∷ part_at b 74 ∷ cond three (part_at b 90) no_part ∷ [];
}
