-- The part of one PLL, read by itself.
use Rattle.std.specs.Prelude.{List, ℕ, eqb, length, Result, Ok}
use Rattle.types.specs.declared.Refusal.{Refusal}
use Rattle.types.specs.declared.Refusal.TheVariants.{OutsideCodes}
use Rattle.types.specs.declared.PllRequest.{PllRequest}
use Rattle.rules.specs.Document01.Result.{◌>>=◌, ◌>>◌, require}
use Rattle.rules.specs.Document01.Bytes.{pll_part}

-- one PLL's part by itself: 16 bytes, else refusal 1
unfoldable pub part_of : (bytes : List ℕ) → Result PllRequest Refusal
part_of bytes = do
  require (eqb (length bytes) 16) OutsideCodes
  x ← pll_part bytes
  Ok x.value
