-- What the C function of one PLL answers: docs/CODES.md, The C functions.
use Rattle.std.specs.Prelude.{◌&&◌, List, ℕ, eqb, ltb, Option, Result, Ok, Err}
use Rattle.types.specs.declared.Refusal.{Refusal}
use Rattle.types.specs.declared.PllSettings.{PllSettings}
use Rattle.types.specs.declared.Refusal.TheVariants.{OutsideCodes}
use Rattle.types.specs.declared.PllRequest.{PllRequest}
use Rattle.rules.specs.Document01.Result.{◌>>=◌, ◌>>◌, require}
use Rattle.pll.specs.Answer.{one_pll_of}
use Rattle.pll_words.specs.PllWords.{pll_stored}

-- one PLL: refusal 1 where the slice has not 18 words, odd is outside its codes or the bytes are no part of a request; else what is chosen
unfoldable pub pll_for : (odd source : ℕ) → Result PllRequest Refusal → (words : ℕ) → Result (Option PllSettings) Refusal
pll_for odd source part words = do
  require (eqb words 18 && ltb odd 2) OutsideCodes
  a ← part
  one_pll_of (eqb odd 1) source a

-- its settings and its outputs; a refusal changes no word
abbrev pub pll_room : Result (Option PllSettings) Refusal → List ℕ → List ℕ
pll_room (Err n) room = room
pll_room (Ok x) room = pll_stored x room
