-- A PLL as words, in the order of docs/CODES.md: each of the eighteen has a number of its own here.
use Rattle.std.specs.Prelude.{ℕ, Option, Some, None}
use mathlib.Core.Path.{◌≡◌, refl}
use mathlib.Core.List.{[], ◌∷◌, ◌++◌}
use lib.ListN.{replicate}
use Rattle.types.specs.declared.PllSettings.{PllSettings}
use Rattle.rules.specs.Words.{stored_at}
use Rattle.pll_words.specs.PllWords.{setting_words, outputs_words, pll_stored}

abbrev settings : Option ℕ → PllSettings
settings f = record { vcosel = 11; target = 12; m = 13; reference = 14; rge = 15; n = 16; fraction = f; vco = 19; p = Some (record { divider = 21; clock = 22 }); q = None; r = Some (record { divider = 27; clock = 28 }) }

-- VCOSEL, target, M, reference, RGE, N, FRACEN, FRACN, VCO; then on, divider, hertz of P, Q, R
pub eighteen_words : pll_stored (Some (settings (Some 18))) (replicate 18 70)
    ≡ 11 ∷ 12 ∷ 13 ∷ 14 ∷ 15 ∷ 16 ∷ 1 ∷ 18 ∷ 19 ∷ 1 ∷ 21 ∷ 22 ∷ 0 ∷ 0 ∷ 0 ∷ 1 ∷ 27 ∷ 28 ∷ []
unfolding stored_at
eighteen_words = refl

-- Integer: FRACEN and FRACN 0
pub whole_words : pll_stored (Some (settings None)) (replicate 18 70)
    ≡ 11 ∷ 12 ∷ 13 ∷ 14 ∷ 15 ∷ 16 ∷ 0 ∷ 0 ∷ 19 ∷ 1 ∷ 21 ∷ 22 ∷ 0 ∷ 0 ∷ 0 ∷ 1 ∷ 27 ∷ 28 ∷ []
unfolding stored_at
whole_words = refl

-- an idle PLL: eighteen 0
pub idle_words : pll_stored None (replicate 18 70) ≡ replicate 18 0
unfolding stored_at
idle_words = refl

-- in a room of eighteen words: the settings, and behind them the outputs
pub one_behind_the_other : (x : Option PllSettings) → pll_stored x (replicate 18 0) ≡ setting_words x ++ outputs_words x
unfolding stored_at
one_behind_the_other None = refl
one_behind_the_other (Some s) = refl
