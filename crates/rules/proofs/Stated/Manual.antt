-- The manual's ranges and wait states as document 01 gives them, in numbers (One PLL; Flash): each end of each range, and each row at its last AHB
-- clock and one hertz above it.
use mathlib.Core.Path.{◌≡◌, refl}
use mathlib.Core.List.{List, [], ◌∷◌, ◌++◌, map}
use Prim.Native.Nat.{ℕ, ◌*◌, ◌+◌}
use Rattle.types.specs.declared.Scale.{Scale}
use Rattle.types.specs.declared.Scale.TheVariants.{Scale0, Scale1, Scale2, Scale3}
use Rattle.rules.specs.Manual.PllFields.{Span, rge_span, vco_span, input_span}
use Rattle.rules.specs.Manual.WaitStates.{Asks, nothing, waits, rows, asks}

-- a range by its ends in kHz
abbrev ends : (ℕ → Span) → List ℕ → List Span
ends range codes = map range codes

abbrev khz : (low high : ℕ) → Span
khz low high = record { low = 1000 * low; high = 1000 * high }

-- RGE 0 to 3: 1, 2, 4 and 8 MHz, each up to the next; 4 is no code, and its range is empty
pub references : ends rge_span (0 ∷ 1 ∷ 2 ∷ 3 ∷ 4 ∷ [])
    ≡ khz 1000 2000 ∷ khz 2000 4000 ∷ khz 4000 8000 ∷ khz 8000 16_000 ∷ record { low = 1; high = 0 } ∷ []
references = refl

-- VCOSEL 0 is wide, 128 to 560 MHz, from a reference of 2 to 16 MHz; 1 is medium, 150 to 420 MHz, from 1 to 2 MHz
pub vcos : ends vco_span (0 ∷ 1 ∷ 2 ∷ []) ≡ khz 128_000 560_000 ∷ khz 150_000 420_000 ∷ record { low = 1; high = 0 } ∷ []
vcos = refl

pub inputs : ends input_span (0 ∷ 1 ∷ 2 ∷ []) ≡ khz 2000 16_000 ∷ khz 1000 2000 ∷ record { low = 1; high = 0 } ∷ []
inputs = refl

-- what a scale asks for at so many MHz, and one hertz above
abbrev at : Scale → List ℕ → List Asks
at s [] = []
at s (m ∷ ms) = asks (rows s) (m * 1_000_000) ∷ asks (rows s) (m * 1_000_000 + 1) ∷ at s ms

abbrev five_rows : List Asks
five_rows = waits 0 0 ∷ waits 1 0 ∷ waits 1 0 ∷ waits 2 1 ∷ waits 2 1 ∷ waits 3 1 ∷ waits 3 1 ∷ waits 4 2 ∷ waits 4 2 ∷ []

abbrev six_rows : List Asks
six_rows = five_rows ++ (waits 5 2 ∷ waits 5 2 ∷ nothing ∷ [])

pub scale_0 : at Scale0 (42 ∷ 84 ∷ 126 ∷ 168 ∷ 210 ∷ 250 ∷ []) ≡ six_rows
unfolding rows
scale_0 = refl

pub scale_1 : at Scale1 (34 ∷ 68 ∷ 102 ∷ 136 ∷ 170 ∷ 200 ∷ []) ≡ six_rows
unfolding rows
scale_1 = refl

pub scale_2 : at Scale2 (30 ∷ 60 ∷ 90 ∷ 120 ∷ 150 ∷ []) ≡ five_rows ++ (nothing ∷ [])
unfolding rows
scale_2 = refl

pub scale_3 : at Scale3 (20 ∷ 40 ∷ 60 ∷ 80 ∷ 100 ∷ []) ≡ five_rows ++ (nothing ∷ [])
unfolding rows
scale_3 = refl
