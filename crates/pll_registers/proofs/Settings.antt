-- Bench settings A, B and C of document 01: the registers of their PLLs, in numbers, on a chip with two PLLs; and what is left of nine words.
use Rattle.std.specs.Prelude.{Some, None}
use mathlib.Core.Path.{◌≡◌, refl}
use mathlib.Core.List.{List, [], ◌∷◌}
use mathlib.Core.Bool.{false}
use Prim.Native.Nat.{ℕ}
use lib.ListN.{replicate}
use Rattle.types.specs.declared.Strategy.TheVariants.{Fractional}
use Rattle.types.specs.declared.Request.{Request}
use Rattle.rules.specs.Document01.Bytes.{request_bytes}
use Rattle.rules.proofs.Computes.{by_rules}
use Rattle.rules.proofs.Samples.{pll, on_hsi, system, chip}
use Rattle.pll_registers.specs.Registers.{cfgr_of, divr_of, fracr_of}
use Rattle.pll_registers.specs.Calls.{registers_asked, registers_by}

-- what is left of nine words that were 7, by a request and whether P may be odd
abbrev left_of : Request → (odd : ℕ) → List ℕ
left_of q odd = registers_by (registers_asked (request_bytes false q) (chip 2 odd) 9) (replicate 9 7)

-- A: odd P forbidden, system 250,000,000. B: odd P allowed. C: PLL2 Fractional P 12,288,000
pub worked : left_of (system 250_000_000 None) 0 ∷ left_of (system 250_000_000 None) 1 ∷ left_of (on_hsi (pll Fractional (Some 12_288_000) None)) 1 ∷ []
    ≡ (0x00010809 ∷ 0x0000027C ∷ 0 ∷ 1 ∷ 0 ∷ 0 ∷ 7 ∷ 7 ∷ 7 ∷ [])
    ∷ (0x00011025 ∷ 0x0000007C ∷ 0 ∷ 1 ∷ 0 ∷ 0 ∷ 7 ∷ 7 ∷ 7 ∷ [])
    ∷ (1 ∷ 0 ∷ 0 ∷ 0x00011231 ∷ 0x000042EA ∷ 0x00000210 ∷ 7 ∷ 7 ∷ 7 ∷ []) ∷ []
unfolding by_rules cfgr_of divr_of fracr_of registers_asked
worked = refl
