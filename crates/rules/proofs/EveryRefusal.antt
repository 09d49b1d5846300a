-- Every refusal that the planner's call or the bank call lists is the answer to some request: a planner that never gives one of them is another
-- planner.
use Rattle.std.specs.Prelude.{Some, None}
use mathlib.Core.Path.{◌≡◌, refl}
use mathlib.Core.List.{List, [], ◌∷◌}
use mathlib.Core.Bool.{false}
use Prim.Native.Nat.{ℕ}
use lib.ListN.{set, replicate}
use Rattle.types.specs.declared.Strategy.TheVariants.{Integer, Fractional}
use Rattle.types.specs.declared.Mco1Source.{Mco1Source}
use Rattle.types.specs.declared.Mco2Source.{Mco2Source}
use Rattle.types.specs.declared.Request.{Request}
use Rattle.types.specs.declared.Chip.{Chip}
use Rattle.rules.specs.Document01.Refusals.{code_of, bank_numbers}
use Rattle.rules.specs.Document01.Bytes.{request_bytes}
use Rattle.rules.specs.Document01.Plan.{plan_of, bank_plan_of}
use Rattle.rules.proofs.Computes.{by_rules}
use Rattle.rules.proofs.Samples.{pll, none, asking, clocks, plls, on_hsi, on_hse, system, mco1_from, nothing, chip, chip7}

-- on two PLLs, odd P allowed
abbrev on : Request → ℕ
on q = code_of (plan_of (request_bytes false q) (chip 2 1))

-- odd P forbidden
abbrev even : Request → ℕ
even q = code_of (plan_of (request_bytes false q) (chip 2 0))

-- with HSION and HSIDIV as read
abbrev read : ℕ → ℕ → Chip
read hsion hsidiv = record { plls = 2; odd = 1 ∷ 1 ∷ 1 ∷ []; scale = 0; hsion = hsion; hsidiv = hsidiv }

abbrev bank81 : List ℕ → ℕ
bank81 bytes = code_of (bank_plan_of bytes (chip 2 1) 81)

abbrev answers : List ℕ
answers =
    -- no request bytes at all; and a bank of 81 words
    code_of (plan_of [] (chip 2 1))
    ∷ bank81 (request_bytes false nothing)
    ∷ on (system 250_000_001 None)
    ∷ on (mco1_from Mco1Source.Hse (Some 1_000_000))
    ∷ on (plls None (Some 250_000_000) (pll Integer (Some 100_000_000) None) none)
    ∷ on (on_hse 0 none)
    ∷ on (on_hsi (pll Integer (Some 0) None))
    ∷ on (on_hsi (pll Integer (Some 200_000_000) (Some 1_562_499)))
    ∷ on (on_hsi (pll Integer (Some 560_000_000) None))
    ∷ on (on_hsi (pll Integer (Some 1_634_241) None))
    ∷ on (on_hse 126_000_001 (pll Integer (Some 250_000_000) None))
    ∷ on (on_hsi (pll Fractional (Some 30_000_000) (Some 100_000_000)))
    ∷ even (on_hsi (pll Integer (Some 1_000_000) None))
    ∷ even (on_hsi (pll Integer (Some 80_000_000) (Some 200_000_000)))
    ∷ code_of (plan_of (request_bytes false nothing) (read 0 2))
    ∷ code_of (plan_of (request_bytes false nothing) (read 1 1))
    ∷ on (system 32_000_000 (Some 0))
    ∷ on (clocks (Some 100) None (Some 1) None)
    ∷ on (mco1_from Mco1Source.Lse None)
    ∷ on (mco1_from Mco1Source.Pll1Q None)
    ∷ on (mco1_from Mco1Source.Hsi (Some 0))
    ∷ on (mco1_from Mco1Source.Hsi (Some 2_133_333))
    ∷ []

pub each_occurs : answers ≡ bank_numbers
unfolding by_rules
each_occurs = refl

-- ---- where two fit, the order decides: by number; 7 to 15 PLL by PLL; 19 before the 18 of an APB; all of MCO1 before MCO2
abbrev firsts : List ℕ
firsts =
    -- 1 and 2; 2 and 3; 3 and 4; 4 and 5; 5 and 6; 6 and 7
    bank81 []
    ∷ bank81 (request_bytes false (system 250_000_001 None))
    ∷ on (asking None (Some 250_000_001) None None Mco1Source.Hse None Mco2Source.Sysclk None none none)
    ∷ on (asking None (Some 250_000_000) None None Mco1Source.Hse None Mco2Source.Sysclk None (pll Integer (Some 100_000_000) None) none)
    ∷ on (plls (Some 0) (Some 250_000_000) (pll Integer (Some 100_000_000) None) none)
    ∷ on (on_hse 0 (pll Integer (Some 0) None))
    -- 15 of PLL1 and 7 of PLL2; 7 of PLL2 and 16; 16 and 17; 17 and 18
    ∷ even (plls None None (pll Integer (Some 80_000_000) (Some 200_000_000)) (pll Integer (Some 0) None))
    ∷ code_of (plan_of (request_bytes false (on_hsi (pll Integer (Some 0) None))) (read 0 2))
    ∷ code_of (plan_of (request_bytes false nothing) (read 0 1))
    ∷ code_of (plan_of (request_bytes false (system 32_000_000 (Some 0))) (read 1 1))
    -- 18 of AHB and 20; 19 and 18 of APB1; 23 of MCO1 and 22 of MCO2
    ∷ on (asking None None (Some 0) None Mco1Source.Lse None Mco2Source.Sysclk None none none)
    ∷ on (clocks (Some 100) None (Some 1) (Some 0))
    ∷ on (asking None None None None Mco1Source.Hsi (Some 2_133_333) Mco2Source.Csi (Some 0) none none)
    ∷ []

pub in_order : firsts ≡ 1 ∷ 2 ∷ 3 ∷ 4 ∷ 5 ∷ 6 ∷ 15 ∷ 7 ∷ 16 ∷ 17 ∷ 18 ∷ 19 ∷ 23 ∷ []
unfolding by_rules
in_order = refl

-- ---- refusal 1, in each of its ways, beside what is just inside
-- the request that asks for nothing is 90 zeros; one of them is another byte
abbrev with_byte : ℕ → ℕ → ℕ
with_byte at b = code_of (plan_of (set (replicate 90 0) at b) (chip 2 1))

abbrev of_length : ℕ → ℕ → ℕ
of_length plls n = code_of (plan_of (replicate n 0) (chip plls 1))

abbrev for_chip : Chip → ℕ
for_chip c = code_of (plan_of (replicate 90 0) c)

-- a set byte, the number of an unset hertz, flag, MCO sources, strategies
pub bytes_judged : with_byte 0 0 ∷ with_byte 0 2 ∷ with_byte 1 1 ∷ with_byte 4 1 ∷ with_byte 45 1 ∷ with_byte 45 2 ∷ with_byte 46 4 ∷ with_byte 46 5 ∷ with_byte 52 5 ∷ with_byte 52 6 ∷ with_byte 58 1 ∷ with_byte 58 2 ∷ with_byte 74 2 ∷ []
    ≡ 0 ∷ 1 ∷ 1 ∷ 1 ∷ 0 ∷ 1 ∷ 0 ∷ 1 ∷ 0 ∷ 1 ∷ 0 ∷ 1 ∷ 1 ∷ []
unfolding by_rules
bytes_judged = refl

-- the length: 90 on two PLLs, 106 on three
pub lengths_judged : of_length 2 89 ∷ of_length 2 90 ∷ of_length 2 91 ∷ of_length 2 106 ∷ of_length 3 90 ∷ of_length 3 105 ∷ of_length 3 106 ∷ of_length 3 107 ∷ [] ≡ 1 ∷ 0 ∷ 1 ∷ 1 ∷ 1 ∷ 1 ∷ 0 ∷ 1 ∷ []
unfolding by_rules
lengths_judged = refl

-- the chip's numbers, one after the other; HSIDIV 4 is 17, since it is a code
pub chip_judged :
    for_chip (chip7 1 1 1 1 0 1 2) ∷ for_chip (chip7 4 1 1 1 0 1 2) ∷ for_chip (chip7 2 2 1 1 0 1 2) ∷ for_chip (chip7 2 1 2 1 0 1 2) ∷ for_chip (chip7 2 1 1 2 0 1 2)
    ∷ for_chip (chip7 2 1 1 1 3 1 2) ∷ for_chip (chip7 2 1 1 1 4 1 2) ∷ for_chip (chip7 2 1 1 1 0 2 2) ∷ for_chip (chip7 2 1 1 1 0 1 0) ∷ for_chip (chip7 2 1 1 1 0 1 3) ∷ for_chip (chip7 2 1 1 1 0 1 4) ∷ []
    ≡ 1 ∷ 1 ∷ 1 ∷ 1 ∷ 1 ∷ 0 ∷ 1 ∷ 1 ∷ 1 ∷ 1 ∷ 17 ∷ []
unfolding by_rules
chip_judged = refl
