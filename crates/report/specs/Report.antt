-- The parts of a report, of which report_words is made: docs/CODES.md, The C functions.
use Rattle.std.specs.Prelude.{List, [], ◌∷◌, ◌++◌, ℕ, Option}
use Rattle.types.specs.declared.PllSettings.{PllSettings}
use Rattle.types.specs.declared.Clocks.{Clocks}
use Rattle.types.specs.declared.Buses.{Buses}
use Rattle.types.specs.declared.Mcos.{Mcos}
use Rattle.types.specs.declared.Plan.{Plan}
use Rattle.rules.specs.Document01.OnePll.{pll_from}
use Rattle.rules.specs.Words.{hertz_words, pll_words}

-- the system clock, the buses, the timers, the peripheral clock and the chip's oscillators: always there
unfoldable pub always_words : Clocks → Buses → List ℕ
always_words c b =
    1 ∷ c.sys ∷ 1 ∷ b.ahb.clock ∷ 1 ∷ b.apb1.clock ∷ 1 ∷ b.apb2.clock ∷ 1 ∷ b.apb3.clock ∷ 1 ∷ c.timx ∷ 1 ∷ c.timy ∷ 1 ∷ c.per ∷ 1 ∷ c.hsi ∷ 1 ∷ c.csi ∷ 1 ∷ c.hsi48 ∷ 1 ∷ c.lsi ∷ []

-- crystals and clock outputs
unfoldable pub given_words : Clocks → Mcos → List ℕ
given_words c m = hertz_words c.hse (hertz_words c.lse (hertz_words c.audio (hertz_words m.mco1.clock (hertz_words m.mco2.clock []))))

-- P, Q and R of each PLL
unfoldable pub output_words : List (Option PllSettings) → List ℕ
output_words l = pll_words (pll_from l 0) (pll_words (pll_from l 1) (pll_words (pll_from l 2) []))

-- PPRE1 to 3
unfoldable pub divisor_words : Buses → List ℕ
divisor_words b = b.apb1.pre ∷ b.apb2.pre ∷ b.apb3.pre ∷ []

-- one behind the other
abbrev pub parts_words : Plan → List ℕ
parts_words p =
    always_words p.clocks p.buses ++ (given_words p.clocks p.mcos ++ (output_words p.plls ++ divisor_words p.buses))
