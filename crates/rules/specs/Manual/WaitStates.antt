-- RM0492 table 20: FLASH_ACR's LATENCY and WRHIGHFREQ for a voltage scale and an AHB clock. Each scale's rows end at its highest AHB clock.
-- The manual is not at hand: the rows are document 01's (Flash), and rcc.rs names the table. With a manual, compare the table row by row.
use Rattle.std.specs.Prelude.{cond, List, [], ◌∷◌, ℕ, ◌*◌, leb}
use Rattle.types.specs.declared.Scale.{Scale}
use Rattle.types.specs.declared.Scale.TheVariants.{Scale0, Scale1, Scale2, Scale3}

-- a row serves AHB clocks above the row before it, up to so many MHz
pub record Row : Type 0 where
  pub mhz : ℕ
  pub latency : ℕ
  pub wrhighfreq : ℕ

abbrev row : ℕ → ℕ → ℕ → Row
row mhz latency wrhighfreq = record { mhz = mhz; latency = latency; wrhighfreq = wrhighfreq }

-- the rows of each scale
unfoldable pub rows : Scale → List Row
rows Scale0 = row 42 0 0 ∷ row 84 1 0 ∷ row 126 2 1 ∷ row 168 3 1 ∷ row 210 4 2 ∷ row 250 5 2 ∷ []
rows Scale1 = row 34 0 0 ∷ row 68 1 0 ∷ row 102 2 1 ∷ row 136 3 1 ∷ row 170 4 2 ∷ row 200 5 2 ∷ []
rows Scale2 = row 30 0 0 ∷ row 60 1 0 ∷ row 90 2 1 ∷ row 120 3 1 ∷ row 150 4 2 ∷ []
rows Scale3 = row 20 0 0 ∷ row 40 1 0 ∷ row 60 2 1 ∷ row 80 3 1 ∷ row 100 4 2 ∷ []

-- the highest AHB clock in MHz
abbrev pub highest : Scale → ℕ
highest Scale0 = 250
highest Scale1 = 200
highest Scale2 = 150
highest Scale3 = 100

-- what the manual asks for: nothing above the last row
pub data Asks : Type 0 where
  nothing : Asks
  waits : (latency wrhighfreq : ℕ) → Asks

-- the first row that reaches the clock
abbrev pub asks : List Row → (ahb : ℕ) → Asks
asks [] ahb = nothing
asks (r ∷ rs) ahb = cond (leb ahb (r.mhz * 1_000_000)) (waits r.latency r.wrhighfreq) (asks rs ahb)
