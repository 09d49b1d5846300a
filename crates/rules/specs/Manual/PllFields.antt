-- RM0492 and RM0481, RCC_PLLxCFGR, RCC_PLLxDIVR and RCC_PLLxFRACR: what the fields of a PLL may hold, and what they stand for. No definition of
-- document 01's rules is used. The manuals are not at hand: the numbers are those that document 01 gives of the fields (One PLL; Register entries;
-- Who can cause which refusal) and pll.rs has. With a manual, compare PLLxRGE, PLLxVCOSEL and PLLxM in RCC_PLLxCFGR, PLLxN, PLLxP, PLLxQ and PLLxR in
-- RCC_PLLxDIVR, PLLxFRACN in RCC_PLLxFRACR.
use Rattle.std.specs.Prelude.{Bool, ◌&&◌, ◌||◌, [], ◌∷◌, ℕ, ◌+◌, ◌*◌, ◌%◌, ◌≤◌, leb, eqb, get_or}

-- a span of frequencies in hertz, its ends included
pub record Span : Type 0 where
  pub low : ℕ
  pub high : ℕ

-- a code that the manual does not have stands for no frequency
abbrev pub no_span : Span
no_span = record { low = 1; high = 0 }

-- PLLxRGE: the reference clock lies in 1 to 2, 2 to 4, 4 to 8, 8 to 16 MHz
abbrev pub rge_span : (code : ℕ) → Span
rge_span code =
    get_or
    (record { low = 1_000_000; high = 2_000_000 } ∷ record { low = 2_000_000; high = 4_000_000 }
    ∷ record { low = 4_000_000; high = 8_000_000 } ∷ record { low = 8_000_000; high = 16_000_000 } ∷ [])
    code no_span

-- PLLxVCOSEL: 0 wide, 128 to 560 MHz; 1 medium, 150 to 420 MHz
abbrev pub vco_span : (code : ℕ) → Span
vco_span code = get_or (record { low = 128_000_000; high = 560_000_000 } ∷ record { low = 150_000_000; high = 420_000_000 } ∷ []) code no_span

-- PLLxVCOSEL: the wide VCO takes a reference clock of 2 to 16 MHz, the medium one of 1 to 2 MHz
abbrev pub input_span : (code : ℕ) → Span
input_span code = get_or (record { low = 2_000_000; high = 16_000_000 } ∷ record { low = 1_000_000; high = 2_000_000 } ∷ []) code no_span

-- the fraction num / den lies in a span, by cross products
pub record Within (span : Span) (num den : ℕ) : Type 0 where
  pub from : span.low * den ≤ num
  pub to : num ≤ span.high * den

-- PLLxM: 1 to 63, the divisor of the source; 0 stops the PLL
pub record FieldM (v : ℕ) : Type 0 where
  pub from : 1 ≤ v
  pub to : v ≤ 63

-- PLLxN: 3 to 511, for a multiplier of 4 to 512
pub record FieldN (v : ℕ) : Type 0 where
  pub from : 3 ≤ v
  pub to : v ≤ 511

-- PLLxFRACN: 13 bits
abbrev pub FieldFracn : ℕ → Type 0
FieldFracn v = v ≤ 8191

-- PLLxP, PLLxQ, PLLxR: 7 bits, for a divider of 1 to 128
abbrev pub FieldDivider : ℕ → Type 0
FieldDivider v = v ≤ 127

-- PLLxP, as a test: 7 bits, and where odd dividers are forbidden (RM0492 PLL1P) one more than the field is even
abbrev pub allows_p : (odd : Bool) → ℕ → Bool
allows_p odd v = leb v 127 && (odd || eqb ((v + 1) % 2) 0)
