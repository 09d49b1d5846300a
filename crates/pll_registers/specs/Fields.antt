-- What the registers of one PLL hold: document 02, Item 1. The record is src/lib.rt's: N and the dividers as they multiply and divide, and a divider
-- of 0 for an output that is not enabled.
use Rattle.std.specs.Prelude.{ℕ, Option, Some, None}
use Rattle.types.specs.declared.PllSettings.{PllSettings}
use Rattle.pll_words.specs.PllWords.{fracen_of, fracn_of, divider_of}
use Rattle.pll_registers.specs.declared.PllFields.{PllFields}

-- the source alone of a PLL with no output requested; else what is chosen for it
abbrev pub fields_of : (src : ℕ) → Option PllSettings → PllFields
fields_of src None = record { src = src; rge = 0; fracen = 0; vcosel = 0; m = 0; n = 0; fracn = 0; p = 0; q = 0; r = 0 }
fields_of src (Some s) = record {
  src = src;
  rge = s.rge;
  fracen = fracen_of s.fraction;
  vcosel = s.vcosel;
  m = s.m;
  n = s.n;
  fracn = fracn_of s.fraction;
  p = divider_of s.p;
  q = divider_of s.q;
  r = divider_of s.r;
}
