-- For the private functions: the outputs of a PLL one after the other, and a VCO range.
use Rattle.std.specs.Prelude.{◌≡◌, Bool, true, cond, ℕ, ◌/◌, ◌≤◌, ◌<◌, min, max, Option, Some, None}
use Rattle.types.specs.declared.PllRequest.{PllRequest}
use Rattle.rules.specs.Document01.OnePll.{wanted, counted_outputs, least, largest, range_of}
use Rattle.pll.specs.declared.asked.Asked.{Asked}
use Rattle.pll.specs.declared.outputs.Span.{Span}
use Rattle.pll.specs.declared.vco.VcoRange.{VcoRange}

-- One PLL, first point: min and max, the least and largest counted output; step 4: nothing where no output is requested
unfoldable pub span_of : (odd : Bool) → PllRequest → Option Span
span_of odd a = cond (wanted a) (Some (record { least = least (counted_outputs odd a); most = largest (counted_outputs odd a) })) None

-- One PLL, first point, one output after the other: min and max of those so far and one of so many hertz
abbrev pub with_hertz : Option Span → ℕ → Span
with_hertz None h = record { least = h; most = h }
with_hertz (Some s) h = record { least = min s.least h; most = max s.most h }

-- One PLL, first point: those so far and the next, if it is requested
abbrev pub with_output : Option Span → Option ℕ → Option Span
with_output s None = s
with_output s (Some h) = Some (with_hertz s h)

-- step 4 and refusals 8 and 9: an output is requested, the outputs span from low to most, and neither refusal fits
pub record Spanned (asked : Asked) (low most : ℕ) : Type 0 where
  pub some : wanted asked.request ≡ true
  pub low_is : low ≡ least (counted_outputs asked.odd asked.request)
  pub most_is : most ≡ largest (counted_outputs asked.odd asked.request)
  pub near : most / 128 ≤ low
  pub below : most < 560_000_000

-- One PLL, first point: the range for outputs up to most, as the code has it
abbrev pub range_for : (most : ℕ) → VcoRange
range_for most = record { vcosel = (range_of most).vcosel; start = (range_of most).start; end = (range_of most).end }
