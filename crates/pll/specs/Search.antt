-- For the private functions: the ends of a reference range.
use Rattle.std.specs.Prelude.{Bool, cond, ℕ, ◌*◌, ◌≤◌}
use Rattle.rules.specs.Document01.OnePll.{medium, wide}

-- One PLL, first point: the low end of the reference, by the range
abbrev pub low_of : (inMedium : Bool) → ℕ
low_of t = (cond t medium wide).low

-- One PLL, first point: the high end of the reference, by the range
abbrev pub high_of : (inMedium : Bool) → ℕ
high_of t = (cond t medium wide).high

-- M from 1 to 63, and a reference source / M from 1 Hz to 16 MHz
pub record Divides (source m : ℕ) : Type 0 where
  pub above : 1 ≤ m
  pub within : m ≤ 63
  pub from_low : m ≤ source
  pub to_high : source ≤ m * 16_000_000
