-- Document 01, One PLL, third point: the reference divider M, the smallest of those with the least shortfall.
use Rattle.std.specs.Prelude.{ℕ, zero, suc, ◌-◌, ◌*◌, ◌/◌, ◌≤◌, ◌<◌, Bool, cond, ◌&&◌, ltb, leb, Option, Some, None}

-- M × low ≤ source ≤ M × high of the reference range. It is source / M exactly that is tested, and not its quotient in whole hertz
unfoldable pub in_range : (source low high m : ℕ) → Bool
in_range source low high m = leb (m * low) source && leb source (m * high)

-- the shortfall: target − ref × N, where ref = source / M and N = target / ref
unfoldable pub shortfall_of : (source target m : ℕ) → ℕ
shortfall_of source target m = target - source / m * (target / (source / m))

-- of the best so far and an m that comes after it: m where it is in range and falls short by less, else the best so far
unfoldable pub better_of : (source target low high : ℕ) → Option ℕ → ℕ → Option ℕ
better_of source target low high None m = cond (in_range source low high m) (Some m) None
better_of source target low high (Some k) m = cond (in_range source low high m && ltb (shortfall_of source target m) (shortfall_of source target k)) (Some m) (Some k)

-- the best of 1 to n, and of 1 to 63
unfoldable pub best_to : (source target low high : ℕ) → ℕ → Option ℕ
best_to source target low high zero = None
best_to source target low high (suc n) = better_of source target low high (best_to source target low high n) (suc n)

-- chosen: of 1 to 63
unfoldable pub chosen_m : (source target low high : ℕ) → Option ℕ
chosen_m source target low high = best_to source target low high 63

-- ---- what the choice means

-- M can be chosen: 1 ≤ M ≤ 63 and M × low ≤ source ≤ M × high
pub record Admissible (source low high m : ℕ) : Type 0 where
  pub above : 1 ≤ m
  pub within : m ≤ 63
  pub from_low : m * low ≤ source
  pub to_high : source ≤ m * high

-- M is the choice: it can be chosen, none that can be falls short by less, and each smaller one that can be falls short by more
pub record Chosen (source target low high m : ℕ) : Type 0 where
  pub admissible : Admissible source low high m
  pub least : (k : ℕ) → Admissible source low high k → shortfall_of source target m ≤ shortfall_of source target k
  pub first : (k : ℕ) → Admissible source low high k → k < m → shortfall_of source target m < shortfall_of source target k
