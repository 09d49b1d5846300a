-- A request is a part of its sheet.
use mathlib.Core.List.{List}
use Prim.Native.Nat.{ℕ, ◌≤◌}
use native.Mathlib.Omega.{arith}
use lib.ListN.{length}
use Rattle.sheet.specs.Sheet.{request_length}

pub within : (s : List ℕ) → request_length s ≤ length s
unfolding request_length
within s = omega arith
