-- Numbers that the rules and the Rust write in two ways: a clock or its default, and a ratio rounded up.
use Rattle.std.specs.Prelude.{Option, Some, None, unwrap_or}
use mathlib.Core.Path.{◌≡◌, refl}
use mathlib.Core.Bool.{false}
use Prim.Native.Nat.{ℕ, ◌≤◌}
use native.Mathlib.Omega.{arith}
use lib.Dec.{eqb}
use borrow.Author.Tests.{ne_eqb}
use Rattle.rules.specs.Document01.Hertz.{ratio_of}
use Rattle.claims.specs.Rust.Run.{ceil}
use Rattle.rules.proofs.Document01.RoundedUp.{rounded_up}

-- above 0, as a test
pub nonzero : (n : ℕ) → 1 ≤ n → eqb n 0 ≡ false
nonzero n h = ne_eqb n 0 (λ e. omega arith)

-- a clock that is requested, else another
pub or_same : (h : Option ℕ) (d : ℕ) → unwrap_or h d ≡ unwrap_or h d
or_same None d = refl
or_same (Some w) d = refl

-- u32::div_ceil is the ratio rounded up
pub ceil_is : (a b : ℕ) → 1 ≤ b → ceil a b ≡ ratio_of a b
ceil_is = rounded_up
