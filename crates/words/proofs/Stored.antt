-- Nine words are stored where they fit, one after the other, and else nothing is.
use mathlib.Core.Path.{◌≡◌}
use mathlib.Core.List.{List}
use Prim.Native.Nat.{ℕ, ◌+◌, ◌≤◌, ◌<◌}
use native.Mathlib.Omega.{arith}
use borrow.Author.Tests.{le-leb, lt-leb}
use lib.ListN.{length, get_or, set}
use Rattle.rules.specs.Words.{stored_at}

module _ (b : List ℕ) (at : ℕ) (w : List ℕ) where
  pub no_room : length b < at + 9 → b ≡ stored_at b at w
  unfolding stored_at
  no_room h = rw (lt-leb (at + 9) (length b) h)

  pub nine_set : at + 9 ≤ length b
      → set (set (set (set (set (set (set (set (set b at (get_or w 0 0)) (at + 1) (get_or w 1 0)) (at + 2) (get_or w 2 0)) (at + 3) (get_or w 3 0)) (at + 4) (get_or w 4 0)) (at + 5) (get_or w 5 0)) (at + 6) (get_or w 6 0)) (at + 7) (get_or w 7 0)) (at + 8) (get_or w 8 0)
      ≡ stored_at b at w
  unfolding stored_at
  nine_set h =
      let c : at + 3 + 1 ≡ at + 4 = omega arith in
      let d : at + 3 + 2 ≡ at + 5 = omega arith in
      let e : at + 6 + 1 ≡ at + 7 = omega arith in
      let f : at + 6 + 2 ≡ at + 8 = omega arith in
      rw (le-leb (at + 9) (length b) h, c, d, e, f)
