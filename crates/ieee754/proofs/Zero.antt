-- A reference of 0 is refused by the f32 steps: the quotient is infinite or no number, whatever the other three are.
use Rattle.std.specs.Prelude.{None}
use mathlib.Core.Path.{◌≡◌, refl}
use mathlib.Core.Bool.{Bool, true, false, cond, beq}
use Prim.Native.Nat.{ℕ, zero, suc, ◌^◌, ◌<◌}
use native.Mathlib.Omega.{arith}
use borrow.Author.Tests.{ne_eqb}
use lib.Dec.{eqb}
use lib.IntN.{ℤ, pos}
use lib.Ieee.{Float, nan, inf, fin, binary32, neg, add, sub, mul, div, lt, eq, le, of_int, unlike}
use Rattle.ieee754.specs.Steps.{float, fracn_cut, fracn_of}
use Rattle.ieee754.specs.Whole.{fracn_for}
use Rattle.ieee754.proofs.Same.{fracn_same}

-- infinite, or no number
data Endless : Float → Type 0 where
  no_number : Endless nan
  infinite : (s : Bool) → Endless (inf s)

picked : (t : Bool) (s : Bool) → Endless (cond t nan (inf s))
picked true s = no_number
picked false s = infinite s

over_zero : (p : Float) (e : ℤ) → Endless (div binary32 p (fin false 0 e))
unfolding div
over_zero nan e = no_number
over_zero (inf s) e = infinite (unlike s false)
over_zero (fin s m d) e = picked (eqb m 0) (unlike s false)

same_sign : (t s : Bool) → Endless (cond t (inf s) nan)
same_sign true s = infinite s
same_sign false s = no_number

plus_any : {x : Float} → Endless x → (y : Float) → Endless (add binary32 x y)
unfolding add
plus_any no_number y = no_number
plus_any (infinite s) nan = no_number
plus_any (infinite s) (inf t) = same_sign (beq s t) s
plus_any (infinite s) (fin t n d) = infinite s

less_any : {x : Float} → Endless x → (y : Float) → Endless (sub binary32 x y)
unfolding sub
less_any h y = plus_any h (neg y)

times_8192 : {x : Float} → Endless x → Endless (mul binary32 (float 8192) x)
unfolding mul of_int
times_8192 no_number = no_number
times_8192 (infinite s) = infinite (unlike false s)

refused : {f : Float} → Endless f → fracn_cut f ≡ None
unfolding le lt eq of_int
refused no_number = refl
refused (infinite false) = refl
refused (infinite true) = refl

-- 0 as an f32
zero_is : float 0 ≡ fin false 0 (pos 0)
unfolding of_int
zero_is = refl

pub zero_refused : (n d o : Float) → fracn_of (float 0) n d o ≡ None
unfolding fracn_of
zero_refused n d o = refused (times_8192 (less_any (rw zero_is (over_zero (mul binary32 o d) (pos 0))) n))

-- so the f32 steps are those over whole numbers for all u32
pub fracn_always : (ref n d o : ℕ) → ref < 2 ^ 32 → n < 2 ^ 32 → d < 2 ^ 32 → o < 2 ^ 32 → fracn_of (float ref) (float n) (float d) (float o) ≡ fracn_for ref n d o
unfolding fracn_for
fracn_always zero n d o hr hn hd ho = zero_refused (float n) (float d) (float o)
fracn_always (suc ref) n d o hr hn hd ho = rw (ne_eqb (suc ref) 0 (λ e. omega arith)) (fracn_same (suc ref) n d o (omega arith) hr hn hd ho)
