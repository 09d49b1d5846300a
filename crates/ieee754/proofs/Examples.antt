-- FRACN and VCO over whole numbers at bench settings C and I of document 01, computed.
use Rattle.std.specs.Prelude.{Some, None}
use mathlib.Core.Path.{◌≡◌, refl}
use Prim.Native.Nat.{◌+◌, ◌*◌, ◌/◌, ◌<◌}
use native.Mathlib.Omega.{arith}
use Rattle.ieee754.specs.Whole.{unit, rounded, whole, quotient_whole, fracn_whole, vco_whole}

-- C: FRACN 66, VCO 417,791,904
pub setting_c : fracn_whole 1_777_777 235 34 12_288_000 ≡ Some 66
unfolding fracn_whole quotient_whole rounded lib.Ieee.size lib.Ieee.span lib.Ieee.climb
setting_c = refl

pub setting_c_vco : vco_whole 1_777_777 235 66 ≡ 417_791_904
unfolding vco_whole rounded lib.Ieee.size lib.Ieee.span lib.Ieee.climb
setting_c_vco = refl

-- HSE 25,000,000 and P 2,822,400: FRACN 190, where the exact fraction, 8192 × (2,822,400 × 74 / 1,470,588 − 142), is below 190
pub not_the_exact_one : fracn_whole 1_470_588 142 74 2_822_400 ≡ Some 190
unfolding fracn_whole quotient_whole rounded lib.Ieee.size lib.Ieee.span lib.Ieee.climb
not_the_exact_one = refl

pub exact_below : 8192 * (2_822_400 * 74) < (190 + 8192 * 142) * 1_470_588
exact_below = omega arith

-- I: P's product is below reference × N, so FRACN would be below 0
pub setting_i : fracn_whole 2_000_000 200 13 30_000_000 ≡ None
unfolding fracn_whole quotient_whole rounded lib.Ieee.size lib.Ieee.span lib.Ieee.climb
setting_i = refl

-- a u32 above 2 ^ 24 is rounded, a tie to the even one
pub tie_down : whole 16_777_217 / unit ≡ 16_777_216
unfolding rounded lib.Ieee.size lib.Ieee.span lib.Ieee.climb
tie_down = refl

pub tie_up : whole 16_777_219 / unit ≡ 16_777_220
unfolding rounded lib.Ieee.size lib.Ieee.span lib.Ieee.climb
tie_up = refl
