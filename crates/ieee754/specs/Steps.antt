-- What `calc_fracn` and `calc_vco_ck` work out, as f32 operations in the Rust's order, each rounded once (`lib.Ieee`).

use Rattle.std.specs.Prelude.{ℕ, Bool, true, false, ◌&&◌, pos, Float, Option, Some, None}
use Rattle.std.specs.Float.{binary32}
use Rattle.std.specs.Float.Ieee.{add, sub, mul, div, le, of_int, to_unsigned}

-- the whole number n as an f32, rounded
abbrev pub float : ℕ → Float
float n = of_int binary32 (pos n)

-- 8192 × ((output × divider) / ref − N)
abbrev pub fracn_float : Float → Float → Float → Float → Float
fracn_float ref n divider output = mul binary32 (float 8192) (sub binary32 (div binary32 (mul binary32 output divider) ref) n)

-- a value that is in range, or refused
abbrev pub accept : Bool → ℕ → Option ℕ
accept true v = Some v
accept false v = None

-- refused outside 0..8191, then cut down
abbrev pub fracn_cut : Float → Option ℕ
fracn_cut f = accept (le (float 0) f && le f (float 8191)) (to_unsigned 16 f)

-- document 01, One PLL, FRACN: calc_fracn of pll.rs
unfoldable pub fracn_of : Float → Float → Float → Float → Option ℕ
fracn_of ref n divider output = fracn_cut (fracn_float ref n divider output)

-- ref × (N + FRACN / 8192), cut down
unfoldable pub vco_of : ℕ → ℕ → ℕ → ℕ
vco_of ref n fracn = to_unsigned 32 (mul binary32 (float ref) (add binary32 (float n) (div binary32 (float fracn) (float 8192))))
