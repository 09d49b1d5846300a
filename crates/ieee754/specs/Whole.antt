-- The same two results over whole numbers alone. A number is a count of `unit`s: 2 ^ -149, the smallest f32 above 0. An f32 keeps 24 binary digits.
-- `size n` is how many binary digits n has, and `closest a b` is a / b to the nearest whole number, a tie to the even one (`lib.Ieee`, `lib.Ieee.Nearest`).

use Rattle.std.specs.Prelude.{ℕ, ◌+◌, ◌-◌, ◌*◌, ◌/◌, ◌^◌, min, cond, ◌&&◌, leb, eqb, Option, None}
use lib.Ieee.{size}
use Rattle.std.specs.Float.Ieee.Nearest.{closest}
use Rattle.ieee754.specs.Steps.{accept}

-- how many units are 1
abbrev pub unit : ℕ
unit = 2 ^ 149

-- num / den, rounded to 24 binary digits: the count of units. All digits but the first 24 are dropped
unfoldable pub rounded : ℕ → ℕ → ℕ
rounded num den =
    let n = num * unit in
    let k = 2 ^ (size (n / den) - 24) in
    closest n (den * k) * k

-- a whole number, and the four operations on counts, each rounded once. A difference is taken of a larger and a smaller count
abbrev pub whole : ℕ → ℕ
whole n = rounded n 1

-- a × b
abbrev pub times : ℕ → ℕ → ℕ
times a b = rounded (a * b) (unit * unit)

-- a / b
abbrev pub over : ℕ → ℕ → ℕ
over a b = rounded a b

-- a + b
abbrev pub plus : ℕ → ℕ → ℕ
plus a b = rounded (a + b) unit

-- a − b
abbrev pub less : ℕ → ℕ → ℕ
less a b = rounded (a - b) unit

-- (output × divider) / ref
unfoldable pub quotient_whole : ℕ → ℕ → ℕ → ℕ
quotient_whole ref divider output = over (times (whole output) (whole divider)) (whole ref)

-- 8192 × ((output × divider) / ref − N): refused below 0 or above 8191, then cut down
unfoldable pub fracn_whole : ℕ → ℕ → ℕ → ℕ → Option ℕ
fracn_whole ref n divider output =
    let q = quotient_whole ref divider output in
    let f = times (whole 8192) (less q (whole n)) in
    accept (leb (whole n) q && leb f (8191 * unit)) (f / unit)

-- the same for every reference: 0 is refused, since there is no quotient
unfoldable pub fracn_for : ℕ → ℕ → ℕ → ℕ → Option ℕ
fracn_for ref n divider output = cond (eqb ref 0) None (fracn_whole ref n divider output)

-- ref × (N + FRACN / 8192), cut down, and at most 2 ^ 32 - 1
unfoldable pub vco_whole : ℕ → ℕ → ℕ → ℕ
vco_whole ref n fracn = min (times (whole ref) (plus (whole n) (over (whole fracn) (whole 8192))) / unit) (2 ^ 32 - 1)
