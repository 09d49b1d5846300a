-- The eight digits of a register are digits, and read from the left they give the register.
use mathlib.Core.Path.{◌≡◌, ◌∙◌, sym, ap}
use mathlib.Core.List.{List, [], ◌∷◌}
use Prim.Native.Nat.{ℕ, suc, ◌+◌, ◌*◌, ◌/◌, ◌^◌, ◌<◌}
use native.Mathlib.Nat.{div-div-eq-div-mul, pow-suc}
use native.Mathlib.Omega.{arith}
use Rattle.lines.specs.Lines.{digit_at, hex_line}

-- each is a hexadecimal digit
abbrev pub Digits : List ℕ → Type 0
Digits [] = Unit {0}
Digits (d ∷ s) = (d < 16) × Digits s

-- the number that digits give, read on from n
abbrev pub read_on : (n : ℕ) → List ℕ → ℕ
read_on n [] = n
read_on n (d ∷ s) = read_on (16 * n + d) s

-- a digit behind those before it
behind_them : (w k : ℕ) → 16 * (w / 16 ^ suc k) + digit_at w k ≡ w / 16 ^ k
behind_them w k =
    let e : w / 16 ^ k / 16 ≡ w / 16 ^ suc k = div-div-eq-div-mul w (16 ^ k) 16 ∙ ap (λ (d : ℕ). w / d) (sym (pow-suc 16 k)) in
    omega (arith, e)

pub are_digits : (w : ℕ) → Digits (hex_line w)
unfolding hex_line
are_digits w = omega arith

pub give_it : (w : ℕ) → w < 4_294_967_296 → read_on 0 (hex_line w) ≡ w
unfolding hex_line
give_it w h =
    let first : 16 * 0 + digit_at w 7 ≡ w / 16 ^ 7 = omega arith in
    rw (first, behind_them w 6, behind_them w 5, behind_them w 4, behind_them w 3, behind_them w 2, behind_them w 1, behind_them w 0) (omega arith)
