-- What is wrong, gathered by `|`: nothing is where nothing is in either; and what is wrong with one byte, or a flag and a number.
use mathlib.Core.Path.{◌≡◌, refl}
use mathlib.Core.Bool.{Bool, true, false, ◌&&◌}
use Prim.Native.Nat.{ℕ, zero, suc, ◌-◌}
use native.Mathlib.Omega.{arith}
use borrow.Author.Tests.{ltb-true, ltb-false, le-leb, lt-leb, le-ltb, eqb-true, eqb-false, ne_eqb}
use lib.Bits.{bit_or, or_zero_l, or_add_and, and_le_r}
use lib.Dec.{eqb, leb, ltb}
use mir.Val.{bool_byte}
use Rattle.request.specs.Parts.{Finds, hertz_is}

either : (a b : ℕ) → eqb (bit_or a b) 0 ≡ (eqb a 0 && eqb b 0)
either zero b = rw (or_zero_l b)
either (suc a) b =
    let s = or_add_and (suc a) b in
    let l = and_le_r (suc a) b in
    let none : eqb (bit_or (suc a) b) 0 ≡ false = ne_eqb (bit_or (suc a) b) 0 (omega arith) in
    let one : eqb (suc a) 0 ≡ false = ne_eqb (suc a) 0 (omega arith) in
    rw (none, one)

pub both : {a b : ℕ} {x y : Bool} → Finds a x → Finds b y → Finds (bit_or a b) (x && y)
both {a} {b} p q = record { told = rw (either a b, p.told, q.told) }

-- a byte that is not below n
pub not_below : (n x : ℕ) → Finds (bool_byte (leb n x)) (ltb x n)
not_below n x = record { told = go (ltb x n) refl }
  where
    go : (t : Bool) → ltb x n ≡ t → eqb (bool_byte (leb n x)) 0 ≡ t
    go true h = rw (lt-leb n x (ltb-true x n h))
    go false h = rw (le-leb n x (ltb-false x n h))

-- a flag that is set, and one that is not
pub set : (x number : ℕ) → (x ≡ 0 → ⊥) → Finds (x - 1) (hertz_is x number)
set x number h = record { told = go (eqb x 1) refl }
  where
    go : (t : Bool) → eqb x 1 ≡ t → eqb (x - 1) 0 ≡ hertz_is x number
    go true e = rw (eqb-true x 1 e)
    go false e =
        let k = eqb-false x 1 e in
        rw (ne_eqb (x - 1) 0 (omega arith), le-ltb x 2 (omega arith))

pub unset : (x number : ℕ) → x ≡ 0 → Finds number (hertz_is x number)
unset x number h = record { told = rw h }
