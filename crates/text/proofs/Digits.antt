-- Laws on numbers in decimal.
use mathlib.Core.Path.{◌≡◌, refl}
use mathlib.Core.List.{List, [], ◌∷◌, ◌++◌}
use Prim.Native.Nat.{ℕ, ◌-◌}
use native.Mathlib.Omega.{arith}
use lib.ListN.{drop, length, get_or, take, length-append}
use Rattle.std.proofs.Common.{Some, None}
use Rattle.std.proofs.Math.Seq.{take-append_seam, get_or-append_seam}
use Rattle.text.specs.Numbers.{read_on, pointed_by, unit_of, hertz_of}

-- the first i digits are read, and come to a value
abbrev pub Read : (v : ℕ) → (s : List ℕ) → (value i : ℕ) → Type 0
Read v s value i = read_on v s ≡ read_on value (drop i s)

-- ---- the last byte is a unit or not
pub in_unit : (s rest : List ℕ) (x k : ℕ) → s ≡ rest ++ (x ∷ []) → Some k ≡ unit_of x → pointed_by k rest ≡ hertz_of s
unfolding hertz_of
in_unit s rest x k e u =
    let n : length s - 1 ≡ length rest = rw (e, length-append) (omega arith) in
    let l : get_or s (length rest) 0 ≡ x = rw e (get_or-append_seam rest x [] 0) in
    let f : take (length rest) s ≡ rest = rw e (take-append_seam rest (x ∷ [])) in
    rw (n, l, ← u, n, f)

pub in_none : (s rest : List ℕ) (x : ℕ) → s ≡ rest ++ (x ∷ []) → None ≡ unit_of x → pointed_by 0 s ≡ hertz_of s
unfolding hertz_of
in_none s rest x e u =
    let n : length s - 1 ≡ length rest = rw (e, length-append) (omega arith) in
    let l : get_or s (length rest) 0 ≡ x = rw e (get_or-append_seam rest x [] 0) in
    rw (n, l, ← u)

pub none_told : (s : List ℕ) → length s ≡ 0 → pointed_by 0 s ≡ hertz_of s
unfolding hertz_of
none_told [] h = refl
none_told (x ∷ s) h = absurd (omega arith)
