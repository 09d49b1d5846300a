-- The same words for each of several things: what is stored as far as there is room is all.
use mathlib.Core.Path.{◌≡◌, refl, ◌∙◌, sym, ap}
use mathlib.Core.List.{List}
use Prim.Native.Nat.{ℕ, zero, suc, ◌+◌, ◌*◌, ◌-◌, ◌/◌, ◌≤◌, ◌<◌}
use native.Mathlib.Omega.{arith}
use borrow.Author.Tests.{leb-true, leb-false}
use mathlib.Core.Bool.{Bool, true, false}
use lib.Dec.{leb}
use lib.ListN.{length}
use Rattle.std.specs.Prelude.{min}
use Rattle.rules.specs.Words.{stored_at}
use Rattle.rules.proofs.Document01.Run.{stored_length}
use Rattle.words.specs.Filled.{filled}
use Rattle.words.proofs.Stored.{no_room}

pub fills_on : (n k : ℕ) (w room : List ℕ) → k < n → filled (n - (k + 1)) (k + 1) w (stored_at room (9 * k) w) ≡ filled (n - k) k w room
fills_on n k w room h = let l : n - k ≡ suc (n - (k + 1)) = omega arith in rw l refl

-- past the room nothing is stored
past : (j i : ℕ) (w room : List ℕ) → length room < 9 * i + 9 → filled j i w room ≡ room
past zero i w room h = refl
past (suc j) i w room h = ap (filled j (i + 1) w) (sym (no_room room (9 * i) w h)) ∙ past j (i + 1) w room (omega arith)

-- a and b more
more : (a b i : ℕ) (w room : List ℕ) → filled (a + b) i w room ≡ filled b (i + a) w (filled a i w room)
more zero b i w room = let l : i + 0 ≡ i = omega arith in let m : 0 + b ≡ b = omega arith in rw (l, m) refl
more (suc a) b i w room =
    let l : i + 1 + a ≡ i + suc a = omega arith in
    let m : suc a + b ≡ suc (a + b) = omega arith in
    ap (λ k. filled k i w room) m
    ∙ more a b (i + 1) w (stored_at room (9 * i) w)
    ∙ ap (λ k. filled b k w (filled a (i + 1) w (stored_at room (9 * i) w))) l

same_length : (a i : ℕ) (w room : List ℕ) → length (filled a i w room) ≡ length room
same_length zero i w room = refl
same_length (suc a) i w room = same_length a (i + 1) w (stored_at room (9 * i) w) ∙ stored_length room (9 * i) w

pub filled_short : (n i : ℕ) (w room : List ℕ) → filled (min n (length room / 9) - i) i w room ≡ filled (n - i) i w room
filled_short n i w room = go (leb n (length room / 9)) refl
  where
    m : ℕ
    m = min n (length room / 9)

    go : (b : Bool) → leb n (length room / 9) ≡ b → filled (m - i) i w room ≡ filled (n - i) i w room
    go true h = let t = leb-true n (length room / 9) h in let l : m ≡ n = omega arith in rw l refl
    go false h = far (leb i m) refl
      where
        t : length room / 9 < n
        t = leb-false n (length room / 9) h

        l : m ≡ length room / 9
        l = omega (arith, t)

        far : (c : Bool) → leb i m ≡ c → filled (m - i) i w room ≡ filled (n - i) i w room
        far true k =
            let u = leb-true i m k in
            let d : n - i ≡ (m - i) + (n - m) = omega (arith, l, t, u) in
            let f : length (filled (m - i) i w room) < 9 * (i + (m - i)) + 9 = rw (same_length (m - i) i w room) (omega (arith, l, u)) in
            sym (ap (λ k. filled k i w room) d ∙ more (m - i) (n - m) i w room ∙ past (n - m) (i + (m - i)) w (filled (m - i) i w room) f)
        far false k =
            let u = leb-false i m k in
            let d : m - i ≡ 0 = omega arith in
            rw d (sym (past (n - i) i w room (omega (arith, l, u))))
