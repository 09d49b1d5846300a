-- What is picked from a list is the entry with so many before it.
use mathlib.Core.Path.{◌≡◌, refl, ◌∙◌, ap}
use mathlib.Core.List.{List, [], ◌∷◌}
use Prim.Native.Nat.{ℕ, zero, suc, ◌+◌, ◌-◌, ◌≤◌}
use native.Mathlib.Omega.{arith}
use lib.ListN.{length}
use Rattle.std.specs.Prelude.{Option, Some, None, is_some, true, false, slice_get}
use Rattle.types.specs.declared.Entry.{Entry}
use Rattle.entries.specs.declared.pick.Pick.{Pick}
use Rattle.entries.specs.Sink.{told, Passes}
use Rattle.entries.specs.Pick.{picked}

-- what was found stays
stays : (es : List Entry) (k : ℕ) (f : Entry) (room : List ℕ) → (told picked es (record { before = k; found = Some f }, room)).0.found ≡ Some f
stays [] k f room = refl
stays (e ∷ es) k f room = stays es k f room

picks : (es : List Entry) (k : ℕ) (room : List ℕ) → (told picked es (record { before = k; found = None }, room)).0.found ≡ slice_get es k
picks [] k room = refl
picks (e ∷ es) zero room = stays es zero e room
picks (e ∷ es) (suc k) room = picks es k room

pub pick_is : (es : List Entry) (k : ℕ) (p : Pick) (room : List ℕ) → (p, room) ≡ told picked es (record { before = k; found = None }, []) → p.found ≡ slice_get es k
pick_is es k p room e = ap (λ (s : Pick × List ℕ). s.0.found) e ∙ picks es k []

-- where an entry was found any more are passed over
all_stay : (es : List Entry) (k : ℕ) (f : Entry) (room : List ℕ) → (record { before = k; found = Some f }, room) ≡ told picked es (record { before = k; found = Some f }, room)
all_stay [] k f room = refl
all_stay (e ∷ es) k f room = all_stay es k f room

found_passes : (k n : ℕ) (found : Option Entry) → is_some found ≡ true → Passes picked n (record { before = k; found = found }) (record { before = k; found = found })
found_passes k n None h es room e = grind arith
found_passes k n (Some f) h es room e = all_stay es k f room

pub some_passes : (p : Pick) (n : ℕ) → is_some p.found ≡ true → Passes picked n p p
some_passes p n h = found_passes p.before n p.found h

-- before one is found, as many are passed over as stand before it
fewer : (es : List Entry) (k m : ℕ) (room : List ℕ) → k ≡ m + length es → (record { before = m; found = None }, room) ≡ told picked es (record { before = k; found = None }, room)
fewer [] k m room h = ap (λ (n : ℕ). (record { before = n; found = None }, room)) (omega arith)
fewer (e ∷ es) zero m room h = grind arith
fewer (e ∷ es) (suc k) m room h = fewer es k m room (omega arith)

none_passes : (k n : ℕ) (found : Option Entry) → is_some found ≡ false → n ≤ k → Passes picked n (record { before = k; found = found }) (record { before = k - n; found = found })
none_passes k n None h h' es room e = fewer es k (k - n) room (omega arith)
none_passes k n (Some f) h h' es room e = grind arith

pub fewer_passes : (p : Pick) (n : ℕ) → is_some p.found ≡ false → n ≤ p.before → Passes picked n p (record { before = p.before - n; found = p.found })
fewer_passes p n = none_passes p.before n p.found
