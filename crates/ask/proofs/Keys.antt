-- Laws on the keys.
use mathlib.Core.Path.{◌≡◌, refl}
use mathlib.Core.Bool.{true, false}
use mathlib.Core.List.{List, [], ◌∷◌}
use Prim.Native.Nat.{ℕ, ◌+◌, ◌≤◌}
use native.Mathlib.Omega.{arith}
use lib.Dec.{ltb, leb}
use lib.ListN.{length, get_or-eq_default}
use borrow.Author.Tests.{ltb-true, ltb-false, leb-true}
use Rattle.std.proofs.Common.{None}
use Rattle.laws.proofs.Tests.{by_test, at_each}
use Rattle.text.specs.Names.{is_name, number_in}
use Rattle.sheet.specs.Sheet.{fresh_sheet}
use Rattle.ask.specs.Table.{listed, keys, key_names, key_at}
use Rattle.ask.specs.Sheet.{width_of}
use Rattle.ask.specs.declared.Kind.TheVariants.{Nothing}

-- each key's bytes stand on a sheet
pub ends_within : (k : ℕ) → (key_at k).place + width_of (key_at k).kind ≤ 115
unfolding keys
ends_within k =
    by_test (ltb k 33)
    (λ (t : ltb k 33 ≡ true). leb-true _ _ (at_each (λ j. leb ((key_at j).place + width_of (key_at j).kind) 115) 33 refl k (ltb-true k 33 t)))
    (λ (f : ltb k 33 ≡ false). rw (get_or-eq_default keys (listed "" Nothing 0) {n = k} (ltb-false k 33 f)) (omega arith))

pub fresh_length : length fresh_sheet ≡ 115
unfolding fresh_sheet
fresh_length = refl

-- an empty name is no key's
pub nameless : (name : List ℕ) → length name ≡ 0 → None ≡ number_in key_names name
unfolding keys number_in is_name
nameless [] e = refl
nameless (x ∷ name) e = absurd (omega arith)
