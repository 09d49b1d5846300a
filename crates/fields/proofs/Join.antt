-- A bank stored by one list and then by another is stored by the two joined.
use mathlib.Core.Path.{◌≡◌, refl}
use mathlib.Core.List.{List, [], ◌∷◌, ◌++◌}
use Prim.Native.Nat.{ℕ}
use Rattle.types.specs.declared.Entry.{Entry}
use Rattle.rules.specs.Document01.Bank.{apply_one, apply_all}

-- entries are applied in list order, each to the bank that the last one left
pub apply_append : (s t : List Entry) (b : List ℕ) → apply_all (s ++ t) b ≡ apply_all t (apply_all s b)
apply_append [] t b = refl
apply_append (e ∷ s) t b = apply_append s t (apply_one e b)
