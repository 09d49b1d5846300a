-- A list told to a bank is the list applied to it.
use mathlib.Core.Path.{◌≡◌, refl, ap, ◌∙◌}
use mathlib.Core.List.{List, [], ◌∷◌}
use Prim.Native.Nat.{ℕ}
use Rattle.types.specs.declared.Entry.{Entry}
use Rattle.rules.specs.Document01.Bank.{apply_one, apply_all}
use Rattle.entries.specs.Sink.{told}
use Rattle.registers.specs.Bank.{applied}

leaves : {S : Type 0} (es : List Entry) (s : S) (b : List ℕ) → (told applied es (s, b)).1 ≡ apply_all es b
leaves [] s b = refl
leaves (e ∷ es) s b = leaves es s (apply_one e b)

pub applied_is : {S : Type 0} (es : List Entry) (s t : S) (b c : List ℕ) → (t, c) ≡ told applied es (s, b) → c ≡ apply_all es b
applied_is {S = S} es s t b c e = ap (λ (x : S × List ℕ). x.1) e ∙ leaves es s b
