-- What the C functions leave in a lent slice, as docs/CODES.md states it.
use Rattle.std.specs.Prelude.{Err}
use mathlib.Core.Path.{◌≡◌, refl}
use mathlib.Core.List.{List, [], ◌∷◌}
use Prim.Native.Nat.{ℕ}
use Rattle.types.specs.declared.Refusal.{Refusal}
use Rattle.clock_api.specs.Calls.{report_by, list_by}

-- a refusal changes no lent word
pub refused_keeps : (n : Refusal) (room : List ℕ) → report_by (Err n) room ∷ list_by (Err n) room ∷ [] ≡ room ∷ room ∷ []
refused_keeps n room = refl
