-- The same words stored again and again, as a walk shows its end.
use Rattle.std.specs.Prelude.{List, ℕ, zero, suc, ◌+◌, ◌*◌}
use Rattle.rules.specs.Words.{stored_at}

-- the same words as thing i and the k - 1 after it
abbrev pub filled : (k i : ℕ) → (words room : List ℕ) → List ℕ
filled zero i words room = room
filled (suc k) i words room = filled k (i + 1) words (stored_at room (9 * i) words)
