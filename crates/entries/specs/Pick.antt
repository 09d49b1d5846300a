-- One entry of a list, with so many before it.
use Rattle.std.specs.Prelude.{ℕ, zero, suc, List, Option, Some, None}
use Rattle.types.specs.declared.Entry.{Entry}
use Rattle.entries.specs.declared.pick.Pick.{Pick}

-- an entry: the one where none stands before it any more
abbrev pub pick_by : (before : ℕ) → Option Entry → Entry → Pick
pick_by before (Some f) e = record { before = before; found = Some f }
pick_by zero None e = record { before = zero; found = Some e }
pick_by (suc k) None e = record { before = k; found = None }

abbrev pub picked : Entry → Pick × List ℕ → Pick × List ℕ
picked e s = (pick_by s.0.before s.0.found e, s.1)
