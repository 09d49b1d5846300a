-- A count of entries, which stops at the largest number.
use Rattle.std.specs.Prelude.{ℕ, List, ◌+◌, min}
use Rattle.types.specs.declared.Entry.{Entry}
use Rattle.entries.specs.declared.count.Count.{Count}

abbrev pub counted : Entry → Count × List ℕ → Count × List ℕ
counted e s = (record { entries = min (s.0.entries + 1) 18_446_744_073_709_551_615 }, s.1)
