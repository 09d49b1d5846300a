-- An entry of the table of wait states: document 01, Flash.
use Rattle.std.specs.Prelude.{ℕ, ◌+◌, ◌*◌, ◌/◌, ◌%◌}
use Rattle.types.specs.declared.Waits.{Waits}
use Rattle.rules.specs.Document01.Flash.{at_column}
use Rattle.rules.specs.Document01.Chip.{scale_of}

-- Flash: an entry of the table has latency and delay in one number
abbrev pub packed : Waits → ℕ
packed w = w.latency + 8 * w.delay

-- Flash: the entry that the steps put at a place of the table, which has four rows and 252 columns
unfoldable pub placed : ℕ → ℕ
placed i = packed (at_column (scale_of (i / 252)) (i % 252))
