-- A sink that shows: an entry shown by it, where the check of CSIRDY has not ended the list. It counts what it shows in 64 bits.
use Rattle.std.specs.Prelude.{cond, List, ℕ, ◌+◌, ◌*◌, ◌%◌, ◌^◌, false}
use Rattle.types.specs.declared.Entry.{Entry}
use Rattle.rules.specs.Words.{stored_at}
use Rattle.listing.specs.Showing.{Showing, showing, show_one}
use Rattle.listing.specs.declared.shows.Show.{Show}

abbrev pub wrapped : Showing → Showing
wrapped z = record { at = z.at % 2 ^ 64; down = z.down; room = z.room }

-- what the sink and its room are, where this is shown
abbrev pub stands : Show → Showing → Show × List ℕ
stands s z = (record { reads = s.reads; at = z.at; down = z.down }, z.room)

unfoldable pub shown : Entry → Show × List ℕ → Show × List ℕ
shown e s = cond s.0.down s (stands s.0 (wrapped (show_one s.0.reads.now e (showing s.0.at s.1))))

-- nine words, shown once
unfoldable pub shown_once : (words : List ℕ) → Show × List ℕ → Show × List ℕ
shown_once words s = cond s.0.down s (record { reads = s.0.reads; at = (s.0.at + 1) % 2 ^ 64; down = false }, stored_at s.1 (9 * s.0.at) words)
