-- Where a walk record stands, and what a step makes of the record (document 01, Register entries).
use Rattle.std.specs.Prelude.{Bool, true, false, cond, List, ℕ, ◌+◌, drop, Result, Ok, Err}
use Rattle.types.specs.declared.Refusal.{Refusal}
use Rattle.types.specs.declared.Plan.{Plan}
use Rattle.types.specs.declared.Entry.{Entry}
use Rattle.types.specs.declared.Refusal.TheVariants.{CsiDown}
use Rattle.types.specs.declared.Shown.{Shown}
use Rattle.types.specs.declared.Shown.TheVariants.{Next, Finished, Stopped}
use Rattle.rules.specs.Document01.Entries.{entries_of}
use Rattle.rules.specs.Document01.Walk.{Stand, before, ended, shown_of, passes, is_check}
use Rattle.walk.specs.declared.Walk.{Walk}

-- a fresh record
abbrev pub fresh_walk : Result Plan Refusal → Walk
fresh_walk x = record { planned = x; at = 0; down = false }

-- ended by 24, or by the refusal of the request, or before the rest of the list
abbrev pub stand_at : (down : Bool) → Result Plan Refusal → (rest : List Entry) → Stand
stand_at true x rest = ended CsiDown
stand_at false (Ok p) rest = before rest
stand_at false (Err n) rest = ended n

-- where a record stands
unfoldable pub stand_of : Walk → Stand
stand_of w = stand_at w.down w.planned (drop w.at (entries_of w.planned))

-- at entry e: one place on if the values read pass it; else a check ends the walk with 24, and a wait is shown again
abbrev pub passed_walk : Entry → Walk → (a b : ℕ) → Walk
passed_walk e w a b =
    cond (passes e a b) (record { planned = w.planned; at = w.at + 1; down = w.down })
    (record { planned = w.planned; at = w.at; down = is_check e })

-- by what is shown: after finished or a refusal a step changes nothing
abbrev pub stepped_by : Shown → Walk → (a b : ℕ) → Walk
stepped_by (Next e) w a b = passed_walk e w a b
stepped_by Finished w a b = w
stepped_by (Stopped n) w a b = w

-- a step takes the values read
unfoldable pub stepped_walk : Walk → (a b : ℕ) → Walk
stepped_walk w a b = stepped_by (shown_of (stand_of w)) w a b
