-- What the C functions of the planner leave in a lent slice: docs/CODES.md, The C functions.
use Rattle.std.specs.Prelude.{List, ℕ, Result, Ok, Err}
use Rattle.types.specs.declared.Refusal.{Refusal}
use Rattle.types.specs.declared.Plan.{Plan}
use Rattle.rules.specs.Document01.Entries.{plan_entries}
use Rattle.rules.specs.Words.{stored_from, report_words, listed}

-- a plan is reported; a refusal changes no word
abbrev pub report_by : Result Plan Refusal → List ℕ → List ℕ
report_by (Ok p) room = stored_from room 0 (report_words p)
report_by (Err n) room = room

-- a plan's entries are listed; a refusal changes no word
abbrev pub list_by : Result Plan Refusal → List ℕ → List ℕ
list_by (Ok p) room = listed (plan_entries p) room
list_by (Err n) room = room
