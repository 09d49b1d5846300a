-- A report written part by part is the whole report.
use mathlib.Core.Path.{◌≡◌, refl}
use mathlib.Core.List.{List, [], ◌∷◌}
use Prim.Native.Nat.{ℕ, suc}
use lib.ListN.{set}
use lib.Seq.{sets}
use Rattle.types.specs.declared.Plan.{Plan}
use Rattle.rules.specs.Words.{stored_from, report_words}
use Rattle.report.specs.Report.{always_words, given_words, output_words, divisor_words, parts_words}

-- words stored one after the other from a place on are std's `sets`
stored : (l : List ℕ) (i : ℕ) (ws : List ℕ) → stored_from l i ws ≡ sets l i ws
stored l i [] = refl
stored l i (w ∷ ws) = stored (set l i w) (suc i) ws

-- the parts of a report, one behind the other
pub whole : (l : List ℕ) (i : ℕ) (x : Plan) → stored_from l i (report_words x) ≡ sets l i (parts_words x)
unfolding always_words given_words output_words divisor_words
whole l i x = stored l i (report_words x)
