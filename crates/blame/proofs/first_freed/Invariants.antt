-- The loop of `blame::first_freed`.
use Rattle.std.proofs.Common.{◌≡◌, ℕ, List}
use lib.ListN.{drop}
use Rattle.blame.specs.Blame.{refusal_on, Gives, freed_from, first_freed}
use Rattle.blame.proofs.first_freed.Given as goal

abbrev pub invariant-loop-k : goal.invariant-loop-k
invariant-loop-k g l =
    (l.refused ≡ refusal_on l.fn.sheet)
    × ((f : List ℕ → ℕ → List ℕ) → Gives (goal.F-post g l.next) f → first_freed f l.fn.sheet ≡ freed_from f l.fn.sheet l.tried (drop l.k-index l.k-items))
