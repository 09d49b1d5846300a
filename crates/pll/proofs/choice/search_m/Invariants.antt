-- The loop of `pll::choice::search_m`.
use Rattle.pll.proofs.Search.{Kept}
use Rattle.pll.specs.Search.{low_of, high_of}
use Rattle.rules.specs.Document01.ChoiceOfM.{best_to}
use Prim.Native.Nat.{◌-◌, ◌/◌, ◌≤◌, ◌<◌}
use Rattle.pll.proofs.choice.search_m.Given as goal

abbrev pub invariant-loop-m : goal.invariant-loop-m
invariant-loop-m l =
    ((l.source - 1) / high_of l.medium < l.m)
    × (l.m ≤ l.last)
    × Kept l.source l.target (low_of l.medium) (high_of l.medium) (best_to l.source l.target (low_of l.medium) (high_of l.medium) (l.m - 1)) l.best l.least

abbrev pub decreases-loop-m : goal.decreases-loop-m
decreases-loop-m l = l.last - l.m
