-- The loop of `words::steps`, a whole walk.
use mathlib.Core.Path.{◌≡◌}
use Rattle.rules.proofs.Document01.Run.{Going}
use Rattle.words.proofs.steps.Steps.run.Given as goal

abbrev pub invariant-loop-i : goal.invariant-loop-i
invariant-loop-i g l = Going (g.Self.Steps.rule l.fn.self) (g.Self.Steps.stand l.fn.self) l.reads l.initial.shown l.n l.shown (g.Self.Steps.stand l.w) l.i × (g.Self.Steps.rule l.w ≡ g.Self.Steps.rule l.fn.self)
