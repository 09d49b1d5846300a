-- The loop of `template::write_all`.
use Rattle.text.specs.Names.{texts_of}
use Rattle.template.proofs.Whole.{Going}
use Rattle.template.proofs.write_all.Given as goal

abbrev pub invariant-loop-b : goal.invariant-loop-b
invariant-loop-b l = Going l.template (texts_of l.names) l.numbers l.initial.out l.out l.s l.b-index
