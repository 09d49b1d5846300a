-- `ask::table::key` meets its contract.
use Rattle.std.proofs.Common.{rules}
use Rattle.ask.specs.Table.{keys}
use Rattle.ask.proofs.Listed.{key_got}
use Rattle.ask.proofs.table.key.Goals as goal

pub returns : goal.returns
unfolding keys
returns c = rw (c.unwrap_or-kind.ensures, c.copied.ensures) (search (rules, key_got))
