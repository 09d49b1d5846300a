-- `text::name_number` meets its contract.
use Rattle.std.proofs.Common.{rules}
use Rattle.std.proofs.lemmas.Iterator.{YieldsList-from_slice}
use Rattle.std.proofs.lemmas.Iterator.Search.{position_from_yields_List}
use Rattle.text.specs.Names.{text_of}
use Rattle.text.proofs.Named.{listed_as, by_place}
use Rattle.text.proofs.name_number.Goals as goal

pub returns-clause-number : goal.returns-clause-number
returns-clause-number c =
    by_place text_of _ _
    (position_from_yields_List (listed_as text_of c.args.name.now) _ _ _ c.position.ensures.ran (YieldsList-from_slice _ c.iter.ensures.rest) (λ x b q k. search rules))
