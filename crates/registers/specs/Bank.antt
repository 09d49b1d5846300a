-- An entry applied to the bank that a sink is lent.
use Rattle.std.specs.Prelude.{List, ℕ}
use Rattle.types.specs.declared.Entry.{Entry}
use Rattle.rules.specs.Document01.Bank.{apply_one}

abbrev pub applied : {S : Type 0} → Entry → S × List ℕ → S × List ℕ
applied e s = (s.0, apply_one e s.1)
