use Rattle.words.proofs.Stored.{nine_set}
use Rattle.words.proofs.put_words.Goals as goal

-- src/lib.rt:58:1
pub returns : goal.returns
returns c = nine_set c.args.out.now c.args.at c.args.words.now c.requires
