-- `layout::word` meets its contract.
use Rattle.layout.proofs.Words.{word_sign}
use Rattle.layout.proofs.word.Goals as goal

pub returns : goal.returns
returns c = word_sign c.args.item _ _ c.faces.ensures c.word_in.ensures
