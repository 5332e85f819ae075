-- `second_opinion::telling::put_words` meets its contract.
use Rattle.std.proofs.Common.{arith}
use Rattle.filled.proofs.Filling.{stored_both}
use Rattle.keylog.specs.Runs.{high_first, encoded}
use Rattle.second_opinion.proofs.telling.put_words.Goals as goal

pub returns-in-Two : goal.returns-in-Two
unfolding encoded
returns-in-Two c =
    let room = rw c.in-Two.is at c.requires in
    rw c.in-Two.is
    (stored_both c.args.at (high_first c.in-Two.word) (high_first c.in-Two.other) c.args.out.now _ _ _ _ (omega arith)
    c.put_word-behind.ensures c.put_word-in-Two.ensures)
