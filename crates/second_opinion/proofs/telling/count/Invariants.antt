-- `second_opinion::telling::count` meets its contract: the words so far and those that are left to tell are all.
use Rattle.second_opinion.proofs.Tally.{Counting}
use Rattle.second_opinion.proofs.telling.count.Given as goal

abbrev pub invariant-loop-more : goal.invariant-loop-more
invariant-loop-more l = Counting l.fn.opened l.telling l.words

abbrev pub decreases-loop-more : goal.decreases-loop-more
decreases-loop-more l = l.telling.left
