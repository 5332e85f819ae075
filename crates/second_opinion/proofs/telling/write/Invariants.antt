-- `second_opinion::telling::write` meets its contract: with what is left to tell put behind what was written, the run holds the whole.
use Rattle.second_opinion.proofs.Tally.{Writing}
use Rattle.second_opinion.proofs.telling.write.Given as goal

abbrev pub invariant-loop-words : goal.invariant-loop-words
invariant-loop-words l = Writing l.fn.opened l.telling l.behind l.initial.out l.out

abbrev pub decreases-loop-words : goal.decreases-loop-words
decreases-loop-words l = l.telling.left
