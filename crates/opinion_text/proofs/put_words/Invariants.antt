-- `opinion_text::put_words` meets its contract.
use lib.ListN.{length}
use Rattle.opinion_text.proofs.Unpacking.{Unpacking}
use Rattle.opinion_text.proofs.put_words.Given as goal

abbrev pub invariant-loop-rest : goal.invariant-loop-rest
invariant-loop-rest l = Unpacking l.packed l.initial.out l.out l.at l.rest

abbrev pub decreases-loop-rest : goal.decreases-loop-rest
decreases-loop-rest l = length l.rest
