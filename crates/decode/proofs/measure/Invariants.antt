-- `decode::measure` meets its contract: the words that were read are counted (`Read`).
use Rattle.decode.proofs.Passing.{Read}
use Rattle.decode.proofs.measure.Given as goal

abbrev pub invariant-loop-word : goal.invariant-loop-word
invariant-loop-word l = Read l.bytes l.word-iterator l.n
