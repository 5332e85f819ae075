-- `decode::fill` meets its contract: the run is filled with the words that were read (`Filling`).
use Rattle.decode.proofs.Passing.{Filling}
use Rattle.decode.proofs.fill.Given as goal

abbrev pub invariant-loop-n : goal.invariant-loop-n
invariant-loop-n l = Filling l.bytes l.initial.out l.out l.n-iterator.iter l.n-iterator.count
