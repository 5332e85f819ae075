-- `play::play` meets its contract: the reader is one that the pieces so far led to, and each piece brings the loop nearer to its end.
use Rattle.log_reader.specs.Views.{reader_of}
use Rattle.play.proofs.Playing.{GoingOn, to_come}
use Rattle.play.proofs.play.Given as goal

abbrev pub invariant-loop-n : goal.invariant-loop-n
invariant-loop-n g l = GoingOn (reader_of l.list l.reader)

abbrev pub decreases-loop-n : goal.decreases-loop-n
decreases-loop-n g l = to_come (reader_of l.list l.reader)
