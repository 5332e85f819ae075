-- The bytes passed lead to the log so far, which is laid out in the run where it is written.
use Rattle.std.proofs.Common.{not, eqb}
use Rattle.transcriber.proofs.Laying.{Walking}
use Rattle.transcriber.proofs.walking.walk.Given as goal

abbrev pub invariant-loop-i : goal.invariant-loop-i
invariant-loop-i g l = Walking (not (eqb g.row.WRITES 0)) l.text l.initial.out l.out l.state l.i
