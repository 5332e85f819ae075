-- `decode::measure` meets its contract: the words that were read are counted (`Read`).
use Rattle.std.proofs.Common.{rules}
use Rattle.decode.proofs.Passing.{goes_on}
use Rattle.decode.proofs.measure.Goals as goal

pub loop-word-preserved : goal.loop-word-preserved
loop-word-preserved c = goes_on _ _ _ c.loop-word.invariant _ _ _ c.in_ok-word.was c.in-Some.ensures.steps (search rules)
