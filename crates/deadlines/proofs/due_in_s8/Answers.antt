-- `deadlines::due_in_s8` meets its contract.
use borrow.Author.Rules.{rules}
use Rattle.deadlines.proofs.Over.{over_GN}
use Rattle.deadlines.proofs.due_in_s8.Goals as goal

pub returns : goal.returns
returns c = rw (← c.lag.ensures)
    (over_GN _ _ (search rules) _ c.since.ensures _ _ _ (search rules) c.released_wait_below.ensures)
