-- `deadlines::due_in_s5` meets its contract.
use borrow.Author.Rules.{rules}
use Rattle.deadlines.proofs.Over.{over_FL}
use Rattle.deadlines.proofs.due_in_s5.Goals as goal

pub returns : goal.returns
returns c = rw (← c.lag.ensures)
    (over_FL _ (record { t = search rules; j = search rules; l = search rules }) _ _ (search rules) _ c.since.ensures _ _
    c.thumb_first_wait_below.ensures)
