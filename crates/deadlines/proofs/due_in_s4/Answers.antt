-- `deadlines::due_in_s4` meets its contract.
use borrow.Author.Rules.{rules}
use Rattle.deadlines.proofs.Over.{over_FJ}
use Rattle.deadlines.proofs.due_in_s4.Goals as goal

pub returns : goal.returns
returns c = rw (← c.lag.ensures)
    (over_FJ _ (record { t = search rules; j = search rules; l = search rules }) _ _ (search rules) _ c.since.ensures _ _
    c.character_first_wait_below.ensures)
