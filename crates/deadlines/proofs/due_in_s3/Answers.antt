-- `deadlines::due_in_s3` meets its contract.
use borrow.Author.Rules.{rules}
use borrow.Author.Tests.{eq-eqb}
use Rattle.deadlines.proofs.Over.{over_B}
use Rattle.deadlines.proofs.due_in_s3.Goals as goal

pub returns-then-s-eq1 : goal.returns-then-s-eq1
returns-then-s-eq1 c = rw (eq-eqb _ 1 c.if-s-eq1.true)
    (over_B _ (record { t = search rules; j = search rules; l = search rules }) _ _ (search rules) _ c.since.ensures _
    c.thumb_wait_below.ensures)
