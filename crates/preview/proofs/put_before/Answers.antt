-- `preview::put_before` meets its contract.
use borrow.Author.Tests.{eq-eqb, ne_eqb}
use Rattle.preview.specs.Views.{put_before}
use Rattle.preview.proofs.put_before.Goals as goal

pub returns-then-word-eq0 : goal.returns-then-word-eq0
unfolding put_before
returns-then-word-eq0 c = rw (eq-eqb _ 0 c.if-word-eq0.true)

pub returns : goal.returns
unfolding put_before
returns c = rw (ne_eqb _ 0 c.if-word-eq0.false)
