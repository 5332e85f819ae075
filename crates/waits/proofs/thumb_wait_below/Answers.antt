-- `waits::thumb_wait_below` meets its contract.
use Rattle.rules.specs.Numbers.{B}
use Rattle.waits.proofs.thumb_wait_below.Goals as goal

pub returns : goal.returns
unfolding B
returns c = rw (← c.rest.ensures, ← c.share_below.ensures)
