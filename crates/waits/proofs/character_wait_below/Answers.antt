-- `waits::character_wait_below` meets its contract.
use Rattle.rules.specs.Numbers.{A}
use Rattle.waits.proofs.character_wait_below.Goals as goal

pub returns : goal.returns
unfolding A
returns c = rw (← c.rest.ensures, ← c.share_below.ensures)
