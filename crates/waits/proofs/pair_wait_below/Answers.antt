-- `waits::pair_wait_below` meets its contract.
use Rattle.rules.specs.Pairs.{GN}
use Rattle.waits.proofs.pair_wait_below.Goals as goal

pub returns : goal.returns
unfolding GN
returns c = rw (← c.rest.ensures, ← c.share_below.ensures)
