-- `waits::released_wait` meets its contract.
use Rattle.rules.specs.Pairs.{GN}
use Rattle.waits.proofs.Bounds.{lag_bound}
use Rattle.waits.proofs.released_wait.Goals as goal

pub share-requires : goal.share-requires
unfolding GN
share-requires c = rw c.bounded.ensures (lag_bound _)

pub returns : goal.returns
unfolding GN
returns c = rw (← c.bounded.ensures, ← c.rest.ensures, ← c.share.ensures)
