-- `waits::together` meets its contract.
use Rattle.waits.proofs.Bounds.{lag_bound}
use Rattle.waits.proofs.together.Goals as goal

pub share-requires : goal.share-requires
share-requires c = rw c.bounded.ensures (lag_bound _)

pub returns : goal.returns
returns c = rw (← c.bounded.ensures, ← c.rest.ensures, ← c.share.ensures)
