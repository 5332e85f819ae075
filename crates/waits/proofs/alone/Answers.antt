-- `waits::alone` meets its contract.
use Rattle.waits.proofs.alone.Goals as goal

pub returns : goal.returns
returns c = rw (← c.rest.ensures, ← c.share.ensures)
