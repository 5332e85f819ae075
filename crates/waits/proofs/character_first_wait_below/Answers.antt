-- `waits::character_first_wait_below` meets its contract.
use Rattle.rules.specs.Numbers.{FJ}
use Rattle.waits.proofs.Bounds.{lag_bound}
use Rattle.waits.proofs.character_first_wait_below.Goals as goal

pub share_below-requires : goal.share_below-requires
unfolding FJ
share_below-requires c = rw c.bounded.ensures (lag_bound _)

pub returns : goal.returns
unfolding FJ
returns c = rw (← c.bounded.ensures, ← c.rest.ensures, ← c.share_below.ensures)
