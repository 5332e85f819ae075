-- `preview::shows_two` meets its contract.
use Rattle.rules.specs.ZeroDelay.{character}
use Rattle.preview.proofs.shows_two.Goals as goal

pub returns : goal.returns
unfolding character
returns c = rw (← c.code_point.ensures, ← c.code_point-2.ensures)
