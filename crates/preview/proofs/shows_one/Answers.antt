-- `preview::shows_one` meets its contract.
use mathlib.Core.List.{append-nil}
use Rattle.rules.specs.ZeroDelay.{character}
use Rattle.preview.proofs.shows_one.Goals as goal

pub returns : goal.returns
unfolding character
returns c = rw (← c.code_point.ensures, append-nil)
