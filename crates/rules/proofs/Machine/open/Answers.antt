-- `rules::Machine::open` meets its contract: by what `in_range` answered.
use Rattle.rules.specs.States.{opening}
use Rattle.rules.proofs.Machine.open.Goals as goal

pub returns-then-not-in_range : goal.returns-then-not-in_range
unfolding opening
returns-then-not-in_range c = rw (← c.in_range.ensures, c.if-not-in_range.true)

pub returns : goal.returns
unfolding opening
returns c = rw (← c.in_range.ensures, c.if-not-in_range.false)
