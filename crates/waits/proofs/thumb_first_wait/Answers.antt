-- `waits::thumb_first_wait` meets its contract.
use borrow.Author.Rules.{rules}
use Rattle.rules.specs.Numbers.{FL}
use Rattle.waits.proofs.thumb_first_wait.Goals as goal

pub returns : goal.returns
unfolding FL
returns c = search rules
