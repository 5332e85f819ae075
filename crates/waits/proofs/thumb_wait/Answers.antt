-- `waits::thumb_wait` meets its contract.
use borrow.Author.Rules.{rules}
use Rattle.rules.specs.Numbers.{B}
use Rattle.waits.proofs.thumb_wait.Goals as goal

pub returns : goal.returns
unfolding B
returns c = search rules
