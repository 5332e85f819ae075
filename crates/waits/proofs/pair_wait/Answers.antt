-- `waits::pair_wait` meets its contract.
use borrow.Author.Rules.{rules}
use Rattle.rules.specs.Pairs.{GN}
use Rattle.waits.proofs.pair_wait.Goals as goal

pub returns : goal.returns
unfolding GN
returns c = search rules
