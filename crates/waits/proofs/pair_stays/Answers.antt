-- `waits::pair_stays` meets its contract.
use borrow.Author.Rules.{rules}
use Rattle.rules.specs.OneEvent.{pair_stays}
use Rattle.waits.proofs.pair_stays.Goals as goal

pub returns : goal.returns
unfolding pair_stays
returns c = search rules
