-- `waits::character_wait` meets its contract.
use borrow.Author.Rules.{rules}
use Rattle.rules.specs.Numbers.{A}
use Rattle.waits.proofs.character_wait.Goals as goal

pub returns : goal.returns
unfolding A
returns c = search rules
