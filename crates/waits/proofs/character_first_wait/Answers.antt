-- `waits::character_first_wait` meets its contract.
use borrow.Author.Rules.{rules}
use Rattle.rules.specs.Numbers.{FJ}
use Rattle.waits.proofs.character_first_wait.Goals as goal

pub returns : goal.returns
unfolding FJ
returns c = search rules
