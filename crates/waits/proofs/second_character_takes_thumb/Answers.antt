-- `waits::second_character_takes_thumb` meets its contract.
use borrow.Author.Rules.{rules}
use Rattle.rules.specs.OneEvent.{second_character_takes_thumb}
use Rattle.waits.proofs.second_character_takes_thumb.Goals as goal

pub returns : goal.returns
unfolding second_character_takes_thumb
returns c = search rules
