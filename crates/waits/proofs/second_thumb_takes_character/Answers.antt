-- `waits::second_thumb_takes_character` meets its contract.
use borrow.Author.Rules.{rules}
use Rattle.rules.specs.OneEvent.{second_thumb_takes_character}
use Rattle.waits.proofs.second_thumb_takes_character.Goals as goal

pub returns : goal.returns
unfolding second_thumb_takes_character
returns c = search rules
