-- The words of items as C has them meet their contract.
use Rattle.keyboard.proofs.Numbered.{one_word, two_words}
use Rattle.keyboard.proofs.CommitsFromItems.from.Goals as goal

pub returns-in-One : goal.returns-in-One
returns-in-One c = rw c.in-One.is (one_word _ c.in-One.item c.word.ensures)

pub returns-in-Two : goal.returns-in-Two
returns-in-Two c = rw c.in-Two.is (two_words _ _ c.in-Two.item c.in-Two.other c.word-in-Two.ensures c.word-in-Two-2.ensures)
