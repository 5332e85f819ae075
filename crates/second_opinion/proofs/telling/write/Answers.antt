-- `second_opinion::telling::write` meets its contract: with what is left to tell put behind what was written, the run holds the whole.
use Rattle.second_opinion.proofs.Tally.{writing_ends, next_fits, writing_goes_on}
use Rattle.second_opinion.proofs.telling.write.Goals as goal

pub put_words-behind-requires : goal.put_words-behind-requires
put_words-behind-requires c = next_fits _ _ _ _ _ c.loop-words.invariant _ _ c.in-Some.ensures

pub loop-words-preserved : goal.loop-words-preserved
loop-words-preserved c = writing_goes_on _ _ _ _ _ c.loop-words.invariant _ _ c.in-Some.ensures _ _ c.put_words-behind.ensures c.put_words-behind.auto.out

pub returns : goal.returns
returns c = writing_ends _ _ _ _ _ c.loop-words.invariant _ c.in_default.ensures
