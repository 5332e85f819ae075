-- `opinion_text::put_words` meets its contract.
use Rattle.opinion_text.proofs.Unpacking.{begun, taken, all_taken, less}
use Rattle.opinion_text.proofs.put_words.Goals as goal

pub loop-rest-init : goal.loop-rest-init
loop-rest-init c = begun _ _

pub loop-rest-smaller : goal.loop-rest-smaller
loop-rest-smaller c =
    less c.loop-rest.rest.now c.loop-rest-test.true

pub loop-rest-preserved : goal.loop-rest-preserved
loop-rest-preserved c =
    taken _ _ c.requires _ _ _ c.loop-rest.invariant c.loop-rest-test.true
    _ c.word.ensures _ _ c.put-at.auto.out c.put-at.ensures

pub returns : goal.returns
returns c = let facts = all_taken _ _ c.requires _ _ _ c.loop-rest.invariant c.loop-rest-test.false in record { stored = facts.0; upper_bound = facts.1 }
