-- `Words::next` meets its contract: the sequence at the front is the next word, or the damage.
use Rattle.std.proofs.Common.{arith, ap}
use Rattle.decode.specs.Decoding.{count_of}
use Rattle.decode.proofs.Passing.{none_left, inside, gives_word, gives_damage}
use Rattle.decode.proofs.words.WordsIterator.next.Goals as goal

pub returns-then-self-at-clause-steps : goal.returns-then-self-at-clause-steps
returns-then-self-at-clause-steps c = none_left _ _ c.if-self-at.true

pub overflow_add-self : goal.overflow_add-self
overflow_add-self c = omega (arith, inside _ _ c.if-self-at.false _ c.front.ensures _ c.in-Some.is)

pub overflow_add-self-in-Some : goal.overflow_add-self-in-Some
overflow_add-self-in-Some c = omega (arith, inside _ _ c.if-self-at.false _ c.front.ensures _ c.in-Some.is)

pub returns-in-Some-clause-steps : goal.returns-in-Some-clause-steps
returns-in-Some-clause-steps c = gives_word _ _ c.if-self-at.false _ c.front.ensures _ c.in-Some.is

pub returns-in-None-clause-steps : goal.returns-in-None-clause-steps
returns-in-None-clause-steps c = ap count_of (gives_damage _ _ c.if-self-at.false _ c.front.ensures c.in-None.is)
