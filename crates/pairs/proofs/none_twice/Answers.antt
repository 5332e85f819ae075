-- `pairs::none_twice` meets its contract: what the whole list answers is what is left of it answers.
use borrow.Author.Rules.{rules}
use Rattle.std.proofs.lemmas.List.{nil_from_length}
use Rattle.rules.specs.Pairs.{none_twice}
use Rattle.pairs.proofs.Laws.{found_twice, found_once}
use Rattle.pairs.proofs.none_twice.Goals as goal

pub returns-then-is_pair : goal.returns-then-is_pair
returns-then-is_pair c =
    found_twice c.args.list.now c.loop-word.rest.now c.in-Some.behind.now c.in-Some.word.now c.is_pair.ensures (search rules) (search rules)
    c.in-Some.ensures.cases.0
    c.loop-word.invariant
    c.if-is_pair.true

pub loop-word-preserved : goal.loop-word-preserved
loop-word-preserved c =
    found_once c.args.list.now c.loop-word.rest.now c.in-Some.behind.now c.in-Some.word.now c.is_pair.ensures (search rules) (search rules)
    c.in-Some.ensures.cases.0
    c.loop-word.invariant
    c.if-is_pair.false

pub returns : goal.returns
unfolding none_twice
returns c = rw (← c.loop-word.invariant, nil_from_length _ c.in_default.ensures.cases)
