-- `pairs::none_twice` meets its contract: what the whole list answers is what is left of it answers.
use Rattle.std.proofs.Common.{◌≡◌, length}
use Rattle.rules.specs.Pairs.{none_twice}
use Rattle.pairs.specs.Lent.{pairs_in}
use Rattle.pairs.proofs.none_twice.Given as goal

abbrev pub invariant-loop-word : goal.invariant-loop-word
invariant-loop-word l = none_twice (pairs_in l.rest) ≡ none_twice (pairs_in l.list)

abbrev pub decreases-loop-word : goal.decreases-loop-word
decreases-loop-word l = length l.rest
