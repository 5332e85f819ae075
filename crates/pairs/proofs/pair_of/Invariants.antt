-- `pairs::pair_of` meets its contract: what the whole list answers is what the list from a word on answers.
use Rattle.std.proofs.Common.{◌≡◌, drop}
use Rattle.rules.specs.Pairs.{pair_of}
use Rattle.pairs.specs.Lent.{pairs_in}
use Rattle.pairs.proofs.pair_of.Given as goal

abbrev pub invariant-loop-word : goal.invariant-loop-word
invariant-loop-word l = pair_of (pairs_in (drop l.word-index l.list)) l.a l.b ≡ pair_of (pairs_in l.list) l.a l.b
