-- `pairs::pair_of` meets its contract: what the whole list answers is what the list from a word on answers.
use native.Mathlib.Omega.{arith}
use mathlib.Core.Path.{sym, ◌∙◌}
use Rattle.std.proofs.lemmas.List.{drop_more, drop_all}
use Rattle.rules.specs.Pairs.{pair_of}
use Rattle.pairs.proofs.pair_of.Goals as goal

pub returns-then-is_of : goal.returns-then-is_of
unfolding pair_of
returns-then-is_of c =
    rw (
      c.character.ensures,
      ← c.loop-word.invariant,
      drop_more c.args.list.now c.loop-word.word-index 0 c.loop-word-test.true,
      ← c.is_of.ensures,
      c.if-is_of.true,
    )

pub loop-word-preserved : goal.loop-word-preserved
unfolding pair_of
loop-word-preserved c =
    sym (rw (drop_more c.args.list.now c.loop-word.word-index 0 c.loop-word-test.true, ← c.is_of.ensures, c.if-is_of.false))
    ∙ c.loop-word.invariant

pub returns : goal.returns
unfolding pair_of
returns c = rw (← c.loop-word.invariant, drop_all c.loop-word.word-index c.args.list.now (omega arith))
