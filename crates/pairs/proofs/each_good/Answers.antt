-- `pairs::each_good` meets its contract.
use borrow.Author.Rules.{rules}
use mathlib.Core.Path.{◌∙◌}
use Rattle.std.proofs.lemmas.Iterator.{YieldsList-from_slice}
use Rattle.std.proofs.lemmas.Iterator.Search.{all_from_yields_List}
use Rattle.rules.specs.Pairs.{pair_good}
use Rattle.pairs.specs.Lent.{pair_in}
use Rattle.pairs.proofs.Laws.{all_good}
use Rattle.pairs.proofs.each_good.Goals as goal

pub returns : goal.returns
returns c =
    all_from_yields_List (λ w. pair_good (pair_in w)) _ _ _ c.all.ensures.ran
    (YieldsList-from_slice c.args.list.now cc) (λ x b q k. search rules) ∙
    all_good c.args.list.now
