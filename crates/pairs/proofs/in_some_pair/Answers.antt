-- `pairs::in_some_pair` meets its contract.
use borrow.Author.Rules.{rules}
use mathlib.Core.Path.{◌∙◌}
use mathlib.Core.Bool.{◌||◌}
use Rattle.std.proofs.lemmas.Iterator.{YieldsList-from_slice}
use Rattle.std.proofs.lemmas.Iterator.Search.{any_from_yields_List}
use Rattle.rules.specs.Pairs.{same_key}
use Rattle.pairs.specs.Lent.{pair_in}
use Rattle.pairs.proofs.Laws.{any_names}
use Rattle.pairs.proofs.in_some_pair.Goals as goal

pub returns : goal.returns
unfolding same_key
returns c =
    any_from_yields_List (λ w. same_key (pair_in w).first c.args.k || same_key (pair_in w).second c.args.k) _ _ _ c.any.ensures.ran
    (YieldsList-from_slice c.args.list.now cc) (λ x b q k. search rules) ∙
    any_names c.args.list.now c.args.k
