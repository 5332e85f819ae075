-- `text::size` meets its contract: the sum of the words' widths is the length of their text.
use Rattle.std.proofs.Common.{rules, tests, arith, length, sym, ◌∙◌}
use Rattle.std.proofs.lemmas.Iterator.{YieldsList-from_slice, YieldsList-from_map}
use Rattle.std.proofs.lemmas.Iterator.Consumers.{fits_by_from_yields_list, sum_by_from_yields_List}
use Rattle.text.specs.Text.{sign}
use Rattle.text.proofs.Signs.{text_length, text_short}
use Rattle.text.proofs.size.Goals as goal

pub sum-requires-clause-fits : goal.sum-requires-clause-fits
sum-requires-clause-fits c =
    fits_by_from_yields_list (λ w. length (sign w)) c.args.words.now _ _
    (YieldsList-from_map _ (λ w. length (sign w)) (YieldsList-from_slice c.args.words.now cc) c.map.ensures.closure (λ x r q k. search (rules, tests)))
    (omega (arith, text_length c.args.words.now, text_short c.args.words.now))

pub returns : goal.returns
returns c =
    sum_by_from_yields_List (λ w. length (sign w)) c.args.words.now _ _ c.sum.ensures.ran
    (YieldsList-from_map _ (λ w. length (sign w)) (YieldsList-from_slice c.args.words.now cc) c.map.ensures.closure (λ x r q k. search (rules, tests)))
    ∙ sym (text_length c.args.words.now)
