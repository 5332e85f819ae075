-- `opinion_text::put_lines` meets its contract.
use native.Mathlib.Omega.{arith}
use Rattle.opinion_text.proofs.Verdicts.{lines_stored}
use Rattle.opinion_text.proofs.put_lines.Goals as goal

pub put_words-first-requires : goal.put_words-first-requires
put_words-first-requires c = omega (arith, c.requires)

pub returns : goal.returns
returns c = record {
  stored = lines_stored _ _ _ _ _ _ _ _ _ (omega (arith, c.requires, c.put_words-first.auto.out, c.put_words-first.ensures.upper_bound))
      c.put_words-first.ensures.stored c.put_below.ensures.puts;
  upper_bound = omega (arith, c.requires, c.put_words-first.ensures.upper_bound, c.put_below.ensures.upper_bound);
}
