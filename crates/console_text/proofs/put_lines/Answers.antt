-- `console_text::put_lines` meets its contract.
use native.Mathlib.Omega.{arith}
use Rattle.filled.proofs.Filling.{stored_both}
use Rattle.console_text.proofs.put_lines.Goals as goal

pub put_first-first-requires : goal.put_first-first-requires
put_first-first-requires c = record { boards_len = c.requires.boards_len; words_in_bounds = omega (arith, c.requires.words_in_bounds) }

pub put_second-requires : goal.put_second-requires
put_second-requires c =
    omega (arith, c.put_first-first.auto.out, c.put_first-first.ensures.upper_bound, c.requires.words_in_bounds)

pub returns : goal.returns
returns c = record { stored = stored_both _ _ _ _ _ _ _ _ (omega (arith, c.requires.words_in_bounds)) c.put_first-first.ensures.stored c.put_second.ensures.stored; upper_bound = omega (arith, c.put_first-first.ensures.upper_bound, c.put_second.ensures.upper_bound) }
