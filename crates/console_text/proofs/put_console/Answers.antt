-- `console_text::put_console` meets its contract.
use native.Mathlib.Omega.{arith}
use Rattle.console_text.proofs.Sheets.{console_stored}
use Rattle.console_text.proofs.put_console.Goals as goal

pub put_boards-first-requires : goal.put_boards-first-requires
put_boards-first-requires c = record { boards_len = c.requires.boards_len; words_in_bounds = omega (arith, c.requires.words_in_bounds) }

pub put_refusal-requires : goal.put_refusal-requires
put_refusal-requires c =
    omega (arith, c.put_boards-first.auto.out, c.put_boards-first.ensures.upper_bound, c.requires.words_in_bounds)

pub returns : goal.returns
returns c =
    let o = c.args in record { stored = console_stored o.c o.boards.now o.words.now _ _ _ _ _ c.put_boards-first.ensures.stored c.put_refusal.ensures.stored; upper_bound = omega (arith, c.put_boards-first.ensures.upper_bound, c.put_refusal.ensures.upper_bound) }
