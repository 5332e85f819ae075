-- `console_text::put_first` meets its contract.
use native.Mathlib.Omega.{arith}
use Rattle.console_text.proofs.Sheets.{first_stored}
use Rattle.console_text.proofs.put_first.Goals as goal

pub put_words-second-requires : goal.put_words-second-requires
put_words-second-requires c =
    record {
      boards_len = c.requires.boards_len;
      words_in_bounds = omega (arith, c.put_label-first.auto.out, c.put_label-first.ensures.upper_bound, c.requires.words_in_bounds);
    }

pub returns : goal.returns
returns c =
    let room = c.requires.words_in_bounds in
    let few = c.put_label-first.ensures.upper_bound in
    let second = c.put_words-second.ensures in
    let third = c.put_bytes.ensures.fits
    (omega (arith, room, c.put_label-first.auto.out, few, c.put_words-second.auto.out, second.behind)) in
    record {
      stored = first_stored _ _ _ _ _ _ _ _ _ _ (omega (arith, room)) c.put_label-first.ensures.stored second third;
      upper_bound = omega (arith, few, second.behind, third.behind);
    }
