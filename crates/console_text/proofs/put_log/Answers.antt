-- `console_text::put_log` meets its contract: what follows of the log that was read (`told_lines`).
use native.Mathlib.Omega.{arith}
use mathlib.Core.Path.{sym, ◌∙◌}
use lib.Seq.{length-take-le}
use Rattle.console_text.proofs.Sheets.{told_lines}
use Rattle.console_text.proofs.put_log.Goals as goal

pub slice_bounds-boards-end : goal.slice_bounds-boards-end
slice_bounds-boards-end c =
    let t = told_lines c.args.log.now c.buffer-boards.result c.buffer-words.result
    c.read_console-c.result c.read_console-c.new.boards c.read_console-c.new.words c.buffer-boards.ensures
    c.buffer-words.ensures c.read_console-c.auto.boards c.read_console-c.auto.words c.read_console-c.ensures in
    t.boards_fit

pub slice_bounds-put_console-end : goal.slice_bounds-put_console-end
slice_bounds-put_console-end c =
    let t = told_lines c.args.log.now c.buffer-boards.result c.buffer-words.result
    c.read_console-c.result c.read_console-c.new.boards c.read_console-c.new.words c.buffer-boards.ensures
    c.buffer-words.ensures c.read_console-c.auto.boards c.read_console-c.auto.words c.read_console-c.ensures in
    sym (length-take-le _ _ t.boards_fit)

pub slice_bounds-words-end : goal.slice_bounds-words-end
slice_bounds-words-end c =
    let t = told_lines c.args.log.now c.buffer-boards.result c.buffer-words.result
    c.read_console-c.result c.read_console-c.new.boards c.read_console-c.new.words c.buffer-boards.ensures
    c.buffer-words.ensures c.read_console-c.auto.boards c.read_console-c.auto.words c.read_console-c.ensures in
    t.words_fit

pub slice_bounds-put_console-end-2 : goal.slice_bounds-put_console-end-2
slice_bounds-put_console-end-2 c =
    let t = told_lines c.args.log.now c.buffer-boards.result c.buffer-words.result
    c.read_console-c.result c.read_console-c.new.boards c.read_console-c.new.words c.buffer-boards.ensures
    c.buffer-words.ensures c.read_console-c.auto.boards c.read_console-c.auto.words c.read_console-c.ensures in
    sym (length-take-le _ _ t.words_fit)

pub put_console-requires : goal.put_console-requires
put_console-requires c =
    let t = told_lines c.args.log.now c.buffer-boards.result c.buffer-words.result
    c.read_console-c.result c.read_console-c.new.boards c.read_console-c.new.words c.buffer-boards.ensures
    c.buffer-words.ensures c.read_console-c.auto.boards c.read_console-c.auto.words c.read_console-c.ensures in
    let w = length-take-le _ _ t.words_fit in
    record {
      boards_len = length-take-le _ _ t.boards_fit ∙ sym w;
      words_in_bounds = omega (arith, w, t.few, c.requires);
    }

pub returns : goal.returns
returns c =
    let t = told_lines c.args.log.now c.buffer-boards.result c.buffer-words.result
    c.read_console-c.result c.read_console-c.new.boards c.read_console-c.new.words c.buffer-boards.ensures
    c.buffer-words.ensures c.read_console-c.auto.boards c.read_console-c.auto.words c.read_console-c.ensures in
    let w = length-take-le c.read_console-c.result.words c.read_console-c.new.words t.words_fit in
    record {
      stored = rw t.lines at c.put_console.ensures.stored;
      upper_bound = omega (arith, w, t.few, c.put_console.ensures.upper_bound);
    }
