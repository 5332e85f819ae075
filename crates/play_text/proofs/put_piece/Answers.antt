-- `play_text::put_piece` meets its contract: what follows of the piece that was read (`read_piece`).
use native.Mathlib.Omega.{arith}
use mathlib.Core.Path.{sym}
use lib.Seq.{length-take-le}
use Rattle.play_text.proofs.Reporting.{read_piece}
use Rattle.play_text.proofs.put_piece.Goals as goal

pub overflow_sub-n : goal.overflow_sub-n
overflow_sub-n c =
    (read_piece c.args.reader c.args.list.now c.args.piece.now c.word_buffer-words.result c.feed.result c.feed.new.list c.feed.new.out
    c.requires.room_in_bounds c.word_buffer-words.ensures c.feed.ensures c.feed.auto.out).grown

pub slice_bounds-words-end : goal.slice_bounds-words-end
slice_bounds-words-end c =
    (read_piece c.args.reader c.args.list.now c.args.piece.now c.word_buffer-words.result c.feed.result c.feed.new.list c.feed.new.out
    c.requires.room_in_bounds c.word_buffer-words.ensures c.feed.ensures c.feed.auto.out).few

pub slice_bounds-put_line-end : goal.slice_bounds-put_line-end
slice_bounds-put_line-end c =
    let p = read_piece c.args.reader c.args.list.now c.args.piece.now c.word_buffer-words.result c.feed.result c.feed.new.list c.feed.new.out
    c.requires.room_in_bounds c.word_buffer-words.ensures c.feed.ensures c.feed.auto.out in
    sym (length-take-le _ _ p.few)

pub put_line-bytes-requires : goal.put_line-bytes-requires
put_line-bytes-requires c =
    let p = read_piece c.args.reader c.args.list.now c.args.piece.now c.word_buffer-words.result c.feed.result c.feed.new.list c.feed.new.out
    c.requires.room_in_bounds c.word_buffer-words.ensures c.feed.ensures c.feed.auto.out in
    omega (arith, p.short, c.requires.text_room_in_bounds)

pub returns : goal.returns
returns c =
    let p = read_piece c.args.reader c.args.list.now c.args.piece.now c.word_buffer-words.result c.feed.result c.feed.new.list c.feed.new.out
    c.requires.room_in_bounds c.word_buffer-words.ensures c.feed.ensures c.feed.auto.out in
    record {
      shows = p.shows _ _ _ c.requires.piece_len_bound c.requires.text_room_in_bounds c.put_line-bytes.ensures;
      shown_within = omega (arith, p.short, c.requires.text_room_in_bounds, c.put_line-bytes.ensures.behind);
    }
