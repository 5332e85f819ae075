-- `play::finish` meets its contract: the number that is explained is one that the program can print.
use Rattle.std.proofs.Common.{◌≡◌}
use Rattle.log_reader.specs.Views.{reader_of}
use Rattle.play_text.specs.Played.{last}
use Rattle.play_text.proofs.Reporting.{roomy, reached_number}
use Rattle.play.proofs.finish.Goals as goal

pub explain-requires : goal.explain-requires
explain-requires g c =
    let room = roomy c.args.list.now c.args.out.now c.requires.room_in_bounds c.requires.text_room_in_bounds in
    let answered = rw room at c.show_end.ensures.closes.answered in
    let same : c.unwrap-bytes.result.number ≡ (last (reader_of c.args.list.now c.args.reader)).number = cc in
    rw same (reached_number _ c.requires.reached)
