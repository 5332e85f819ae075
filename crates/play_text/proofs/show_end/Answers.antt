-- `play_text::show_end` meets its contract.
use Rattle.play_text.proofs.Reporting.{ended, end_shown}
use Rattle.play_text.proofs.show_end.Goals as goal

pub returns-clause-closes : goal.returns-clause-closes
returns-clause-closes c =
    let list_fits = c.if-list-lt-PAIRS_MOST.false in
    let answer = ended c.args.reader c.args.list.now c.end_log-number.result list_fits c.end_log-number.ensures in
    end_shown _ _ _ c.end_log-number.result.answer _ _ list_fits c.if-out-lt-TEXT_ROOM.false answer c.put_below-bytes.ensures.puts
