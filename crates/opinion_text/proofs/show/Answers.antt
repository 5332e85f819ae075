-- `opinion_text::show` meets its contract.
use Rattle.opinion_text.proofs.Verdicts.{too_long, no_room}
use Rattle.opinion_text.proofs.show.Goals as goal
use Rattle.opinion_text.proofs.show.Goals.{then-log-gt-LONGEST_LOG-via-then-log-gt-LONGEST_LOG, then-log-gt-LONGEST_LOG-via-else-log-gt-LONGEST_LOG+then-out-lt-TEXT_ROOM}

pub returns-then-log-gt-LONGEST_LOG : goal.returns-then-log-gt-LONGEST_LOG
returns-then-log-gt-LONGEST_LOG c = record {
  shows = elim c.then-log-gt-LONGEST_LOG.branch [
    | then-log-gt-LONGEST_LOG-via-then-log-gt-LONGEST_LOG w ↦ too_long _ _ w.if-log-gt-LONGEST_LOG.true
    | then-log-gt-LONGEST_LOG-via-else-log-gt-LONGEST_LOG+then-out-lt-TEXT_ROOM w ↦ no_room _ _ w.if-out-lt-TEXT_ROOM.true
  ];
  within = tt;
}
