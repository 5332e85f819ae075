-- `console_text::show` meets its contract.
use native.Mathlib.Omega.{arith}
use Rattle.console_text.proofs.Sheets.{too_long, no_room, is_shown}
use Rattle.console_text.proofs.show.Goals as goal
use Rattle.console_text.proofs.show.Goals.{then-log-gt-LONGEST_LOG-via-then-log-gt-LONGEST_LOG, then-log-gt-LONGEST_LOG-via-else-log-gt-LONGEST_LOG+then-out-lt-TEXT_ROOM}

pub returns-then-log-gt-LONGEST_LOG : goal.returns-then-log-gt-LONGEST_LOG
returns-then-log-gt-LONGEST_LOG c = record {
  shows = elim c.then-log-gt-LONGEST_LOG.branch [
    | then-log-gt-LONGEST_LOG-via-then-log-gt-LONGEST_LOG w ↦ too_long _ _ w.if-log-gt-LONGEST_LOG.true
    | then-log-gt-LONGEST_LOG-via-else-log-gt-LONGEST_LOG+then-out-lt-TEXT_ROOM w ↦ no_room _ _ w.if-out-lt-TEXT_ROOM.true
  ];
  within = tt;
}

pub returns : goal.returns
returns c = record { shows = is_shown _ _ _ _ c.if-log-gt-LONGEST_LOG.false c.if-out-lt-TEXT_ROOM.false c.put_log.ensures.stored; within = omega (arith, c.if-out-lt-TEXT_ROOM.false, c.put_log.ensures.upper_bound) }
