-- `console_text::put_second` meets its contract.
use native.Mathlib.Omega.{arith}
use Rattle.status_line.proofs.Statuses.{status_stored}
use Rattle.console_text.proofs.Sheets.{second_stored}
use Rattle.console_text.proofs.put_second.Goals as goal

pub returns : goal.returns
returns c =
    let room = c.requires in
    let few = c.put_label-first.ensures.upper_bound in
    let long = c.put_label-first.auto.out in
    let few2 = c.put_status-second.ensures.upper_bound in
    let second = status_stored _ _ _ _ _ _ _ (omega (arith, room, long, few)) c.put_status-second.ensures.puts in
    let third = c.put_bytes.ensures.fits (omega (arith, room, long, few, c.put_status-second.auto.out, few2)) in
    record {
      stored = second_stored _ _ _ _ _ _ _ _ _ _ _ _ (omega (arith, room)) c.put_label-first.ensures.stored second third;
      upper_bound = omega (arith, few, few2, third.behind);
    }
