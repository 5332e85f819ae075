-- `console_text::put_label` meets its contract.
use native.Mathlib.Omega.{arith}
use Rattle.status_line.proofs.Places.{number_stored}
use Rattle.console_text.proofs.Sheets.{label_stored}
use Rattle.console_text.proofs.put_label.Goals as goal

pub returns : goal.returns
returns c =
    let room = c.requires in
    let few = c.put_number-behind.ensures.upper_bound in
    let first = number_stored _ _ _ _ _ (omega (arith, room)) c.put_number-behind.ensures.puts in
    let second = c.put_bytes.ensures.fits (omega (arith, room, c.put_number-behind.auto.out, few)) in
    record {
      stored = label_stored _ _ _ _ _ _ _ room first second;
      upper_bound = omega (arith, few, second.behind);
    }
