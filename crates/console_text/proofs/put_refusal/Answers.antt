-- `console_text::put_refusal` meets its contract.
use native.Mathlib.Omega.{arith}
use mathlib.Core.Path.{sym, ◌∙◌}
use Rattle.status_line.proofs.Statuses.{status_stored}
use Rattle.console_text.proofs.Sheets.{no_refusal, refusal_stored, not_0}
use Rattle.console_text.proofs.put_refusal.Goals as goal

pub returns-in_default : goal.returns-in_default
returns-in_default c = rw c.in_default.is (record { stored = no_refusal _ _ _; upper_bound = omega arith })

pub returns : goal.returns
returns c =
    let room = c.requires in
    let few = c.put_status-first.ensures.upper_bound in
    let first = status_stored _ _ _ _ _ _ _ (omega (arith, room)) c.put_status-first.ensures.puts in
    let second = c.put_bytes.ensures.fits (omega (arith, room, c.put_status-first.auto.out, few)) in
    rw (c.in-Some.is, ← c.number.ensures)
    (record {
      stored = refusal_stored _ _ _ _ _ _ _ _ (λ z. not_0 c.in-Some.refusal (sym c.number.ensures ∙ z)) (omega (arith, room)) first second;
      upper_bound = omega (arith, few, second.behind);
    })
