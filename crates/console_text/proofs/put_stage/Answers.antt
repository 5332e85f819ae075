-- `console_text::put_stage` meets its contract.
use native.Mathlib.Omega.{arith}
use Rattle.console_text.proofs.Picking.{stored_none}
use Rattle.console_text.proofs.put_stage.Goals as goal

pub returns-in-Closed : goal.returns-in-Closed
returns-in-Closed c = rw c.in-Closed.is (record { stored = stored_none _ _; upper_bound = omega arith })

pub returns-in-Open : goal.returns-in-Open
returns-in-Open c = rw c.in-Open.is c.put_lines.ensures

pub returns-in-Ended : goal.returns-in-Ended
returns-in-Ended c = rw c.in-Ended.is c.put_lines-in-Ended.ensures
