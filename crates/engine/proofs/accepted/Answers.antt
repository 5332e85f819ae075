-- `engine::accepted` meets its contract.
use native.Mathlib.Omega.{arith}
use Rattle.engine.proofs.FormNotAsked.{formed_one_event}
use Rattle.engine.proofs.accepted.Goals as goal

pub returns : goal.returns
returns c =
    let times = c.well_formed.1.0.1 in
    let d =
    rw (
      c.one_event-effect.ensures,
      formed_one_event _ (record { t_s = omega (arith, times); n = omega (arith, times) }) _ _ _ c.requires,
    ) at c.carry_out-taken.ensures in
    let sent = c.sent.ensures in
    record {
      answer = rw (sent.list, d.same_items, d.same_machine);
      packed = rw (d.same_items, d.same_machine) at sent.form;
    }
