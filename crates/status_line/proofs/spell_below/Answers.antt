-- `status_line::spell_below` meets its contract: the parts are stored one behind the other.
use native.Mathlib.Omega.{arith}
use Rattle.status_line.proofs.Statuses.{status_stored, below_spelt}
use Rattle.status_line.proofs.spell_below.Goals as goal

pub returns : goal.returns
returns c =
    let room = c.requires in
    let first = c.put_bytes-first.ensures.fits (omega (arith, room)) in
    let long = c.put_bytes-first.auto.out in
    let few = c.put_status-second.ensures.upper_bound in
    let second = status_stored _ _ _ _ _ _ _ (omega (arith, room, long, first.behind)) c.put_status-second.ensures.puts in
    let third = c.put_bytes.ensures.fits (omega (arith, room, long, first.behind, c.put_status-second.auto.out, few)) in record { stored = below_spelt _ _ _ _ _ _ _ _ _ _ first second third; upper_bound = omega (arith, first.behind, few, third.behind) }
