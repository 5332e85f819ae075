-- `status_line::spell` meets its contract: the parts are stored one behind the other.
use native.Mathlib.Omega.{arith}
use Rattle.status_line.proofs.Places.{number_stored}
use Rattle.status_line.proofs.Statuses.{waiting_status, refused_status}
use Rattle.status_line.proofs.spell.Goals as goal

pub returns-then-number-eq0 : goal.returns-then-number-eq0
returns-then-number-eq0 c =
    let number = c.put_number in
    let room = c.requires in
    let one = c.put_bytes-behind.ensures.fits (omega (arith, room)) in
    let two = number_stored _ _ _ _ _ (omega (arith, room, c.put_bytes-behind.auto.out, one.behind)) number.ensures.puts in
    record {
      stored = waiting_status _ _ _ _ _ _ _ _ c.if-number-eq0.true one two;
      upper_bound = omega (arith, one.behind, number.ensures.upper_bound);
    }

pub returns : goal.returns
returns c =
    let last = c.put_number-2 in
    let room = c.requires in
    let one = c.put_bytes-first.ensures.fits (omega (arith, room)) in
    let long1 = c.put_bytes-first.auto.out in
    let two = number_stored _ _ _ _ _ (omega (arith, room, long1, one.behind)) c.put_number-second.ensures.puts in
    let few2 = c.put_number-second.ensures.upper_bound in
    let long2 = c.put_number-second.auto.out in
    let three = c.put_bytes-third.ensures.fits (omega (arith, room, long1, long2, one.behind, few2)) in
    let long3 = c.put_bytes-third.auto.out in
    let four = number_stored _ _ _ _ _ (omega (arith, room, long1, long2, long3, one.behind, few2, three.behind)) last.ensures.puts in
    record {
      stored = refused_status _ _ _ _ _ _ _ _ _ _ _ _ c.if-number-eq0.false one two three four;
      upper_bound = omega (arith, one.behind, few2, three.behind, last.ensures.upper_bound);
    }
