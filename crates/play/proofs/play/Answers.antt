-- `play::play` meets its contract: the reader is one that the pieces so far led to, and each piece brings the loop nearer to its end.
use Rattle.std.proofs.Common.{arith}
use Rattle.std.proofs.Math.Seq.{length-take-le}
use Rattle.play.proofs.Playing.{begins, led_to, goes_on}
use Rattle.play.proofs.play.Goals as goal

pub loop-n-init : goal.loop-n-init
loop-n-init g c = begins _ (c.fresh-reader.ensures _)

pub loop-n-smaller : goal.loop-n-smaller
loop-n-smaller g c =
    let taken = rw c.in-Some.is at c.in_ok-n.ensures in
    let turn = rw c.in-Continue.is at c.in_ok-next.ensures in
    let long = length-take-le c.in-Some.n c.read_piece.new.log (omega (arith, taken.1)) in
    (goes_on _ c.loop-n.invariant _ (omega (arith, taken.1, long)) _ turn.0 (omega (arith, taken.0, long)) turn.1).1

pub loop-n-preserved : goal.loop-n-preserved
loop-n-preserved g c =
    let taken = rw c.in-Some.is at c.in_ok-n.ensures in
    let turn = rw c.in-Continue.is at c.in_ok-next.ensures in
    let long = length-take-le c.in-Some.n c.read_piece.new.log (omega (arith, taken.1)) in
    (goes_on _ c.loop-n.invariant _ (omega (arith, taken.1, long)) _ turn.0 (omega (arith, taken.0, long)) turn.1).0

pub finish-requires-clause-reached : goal.finish-requires-clause-reached
finish-requires-clause-reached g c =
    let taken = rw c.in-Some.is at c.in_ok-n.ensures in
    let turn = rw c.in-Break.is at c.in_ok-next.ensures in
    let long = length-take-le c.in-Some.n c.read_piece.new.log (omega (arith, taken.1)) in
    led_to _ c.loop-n.invariant _ (omega (arith, taken.1, long)) _ turn.0
