-- `decode::fill` meets its contract: the run is filled with the words that were read (`Filling`).
use Rattle.std.proofs.Common.{rules, refl}
use Rattle.decode.proofs.Passing.{empty, next_fits, fills_on}
use Rattle.decode.proofs.fill.Goals as goal

pub loop-n-init : goal.loop-n-init
loop-n-init c =
    rw (c.into_iter-n-iterator.ensures.into_iter_gives, c.enumerate-n-items.ensures.source, c.enumerate-n-items.ensures.count)
    (empty _ _ _ _ refl refl refl)

pub bounds-out-n : goal.bounds-out-n
bounds-out-n c =
    let (given, n-is, count-is, small) = c.in-Some.ensures.steps in
    rw n-is (next_fits _ _ c.requires _ _ _ c.loop-n.invariant _ _ _ c.in-Ok.is given (search rules))

pub loop-n-preserved-in-Ok : goal.loop-n-preserved-in-Ok
loop-n-preserved-in-Ok c =
    let (given, n-is, count-is, small) = c.in-Some.ensures.steps in
    rw (n-is, count-is) (fills_on _ _ c.requires _ _ _ c.loop-n.invariant _ _ _ c.in-Ok.is given (search rules))
