-- `waits::short_below` meets its contract.
use Prim.Native.Nat.{◌<◌}
use native.Mathlib.Omega.{arith}
use Rattle.waits.proofs.Bounds.{lag_bound, overlap_product, short_pair_at_most}
use Rattle.waits.proofs.short_below.Goals as goal

pub overflow_add-result : goal.overflow_add-result
overflow_add-result c = rw c.bounded.ensures (omega (arith, lag_bound c.args.a.0))

pub overflow_mul-result-then-b-most : goal.overflow_mul-result-then-b-most
overflow_mul-result-then-b-most c =
    let b : c.args.b.0 < 65_536 = omega arith in
    rw c.bounded.ensures (omega (arith, overlap_product c.ranges.percent.fits (lag_bound c.args.a.0) b))

pub returns-then-b-most : goal.returns-then-b-most
returns-then-b-most c = rw c.bounded.ensures (short_pair_at_most _ _ _ _ (omega arith) c.if-b-most.true)
