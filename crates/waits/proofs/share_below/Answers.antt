-- `waits::share_below` meets its contract.
use native.Mathlib.Omega.{arith}
use borrow.Author.Tests.{le-leb}
use Rattle.waits.proofs.Bounds.{product}
use Rattle.waits.proofs.Below.{most_product, below_by_0, below_at_once, below_by_products}
use Rattle.waits.proofs.share_below.Goals as goal

pub returns-then-d-eq0 : goal.returns-then-d-eq0
returns-then-d-eq0 c = below_by_0 _ _ _ c.if-y-eq0.false c.if-d-eq0.true

pub overflow_mul-total : goal.overflow_mul-total
overflow_mul-total c = omega (arith, product c.requires c.ranges.n.fits)

pub returns-then-total-most : goal.returns-then-total-most
returns-then-total-most c =
    rw (le-leb _ _ c.if-total-most.true) (below_at_once _ _ _ c.if-y-eq0.false c.if-d-eq0.false c.if-total-most.true)

pub overflow_mul-result : goal.overflow_mul-result
overflow_mul-result c =
    omega (arith, most_product (product c.requires c.ranges.n.fits) c.if-total-most.false c.ranges.d.fits)

pub returns-else-total-most : goal.returns-else-total-most
returns-else-total-most c = below_by_products _ _ _ c.if-y-eq0.false c.if-d-eq0.false
