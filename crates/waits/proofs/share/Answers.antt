-- `waits::share` meets its contract.
use mathlib.Core.Path.{sym}
use native.Mathlib.Nat.{div-zero}
use native.Mathlib.Omega.{arith}
use borrow.Author.Rules.{rules}
use Rattle.rules.specs.Numbers.{up}
use Rattle.waits.proofs.Bounds.{product}
use Rattle.waits.proofs.share.Goals as goal

pub returns-then-d-eq0 : goal.returns-then-d-eq0
unfolding up
returns-then-d-eq0 c = rw c.if-d-eq0.true (sym (div-zero _))

pub overflow_mul-x : goal.overflow_mul-x
unfolding up
overflow_mul-x c = omega (arith, product c.requires c.ranges.n.fits)

pub overflow_add-x : goal.overflow_add-x
unfolding up
overflow_add-x c = omega (arith, product c.requires c.ranges.n.fits)

pub quotient-requires : goal.quotient-requires
unfolding up
quotient-requires c = record { total_bound = omega (arith, product c.requires c.ranges.n.fits); d_nonzero = search rules; d_bound = search rules }

pub returns : goal.returns
unfolding up
returns c = c.quotient.ensures
