-- `waits::turns` meets its contract.
use native.Mathlib.Omega.{arith}
use borrow.Author.Rules.{rules}
use lib.Count.{leading_le}
use Rattle.waits.proofs.Halving.{lies_above}
use Rattle.waits.proofs.turns.Goals as goal

pub overflow_add-result : goal.overflow_add-result
overflow_add-result c = omega (arith, leading_le 64 c.args.d)

pub overflow_sub-result : goal.overflow_sub-result
overflow_sub-result c = (lies_above _ _ (search rules) (search rules) (search rules)).0

pub returns : goal.returns
returns c = (lies_above _ _ (search rules) (search rules) (search rules)).1
