-- `held::hold` meets its contract: a bit that is 0 has room.
use borrow.Author.Tests.{ltb-true}
use mathlib.Core.Path.{sym, ◌∙◌}
use native.Mathlib.Omega.{arith}
use Rattle.rules.proofs.Held.{free_bit, add_below}
use Rattle.held.proofs.hold.Goals as goal

pub overflow_add-result : goal.overflow_add-result
overflow_add-result c =
    let lt = ltb-true _ _ (sym c.is_key.ensures ∙ c.if-is_key.true) in
    let free = free_bit _ _ lt (sym c.is_held.ensures ∙ c.if-not-is_held.true) in
    rw c.alone.ensures (omega (arith, add_below 32 _ _ (omega arith) (omega arith) free))
