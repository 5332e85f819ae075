-- `held::release` meets its contract: a bit that is 1 can be taken away.
use mathlib.Core.Path.{sym, ◌∙◌}
use Rattle.rules.proofs.Held.{held_key, held_bit, set_le}
use Rattle.held.proofs.release.Goals as goal

pub alone-requires : goal.alone-requires
alone-requires c = held_key _ _ (sym c.is_held.ensures ∙ c.if-is_held.true)

pub overflow_sub-result : goal.overflow_sub-result
overflow_sub-result c = rw c.alone.ensures (set_le _ _ (held_bit _ _ (sym c.is_held.ensures ∙ c.if-is_held.true)))
