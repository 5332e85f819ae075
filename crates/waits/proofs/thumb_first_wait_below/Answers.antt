-- `waits::thumb_first_wait_below` meets its contract.
use mathlib.Core.Path.{sym, ◌∙◌}
use Rattle.rules.specs.Numbers.{FL}
use Rattle.waits.proofs.Below.{first_smaller, second_smaller}
use Rattle.waits.proofs.Bounds.{lag_bound}
use Rattle.waits.proofs.thumb_first_wait_below.Goals as goal

pub share_below-requires : goal.share_below-requires
unfolding FL
share_below-requires c = rw c.bounded.ensures (lag_bound _)

pub returns-then-thumb_wait_below : goal.returns-then-thumb_wait_below
unfolding FL
returns-then-thumb_wait_below c =
    rw (
      second_smaller _ _ (sym c.thumb_wait_below.ensures ∙ c.if-thumb_wait_below.true),
      ← c.thumb_wait.ensures,
      ← c.bounded.ensures,
      ← c.rest.ensures,
      ← c.share_below.ensures,
    )

pub share_below-requires-2 : goal.share_below-requires-2
unfolding FL
share_below-requires-2 c = rw c.bounded-2.ensures (lag_bound _)

pub returns : goal.returns
unfolding FL
returns c =
    rw (
      first_smaller _ _ (sym c.thumb_wait_below.ensures ∙ c.if-thumb_wait_below.false),
      ← c.bounded-2.ensures,
      ← c.rest-2.ensures,
      ← c.share_below-2.ensures,
    )
