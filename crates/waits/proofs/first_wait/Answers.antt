-- `waits::first_wait` meets its contract: B fits, whatever the settings.
use borrow.Author.Rules.{rules}
use Rattle.rules.specs.Numbers.{X}
use Rattle.waits.proofs.Bounds.{D_at_most}
use Rattle.waits.proofs.Order.{longer_is}
use Rattle.waits.proofs.first_wait.Goals as goal

pub returns : goal.returns
unfolding X
returns c = rw (
  c.max.ensures,
  longer_is,
  c.thumb_first_wait.ensures,
  c.character_wait.ensures,
  D_at_most _ _ (record { t = search rules; j = search rules; l = search rules }) c.thumb_wait.ensures,
)
