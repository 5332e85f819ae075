-- `preview::shown_signs` meets its contract.
use Rattle.preview.proofs.Laws.{holds_shown}
use Rattle.preview.proofs.shown_signs.Goals as goal

pub returns : goal.returns
returns c = rw (c.put_before-2.ensures, c.put_before.ensures) (holds_shown _ _)
