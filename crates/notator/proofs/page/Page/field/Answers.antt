use Rattle.notator.proofs.Adding.{◌and_then◌}
use Rattle.notator.proofs.page.Page.field.Goals as goal

pub returns : goal.returns
returns c = c.bytes.ensures and_then c.number.ensures
