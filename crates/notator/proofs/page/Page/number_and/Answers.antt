use Rattle.notator.proofs.Adding.{◌and_then◌}
use Rattle.notator.proofs.page.Page.number_and.Goals as goal

pub returns : goal.returns
returns c = c.number.ensures and_then c.bytes.ensures
