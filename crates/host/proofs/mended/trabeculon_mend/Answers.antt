-- `host::mended::trabeculon_mend` meets its contract.
use Rattle.host.proofs.mended.trabeculon_mend.Goals as goal

pub returns : goal.returns
returns c = rw c.into.ensures c.mend.ensures
