-- `host::trabeculon_read_log` meets its contract.
use Rattle.host.proofs.trabeculon_read_log.Goals as goal

pub returns : goal.returns
returns c = rw c.into.ensures c.read_packed.ensures
