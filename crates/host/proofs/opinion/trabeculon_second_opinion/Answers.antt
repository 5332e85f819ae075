-- `host::opinion::trabeculon_second_opinion` meets its contract.
use Rattle.host.proofs.opinion.trabeculon_second_opinion.Goals as goal

pub returns : goal.returns
returns c = rw c.into.ensures c.opine.ensures
