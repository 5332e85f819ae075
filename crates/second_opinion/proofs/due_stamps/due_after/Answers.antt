-- `second_opinion::due_stamps::due_after` meets its contract.
use Rattle.second_opinion.proofs.Waits.{due_fits}
use Rattle.second_opinion.proofs.due_stamps.due_after.Goals as goal

pub returns : goal.returns
returns c = due_fits c.args.e.event _ _ c.requires c.later.ensures
