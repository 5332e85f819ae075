-- `host::in_pieces::trabeculon_reader_fresh` meets its contract.
use Rattle.host.proofs.in_pieces.trabeculon_reader_fresh.Goals as goal

pub returns : goal.returns
returns c = rw (← c.no_machine.ensures)
