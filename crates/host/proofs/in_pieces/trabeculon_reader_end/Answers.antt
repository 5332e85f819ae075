-- `host::in_pieces::trabeculon_reader_end` meets its contract.
use Rattle.host.proofs.InPieces.{end_given}
use Rattle.host.proofs.in_pieces.trabeculon_reader_end.Goals as goal

pub returns : goal.returns
returns c = let given = c.args in
    end_given given.reader given.list.now _ _ c.into.ensures.0 c.into.ensures.1 c.end_numbers.ensures
