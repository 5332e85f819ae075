-- `host::in_pieces::trabeculon_reader_piece` meets its contract.
use Rattle.host.proofs.InPieces.{piece_given}
use Rattle.host.proofs.in_pieces.trabeculon_reader_piece.Goals as goal

pub returns : goal.returns
returns c =
    piece_given c.args.reader c.args.list.now _ _ c.into.ensures.0 c.into.ensures.1 c.args.piece.now _ _ _ c.feed_numbers.ensures
