-- `console_text::put_word` meets its contract.
use Rattle.console_text.proofs.Picking.{own_text, no_text, stored_none}
use Rattle.console_text.proofs.put_word.Goals as goal

pub returns-then-named-board : goal.returns-then-named-board
returns-then-named-board c =
    rw (own_text _ _ _ c.if-named-board.true)
    (c.put.ensures.fits (rw (own_text _ _ _ c.if-named-board.true) at c.requires))

pub returns : goal.returns
returns c = rw (no_text _ _ c.args.word c.if-named-board.false) (stored_none _ _)
