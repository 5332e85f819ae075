-- `console_text::put_boards` meets its contract.
use Rattle.console_text.proofs.Sheets.{begun, board_fits, one_more, all_put}
use Rattle.console_text.proofs.put_boards.Goals as goal

pub loop-board-init : goal.loop-board-init
loop-board-init c = begun _ _ _ _

pub put_board-at-requires : goal.put_board-at-requires
put_board-at-requires c = record { board_bound = c.loop-board-test.true; boards_len = c.requires.boards_len; words_in_bounds = board_fits _ _ _ _ c.requires.boards_len c.requires.words_in_bounds _ _ _ c.loop-board.invariant c.loop-board-test.true }

pub loop-board-preserved : goal.loop-board-preserved
loop-board-preserved c =
    one_more _ _ _ _ c.requires.boards_len c.requires.words_in_bounds _ _ _ c.loop-board.invariant c.loop-board-test.true
    _ _ c.put_board-at.auto.out c.put_board-at.ensures.stored c.put_board-at.ensures.upper_bound

pub returns : goal.returns
returns c = let facts = all_put _ _ _ _ c.requires.boards_len c.requires.words_in_bounds _ _ _ c.loop-board.invariant c.loop-board-test.false in record { stored = facts.0; upper_bound = facts.1 }
