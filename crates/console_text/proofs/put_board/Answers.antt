-- `console_text::put_board` meets its contract.
use Rattle.console_text.proofs.put_board.Goals as goal

pub returns : goal.returns
returns c = rw c.waiting-waiting.ensures at c.put_stage.ensures
