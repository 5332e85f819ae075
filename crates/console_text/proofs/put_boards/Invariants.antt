-- `console_text::put_boards` meets its contract.
use Prim.Native.Nat.{◌-◌}
use Rattle.console_text.proofs.Sheets.{Going}
use Rattle.console_text.proofs.put_boards.Given as goal

abbrev pub invariant-loop-board : goal.invariant-loop-board
invariant-loop-board l = Going l.c l.boards l.words l.initial.out l.out l.at l.board
