-- `console_text::put_words` meets its contract.
use Prim.Native.Nat.{◌-◌}
use lib.ListN.{length}
use Rattle.console_text.proofs.Picking.{Picking}
use Rattle.console_text.proofs.put_words.Given as goal

abbrev pub invariant-loop-i : goal.invariant-loop-i
invariant-loop-i l = Picking l.boards l.words l.board l.initial.out l.at l.out l.next l.i
