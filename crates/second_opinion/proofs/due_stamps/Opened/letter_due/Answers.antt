-- `second_opinion::due_stamps::Opened::letter_due` meets its contract.
use Rattle.std.proofs.Common.{arith}
use Rattle.second_opinion.proofs.Waits.{A_within}
use Rattle.second_opinion.proofs.due_stamps.Opened.letter_due.Goals as goal

pub due_after-requires : goal.due_after-requires
due_after-requires c = omega (arith, A_within c.args.self.settings c.args.self.in_range c.args.letter, c.character_wait.ensures)
