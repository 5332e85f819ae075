-- `second_opinion::due_stamps::Opened::thumb_due` meets its contract.
use Rattle.std.proofs.Common.{arith}
use Rattle.second_opinion.proofs.Waits.{B_within}
use Rattle.second_opinion.proofs.due_stamps.Opened.thumb_due.Goals as goal

pub due_after-requires : goal.due_after-requires
due_after-requires c = omega (arith, B_within c.args.self.settings c.args.self.in_range c.args.thumb, c.thumb_wait.ensures)
