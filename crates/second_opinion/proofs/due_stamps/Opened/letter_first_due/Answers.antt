-- `second_opinion::due_stamps::Opened::letter_first_due` meets its contract.
use Rattle.second_opinion.proofs.Waits.{gap_within, FJ_is, FJ_within}
use Rattle.second_opinion.proofs.due_stamps.Opened.letter_first_due.Goals as goal

pub due_after-requires : goal.due_after-requires
due_after-requires c =
    rw (c.character_first_wait.ensures, c.gap.ensures)
    (FJ_within c.args.self.settings c.args.self.in_range c.args.thumb _ (gap_within c.args.letter c.args.thumb))

pub returns : goal.returns
returns c =
    rw (c.due_after.ensures, c.character_first_wait.ensures, c.gap.ensures)
    (rw (FJ_is c.args.self.settings c.args.self.in_range c.args.thumb _ (gap_within c.args.letter c.args.thumb)))
