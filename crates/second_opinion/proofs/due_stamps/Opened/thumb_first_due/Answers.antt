-- `second_opinion::due_stamps::Opened::thumb_first_due` meets its contract.
use Rattle.std.proofs.Common.{◌≡◌, min, arith}
use Rattle.std.proofs.lemmas.Grind.{common_steps}
use Rattle.rules.specs.Numbers.{B}
use Rattle.second_opinion.proofs.Waits.{gap_within, shorter_within, FL_is, FL_within}
use Rattle.second_opinion.proofs.due_stamps.Opened.thumb_first_due.Goals as goal

pub due_after-requires : goal.due_after-requires
due_after-requires c =
    let m : c.min-held.result.0 ≡ min c.gap.result.0 c.thumb_wait.result.0 = grind (arith, common_steps) in
    rw (c.thumb_first_wait.ensures, m, c.gap.ensures)
    (FL_within c.args.self.settings c.args.self.in_range c.args.letter _ (shorter_within _ _ (gap_within c.args.thumb c.args.letter)))

pub returns : goal.returns
returns c =
    let m : c.min-held.result.0 ≡ min c.gap.result.0 c.thumb_wait.result.0 = grind (arith, common_steps) in
    rw (c.due_after.ensures, c.thumb_first_wait.ensures, m, c.gap.ensures, c.thumb_wait.ensures)
    (rw (FL_is c.args.self.settings c.args.self.in_range c.args.letter _ (shorter_within _ (B c.args.self.settings) (gap_within c.args.thumb c.args.letter))))
