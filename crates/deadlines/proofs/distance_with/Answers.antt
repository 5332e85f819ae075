-- `deadlines::distance_with` meets its contract: in a machine that is well formed, at a stamp that it accepts, no bound is met.
use mathlib.Core.Path.{◌∙◌}
use native.Mathlib.Omega.{arith}
use Rattle.rules.specs.Distance.{asking_with}
use Rattle.deadlines.proofs.Answers.{failed, passed}
use Rattle.deadlines.proofs.Formed.{well_formed_asking}
use Rattle.deadlines.proofs.WellFormed.{formed_by_list}
use Rattle.deadlines.proofs.distance_with.Goals as goal

pub returns-then-not-well_formed : goal.returns-then-not-well_formed
unfolding asking_with
returns-then-not-well_formed c = let a = c.args in
    rw (failed (c.well_formed-2.ensures ∙ formed_by_list a.given.list.now a.given.times a.machine) c.if-not-well_formed.true)

pub returns : goal.returns
unfolding asking_with
returns c =
    let a = c.args in
    rw (
      well_formed_asking _ (record { t_s = omega arith; n = omega arith }) _ _ _
          (passed (c.well_formed-2.ensures ∙ formed_by_list a.given.list.now a.given.times a.machine) c.if-not-well_formed.false)
          c.deadline-due.ensures,
      ← c.at_stamp.ensures,
    )
