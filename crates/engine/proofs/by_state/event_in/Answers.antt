-- `engine::by_state::event_in` meets its contract: each state by itself, late first, and else what it does at the event.
use Rattle.std.proofs.Common.{refl}
use Rattle.pairs.specs.Lent.{lent_by}
use Rattle.states.specs.Meant.{meant}
use Rattle.engine.proofs.Laws.{when_due, when_not_due, not_late}
use Rattle.engine.proofs.by_state.event_in.Goals as goal

pub returns-in-S1 : goal.returns-in-S1
returns-in-S1 c = rw (c.in-S1.is, not_late _ _ _ _ _ refl, ← c.in_s1.ensures)

pub returns-in-S2 : goal.returns-in-S2
returns-in-S2 c =
    rw c.in-S2.is
    (when_due _ _ _ _ _ c.due_in_s2.ensures _ _ c.if-due_in_s2.true c.commits_plain.ensures c.then_in_s1.ensures)

pub returns-in-S2-2 : goal.returns-in-S2-2
returns-in-S2-2 c =
    let a = c.args in
    when_not_due (lent_by a.given) a.s a.now a.resting (meant a.kind a.n) (rw c.in-S2.is c.due_in_s2.ensures) _ c.if-due_in_s2.false
    (rw c.in-S2-2.is c.in_s2.ensures)

pub returns-in-S3 : goal.returns-in-S3
returns-in-S3 c =
    rw c.in-S3.is
    (when_due _ _ _ _ _ c.due_in_s3.ensures _ _ c.if-due_in_s3.true c.commits_mark.ensures c.then_in_s1-in-S3.ensures)

pub returns-in-S3-2 : goal.returns-in-S3-2
returns-in-S3-2 c =
    let a = c.args in
    when_not_due (lent_by a.given) a.s a.now a.resting (meant a.kind a.n) (rw c.in-S3.is c.due_in_s3.ensures) _ c.if-due_in_s3.false
    (rw c.in-S3-2.is c.in_s3.ensures)

pub returns-in-S4 : goal.returns-in-S4
returns-in-S4 c =
    rw c.in-S4.is
    (when_due _ _ _ _ _ c.due_in_s4.ensures _ _ c.if-due_in_s4.true c.commits_chord.ensures c.then_in_s1-in-S4.ensures)

pub returns-in-S4-2 : goal.returns-in-S4-2
returns-in-S4-2 c =
    let a = c.args in
    when_not_due (lent_by a.given) a.s a.now a.resting (meant a.kind a.n) (rw c.in-S4.is c.due_in_s4.ensures) _ c.if-due_in_s4.false
    (rw c.in-S4-2.is c.in_s4.ensures)

pub returns-in-S5 : goal.returns-in-S5
returns-in-S5 c =
    rw c.in-S5.is
    (when_due _ _ _ _ _ c.due_in_s5.ensures _ _ c.if-due_in_s5.true c.commits_chord-in-S5.ensures c.then_in_s1-in-S5.ensures)

pub returns-in-S5-2 : goal.returns-in-S5-2
returns-in-S5-2 c =
    let a = c.args in
    when_not_due (lent_by a.given) a.s a.now a.resting (meant a.kind a.n) (rw c.in-S5.is c.due_in_s5.ensures) _ c.if-due_in_s5.false
    (rw c.in-S5-2.is c.in_s5.ensures)

pub returns-in-S6 : goal.returns-in-S6
returns-in-S6 c =
    rw c.in-S6.is
    (when_due _ _ _ _ _ c.due_in_s6.ensures _ _ c.if-due_in_s6.true c.commits_both.ensures c.then_in_s1-in-S6.ensures)

pub returns-in-S6-2 : goal.returns-in-S6-2
returns-in-S6-2 c =
    let a = c.args in
    when_not_due (lent_by a.given) a.s a.now a.resting (meant a.kind a.n) (rw c.in-S6.is c.due_in_s6.ensures) _ c.if-due_in_s6.false
    (rw c.in-S6-2.is c.in_s6.ensures)

pub returns-in-S7 : goal.returns-in-S7
returns-in-S7 c =
    rw c.in-S7.is
    (when_due _ _ _ _ _ c.due_in_s7.ensures _ _ c.if-due_in_s7.true c.commits_pair.ensures c.then_in_s1-in-S7.ensures)

pub returns-in-S7-2 : goal.returns-in-S7-2
returns-in-S7-2 c =
    let a = c.args in
    when_not_due (lent_by a.given) a.s a.now a.resting (meant a.kind a.n) (rw c.in-S7.is c.due_in_s7.ensures) _ c.if-due_in_s7.false
    (rw c.in-S7-2.is c.in_s7.ensures)

pub returns-in-S8 : goal.returns-in-S8
returns-in-S8 c =
    rw c.in-S8.is
    (when_due _ _ _ _ _ c.due_in_s8.ensures _ _ c.if-due_in_s8.true c.commits_two.ensures c.then_in_s1-in-S8.ensures)

pub returns-in-S8-2 : goal.returns-in-S8-2
returns-in-S8-2 c =
    let a = c.args in
    when_not_due (lent_by a.given) a.s a.now a.resting (meant a.kind a.n) (rw c.in-S8.is c.due_in_s8.ensures) _ c.if-due_in_s8.false
    (rw c.in-S8-2.is c.in_s8.ensures)
