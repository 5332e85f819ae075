-- The reason is what is read off the code's numbers.
use mathlib.Core.List.{List, map}
use mathlib.Core.Option.{Option}
use mathlib.Core.Path.{◌≡◌, sym, ap, ◌∙◌}
use Rattle.choice.specs.Choice.{if◌then◌orelse◌}
use Rattle.rules.specs.States.{deadline}
use Rattle.rules.specs.OneEvent.{due_by, one_event}
use Rattle.rules.specs.GivenBack.{acts_as, step}
use Rattle.rules.specs.declared.Stamp.{Stamp}
use Rattle.pairs.specs.Lent.{lent}
use Rattle.reasons.specs.Turning.{turnings}
use Rattle.reasons.specs.Reason.{Test, nothing_compared, Reason, reason, with_reason, reasoned}
use Rattle.reasons.proofs.AtMachine.{true_reasons}
use Rattle.states.specs.Meant.{meant_by_number}
use Rattle.states.proofs.Meant.{meant_by_number_is_input}
use Rattle.margins.specs.Views.{of_times}
use Rattle.margins.specs.Capped.{turns_at_most}
use Rattle.margins.proofs.Fitting.{turns_fit, compared_by_times}
use Rattle.why.specs.Told.{tested, numbers_by, read, ReasonTold, ReasonsTold}
use Rattle.why.proofs.FromDistance.{deadline_told}

pub reason_told : ReasonTold
unfolding tested
reason_told l t good m w now i =
    let g = lent l t in
    let s = m.settings in
    let x = m.resting in
    let by_deadline =
    ap (λ (d : Option Stamp). read g s now x i (numbers_by (of_times t) s x i now d (turns_at_most g s d x i)))
    (deadline_told g good m w) in
    let by-turns =
    ap (λ (vs : List Stamp). read g s now x i (numbers_by (of_times t) s x i now (deadline g s x) vs)) (turns_fit l t good m w i) in
    let exact = read g s now x i (numbers_by g s x i now (deadline g s x) (turnings g s x i)) in
    let is_late = due_by now (deadline g s x) in
    let by_times =
    ap {B = Reason} (λ (c : Test). record {
      before = x;
      cause = exact.cause;
      test = if is_late then nothing_compared orelse c;
      due = exact.due;
      sooner = exact.sooner;
      later = exact.later;
    }) (compared_by_times l t s now x i) in
    by_deadline ∙ by-turns ∙ by_times

pub reasons_told : ReasonsTold
reasons_told l t m e h =
    let g = lent l t in
    let s = m.settings in
    let x = m.resting in
    let r = true_reasons g m e h in
    let i = acts_as m.held (meant_by_number e.kind e.key) in
    let same : i ≡ r.acts = ap (acts_as m.held) (meant_by_number_is_input e.kind e.key r.names r.is_input) ∙ sym r.acts_so in
    let items : (step g m e).items ≡ (one_event g s e.stamp x i).items =
    r.its_step ∙ ap (λ j. (one_event g s e.stamp x j).items) (sym same) in
    let reads = reason_told l t r.good_list m r.good_machine e.stamp i in
    ap (λ (n : Reason). map (with_reason n) (step g m e).items) reads
    ∙ ap (map (with_reason (reason g s e.stamp x i))) items
    ∙ ap (reasoned g s e.stamp x) same
    ∙ sym r.its_reasons
