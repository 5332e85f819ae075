-- What an event does at any machine, where it is not asked whether what is lent is accepted (number 12) and the machine well formed
-- (number 2): document 01's checks of the event itself, and then 01's one event, with the deadline of any numbers
-- (crates/deadlines/specs/Capped.antt). Where both hold this is a step apart from what is sent, as `AsStep` says; the proof is
-- proofs/FormNotAsked.antt.
use Rattle.std.specs.Prelude.{ℕ, true, ◌≡◌}
use Rattle.choice.specs.Choice.{if◌then◌orelse◌}
use Rattle.rules.specs.Pairs.{Lent, lent_good}
use Rattle.rules.specs.States.{well_formed}
use Rattle.rules.specs.OneEvent.{Done, ◌leaving◌, nothing, late, act, due_by, and_then}
use Rattle.rules.specs.GivenBack as given_back
use Rattle.rules.specs.GivenBack.{Verdict, input, held_after, judge_input, acceptance, step}
use Rattle.rules.specs.declared.Stamp.{Stamp}
use Rattle.rules.specs.declared.Settings.{Settings}
use Rattle.rules.specs.declared.Resting.{Resting}
use Rattle.rules.specs.declared.Machine.{Machine}
use Rattle.rules.specs.declared.Event.{Event}
use Rattle.rules.specs.declared.Input.{Input}
use Rattle.deadlines.specs.Capped.{deadline_at_most}
use Rattle.engine.specs.Views.{Kept, refused, accepted, apart_from_sent}

-- the order on an event behind 12 and 2: 3, 4, 5, 11
unfoldable pub judge_event : Machine → Event → Verdict
judge_event m e = judge_input m e (input e.kind e.key)

-- the line "late", once, if the deadline is at or before the event's stamp; then the event acts
unfoldable pub one_event_at_most : Lent → Settings → Stamp → Resting → Input → Done
one_event_at_most g s now x i =
    and_then (if due_by now (deadline_at_most g s x) then late g s x orelse (nothing leaving x)) (λ y. act g s now y i)

-- what an accepted event commits, and the machine that it leaves, with the keys of h held
abbrev pub keeps : Machine → Stamp → ℕ → Done → Kept
keeps m now h d = accepted d.items (acceptance m now h d).machine

abbrev pub by_verdict : Lent → Machine → Stamp → Verdict → Kept
by_verdict g m now (given_back.refused n) = refused n
by_verdict g m now (given_back.accepted i) =
    keeps m now (held_after m.held i) (one_event_at_most g m.settings now m.resting i)

-- an event as a whole
unfoldable pub take_formed : Lent → Machine → Event → Kept
take_formed g m e = by_verdict g m e.stamp (judge_event m e)

-- with a list that is accepted, at a machine that is well formed, a step apart from what is sent
abbrev pub AsStep : Type 0
AsStep =
    (g : Lent) (m : Machine) (e : Event) → lent_good g ≡ true → well_formed g m ≡ true
    → take_formed g m e ≡ apart_from_sent (step g m e)
