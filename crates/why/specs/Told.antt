-- The numbers of a reason, from which it is read: whether the line "late" committed, what was compared, the deadline, and the nearest
-- stamps before and behind the event at which it would have been decided otherwise. What is decided there the engine says.
use Rattle.std.specs.Prelude.{ℕ, Bool, true, List, map, ◌≡◌}
use Rattle.std.proofs.Math.Option.{Option}
use Rattle.choice.specs.Choice.{if◌then◌orelse◌}
use Rattle.rules.specs.Pairs.{Lent, lent_good}
use Rattle.rules.specs.States.{well_formed}
use Rattle.rules.specs.OneEvent.{due_by}
use Rattle.rules.specs.GivenBack.{acts_as, step}
use Rattle.rules.specs.Distance.{distance_to}
use Rattle.rules.specs.declared.Stamp.{Stamp}
use Rattle.rules.specs.declared.Settings.{Settings}
use Rattle.rules.specs.declared.Resting.{Resting}
use Rattle.rules.specs.declared.Machine.{Machine}
use Rattle.rules.specs.declared.Event.{Event}
use Rattle.rules.specs.declared.Input.{Input}
use Rattle.pairs.specs.Lent.{lent}
use Rattle.pairs.specs.declared.Times.{Times}
use Rattle.reasons.specs.Turning.{since, next_turn, last_turn}
use Rattle.reasons.specs.Reason.{late, by, Test, nothing_compared, compared, sooner_at, if_sooner, if_later, Reason, reason}
use Rattle.reasons.specs.Reason.{with_reason, step_reasons}
use Rattle.states.specs.Meant.{meant_by_number}
use Rattle.margins.specs.Views.{when, test, of_times}
use Rattle.margins.specs.Capped.{turns_at_most}
use Rattle.why.specs.FromDistance.{deadline_asked}
use Rattle.why.specs.declared.Numbers.{Numbers}

pub record Told : Type 0 where
  pub is_late : Bool
  pub test : Test
  pub due : Option Stamp
  pub sooner : Option Stamp
  pub later : Option Stamp

-- what the code's struct says
abbrev pub told : Numbers → Told
told r = record { is_late = r.late; test = test r.compared; due = when r.due; sooner = when r.sooner; later = when r.later }

-- the line "late" compares nothing
unfoldable pub tested : Lent → Settings → Stamp → Resting → Input → Bool → Test
tested g s now x i is_late = if is_late then nothing_compared orelse compared g s now x i

-- by a deadline and turning stamps, with g for what is compared
abbrev pub numbers_by : Lent → Settings → Resting → Input → Stamp → Option Stamp → List Stamp → Told
numbers_by g s x i now d turns =
    record {
      is_late = due_by now d;
      test = tested g s now x i (due_by now d);
      due = d;
      sooner = sooner_at (since x) (last_turn now turns);
      later = next_turn now turns;
    }

-- those that the code works out, of any machine; t has T_s and N alone
abbrev pub numbers_at_most : Lent → Lent → Machine → Stamp → Input → Told
numbers_at_most g t m now i =
    let d = deadline_asked g m in
    numbers_by t m.settings m.resting i now d (turns_at_most g m.settings d m.resting i)

-- a reason, read off them
abbrev pub read : Lent → Settings → Stamp → Resting → Input → Told → Reason
read g s now x i n =
    record {
      before = x;
      cause = if n.is_late then late orelse by i;
      test = n.test;
      due = distance_to now n.due;
      sooner = if_sooner g s x i now n.sooner;
      later = if_later g s x i now n.later;
    }

-- Of a machine that is well formed, with what is lent accepted: what is read off the code's numbers is the reason.
abbrev pub ReasonTold : Type 0
ReasonTold =
    (l : List ℕ) (t : Times) → lent_good (lent l t) ≡ true → (m : Machine) → well_formed (lent l t) m ≡ true → (now : Stamp) (i : Input)
    → read (lent l t) m.settings now m.resting i (numbers_at_most (lent l t) (of_times t) m now i)
    ≡ reason (lent l t) m.settings now m.resting i

-- Of an event that a machine accepts: its committed items, each with the reason that is read off the code's numbers, are its reasons.
abbrev pub ReasonsTold : Type 0
ReasonsTold =
    (l : List ℕ) (t : Times) (m : Machine) (e : Event) → (step (lent l t) m e).number ≡ 0
    → let i = acts_as m.held (meant_by_number e.kind e.key) in
    let told = numbers_at_most (lent l t) (of_times t) m e.stamp i in
    map (with_reason (read (lent l t) m.settings e.stamp m.resting i told)) (step (lent l t) m e).items
    ≡ step_reasons (lent l t) m e
