-- What a C host leans on when it asks for the distance: the laws of document 02, 3/12, of the numbers that it hands over and gets.
-- The proofs are in proofs/DistanceNumbers.antt.
use Rattle.std.specs.Prelude.{ℕ, ◌+◌, ◌≤◌, ◌<◌, ◌≢◌, ◌≡◌, eqb, pos, ◌-ℤ◌}
use Rattle.choice.specs.Choice.{if◌then◌orelse◌}
use Rattle.rules.specs.Numbers.{largest_stamp}
use Rattle.rules.specs.Pairs.{Lent}
use Rattle.rules.specs.States.{later}
use Rattle.rules.specs.DistanceFacts.{IsDue, late_line}
use Rattle.rules.specs.declared.Stamp.{Stamp}
use Rattle.rules.specs.declared.Machine.{Machine}
use Rattle.rules.specs.declared.Event.{Event}
use Rattle.machine_numbers.specs.declared.MachineNumbers.{MachineNumbers}
use Rattle.keyboard.specs.declared.StepAnswer.{StepAnswer}
use Rattle.keyboard.specs.declared.DistanceAnswer.{DistanceAnswer}
use Rattle.keyboard.specs.Keyboard.{event_of, answered_numbers, refused_numbers, step_numbers, distance_numbers}

-- a tick as C hands it over: kind 6, key 0
abbrev pub tick_at : Stamp → Event
tick_at t = event_of 6 0 t

-- there is a deadline, and it is due now or overdue
abbrev pub SaysDue : DistanceAnswer → Type 0
SaysDue r = (r.deadline ≡ 1) × IsDue r.milliseconds

-- there is a deadline, in n milliseconds
abbrev pub SaysIn : DistanceAnswer → ℕ → Type 0
SaysIn r n = (r.deadline ≡ 1) × (r.milliseconds ≡ pos n)

-- there is no deadline
abbrev pub SaysNone : DistanceAnswer → Type 0
SaysNone r = r.deadline ≡ 0

-- the answer d milliseconds later
abbrev pub told_later : DistanceAnswer → ℕ → DistanceAnswer
told_later r d =
    record {
      number = r.number;
      deadline = r.deadline;
      milliseconds = if eqb r.deadline 1 then r.milliseconds -ℤ pos d orelse r.milliseconds;
    }

abbrev pub with_last : MachineNumbers → Stamp → MachineNumbers
with_last f t =
    record {
      last = t;
      m = f.m;
      k = f.k;
      o = f.o;
      r = f.r;
      held = f.held;
      second = f.second;
      t = f.t;
      j = f.j;
      l = f.l;
      solo = f.solo;
      state = f.state;
      key = f.key;
      thumb = f.thumb;
    }

-- an accepted event that commits nothing, sends nothing and changes only the last stamp
abbrev pub only_last_numbers : MachineNumbers → Stamp → StepAnswer
only_last_numbers f t = refused_numbers (with_last f t) 0

-- an accepted event that does the line "late" of the machine, and nothing else
abbrev pub late_numbers : Lent → Machine → Stamp → StepAnswer
late_numbers g x t = answered_numbers (late_line g x t)

-- Of everything lent, every numbers f that name a machine x, and every stamp now at which asking is answered.
pub record DistanceNumbers (g : Lent) (f : MachineNumbers) (x : Machine) (now : Stamp) : Type 0 where
  -- a tick at the asked stamp commits something if and only if the answer is 0 or negative, and what it does is the line "late"
  pub due_commits : SaysDue (distance_numbers g f now) → (step_numbers g f (tick_at now)).items ≢ 0
  pub commits_due : (step_numbers g f (tick_at now)).items ≢ 0 → SaysDue (distance_numbers g f now)
  pub due_is_late : SaysDue (distance_numbers g f now) → step_numbers g f (tick_at now) ≡ late_numbers g x now
  -- asked d milliseconds later, the answer is d less
  pub later_is_less : (d : ℕ) → now.0 + d ≤ largest_stamp
      → distance_numbers g f (later now d) ≡ told_later (distance_numbers g f now) d
  -- n milliseconds are left: an accepted tick before that changes only the last stamp, and one at exactly n does the late line
  pub early_tick : (n : ℕ) → SaysIn (distance_numbers g f now) n → (t : Stamp) → t.0 < now.0 + n
      → (step_numbers g f (tick_at t)).number ≡ 0
      → step_numbers g f (tick_at t) ≡ only_last_numbers f t
  pub tick_on_time : (n : ℕ) → SaysIn (distance_numbers g f now) n → now.0 + n ≤ largest_stamp
      → step_numbers g f (tick_at (later now n)) ≡ late_numbers g x (later now n)
  -- no deadline: no accepted tick changes more than the last stamp
  pub never_due : SaysNone (distance_numbers g f now) → (t : Stamp) → (step_numbers g f (tick_at t)).number ≡ 0
      → step_numbers g f (tick_at t) ≡ only_last_numbers f t

-- Of everything lent, all numbers and stamps: asking is refused as a tick with that stamp is.
abbrev pub SameRefusedNumbers : Lent → MachineNumbers → Stamp → Type 0
SameRefusedNumbers g f now = (distance_numbers g f now).number ≡ (step_numbers g f (tick_at now)).number
