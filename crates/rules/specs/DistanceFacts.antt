-- What a host leans on when it asks for the distance (Distance.antt). The proofs are in proofs/DistanceFacts.antt.
use Rattle.std.specs.Prelude.{ℕ, zero, suc, ◌+◌, ◌≤◌, ◌<◌, [], ◌≢◌, ◌≡◌, ℤ, pos, negsuc, ◌-ℤ◌}
use Rattle.std.proofs.Math.Option.{Option, none, some}
use Rattle.choice.specs.Choice.{if◌then◌orelse◌}
use Rattle.rules.specs.Numbers.{largest_stamp}
use Rattle.rules.specs.Pairs.{Lent}
use Rattle.rules.specs.States.{later, deadline}
use Rattle.rules.specs.OneEvent.{late, due_by}
use Rattle.rules.specs.GivenBack.{Answer, acceptance, step}
use Rattle.rules.specs.Demand3.{tick}
use Rattle.rules.specs.Distance.{asking}
use Rattle.rules.specs.declared.Stamp.{Stamp}
use Rattle.rules.specs.declared.Machine.{Machine}

-- 0 or negative: due now, or overdue
abbrev pub IsDue : ℤ → Type 0
IsDue (pos zero) = Unit {0}
IsDue (pos (suc n)) = ⊥
IsDue (negsuc n) = Unit {0}

-- there is a deadline, and it is due now or overdue
pub record DueOrOverdue (answer : Option ℤ) : Type 0 where
  pub distance : ℤ
  pub is_answer : answer ≡ some distance
  pub is_due : IsDue distance

-- d milliseconds less
abbrev pub less : ℕ → Option ℤ → Option ℤ
less d none = none
less d (some z) = some (z -ℤ pos d)

-- an accepted event that commits nothing, sends nothing and changes only the last stamp
abbrev pub only_last : Machine → Stamp → Answer
only_last m t =
    record {
      number = 0;
      items = [];
      sendings = [];
      machine = record { settings = m.settings; resting = m.resting; last = t; held = m.held };
    }

-- an accepted event that does the line "late", and nothing else
abbrev pub late_line : Lent → Machine → Stamp → Answer
late_line g m t = acceptance m t m.held (late g m.settings m.resting)

-- an accepted event that does the line "late" if it is due, changes the last stamp, and nothing else
abbrev pub only_time_passes : Lent → Machine → Stamp → Answer
only_time_passes g m t = if due_by t (deadline g m.settings m.resting) then late_line g m t orelse only_last m t

-- of everything lent, every machine and stamp
abbrev pub TickIsTime : Lent → Machine → Stamp → Type 0
TickIsTime g m t = (step g m (tick t)).number ≡ 0 → step g m (tick t) ≡ only_time_passes g m t

-- Of every machine m and stamp now at which it answers, with g lent. A tick is accepted if its number is 0.
pub record DistanceFacts (g : Lent) (m : Machine) (now : Stamp) : Type 0 where
  -- a tick at the asked stamp commits something if and only if the answer is 0 or negative, and what it does is the line "late"
  pub due_commits : DueOrOverdue (asking g m now).distance → (step g m (tick now)).items ≢ []
  pub commits_due : (step g m (tick now)).items ≢ [] → DueOrOverdue (asking g m now).distance
  pub due_is_late : DueOrOverdue (asking g m now).distance → step g m (tick now) ≡ late_line g m now
  -- asked d milliseconds later, the answer is d less
  pub later_is_less : (d : ℕ) → now.0 + d ≤ largest_stamp
      → asking g m (later now d) ≡ record { number = 0; distance = less d (asking g m now).distance }
  -- n milliseconds are left: an accepted tick before that changes only the last stamp, and one at exactly n does the late line
  pub early_tick : (n : ℕ) → (asking g m now).distance ≡ some (pos n) → (t : Stamp) → t.0 < now.0 + n
      → (step g m (tick t)).number ≡ 0
      → step g m (tick t) ≡ only_last m t
  pub tick_on_time : (n : ℕ) → (asking g m now).distance ≡ some (pos n) → now.0 + n ≤ largest_stamp
      → step g m (tick (later now n)) ≡ late_line g m (later now n)
  -- no deadline: no accepted tick changes more than the last stamp
  pub never_due : (asking g m now).distance ≡ none → (t : Stamp) → (step g m (tick t)).number ≡ 0 → step g m (tick t) ≡ only_last m t

-- Of everything lent, every machine and stamp: asking is refused as a tick with that stamp is, and Refusals.antt says when that is.
abbrev pub SameRefusals : Lent → Machine → Stamp → Type 0
SameRefusals g m now = (asking g m now).number ≡ (step g m (tick now)).number
