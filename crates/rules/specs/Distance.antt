-- Document 02, 3/12, "Say how late we are": how far a state's next deadline lies from a keyboard stamp that the caller gives.
use Rattle.std.specs.Prelude.{ℕ, ltb, ℤ, pos, ◌-ℤ◌}
use Rattle.std.proofs.Math.Option.{Option, none, some}
use Rattle.choice.specs.Choice.{if◌then◌orelse◌}
use Rattle.rules.specs.Numbers.{largest_stamp}
use Rattle.rules.specs.Pairs.{Lent, lent_good}
use Rattle.rules.specs.States.{deadline, well_formed}
use Rattle.rules.specs.declared.Stamp.{Stamp}
use Rattle.rules.specs.declared.Machine.{Machine}

-- The milliseconds from now to a deadline d, as a signed number, d-now: positive still to wait, 0 due now, negative overdue.
abbrev pub distance : Stamp → Stamp → ℤ
distance now d = pos d.0 -ℤ pos now.0

-- a separate answer for no deadline
abbrev pub distance_to : Stamp → Option Stamp → Option ℤ
distance_to now none = none
distance_to now (some d) = some (distance now d)

-- The answer: the number given back, and the distance if there is a deadline.
pub record Asking : Type 0 where
  pub number : ℕ
  pub distance : Option ℤ

abbrev pub not_answered : ℕ → Asking
not_answered n = record { number = n; distance = none }

-- 4, stamp above the largest; then 5, stamp before the last accepted
abbrev pub at_stamp : Stamp → Stamp → Option ℤ → Asking
at_stamp last now d =
    if ltb largest_stamp now.0 then not_answered 4 orelse
    if ltb now.0 last.0 then not_answered 5 orelse record { number = 0; distance = d }

-- 2, state not well formed; then the stamp: with a list that is accepted
unfoldable pub asking_with : Lent → Machine → Stamp → Asking
asking_with g m now =
    if well_formed g m then at_stamp m.last now (distance_to now (deadline g m.settings m.resting))
    orelse not_answered 2

-- 12, what is lent is not good (9/12), before anything else
unfoldable pub asking : Lent → Machine → Stamp → Asking
asking g m now = if lent_good g then asking_with g m now orelse not_answered 12
