-- The deadline of a machine's state, from the distance that the machine answers (3/12), asked where the state began: there it is never
-- negative. In a machine that is well formed it is the state's deadline (proofs/FromDistance.antt).
use Rattle.std.specs.Prelude.{true, ◌≡◌, ℤ, pos, negsuc}
use Rattle.std.proofs.Math.Option.{Option, none, some}
use Rattle.rules.specs.Pairs.{Lent, lent_good}
use Rattle.rules.specs.States.{deadline, well_formed}
use Rattle.rules.specs.Distance.{Asking, asking_with}
use Rattle.rules.specs.declared.Stamp.{Stamp}
use Rattle.rules.specs.declared.Machine.{Machine}
use Rattle.waits.specs.Capped.{later_at_most}
use Rattle.reasons.specs.Turning.{since}

-- a machine as it was when its state began
abbrev pub begun : Machine → Machine
begun m = record { settings = m.settings; resting = m.resting; last = since m.resting; held = m.held }

abbrev pub at_distance : Stamp → ℤ → Option Stamp
at_distance a (pos n) = some (later_at_most a n)
at_distance a (negsuc n) = none

abbrev pub stamp_if : Stamp → Option ℤ → Option Stamp
stamp_if a none = none
stamp_if a (some z) = at_distance a z

abbrev pub stamp_asked : Stamp → Asking → Option Stamp
stamp_asked a x = stamp_if a x.distance

abbrev pub deadline_asked : Lent → Machine → Option Stamp
deadline_asked g m = stamp_asked (since m.resting) (asking_with g (begun m) (since m.resting))

-- In a machine that is well formed, with what is lent accepted, it is the state's deadline.
abbrev pub DeadlineTold : Type 0
DeadlineTold =
    (g : Lent) → lent_good g ≡ true → (m : Machine) → well_formed g m ≡ true
    → deadline_asked g m ≡ deadline g m.settings m.resting
