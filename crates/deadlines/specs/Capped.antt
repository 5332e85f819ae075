-- The deadline of any resting state, with any numbers in it: document 01's, but that a sum that would not fit is the largest
-- number, and a lag that is multiplied is the largest stamp at most; and the distance from any stamp to it. In a machine that
-- is well formed, at a stamp that it accepts, they are the papers' (proofs/Formed.antt).
use Rattle.std.specs.Prelude.{ℕ, min, eqb, ℤ}
use Rattle.std.proofs.Math.Option.{Option, none, some}
use Rattle.choice.specs.Choice.{if◌then◌orelse◌}
use Rattle.rules.specs.Numbers.{B, FJ, FL}
use Rattle.rules.specs.Pairs.{Lent, GN, alone}
use Rattle.rules.specs.States.{lag}
use Rattle.rules.specs.declared.Stamp.{Stamp}
use Rattle.rules.specs.declared.Key.{Key}
use Rattle.rules.specs.declared.Settings.{Settings}
use Rattle.rules.specs.declared.Resting.{Resting}
use Rattle.rules.specs.declared.Resting.TheVariants.{S1, S2, S3, S4, S5, S6, S7, S8}
use Rattle.waits.specs.Capped.{later_at_most, lag_at_most, distance_at_most}

-- the deadline of each state, from what it is worked out of
abbrev pub until_S2 : Lent → Settings → Key → Stamp → Option Stamp
until_S2 g s M m = some (later_at_most m (alone g s M))

abbrev pub until_S3 : Settings → Stamp → Option Stamp
until_S3 s o = if eqb s.solo 1 then some (later_at_most o (B s)) orelse none

abbrev pub until_S4 : Settings → Stamp → Stamp → Option Stamp
until_S4 s m o = some (later_at_most o (FJ s (lag_at_most (lag m o))))

abbrev pub until_S5 : Settings → Stamp → Stamp → Option Stamp
until_S5 s o m = some (later_at_most m (FL s (lag_at_most (min (lag o m) (B s)))))

abbrev pub until_S6 : Stamp → Stamp → Option Stamp
until_S6 m r = some (later_at_most r (lag m r))

-- from T_s
abbrev pub until_S7 : ℕ → Stamp → Option Stamp
until_S7 t_s k = some (later_at_most k t_s)

-- from N
abbrev pub until_S8 : ℕ → Stamp → Stamp → Option Stamp
until_S8 n k r = some (later_at_most r (GN n (lag_at_most (lag k r))))

abbrev pub deadline_at_most : Lent → Settings → Resting → Option Stamp
deadline_at_most g s S1 = none
deadline_at_most g s (S2 M m) = until_S2 g s M m
deadline_at_most g s (S3 O o) = until_S3 s o
deadline_at_most g s (S4 M m O o) = until_S4 s m o
deadline_at_most g s (S5 O o M m) = until_S5 s o m
deadline_at_most g s (S6 O o M m r) = until_S6 m r
deadline_at_most g s (S7 M m K k) = until_S7 g.t_s k
deadline_at_most g s (S8 M m K k r) = until_S8 g.n k r

-- the distance from now to such a deadline
abbrev pub distance_to_at_most : Stamp → Option Stamp → Option ℤ
distance_to_at_most now none = none
distance_to_at_most now (some d) = some (distance_at_most now d)
