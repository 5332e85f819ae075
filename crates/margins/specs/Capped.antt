-- The turning stamps of any resting state, with any numbers in it: those of `reasons`, but that a sum that would not fit is the largest
-- number, and a lag that is multiplied is the largest stamp at most. In a machine that is well formed they are the same
-- (proofs/Fitting.antt).
use Rattle.std.specs.Prelude.{ℕ, ◌-◌, ◌*◌, ◌/◌, List}
use Rattle.std.proofs.Math.Option.{Option}
use Rattle.rules.specs.Numbers.{short_overlap_time, up}
use Rattle.rules.specs.Pairs.{Lent}
use Rattle.rules.specs.States.{lag}
use Rattle.rules.specs.declared.Stamp.{Stamp}
use Rattle.rules.specs.declared.Settings.{Settings}
use Rattle.rules.specs.declared.Resting.{Resting}
use Rattle.rules.specs.declared.Resting.TheVariants.{S1, S2, S3, S4, S5, S6, S7, S8}
use Rattle.rules.specs.declared.Input.{Input}
use Rattle.waits.specs.Capped.{later_at_most, lag_at_most}
use Rattle.reasons.specs.Turning.{never, turns_in_S2, turns_in_S3, turns_in_S4, turns_in_S5, turns_in_S6, turns_in_S7, turns_in_S8}

abbrev pub parts_at_most : Stamp → Stamp → Stamp
parts_at_most m k = later_at_most (later_at_most k (lag m k)) 1

abbrev pub short_at_most : ℕ → Stamp → Stamp → Stamp
short_at_most n m k = later_at_most k (up (lag_at_most (lag m k) * n) (100 - n))

abbrev pub share_at_most : ℕ → Stamp → Stamp → Stamp
share_at_most l k r = later_at_most (later_at_most k ((100 * lag_at_most (lag k r)) / l)) 1

abbrev pub turns_at_most : Lent → Settings → Option Stamp → Resting → Input → List Stamp
turns_at_most g s d S1 i = never
turns_at_most g s d (S2 M m) i = turns_in_S2 g.pairs d M i
turns_at_most g s d (S3 O o) i = turns_in_S3 d O i
turns_at_most g s d (S4 M m O o) i = turns_in_S4 d (later_at_most o (lag m o)) (later_at_most o short_overlap_time) M O i
turns_at_most g s d (S5 O o M m) i = turns_in_S5 d (parts_at_most o m) (later_at_most m short_overlap_time) O M i
turns_at_most g s d (S6 O o M m r) i = turns_in_S6 d i
turns_at_most g s d (S7 M m K k) i = turns_in_S7 d (parts_at_most m k) (short_at_most g.n m k) M K i
turns_at_most g s d (S8 M m K k r) i = turns_in_S8 g.pairs d (parts_at_most m k) (share_at_most s.l k r) K i
