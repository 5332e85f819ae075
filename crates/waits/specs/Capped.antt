-- What the functions of this crate answer where document 01's number might not fit: the bounds of a sum, of a lag that is
-- multiplied and of a stamp that is subtracted. In a machine that is well formed, at a stamp that it accepts, none is met.
use Rattle.std.specs.Prelude.{ℕ, ◌+◌, ◌-◌, min, ltb, ℤ, pos, ◌-ℤ◌}
use Rattle.choice.specs.Choice.{if◌then◌orelse◌}
use Rattle.rules.specs.Numbers.{largest_stamp}
use Rattle.rules.specs.States.{at}
use Rattle.rules.specs.declared.Stamp.{Stamp}

-- the largest number that a stamp can hold
abbrev pub largest_number : ℕ
largest_number = 18_446_744_073_709_551_615

-- the stamp a lag later, or the largest number
unfoldable pub later_at_most : Stamp → ℕ → Stamp
later_at_most a x = at (min (a.0 + x) largest_number)

-- how long b is past a, and one more; at the largest number every wait is over
unfoldable pub since_at_most : Stamp → Stamp → ℕ
since_at_most a b = if ltb b.0 largest_number then b.0 + 1 - a.0 orelse largest_number

-- a lag, or the largest stamp
unfoldable pub lag_at_most : ℕ → ℕ
lag_at_most x = min x largest_stamp

-- the largest number that a signed count can hold
abbrev pub largest_signed : ℕ
largest_signed = 9_223_372_036_854_775_807

-- a stamp as a signed number, or the largest of these
unfoldable pub signed_at_most : Stamp → ℤ
signed_at_most a = pos (min a.0 largest_signed)

-- the signed count from now to d
abbrev pub distance_at_most : Stamp → Stamp → ℤ
distance_at_most now d = signed_at_most d -ℤ signed_at_most now
