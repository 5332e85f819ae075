-- What the answers of this crate say.
use Rattle.std.specs.Prelude as code
use Rattle.std.specs.Prelude.{ℤ, Result, Ok, Err}
use Rattle.std.proofs.Math.Option.{Option, none, some}
use Rattle.rules.specs.Distance.{Asking, not_answered}
use Rattle.rules.specs.Refusal.{number_of}
use Rattle.rules.specs.declared.Refusal.{Refusal}
use Rattle.rules.specs.declared.Stamp.{Stamp}

abbrev pub when : code.Option Stamp → Option Stamp
when code.None = none
when (code.Some d) = some d

-- the number given back, and the distance if there is a deadline
abbrev pub asked : Result (code.Option ℤ) Refusal → Asking
asked (Err e) = not_answered (number_of e)
asked (Ok code.None) = record { number = 0; distance = none }
asked (Ok (code.Some z)) = record { number = 0; distance = some z }
