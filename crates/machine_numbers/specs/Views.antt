-- What the answers of this crate say.
use Rattle.std.specs.Prelude as code
use Rattle.std.proofs.Math.Option.{Option, none, some}
use Rattle.rules.specs.declared.Thumb.{Thumb}
use Rattle.rules.specs.declared.Resting.{Resting}
use Rattle.rules.specs.declared.Machine.{Machine}

abbrev pub thumb_as : code.Option Thumb → Option Thumb
thumb_as code.None = none
thumb_as (code.Some x) = some x

abbrev pub found_as : code.Option Resting → Option Resting
found_as code.None = none
found_as (code.Some x) = some x

abbrev pub named_as : code.Option Machine → Option Machine
named_as code.None = none
named_as (code.Some x) = some x
