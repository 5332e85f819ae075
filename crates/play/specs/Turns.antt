-- What the program's functions leave.
use Rattle.std.specs.Prelude.{ℕ, List, ◌≢◌, ◌≡◌, Result, Ok, Err}
use Rattle.std.proofs.Math.Option.{none}
use Rattle.std.specs.declared.ops.ControlFlow.{ControlFlow}
use Rattle.std.specs.declared.ops.ControlFlow.TheVariants.{Continue, Break}
use Rattle.keylog.specs.Pieces as pieces
use Rattle.log_reader.specs.Views.{reader_of}
use Rattle.log_reader.specs.declared.reader.Reader.{Reader}

-- A turn whose piece led to a reader, with what the list's run holds then: it goes on with that reader while nothing is told, and stops
-- once something is. Where standard output could not be written there is no next turn.
abbrev pub Turns : {E : Type 0} → List ℕ → pieces.Reader → Result (ControlFlow Reader Reader) E → Type 0
Turns list r (Ok (Continue next)) = (reader_of list next ≡ r) × (r.told ≡ none)
Turns list r (Ok (Break next)) = (reader_of list next ≡ r) × (r.told ≢ none)
Turns list r (Err failure) = Unit {0}
