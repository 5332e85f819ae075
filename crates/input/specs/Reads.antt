-- What holds of the answers about an open input. Which bytes were read, no contract can say.
use Rattle.std.specs.Prelude.{ℕ, ◌≤◌, List, length, Option, Some, None, Result, Ok, Err}
use Rattle.std.specs.Borrow.{Bor}

-- the bytes of one read are at least one, and lie within the buffer
abbrev pub Taken : {E : Type 0} → ℕ → Result (Option ℕ) E → Type 0
Taken room (Ok (Some n)) = (1 ≤ n) × (n ≤ room)
Taken room (Ok None) = Unit {0}
Taken room (Err error) = Unit {0}

-- all that was read lies within the buffer
abbrev pub Within : {E : Type 0} → ℕ → Result (Option (Bor (List ℕ))) E → Type 0
Within room (Ok (Some bytes)) = length bytes.now ≤ room
Within room (Ok None) = Unit {0}
Within room (Err error) = Unit {0}
