-- Document 02, 10/12: sequences of events at a row, and what one keyboard gets of them.
use Rattle.std.specs.Prelude.{ℕ, List, [], ◌∷◌, ◌++◌, eqb}
use Rattle.choice.specs.Choice.{if◌then◌orelse◌}
use Rattle.rules.specs.Pairs.{Lent}
use Rattle.rules.specs.declared.Machine.{Machine}
use Rattle.rules.specs.declared.Event.{Event}
use Rattle.row.specs.Row.{RowAnswer, step_at}

-- an event, and the keyboard that it names
pub record RowEvent : Type 0 where
  pub board : ℕ
  pub event : Event

abbrev pub row_step : Lent → List Machine → RowEvent → RowAnswer
row_step g row x = step_at g row x.board x.event

-- this keyboard's events
abbrev pub events_of : ℕ → List RowEvent → List Event
events_of k [] = []
events_of k (x ∷ xs) = (if eqb x.board k then (x.event ∷ []) orelse []) ++ events_of k xs
