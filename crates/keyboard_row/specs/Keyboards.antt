-- Document 02, 10/12, as a C host has it: an event at a row of keyboards, and asking one of them for the distance, where the machines lie
-- side by side as numbers. A keyboard's number is its place in the row, from 0. g is what is lent (9/12); it serves the row.
use Rattle.std.specs.Prelude.{ℕ, List, leb, pos, length, set}
use Rattle.std.proofs.Math.Option.{Option, none, some}
use Rattle.std.proofs.Math.ListN.{get_elem?}
use Rattle.choice.specs.Choice.{if◌then◌orelse◌}
use Rattle.rules.specs.Pairs.{Lent}
use Rattle.rules.specs.declared.Stamp.{Stamp}
use Rattle.rules.specs.declared.Event.{Event}
use Rattle.machine_numbers.specs.declared.MachineNumbers.{MachineNumbers}
use Rattle.keyboard.specs.Keyboard.{step_numbers, distance_numbers}
use Rattle.keyboard.specs.declared.StepAnswer.{StepAnswer}
use Rattle.keyboard.specs.declared.DistanceAnswer.{DistanceAnswer}
use Rattle.row.specs.Row.{most_keyboards}
use Rattle.keyboard_row.specs.declared.RowStepAnswer.{RowStepAnswer}

-- the numbers of keyboard k of a row; none where the row is above 16 or k is past the row
unfoldable pub keyboard_numbers : List MachineNumbers → ℕ → Option MachineNumbers
keyboard_numbers row k = if leb (length row) most_keyboards then get_elem? row k orelse none

-- One event.

-- What an event at a row gives back: what is told, and the row.
pub record RowNumbers : Type 0 where
  pub told : RowStepAnswer
  pub row : List MachineNumbers

abbrev pub row_numbers : RowStepAnswer → List MachineNumbers → RowNumbers
row_numbers r row = record { told = r; row = row }

-- what one keyboard answers, without its machine
abbrev pub told_of : StepAnswer → RowStepAnswer
told_of a =
    record {
      number = a.number;
      items = a.items;
      first = a.first;
      second = a.second;
      backspaces = a.backspaces;
      sent_first = a.sent_first;
      sent_second = a.sent_second;
      sent_third = a.sent_third;
    }

-- refused: nothing committed, nothing sent
abbrev pub refused_told : ℕ → RowStepAnswer
refused_told n =
    record {
      number = n;
      items = 0;
      first = 0;
      second = 0;
      backspaces = 0;
      sent_first = 0;
      sent_second = 0;
      sent_third = 0;
    }

abbrev pub no_keyboard : RowStepAnswer
no_keyboard = refused_told 13

-- 13: the row as given
abbrev pub refused_13 : List MachineNumbers → RowNumbers
refused_13 row = row_numbers no_keyboard row

-- the keyboard's own answer, and the row with its machine in its place
abbrev pub answered_at : List MachineNumbers → ℕ → StepAnswer → RowNumbers
answered_at row k a = row_numbers (told_of a) (set row k a.machine)

abbrev pub row_step_found : Lent → List MachineNumbers → ℕ → Event → Option MachineNumbers → RowNumbers
row_step_found g row k e none = refused_13 row
row_step_found g row k e (some f) = answered_at row k (step_numbers g f e)

-- 13 first, before 12 too; then the event at keyboard k, alone
unfoldable pub row_step_numbers : Lent → List MachineNumbers → ℕ → Event → RowNumbers
row_step_numbers g row k e = row_step_found g row k e (keyboard_numbers row k)

-- Asking.

-- 13: no distance
abbrev pub not_asked : DistanceAnswer
not_asked = record { number = 13; deadline = 0; milliseconds = pos 0 }

abbrev pub row_distance_found : Lent → Stamp → Option MachineNumbers → DistanceAnswer
row_distance_found g now none = not_asked
row_distance_found g now (some f) = distance_numbers g f now

-- 13 first; then keyboard k is asked
unfoldable pub row_distance_numbers : Lent → List MachineNumbers → ℕ → Stamp → DistanceAnswer
row_distance_numbers g row k now = row_distance_found g now (keyboard_numbers row k)
