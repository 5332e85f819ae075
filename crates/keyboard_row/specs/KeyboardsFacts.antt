-- One call at a row of keyboards, as a C host has it: exactly when it is refused 13; that it is else what the keyboard's own numbers give
-- alone; what it leaves as it was; and that it is the call at the row of machines that the numbers name. The proofs are in
-- proofs/KeyboardsFacts.antt.
use Rattle.std.specs.Prelude.{ℕ, ◌≤◌, List, map, ◌↔◌, ◌≢◌, ◌≡◌, length}
use Rattle.std.proofs.Math.Option.{none, some}
use Rattle.std.proofs.Math.ListN.{get_elem?}
use Rattle.rules.specs.Pairs.{Lent}
use Rattle.rules.specs.Refusals.{NotGood}
use Rattle.rules.specs.declared.Stamp.{Stamp}
use Rattle.rules.specs.declared.Machine.{Machine}
use Rattle.rules.specs.declared.Event.{Event}
use Rattle.preview.specs.Views.{packed_sendings}
use Rattle.machine_numbers.specs.Fields.{named}
use Rattle.machine_numbers.specs.Formed.{machine_at}
use Rattle.machine_numbers.specs.declared.MachineNumbers.{MachineNumbers}
use Rattle.keyboard.specs.Keyboard.{words_of, no_machine_number, step_numbers, asked_numbers, distance_numbers}
use Rattle.keyboard.specs.DistanceNumbers.{tick_at, DistanceNumbers}
use Rattle.row.specs.Row.{most_keyboards, RowAnswer, step_at, asking_at}
use Rattle.row.specs.RowFacts.{NoKeyboard}
use Rattle.keyboard_row.specs.declared.RowStepAnswer.{RowStepAnswer}
use Rattle.keyboard_row.specs.Keyboards.{row_numbers, refused_told, refused_13, answered_at, row_step_numbers, not_asked}
use Rattle.keyboard_row.specs.Keyboards.{row_distance_numbers}

-- keyboard k is found in a row, with the numbers f
pub record FoundNumbers (row : List MachineNumbers) (k : ℕ) (f : MachineNumbers) : Type 0 where
  pub not_above_16 : length row ≤ most_keyboards
  pub stands : get_elem? row k ≡ some f

-- What `trabeculon_step` does to a keyboard's numbers alone is what is told, and what is done to them in the row.
pub record AsAlone (g : Lent) (row : List MachineNumbers) (k : ℕ) (e : Event) (f : MachineNumbers) : Type 0 where
  pub same_answer : row_step_numbers g row k e ≡ answered_at row k (step_numbers g f e)
  pub same_machine : FoundNumbers (row_step_numbers g row k e).row k (step_numbers g f e).machine

-- Of everything lent, every row of numbers, whether they name machines or not, every keyboard number and event.
pub record RowStepFacts (g : Lent) (row : List MachineNumbers) (k : ℕ) (e : Event) : Type 0 where
  -- 13 is checked first, whatever is lent and whatever the numbers and the event are, and changes nothing
  pub gives_13 : (row_step_numbers g row k e).told.number ≡ 13 ↔ NoKeyboard (length row) k
  pub changes_nothing : NoKeyboard (length row) k → row_step_numbers g row k e ≡ refused_13 row
  -- then 12
  pub gives_12 : (row_step_numbers g row k e).told.number ≡ 12 ↔ ((¬ NoKeyboard (length row) k) × NotGood g)
  -- then what the keyboard's own numbers give; 2, with 12 before it, where they name no machine
  pub as_alone : (f : MachineNumbers) → FoundNumbers row k f → AsAlone g row k e f
  pub no_machine : (f : MachineNumbers) → FoundNumbers row k f → named f ≡ none
      → row_step_numbers g row k e ≡ row_numbers (refused_told (no_machine_number g)) row
  -- a refused event, whatever its number, commits nothing, sends nothing, and leaves every number of the row as given
  pub refused : (row_step_numbers g row k e).told.number ≢ 0
      → row_step_numbers g row k e ≡ row_numbers (refused_told (row_step_numbers g row k e).told.number) row
  -- no event takes a place away or adds one, or touches a number of another keyboard
  pub same_length : length (row_step_numbers g row k e).row ≡ length row
  pub others_stay : (j : ℕ) → j ≢ k → get_elem? (row_step_numbers g row k e).row j ≡ get_elem? row j

-- The same of asking, which leaves the row alone.
pub record RowDistanceFacts (g : Lent) (row : List MachineNumbers) (k : ℕ) (now : Stamp) : Type 0 where
  pub gives_13 : (row_distance_numbers g row k now).number ≡ 13 ↔ NoKeyboard (length row) k
  pub no_distance : NoKeyboard (length row) k → row_distance_numbers g row k now ≡ not_asked
  pub gives_12 : (row_distance_numbers g row k now).number ≡ 12 ↔ ((¬ NoKeyboard (length row) k) × NotGood g)
  pub as_alone : (f : MachineNumbers) → FoundNumbers row k f → row_distance_numbers g row k now ≡ distance_numbers g f now
  -- where it answers, the laws of the distance hold of the keyboard's own numbers
  pub distance_laws : (f : MachineNumbers) (x : Machine) → FoundNumbers row k f → named f ≡ some x
      → (row_distance_numbers g row k now).number ≡ 0
      → DistanceNumbers g f x now
  -- asking is refused as a tick at that keyboard with that stamp is, 13 and 12 too
  pub same_refusals : (row_distance_numbers g row k now).number ≡ (row_step_numbers g row k (tick_at now)).told.number

-- Rows of numbers and rows of machines.

-- A row of machines beside a row of numbers: as many, and at keyboard k the machine that the numbers there name. What the other
-- places hold is free, and their numbers need not name any.
pub record NamedAt (k : ℕ) (row : List MachineNumbers) (machines : List Machine) : Type 0 where
  pub as_many : length machines ≡ length row
  pub names : (f : MachineNumbers) (x : Machine) → get_elem? row k ≡ some f → get_elem? machines k ≡ some x → named f ≡ some x

-- what an event at a row of machines tells, as numbers
abbrev pub told_as_numbers : RowAnswer → RowStepAnswer
told_as_numbers a =
    record {
      number = a.number;
      items = (words_of a.items).items;
      first = (words_of a.items).first;
      second = (words_of a.items).second;
      backspaces = (packed_sendings a.sendings).backspaces;
      sent_first = (packed_sendings a.sendings).signs.first;
      sent_second = (packed_sendings a.sendings).signs.second;
      sent_third = (packed_sendings a.sendings).signs.third;
    }

-- A call at a row of numbers is the call at a row of machines that it names at the keyboard in question, 13 too: what is told, what is
-- answered when asked, and the numbers afterwards, which name the machines afterwards, here and wherever they did.
pub record AsMachines (g : Lent) (row : List MachineNumbers) (machines : List Machine) (k : ℕ) (e : Event) : Type 0 where
  pub told_is : (row_step_numbers g row k e).told ≡ told_as_numbers (step_at g machines k e)
  pub asked_is : (now : Stamp) → row_distance_numbers g row k now ≡ asked_numbers (asking_at g machines k now)
  pub named_on : (j : ℕ) → NamedAt j row machines → NamedAt j (row_step_numbers g row k e).row (step_at g machines k e).row

abbrev pub AsMachinesStatement : Type 0
AsMachinesStatement =
    (g : Lent) (row : List MachineNumbers) (machines : List Machine) (k : ℕ) (e : Event) → NamedAt k row machines
    → AsMachines g row machines k e

-- Every row of numbers has a row of machines that it names wherever its numbers name any.
abbrev pub machines_of : List MachineNumbers → List Machine
machines_of row = map machine_at row

abbrev pub HasMachines : Type 0
HasMachines =
    (row : List MachineNumbers) (k : ℕ) (f : MachineNumbers) (x : Machine) → get_elem? row k ≡ some f → named f ≡ some x
    → NamedAt k row (machines_of row)
