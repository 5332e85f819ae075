-- Document 02, 10/12: exactly when an event or an asking at a row is refused 13; that it is else what the keyboard's own state gives
-- alone; and what it leaves as it was. The proofs are in proofs/RowFacts.antt.
use Rattle.std.specs.Prelude.{ℕ, ◌<◌, ◌≤◌, List, [], ◌↔◌, ◌≢◌, ◌⊎◌, ◌≡◌, length}
use Rattle.std.proofs.Math.Option.{some}
use Rattle.std.proofs.Math.ListN.{get_elem?}
use Rattle.rules.specs.Pairs.{Lent}
use Rattle.rules.specs.GivenBack.{step}
use Rattle.rules.specs.Refusals.{NotGood}
use Rattle.rules.specs.Distance.{not_answered, asking}
use Rattle.rules.specs.DistanceFacts.{DistanceFacts}
use Rattle.rules.specs.Demand3.{tick}
use Rattle.rules.specs.declared.Stamp.{Stamp}
use Rattle.rules.specs.declared.Machine.{Machine}
use Rattle.rules.specs.declared.Event.{Event}
use Rattle.row.specs.Row.{most_keyboards, RowAnswer, refused_13, step_at, asking_at}

-- 13: a row above 16, or a keyboard number k past a row of n
abbrev pub NoKeyboard : ℕ → ℕ → Type 0
NoKeyboard n k = (most_keyboards < n) ⊎ (n ≤ k)

-- keyboard k is found in a row, with the state m
pub record Found (row : List Machine) (k : ℕ) (m : Machine) : Type 0 where
  pub not_above_16 : length row ≤ most_keyboards
  pub stands : get_elem? row k ≡ some m

-- What the first part does to a keyboard's state alone is what is answered, and what is done to it in the row.
pub record ItsOwn (g : Lent) (row : List Machine) (k : ℕ) (e : Event) : Type 0 where
  pub machine : Machine
  pub found : Found row k machine
  pub same_number : (step_at g row k e).number ≡ (step g machine e).number
  pub same_items : (step_at g row k e).items ≡ (step g machine e).items
  pub same_sendings : (step_at g row k e).sendings ≡ (step g machine e).sendings
  pub same_machine : get_elem? (step_at g row k e).row k ≡ some (step g machine e).machine

-- nothing committed, nothing sent, the row as given
pub record RowAsGiven (row : List Machine) (a : RowAnswer) : Type 0 where
  pub no_items : a.items ≡ []
  pub no_sendings : a.sendings ≡ []
  pub row_as_given : a.row ≡ row

-- Of everything lent, every row, keyboard number and event.
pub record RowFacts (g : Lent) (row : List Machine) (k : ℕ) (e : Event) : Type 0 where
  -- 13 is checked first, whatever is lent and whatever the event is, and changes nothing
  pub gives_13 : (step_at g row k e).number ≡ 13 ↔ NoKeyboard (length row) k
  pub changes_nothing : NoKeyboard (length row) k → step_at g row k e ≡ refused_13 row
  -- then 12
  pub gives_12 : (step_at g row k e).number ≡ 12 ↔ ((¬ NoKeyboard (length row) k) × NotGood g)
  -- then what the keyboard's own state gives
  pub else_its_own : ¬ NoKeyboard (length row) k → ItsOwn g row k e
  -- a refused event, whatever its number, leaves the row as given
  pub refused : (step_at g row k e).number ≢ 0 → RowAsGiven row (step_at g row k e)
  -- no event takes a place away or adds one, or touches another keyboard's
  pub same_length : length (step_at g row k e).row ≡ length row
  pub others_stay : (j : ℕ) → j ≢ k → get_elem? (step_at g row k e).row j ≡ get_elem? row j

-- The same of an asking, which leaves the row alone. Where it answers, what a host leans on holds of the keyboard's own state.
pub record AskingItsOwn (g : Lent) (row : List Machine) (k : ℕ) (now : Stamp) : Type 0 where
  pub machine : Machine
  pub found : Found row k machine
  pub same_asking : asking_at g row k now ≡ asking g machine now
  pub distance_facts : (asking_at g row k now).number ≡ 0 → DistanceFacts g machine now

pub record RowAskingFacts (g : Lent) (row : List Machine) (k : ℕ) (now : Stamp) : Type 0 where
  pub gives_13 : (asking_at g row k now).number ≡ 13 ↔ NoKeyboard (length row) k
  pub no_distance : NoKeyboard (length row) k → asking_at g row k now ≡ not_answered 13
  pub gives_12 : (asking_at g row k now).number ≡ 12 ↔ ((¬ NoKeyboard (length row) k) × NotGood g)
  pub else_its_own : ¬ NoKeyboard (length row) k → AskingItsOwn g row k now
  -- it is refused as a tick there would be
  pub same_refusals : (asking_at g row k now).number ≡ (step_at g row k (tick now)).number
