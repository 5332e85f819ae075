-- Document 02, 10/12, "Sixteen keyboards at one console": one event at a row of keyboard states, each with its own settings and its own
-- last stamp. A keyboard's number is its place in the row, from 0. One list of pairs, T_s and N serve the row: g.
use Rattle.std.specs.Prelude.{ℕ, List, [], leb, length, set}
use Rattle.std.proofs.Math.Option.{Option, none, some}
use Rattle.std.proofs.Math.ListN.{get_elem?}
use Rattle.choice.specs.Choice.{if◌then◌orelse◌}
use Rattle.rules.specs.Pairs.{Lent}
use Rattle.rules.specs.ZeroDelay.{Sending}
use Rattle.rules.specs.GivenBack.{Answer, step}
use Rattle.rules.specs.Distance.{Asking, not_answered, asking}
use Rattle.rules.specs.declared.Stamp.{Stamp}
use Rattle.rules.specs.declared.Machine.{Machine}
use Rattle.rules.specs.declared.Item.{Item}
use Rattle.rules.specs.declared.Event.{Event}

-- how many keyboards a row has at most
abbrev pub most_keyboards : ℕ
most_keyboards = 16

-- the state of keyboard k of a row; none where the row is above 16 or k is past the row
unfoldable pub keyboard : List Machine → ℕ → Option Machine
keyboard row k = if leb (length row) most_keyboards then get_elem? row k orelse none

-- What an event at a row gives back: the number, the items committed, what is sent, and the row.
pub record RowAnswer : Type 0 where
  pub number : ℕ
  pub items : List Item
  pub sendings : List Sending
  pub row : List Machine

-- 13: nothing committed, nothing sent, the row as given
abbrev pub refused_13 : List Machine → RowAnswer
refused_13 row = record { number = 13; items = []; sendings = []; row = row }

-- the keyboard's own answer, and the row with its state in its place
abbrev pub answered_at : List Machine → ℕ → Answer → RowAnswer
answered_at row k a = record { number = a.number; items = a.items; sendings = a.sendings; row = set row k a.machine }

abbrev pub step_found : Lent → List Machine → ℕ → Event → Option Machine → RowAnswer
step_found g row k e none = refused_13 row
step_found g row k e (some m) = answered_at row k (step g m e)

-- 13 first, before 12 too; then the event at keyboard k, alone
unfoldable pub step_at : Lent → List Machine → ℕ → Event → RowAnswer
step_at g row k e = step_found g row k e (keyboard row k)

abbrev pub asking_found : Lent → Stamp → Option Machine → Asking
asking_found g now none = not_answered 13
asking_found g now (some m) = asking g m now

-- asking keyboard k for the distance to its next deadline: 13 first
unfoldable pub asking_at : Lent → List Machine → ℕ → Stamp → Asking
asking_at g row k now = asking_found g now (keyboard row k)
