-- Document 02, 10/12, for rows of numbers that a C host lends: calls one after another, and what one keyboard sees of them. The proofs are
-- in proofs/KeyboardsRuns.antt.
use Rattle.std.specs.Prelude.{ℕ, ◌<◌, true, List, [], ◌∷◌, ◌++◌, map, ◌↔◌, ◌≡◌, eqb}
use Rattle.std.proofs.Math.Option.{Option, none, some}
use Rattle.std.proofs.Math.ListN.{get_elem?}
use Rattle.choice.specs.Choice.{if◌then◌orelse◌}
use Rattle.rules.specs.Numbers.{settings_of}
use Rattle.rules.specs.Pairs.{Lent, lent_good}
use Rattle.rules.specs.States.{later, fresh, opening}
use Rattle.rules.specs.Refusals.{NotAllowed, AboveLargest}
use Rattle.rules.specs.Distance.{asking}
use Rattle.rules.specs.ZeroDelay.{shown}
use Rattle.rules.specs.Sequences.{state, line, accepted_events}
use Rattle.rules.specs.MovedClock.{moved_events, Stays, AllStay, last_stamp}
use Rattle.rules.specs.Demand3.{Demand3}
use Rattle.rules.specs.declared.Stamp.{Stamp}
use Rattle.rules.specs.declared.Settings.{Settings}
use Rattle.rules.specs.declared.Event.{Event}
use Rattle.machine_numbers.specs.Fields.{named}
use Rattle.machine_numbers.specs.declared.MachineNumbers.{MachineNumbers}
use Rattle.keyboard.specs.Keyboard.{open_numbers, answered_numbers, asked_numbers}
use Rattle.keyboard.specs.KeyboardFacts.{KeyboardCalls, KeyboardRun, last_numbers, answers}
use Rattle.keyboard.specs.HostScreen.{host_screen, host_line}
use Rattle.keyboard.specs.MovedKeyboard.{KeyboardMoved}
use Rattle.keyboard.specs.declared.OpenAnswer.{OpenAnswer}
use Rattle.keyboard.specs.declared.StepAnswer.{StepAnswer}
use Rattle.row.specs.RowRuns.{RowEvent, events_of}
use Rattle.keyboard_row.specs.declared.RowStepAnswer.{RowStepAnswer}
use Rattle.keyboard_row.specs.Keyboards.{RowNumbers, row_step_numbers, row_distance_numbers}
use Rattle.keyboard_row.specs.KeyboardsFacts.{FoundNumbers}

-- Calls of `trabeculon_row_step`, with one list, T_s and N lent to all: what each tells and the row that it leaves, by the contract of
-- that function in its own words. They are seen from keyboard k: each gets its numbers as the call before left them. For the rest
-- the host may do with its row between two calls what it likes: put other numbers in another place, or lend a longer row.
pub data RowCalls (g : Lent) (k : ℕ) : MachineNumbers → List RowEvent → List RowNumbers → Type 0 where
  no_more : {f : MachineNumbers} → RowCalls g k f [] []
  call : {f after : MachineNumbers} {row : List MachineNumbers} {x : RowEvent} {r : RowNumbers} {xs : List RowEvent} {rs : List RowNumbers}
      → FoundNumbers row k f
      → r ≡ row_step_numbers g row x.board x.event
      → FoundNumbers r.row k after
      → RowCalls g k after xs rs
      → RowCalls g k f (x ∷ xs) (r ∷ rs)

-- what a host has that does nothing to its row but call: what each call tells, and the row, which the next call gets
abbrev pub row_answers : Lent → List MachineNumbers → List RowEvent → List RowNumbers
row_answers g row [] = []
row_answers g row (x ∷ xs) =
    row_step_numbers g row x.board x.event ∷ row_answers g (row_step_numbers g row x.board x.event).row xs

-- these are such calls, seen from every keyboard of the row
abbrev pub RowHandedOn : Type 0
RowHandedOn =
    (g : Lent) (k : ℕ) (row : List MachineNumbers) (f : MachineNumbers) (xs : List RowEvent) → FoundNumbers row k f
    → RowCalls g k f xs (row_answers g row xs)

-- what a keyboard gets of a call: what is told, and its numbers in the row
abbrev pub own_answer : RowStepAnswer → Option MachineNumbers → List StepAnswer
own_answer r none = []
own_answer r (some f) =
    record {
      machine = f;
      number = r.number;
      items = r.items;
      first = r.first;
      second = r.second;
      backspaces = r.backspaces;
      sent_first = r.sent_first;
      sent_second = r.sent_second;
      sent_third = r.sent_third;
    }
    ∷ []

-- what keyboard k gets, an entry for each of its calls
abbrev pub answers_of : ℕ → List RowEvent → List RowNumbers → List StepAnswer
answers_of k [] rs = []
answers_of k (x ∷ xs) [] = []
answers_of k (x ∷ xs) (r ∷ rs) = (if eqb x.board k then own_answer r.told (get_elem? r.row k) orelse []) ++ answers_of k xs rs

-- The bridge: calls at a row are, for keyboard k, calls of `trabeculon_step` with its own events, each with the machine that the one
-- before gave back. So all that is proved of those holds at a row.
abbrev pub OwnCalls : Type 0
OwnCalls =
    (g : Lent) (k : ℕ) (f : MachineNumbers) (xs : List RowEvent) (rs : List RowNumbers) → RowCalls g k f xs rs
    → KeyboardCalls g f (events_of k xs) (answers_of k xs rs)

-- Two hosts, keyboard k of the one's row and keyboard j of the other's: at each call at it the same number, items, words, sendings and
-- numbers afterwards; and where the last ones stand in a row, the same distances.
pub record SameNumbers (g : Lent) (k j : ℕ) (f : MachineNumbers) (xs ys : List RowEvent) (rs qs : List RowNumbers) : Type 0 where
  pub same_answers : answers_of k xs rs ≡ answers_of j ys qs
  pub same_machine : last_numbers f (answers_of k xs rs) ≡ last_numbers f (answers_of j ys qs)
  pub same_distance : (row other : List MachineNumbers) (now : Stamp) → FoundNumbers row k (last_numbers f (answers_of k xs rs))
      → FoundNumbers other j (last_numbers f (answers_of j ys qs))
      → row_distance_numbers g row k now ≡ row_distance_numbers g other j now

-- One keyboard gets the same events from the same numbers, whatever they are, whatever the others hold or get, and whatever its place in
-- the two rows is.
abbrev pub IsolatedNumbers : Type 0
IsolatedNumbers =
    (g : Lent) (k j : ℕ) (f : MachineNumbers) (xs ys : List RowEvent) (rs qs : List RowNumbers)
    → RowCalls g k f xs rs → RowCalls g j f ys qs → events_of k xs ≡ events_of j ys
    → SameNumbers g k j f xs ys rs qs

-- Demand 3 for this keyboard's events. `trabeculon_open` gave its machine for settings s, by its contract, and it got calls at the row
-- alone. What it gets is what document 01 answers its own events from a fresh state; its host's line and screen are the committed line
-- and what is shown; and of its own events demand 3 holds.
pub record OpenedInRow (g : Lent) (k : ℕ) (s : Settings) (first : OpenAnswer) (xs : List RowEvent) (rs : List RowNumbers) : Type 0 where
  pub is_run : KeyboardRun g s first (events_of k xs) (answers_of k xs rs)
  pub answers_are : answers_of k xs rs ≡ map answered_numbers (answers g (fresh s) (events_of k xs))
  pub names_last : named (last_numbers first.machine (answers_of k xs rs)) ≡ some (state g s (events_of k xs))
  pub line_is : host_line (answers_of k xs rs) ≡ line g s (events_of k xs)
  pub screen_is : host_screen (answers_of k xs rs) ≡ line g s (events_of k xs) ++ shown (state g s (events_of k xs)).resting
  pub demand_3_holds : Demand3 g s (events_of k xs)
  -- what it answers when asked, in any row in which its numbers stand as the last call left them
  pub same_asked : (row : List MachineNumbers) (now : Stamp) → FoundNumbers row k (last_numbers first.machine (answers_of k xs rs))
      → row_distance_numbers g row k now ≡ asked_numbers (asking g (state g s (events_of k xs)) now)
  -- Stamps of different keyboards are never compared: its next event, that no earlier check refuses, is refused 5 exactly when its stamp
  -- is before that of the last event which was accepted at this keyboard.
  pub own_last_stamp : lent_good g ≡ true → (row : List MachineNumbers) (e : Event)
      → FoundNumbers row k (last_numbers first.machine (answers_of k xs rs))
      → (row_step_numbers g row k e).told.number ≡ 5
      ↔ ((¬ NotAllowed e) × (¬ AboveLargest e) × (e.stamp.0 < (last_stamp (accepted_events g s (events_of k xs))).0))

abbrev pub OpenedInRowStatement : Type 0
OpenedInRowStatement =
    (g : Lent) (k : ℕ) (s : Settings) (first : OpenAnswer) (xs : List RowEvent) (rs : List RowNumbers)
    → first ≡ open_numbers (opening (settings_of s.t s.j s.l s.solo)) → first.number ≡ 0
    → RowCalls g k first.machine xs rs
    → OpenedInRow g k s first xs rs

-- 8/12 of one keyboard's clock: d is added to every stamp of its own events, and the other keyboards, whose clocks are others, hold and
-- get what they will. At each of its calls the same numbers, the machine's stamps moved, and asked at a stamp that moves too the same
-- distance.
pub record MovedInRow (g : Lent) (d k j : ℕ) (s : Settings) (f : MachineNumbers) (xs ys : List RowEvent)
    (rs qs : List RowNumbers) : Type 0 where
  pub own_moved : KeyboardMoved g d s (events_of k xs) (answers_of k xs rs) (answers_of j ys qs)
      (last_numbers f (answers_of k xs rs)) (last_numbers f (answers_of j ys qs))
  pub same_distance : (row other : List MachineNumbers) (now : Stamp) → Stays d now
      → FoundNumbers row k (last_numbers f (answers_of k xs rs))
      → FoundNumbers other j (last_numbers f (answers_of j ys qs))
      → row_distance_numbers g other j (later now d) ≡ row_distance_numbers g row k now

-- Two hosts that opened with the same settings, keyboard k of the one's row and keyboard j of the other's.
abbrev pub MovedInRowStatement : Type 0
MovedInRowStatement =
    (g : Lent) (d k j : ℕ) (s : Settings) (first : OpenAnswer) (xs ys : List RowEvent) (rs qs : List RowNumbers)
    → first ≡ open_numbers (opening (settings_of s.t s.j s.l s.solo)) → first.number ≡ 0
    → RowCalls g k first.machine xs rs → RowCalls g j first.machine ys qs
    → events_of j ys ≡ moved_events d (events_of k xs) → AllStay d (events_of k xs)
    → MovedInRow g d k j s first.machine xs ys rs qs
