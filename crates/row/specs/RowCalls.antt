-- Document 02, 10/12: what a caller of `row::step_at` and `row::distance_at` has who lends one list, T_s and N at every call (g). Calls are
-- said by the contracts of the two functions, in their own words, and those hold at every input. The record at the end is proved in
-- proofs/RowCalls.antt: isolation, demand 3, the last stamp and the moved clock, each of what the functions answer and leave.
use Rattle.std.specs.Prelude as code
use Rattle.std.specs.Prelude.{ℕ, ℤ, ◌<◌, true, List, [], ◌∷◌, ◌++◌, map, ◌↔◌, ◌≡◌, eqb, Result, Ok, Err}
use Rattle.std.proofs.Math.Option.{Option, none, some}
use Rattle.std.proofs.Math.ListN.{get_elem?}
use Rattle.choice.specs.Choice.{if◌then◌orelse◌}
use Rattle.rules.specs.Pairs.{Lent, lent_good}
use Rattle.rules.specs.States.{later, opening, opened}
use Rattle.rules.specs.Refusals.{NotAllowed, AboveLargest}
use Rattle.rules.specs.Distance.{asking}
use Rattle.rules.specs.Sequences.{state, accepted_events}
use Rattle.rules.specs.MovedClock.{moved_events, moved_state, Stays, AllStay, last_stamp}
use Rattle.rules.specs.declared.Stamp.{Stamp}
use Rattle.rules.specs.declared.Settings.{Settings}
use Rattle.rules.specs.declared.Machine.{Machine}
use Rattle.rules.specs.declared.Event.{Event}
use Rattle.rules.specs.declared.Refusal.{Refusal}
use Rattle.deadlines.specs.Views.{asked}
use Rattle.engine.specs.Calls.{Given, Calls, machine_after, OfTheCode}
use Rattle.row.specs.Row.{step_at, asking_at}
use Rattle.row.specs.Views.{TellsAt, told_number}
use Rattle.row.specs.RowFacts.{Found}
use Rattle.row.specs.RowRuns.{RowEvent, row_step, events_of}
use Rattle.row.specs.declared.Told.{Told}

-- What a call of `step_at` answers, and the row that it leaves: by the contract of that function.
pub record Called : Type 0 where
  pub told : Result Told Refusal
  pub row : List Machine

abbrev pub CallsAt : Lent → List Machine → RowEvent → Called → Type 0
CallsAt g row x c = TellsAt c.told (row_step g row x) × (c.row ≡ (row_step g row x).row)

-- Calls of `step_at` seen from keyboard k: each gets its machine as the call before left it. For the rest the caller may do with the
-- row between two calls what it likes: put another machine in another place, or lend a longer row. (So a call at another keyboard may
-- stand among them or not.)
pub data RowCalls (g : Lent) (k : ℕ) : Machine → List RowEvent → List Called → Type 0 where
  no_more : {m : Machine} → RowCalls g k m [] []
  call : {m after : Machine} {row : List Machine} {x : RowEvent} {c : Called} {xs : List RowEvent} {cs : List Called}
      → Found row k m
      → CallsAt g row x c
      → Found c.row k after
      → RowCalls g k after xs cs
      → RowCalls g k m (x ∷ xs) (c ∷ cs)

-- a caller who does nothing to the row but call: each call gets the row that the one before left
pub data HandedOn (g : Lent) : List Machine → List RowEvent → List Called → Type 0 where
  no_call : {row : List Machine} → HandedOn g row [] []
  handed : {row : List Machine} {x : RowEvent} {c : Called} {xs : List RowEvent} {cs : List Called}
      → CallsAt g row x c
      → HandedOn g c.row xs cs
      → HandedOn g row (x ∷ xs) (c ∷ cs)

-- these are such calls, seen from every keyboard of the row
abbrev pub RowHandedOn : Type 0
RowHandedOn =
    (g : Lent) (k : ℕ) (row : List Machine) (m : Machine) (xs : List RowEvent) (cs : List Called)
    → HandedOn g row xs cs → Found row k m → RowCalls g k m xs cs

-- what a keyboard has of a call: what is told, and with it, where the event is accepted, its machine in the row
abbrev pub own_answer : Result Told Refusal → Machine → Given
own_answer (Ok t) m = Ok (record { items = t.items; sendings = t.sendings; machine = m })
own_answer (Err e) m = Err e

abbrev pub answer_in : Called → Option Machine → List Given
answer_in c none = []
answer_in c (some m) = own_answer c.told m ∷ []

-- what keyboard k has, an entry for each of its calls
abbrev pub answers_of : ℕ → List RowEvent → List Called → List Given
answers_of k [] cs = []
answers_of k (x ∷ xs) [] = []
answers_of k (x ∷ xs) (c ∷ cs) = (if eqb x.board k then answer_in c (get_elem? c.row k) orelse []) ++ answers_of k xs cs

abbrev pub standing : Option Machine → List Machine
standing none = []
standing (some m) = m ∷ []

-- the machines that stand in the row at keyboard k, one behind each of its calls, also where the event was refused
abbrev pub machines_of : ℕ → List RowEvent → List Called → List Machine
machines_of k [] cs = []
machines_of k (x ∷ xs) [] = []
machines_of k (x ∷ xs) (c ∷ cs) = (if eqb x.board k then standing (get_elem? c.row k) orelse []) ++ machines_of k xs cs

abbrev pub last_of : Machine → List Machine → Machine
last_of m [] = m
last_of m (n ∷ ns) = last_of n ns

-- the machine that its last call left in the row, or m
abbrev pub machine_of : ℕ → Machine → List RowEvent → List Called → Machine
machine_of k m xs cs = last_of m (machines_of k xs cs)

-- the machines after calls of `engine::step`, one for each
abbrev pub machines_after : Machine → List Given → List Machine
machines_after m [] = []
machines_after m (r ∷ rs) = machine_after m r ∷ machines_after (machine_after m r) rs

-- Calls at a row are, for keyboard k, calls of `engine::step`, and what stands in the row behind each is the machine after it.
pub record AsItsOwn (g : Lent) (k : ℕ) (m : Machine) (xs : List RowEvent) (cs : List Called) : Type 0 where
  pub calls : Calls g m (events_of k xs) (answers_of k xs cs)
  pub machines : machines_of k xs cs ≡ machines_after m (answers_of k xs cs)

-- The bridge: calls at a row are, for keyboard k, calls of `engine::step` with its own events, each with the machine that the one before
-- gave back. So all that is proved of those holds at a row.
abbrev pub OwnCalls : Type 0
OwnCalls =
    (g : Lent) (k : ℕ) (m : Machine) (xs : List RowEvent) (cs : List Called) → RowCalls g k m xs cs
    → AsItsOwn g k m xs cs

-- what `distance_at` answers
abbrev pub Distance : Type 0
Distance = Result (code.Option ℤ) Refusal

-- An answer of `distance_at`, by its contract, at some row in which keyboard k has the machine m.
pub record AsksAt (g : Lent) (k : ℕ) (m : Machine) (now : Stamp) (r : Distance) : Type 0 where
  pub row : List Machine
  pub found : Found row k m
  pub asks : asked r ≡ asking_at g row k now

-- Two callers, keyboard k of the one's row and keyboard j of the other's: at each call at it the same number, items, sendings and machine
-- afterwards, and then the same distances.
pub record SameOfTheCode (g : Lent) (k j : ℕ) (m : Machine) (xs ys : List RowEvent) (cs ds : List Called) : Type 0 where
  pub same_answers : answers_of k xs cs ≡ answers_of j ys ds
  pub same_machines : machines_of k xs cs ≡ machines_of j ys ds
  pub same_asked : (now : Stamp) (r o : Distance) → AsksAt g k (machine_of k m xs cs) now r → AsksAt g j (machine_of j m ys ds) now o
      → asked r ≡ asked o

-- One keyboard gets the same events from the same machine, whatever it is, whatever the others hold or get, and whatever its place in the
-- two rows is.
abbrev pub IsolatedCalls : Type 0
IsolatedCalls =
    (g : Lent) (k j : ℕ) (m : Machine) (xs ys : List RowEvent) (cs ds : List Called)
    → RowCalls g k m xs cs → RowCalls g j m ys ds → events_of k xs ≡ events_of j ys
    → SameOfTheCode g k j m xs ys cs ds

-- Demand 3 for this keyboard's events. `Machine::open` gave its machine for settings s, by the contract `opened r ≡ opening settings`, and
-- it got calls at a row alone.
pub record OfTheRow (g : Lent) (k : ℕ) (s : Settings) (m : Machine) (xs : List RowEvent) (cs : List Called) : Type 1 where
  -- the machine after them and every reading of its calls are those of its own events from a fresh state, and of those demand 3 holds
  pub of_the_code : OfTheCode g s m (events_of k xs) (answers_of k xs cs)
  -- so is the machine that stands in the row behind them
  pub left_in_row : machine_of k m xs cs ≡ state g s (events_of k xs)
  -- and what it answers when asked
  pub same_asked : (now : Stamp) (r : Distance) → AsksAt g k (machine_of k m xs cs) now r
      → asked r ≡ asking g (state g s (events_of k xs)) now
  -- Stamps of different keyboards are never compared: its next event, that no earlier check refuses, is refused 5 exactly when its stamp
  -- is before that of the last event which was accepted at this keyboard.
  pub own_last_stamp : lent_good g ≡ true → (row : List Machine) (e : Event) (t : Result Told Refusal) → Found row k (machine_of k m xs cs)
      → TellsAt t (step_at g row k e)
      → told_number t ≡ 5
      ↔ ((¬ NotAllowed e) × (¬ AboveLargest e) × (e.stamp.0 < (last_stamp (accepted_events g s (events_of k xs))).0))

abbrev pub OfTheRowStatement : Type 1
OfTheRowStatement =
    (g : Lent) (k : ℕ) (s : Settings) (m : Machine) (xs : List RowEvent) (cs : List Called)
    → opened (Ok m) ≡ opening s → RowCalls g k m xs cs
    → OfTheRow g k s m xs cs

-- what an answer tells apart from the machine
abbrev pub told_of : Given → Result Told Refusal
told_of (Ok r) = Ok (record { items = r.items; sendings = r.sendings })
told_of (Err e) = Err e

-- 8/12 of one keyboard's clock: d is added to every stamp of its own events, and the other keyboards, whose clocks are others, hold and
-- get what they will.
pub record ClockMovedAt (g : Lent) (d k j : ℕ) (s : Settings) (m : Machine) (xs ys : List RowEvent) (cs ds : List Called) : Type 0 where
  pub same_told : map told_of (answers_of j ys ds) ≡ map told_of (answers_of k xs cs)
  pub machine_moved : machine_of j m ys ds ≡ moved_state d (accepted_events g s (events_of k xs)) (machine_of k m xs cs)
  pub same_asked : (now : Stamp) → Stays d now → (r o : Distance)
      → AsksAt g k (machine_of k m xs cs) now r → AsksAt g j (machine_of j m ys ds) (later now d) o
      → asked o ≡ asked r

abbrev pub ClockMovedAtStatement : Type 0
ClockMovedAtStatement =
    (g : Lent) (d k j : ℕ) (s : Settings) (m : Machine) (xs ys : List RowEvent) (cs ds : List Called)
    → opened (Ok m) ≡ opening s → RowCalls g k m xs cs → RowCalls g j m ys ds
    → events_of j ys ≡ moved_events d (events_of k xs) → AllStay d (events_of k xs)
    → ClockMovedAt g d k j s m xs ys cs ds

-- what 10/12 promises a caller, of every row, every sequence of calls and every keyboard of it
pub record RowOfTheCode : Type 1 where
  pub row_handed_on : RowHandedOn
  pub own_calls : OwnCalls
  pub isolated_calls : IsolatedCalls
  pub of_the_row : OfTheRowStatement
  pub clock_moved_at : ClockMovedAtStatement
