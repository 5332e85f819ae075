-- Document 02, 8/12, "Move the clock, keep the text": the same number k is added to every stamp of a sequence of events. (Taking it
-- away again is the same statement, read from right to left.) The proofs are in proofs/MovedClock.antt and LastAccepted.antt.
use Rattle.std.specs.Prelude.{ℕ, ◌+◌, ◌≤◌, ◌<◌, true, List, [], ◌∷◌, map, ◌↔◌, ◌≡◌}
use Rattle.rules.specs.Numbers.{largest_stamp, in_range}
use Rattle.rules.specs.Pairs.{Lent, lent_good}
use Rattle.rules.specs.States.{at, later, fresh}
use Rattle.rules.specs.ZeroDelay.{Sending}
use Rattle.rules.specs.GivenBack.{Answer, step}
use Rattle.rules.specs.Refusals.{NotAllowed, AboveLargest}
use Rattle.rules.specs.Sequences.{along, state, accepted_events}
use Rattle.rules.specs.Distance.{asking}
use Rattle.rules.specs.declared.Stamp.{Stamp}
use Rattle.rules.specs.declared.Settings.{Settings}
use Rattle.rules.specs.declared.Resting.{Resting}
use Rattle.rules.specs.declared.Resting.TheVariants.{S1, S2, S3, S4, S5, S6, S7, S8}
use Rattle.rules.specs.declared.Machine.{Machine}
use Rattle.rules.specs.declared.Item.{Item}
use Rattle.rules.specs.declared.Event.{Event}

-- k is added to the stamp of an event, and of every event of a sequence
abbrev pub moved_event : ℕ → Event → Event
moved_event k e = record { kind = e.kind; key = e.key; stamp = later e.stamp k }

abbrev pub moved_events : ℕ → List Event → List Event
moved_events k es = map (moved_event k) es

-- to every stamp of what rests
abbrev pub moved_resting : ℕ → Resting → Resting
moved_resting k S1 = S1
moved_resting k (S2 M m) = S2 M (later m k)
moved_resting k (S3 O o) = S3 O (later o k)
moved_resting k (S4 M m O o) = S4 M (later m k) O (later o k)
moved_resting k (S5 O o M m) = S5 O (later o k) M (later m k)
moved_resting k (S6 O o M m r) = S6 O (later o k) M (later m k) (later r k)
moved_resting k (S7 M m K j) = S7 M (later m k) K (later j k)
moved_resting k (S8 M m K j r) = S8 M (later m k) K (later j k) (later r k)

-- and to every stamp of a machine, its last one too; settings and held keys stay
abbrev pub moved_machine : ℕ → Machine → Machine
moved_machine k x =
    record { settings = x.settings; resting = moved_resting k x.resting; last = later x.last k; held = x.held }

-- How the move treats the state that a sequence leaves, by its accepted events. A fresh state counts its last stamp as 0: that is
-- a bound which nothing is before, and no moment of the clock. So while nothing was accepted the state is not moved, and 0 is its
-- last stamp before the move and after it. From the first accepted event on every stamp is moved.
abbrev pub moved_state : ℕ → List Event → Machine → Machine
moved_state k [] x = x
moved_state k (e ∷ more) x = moved_machine k x

-- All stamps stay in range: one that was at most the largest stamp is so still. (One that was above it is above it still, so what
-- has it is refused both times. It is enough that all stamps are at most the largest before the move and after it.)
abbrev pub Stays : ℕ → Stamp → Type 0
Stays k t = t.0 ≤ largest_stamp → t.0 + k ≤ largest_stamp

abbrev pub AllStay : ℕ → List Event → Type 0
AllStay k [] = Unit {0}
AllStay k (e ∷ es) = Stays k e.stamp × AllStay k es

-- What an event gives back besides the state.
pub record Told : Type 0 where
  pub number : ℕ
  pub items : List Item
  pub sendings : List Sending

abbrev pub told : Answer → Told
told r = record { number = r.number; items = r.items; sendings = r.sendings }

abbrev pub told_in : Machine → Event → Answer → List Told
told_in x e r = told r ∷ []

-- at each event of a sequence from a fresh state, an entry for each
abbrev pub all_told : Lent → Settings → List Event → List Told
all_told g s es = along g told_in (fresh s) es

-- Of every sequence from a fresh state, refused events among it, with one g lent at every event and asking of both (9/12). (A front
-- of a sequence is a sequence: so the states are compared after each event, and the distances between any two.)
pub record ClockMoved (g : Lent) (k : ℕ) (s : Settings) (es : List Event) : Type 0 where
  -- at each event the same number, items and sendings
  pub same_answers : all_told g s (moved_events k es) ≡ all_told g s es
  -- the same state but for its stamps
  pub states_moved : state g s (moved_events k es) ≡ moved_state k (accepted_events g s es) (state g s es)
  -- asked at a stamp that moves too: the same number and the same signed distance
  pub same_distance : (now : Stamp) → Stays k now → asking g (state g s (moved_events k es)) (later now k) ≡ asking g (state g s es) now

-- the statement
abbrev pub ClockMovedStatement : Type 0
ClockMovedStatement = (g : Lent) (k : ℕ) (s : Settings) (es : List Event) → AllStay k es → ClockMoved g k s es

-- Of every machine, also one that no sequence leaves: with every stamp of it moved, its last one too, each event and each asking
-- is answered as before, and leaves what it left before, moved.
abbrev pub moved_answer : ℕ → Answer → Answer
moved_answer k r =
    record { number = r.number; items = r.items; sendings = r.sendings; machine = moved_machine k r.machine }

pub record MachineMoved (g : Lent) (k : ℕ) (x : Machine) : Type 0 where
  pub step_moved : (e : Event) → Stays k e.stamp → step g (moved_machine k x) (moved_event k e) ≡ moved_answer k (step g x e)
  pub asking_moved : (now : Stamp) → Stays k now → asking g (moved_machine k x) (later now k) ≡ asking g x now

abbrev pub MachineMovedStatement : Type 0
MachineMovedStatement = (g : Lent) (k : ℕ) (x : Machine) → Stays k x.last → MachineMoved g k x

-- What an event's stamp is compared with: the stamp of the last accepted event, or 0 if there is none, which nothing is before.
abbrev pub last_stamp : List Event → Stamp
last_stamp [] = at 0
last_stamp (e ∷ []) = e.stamp
last_stamp (e ∷ (f ∷ es)) = last_stamp (f ∷ es)

-- Of every sequence from a fresh state: the first event that is accepted has no earlier stamp to be compared with, and refusal 5 is
-- kept for every later one.
pub record LastAccepted (g : Lent) (s : Settings) (es : List Event) : Type 0 where
  -- while nothing was accepted the state is the fresh one
  pub still_fresh : accepted_events g s es ≡ [] → state g s es ≡ fresh s
  pub last_is : (state g s es).last ≡ last_stamp (accepted_events g s es)
  -- an event next to the sequence that no earlier check refuses is refused 5 exactly when its stamp is before that
  pub gives_5 : (e : Event) → (step g (state g s es) e).number ≡ 5
      ↔ ((¬ NotAllowed e) × (¬ AboveLargest e) × (e.stamp.0 < (last_stamp (accepted_events g s es)).0))

abbrev pub LastAcceptedStatement : Type 0
LastAcceptedStatement = (g : Lent) → lent_good g ≡ true → (s : Settings) → in_range s ≡ true → (es : List Event) → LastAccepted g s es
