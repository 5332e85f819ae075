-- The reasons are true: they are of the items that are committed, the line that they name committed them, what they say was compared
-- decides, and at the turning stamps, there and only there, the decision becomes another one. The proofs are in proofs/.
use Rattle.std.specs.Prelude.{ℕ, suc, ◌-◌, ◌≤◌, ◌<◌, true, false, List, [], ◌∷◌, map, ◌≢◌, ◌≡◌}
use Rattle.std.proofs.Math.Option.{Option, none, some}
use Rattle.rules.specs.Numbers.{in_range}
use Rattle.rules.specs.Pairs.{Lent, lent_good}
use Rattle.rules.specs.States.{at, later, deadline, well_formed}
use Rattle.rules.specs.OneEvent.{Done, ◌leaving◌, late as late_line, act, due_by, one_event}
use Rattle.rules.specs.GivenBack.{input, acts_as, accepted, judge, Answer, step}
use Rattle.rules.specs.Sequences.{items}
use Rattle.rules.specs.declared.Stamp.{Stamp}
use Rattle.rules.specs.declared.Key.{Key}
use Rattle.rules.specs.declared.Settings.{Settings}
use Rattle.rules.specs.declared.Resting.{Resting}
use Rattle.rules.specs.declared.Machine.{Machine}
use Rattle.rules.specs.declared.Item.{Item}
use Rattle.rules.specs.declared.Event.{Event}
use Rattle.rules.specs.declared.Input.{Input}
use Rattle.rules.specs.declared.Input.TheVariants.{Tick}
use Rattle.reasons.specs.Turning.{unstamped, decided, since, never, turnings, passed}
use Rattle.reasons.specs.Reason.{Cause, late, by, comes_out, compared, Otherwise, reason, Reasoned, reasoned, step_reasons}
use Rattle.reasons.specs.Reason.{reasons}

-- the stamp so many milliseconds sooner
abbrev pub sooner : Stamp → ℕ → Stamp
sooner t n = at (t.0 - n)

abbrev pub item_of : Reasoned → Item
item_of r = r.item

-- Of everything lent, every machine and event: each committed item has its reason, and nothing else has one.
abbrev pub SameItems : Lent → Machine → Event → Type 0
SameItems g m e = map item_of (step_reasons g m e) ≡ (step g m e).items

-- the same of every sequence from a fresh state, refused events among it
abbrev pub SameItemsAlong : Lent → Settings → List Event → Type 0
SameItemsAlong g s es = map item_of (reasons g s es) ≡ items g s es

-- what the line commits that a cause names
abbrev pub commits : Lent → Settings → Stamp → Resting → Cause → List Item
commits g s now x late = (late_line g s x).items
commits g s now x (by i) = (act g s now x i).items

-- Of everything lent, all settings, stamps, states and events.
pub record TrueCause (g : Lent) (s : Settings) (now : Stamp) (x : Resting) (i : Input) : Type 0 where
  -- the line that the cause names commits what is committed
  pub commits_it : (one_event g s now x i).items ≡ commits g s now x (reason g s now x i).cause
  -- a tick is no cause
  pub not_by_tick : commits g s now x (by Tick) ≡ []

-- What a line compares decides, before the deadline: where it comes out the same at two stamps, the decision is the same; where it
-- comes out otherwise, the decision is another one.
pub record TrueTest (g : Lent) (s : Settings) (x : Resting) (i : Input) (t u : Stamp) : Type 0 where
  pub same_test : comes_out (compared g s t x i) ≡ comes_out (compared g s u x i) → decided g s x i t ≡ decided g s x i u
  pub other_test : comes_out (compared g s t x i) ≡ true → comes_out (compared g s u x i) ≡ false → decided g s x i t ≢ decided g s x i u

abbrev pub TrueTestStatement : Type 0
TrueTestStatement =
    (g : Lent) (s : Settings) (x : Resting) (i : Input) (t u : Stamp) → due_by t (deadline g s x) ≡ false
    → due_by u (deadline g s x) ≡ false
    → TrueTest g s x i t u

-- stamps in order, none twice
abbrev pub Ordered : List Stamp → Type 0
Ordered [] = Unit {0}
Ordered (v ∷ []) = Unit {0}
Ordered (v ∷ w ∷ vs) = (v.0 < w.0) × Ordered (w ∷ vs)

-- Of a decision by the stamp: with the same turning stamps passed it is the same; with one more it is another one.
pub record Turns (from : Stamp) (turning : List Stamp) (decides : Stamp → Done) : Type 0 where
  pub in_order : Ordered turning
  pub same_side : (t u : Stamp) → from.0 ≤ t.0 → from.0 ≤ u.0 → passed t turning ≡ passed u turning → decides t ≡ decides u
  pub other_side : (t u : Stamp) → from.0 ≤ t.0 → from.0 ≤ u.0 → passed u turning ≡ suc (passed t turning) → decides t ≢ decides u

-- of a good list, settings in range, every state and every event
abbrev pub TrueTurnings : Type 0
TrueTurnings =
    (g : Lent) → lent_good g ≡ true → (s : Settings) → in_range s ≡ true → (x : Resting) (i : Input)
    → Turns (since x) (turnings g s x i) (decided g s x i)

-- The margins are true. Of a reason's "so many milliseconds later": had the event come so much later, that would have been the decision,
-- and it is another one; with less the same. Where there is none, however late. So with sooner, as far back as the state goes.
pub record TrueMargins (g : Lent) (s : Settings) (now : Stamp) (x : Resting) (i : Input) : Type 0 where
  pub later_other : (w : Otherwise) → (reason g s now x i).later ≡ some w
      → (decided g s x i (later now w.ms) ≡ w.decision) × (w.decision ≢ decided g s x i now)
  pub later_same : (w : Otherwise) → (reason g s now x i).later ≡ some w → (k : ℕ) → k < w.ms
      → decided g s x i (later now k) ≡ decided g s x i now
  pub never_later : (reason g s now x i).later ≡ none → (k : ℕ) → decided g s x i (later now k) ≡ decided g s x i now
  pub sooner_other : (w : Otherwise) → (reason g s now x i).sooner ≡ some w
      → (decided g s x i (sooner now w.ms) ≡ w.decision) × (w.decision ≢ decided g s x i now)
  pub sooner_same : (w : Otherwise) → (reason g s now x i).sooner ≡ some w → (k : ℕ) → k < w.ms
      → decided g s x i (sooner now k) ≡ decided g s x i now
  pub never_sooner : (reason g s now x i).sooner ≡ none → (k : ℕ) → (since x).0 ≤ (sooner now k).0
      → decided g s x i (sooner now k) ≡ decided g s x i now

abbrev pub TrueMarginsStatement : Type 0
TrueMarginsStatement =
    (g : Lent) → lent_good g ≡ true → (s : Settings) → in_range s ≡ true → (now : Stamp) (x : Resting) (i : Input)
    → (since x).0 ≤ now.0 → TrueMargins g s now x i

-- Of an accepted event at a machine: its reasons, and that they are true.
pub record TrueReasons (g : Lent) (m : Machine) (e : Event) : Type 0 where
  pub good_list : lent_good g ≡ true
  pub good_machine : well_formed g m ≡ true
  -- what its kind and key name, and what that acts as
  pub names : Input
  pub is_input : input e.kind e.key ≡ some names
  pub acts : Input
  pub acts_so : acts ≡ acts_as m.held names
  pub is_accepted : judge g m e ≡ accepted acts
  pub its_step : (step g m e).items ≡ (one_event g m.settings e.stamp m.resting acts).items
  pub its_reasons : step_reasons g m e ≡ reasoned g m.settings e.stamp m.resting acts
  pub its_items : SameItems g m e
  pub its_cause : TrueCause g m.settings e.stamp m.resting acts
  pub its_margins : TrueMargins g m.settings e.stamp m.resting acts

abbrev pub TrueReasonsStatement : Type 0
TrueReasonsStatement = (g : Lent) (m : Machine) (e : Event) → (step g m e).number ≡ 0 → TrueReasons g m e

-- The turning stamps at a machine, by an event's kind and key: events of the same kind and key that it accepts, at two stamps t and u.
abbrev pub turnings_if : Lent → Machine → Option Input → List Stamp
turnings_if g m none = never
turnings_if g m (some i) = turnings g m.settings m.resting (acts_as m.held i)

abbrev pub turnings_of : Lent → Machine → ℕ → Key → List Stamp
turnings_of g m kind k = turnings_if g m (input kind k)

abbrev pub event_at : ℕ → Key → Stamp → Event
event_at kind k t = record { kind = kind; key = k; stamp = t }

-- what an answer commits, and what rests then
abbrev pub decision_of : Answer → Done
decision_of a = a.items leaving unstamped a.machine.resting

pub record TurnsAt (g : Lent) (m : Machine) (kind : ℕ) (k : Key) (t u : Stamp) : Type 0 where
  pub same_side : passed t (turnings_of g m kind k) ≡ passed u (turnings_of g m kind k)
      → decision_of (step g m (event_at kind k t)) ≡ decision_of (step g m (event_at kind k u))
  pub other_side : passed u (turnings_of g m kind k) ≡ suc (passed t (turnings_of g m kind k))
      → decision_of (step g m (event_at kind k t)) ≢ decision_of (step g m (event_at kind k u))

abbrev pub TurnsAtMachine : Type 0
TurnsAtMachine =
    (g : Lent) (m : Machine) (kind : ℕ) (k : Key) (t u : Stamp) → (step g m (event_at kind k t)).number ≡ 0
    → (step g m (event_at kind k u)).number ≡ 0 → TurnsAt g m kind k t u
