-- What the answers of this crate say, as the definitions of the second opinion have it.
use Rattle.std.specs.Prelude.{ℕ, ◌+◌, ◌<◌, ◌≡◌, List, [], ◌∷◌, Result, Ok, Err, Option, None, Some}
use Rattle.std.proofs.Math.Option as option
use Rattle.rules.specs.Refusal.{number_of}
use Rattle.rules.specs.declared.Refusal.{Refusal}
use Rattle.rules.specs.declared.Event.{Event}
use Rattle.second_opinion.specs.Places.{events_before, from_place}
use Rattle.second_opinion.specs.declared.places.Events.{Events}
use Rattle.second_opinion.specs.declared.places.Heard.{Heard}

-- events, latest first
abbrev pub latest_first : Events → List Event
latest_first es = events_before es.bytes.now es.n

-- the number given back, 0 if an event is accepted
abbrev pub number_in : {A : Type 0} → Result A Refusal → ℕ
number_in (Ok a) = 0
number_in (Err r) = number_of r

abbrev pub maybe : {A : Type 0} → Option A → option.Option A
maybe None = option.none
maybe (Some a) = option.some a

-- the event of an earlier press, if there is one
abbrev pub pressed : Option Heard → option.Option Event
pressed None = option.none
pressed (Some e) = option.some e.event

-- Places of a list are numbers, and `from` gives the list from a place on.
abbrev pub ListFrom : Type 0
ListFrom = ℕ → List Event

abbrev pub from : Events → ListFrom
from es = from_place es.bytes.now es.n

-- the list from what is seen on
abbrev pub seen_list : ListFrom → Option (ℕ × Heard) → List Event
seen_list from None = []
seen_list from (Some (i, e)) = e.event ∷ from (i + 1)

-- the event e stands at place i
pub record Stands (es : Events) (i : ℕ) (e : Event) : Type 0 where
  pub below : i < es.n
  pub here : from es i ≡ e ∷ from es (i + 1)

abbrev pub StandsThere : Events → Option (ℕ × Heard) → Type 0
StandsThere es None = Unit {0}
StandsThere es (Some (i, e)) = Stands es i e.event
