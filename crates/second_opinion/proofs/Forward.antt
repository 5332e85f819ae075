-- From a place on in the list of events as they act.
use Rattle.std.proofs.Common.{◌≡◌, ℕ, suc, ◌+◌, ◌-◌, ◌<◌, ◌≤◌, ◌||◌, true, false, List, [], ◌∷◌, refl, arith, add-one}
use Rattle.std.proofs.Math.Option as option
use Rattle.rules.specs.declared.Stamp.{Stamp}
use Rattle.rules.specs.declared.Event.{Event}
use Rattle.opinions.specs.Earlier.{heard, heard_as}
use Rattle.opinions.specs.Opinion.{late, matters, ahead}
use Rattle.second_opinion.specs.Places.{event_at, events_before, events_from, from_place}
use Rattle.second_opinion.specs.Views.{Stands}
use Rattle.second_opinion.specs.declared.places.Events.{Events}

one_on : (bytes : List ℕ) (n i k : ℕ) → n - i ≡ suc k → n - suc i ≡ k
    → from_place bytes n i ≡ heard_as (events_before bytes i) (event_at bytes i) ∷ from_place bytes n (suc i)
unfolding from_place events_from events_before heard
one_on bytes n i k p q = rw (p, q)

pub at_place : (bytes : List ℕ) (n i : ℕ) → i < n
    → from_place bytes n i ≡ heard_as (events_before bytes i) (event_at bytes i) ∷ from_place bytes n (i + 1)
at_place bytes n i h = rw add-one (one_on bytes n i (n - suc i) (omega arith) refl)

pub past : (bytes : List ℕ) (n i : ℕ) → n ≤ i → from_place bytes n i ≡ []
unfolding from_place events_from heard
past bytes n i h = let e : n - i ≡ 0 = omega arith in rw e

-- the event at a place, as the code finds it
pub stands : (es : Events) (i : ℕ) (e : Event) → i < es.n → e ≡ heard_as (events_before es.bytes.now i) (event_at es.bytes.now i)
    → Stands es i e
stands es i e h q = record { below = h; here = rw q (at_place es.bytes.now es.n i h) }

-- looking forward at a place
module _ (M O : option.Option Event) (due : option.Option Stamp) where
  pub nothing_ahead : ahead M O due [] ≡ []
  unfolding ahead
  nothing_ahead = refl

  pub looks : (e : Event) (es : List Event) → (late due e || matters M O e) ≡ false → ahead M O due (e ∷ es) ≡ ahead M O due es
  unfolding ahead
  looks e es h = rw h

  pub stops : (e : Event) (es : List Event) → (late due e || matters M O e) ≡ true → ahead M O due (e ∷ es) ≡ e ∷ es
  unfolding ahead
  stops e es h = rw h
