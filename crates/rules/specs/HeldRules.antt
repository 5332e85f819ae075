-- What 7/12 of document 02 says of a step and of a sequence, besides the rules. The proofs are in proofs/HeldRules.antt.
use Rattle.std.specs.Prelude.{ℕ, ◌≤◌, ◌<◌, Bool, true, false, ◌&&◌, List, [], ◌∷◌, ◌≢◌, ◌≡◌, eqb, length}
use Rattle.choice.specs.Choice.{if◌then◌orelse◌}
use Rattle.rules.specs.Numbers.{keys, most_held, in_range}
use Rattle.rules.specs.Held.{is_held, held_keys, held_formed}
use Rattle.rules.specs.Pairs.{Lent, same_key}
use Rattle.rules.specs.GivenBack.{Answer, step}
use Rattle.rules.specs.Sequences.{Press, press, state, accepted_events}
use Rattle.rules.specs.Demand3.{tick}
use Rattle.rules.specs.DistanceFacts.{only_time_passes}
use Rattle.rules.specs.declared.Stamp.{Stamp}
use Rattle.rules.specs.declared.Key.{Key}
use Rattle.rules.specs.declared.Settings.{Settings}
use Rattle.rules.specs.declared.Resting.{Resting}
use Rattle.rules.specs.declared.Resting.TheVariants.{S1, S2, S3, S4, S5, S6, S7, S8}
use Rattle.rules.specs.declared.Machine.{Machine}
use Rattle.rules.specs.declared.Event.{Event}

abbrev pub down : Key → Stamp → Event
down k t = record { kind = 1; key = k; stamp = t }

abbrev pub up : Key → Stamp → Event
up k t = record { kind = 2; key = k; stamp = t }

-- Of everything lent, every machine, key and stamp: a repeat, and an up of a key that is not held, give what a tick gives, refusals
-- too. So an accepted one changes nothing but the last stamp and what is late.
pub record ActsAsTick (g : Lent) (m : Machine) (k : Key) (t : Stamp) : Type 0 where
  pub repeat : is_held m.held k ≡ true → step g m (down k t) ≡ step g m (tick t)
  pub stray_up : k.0 < keys → is_held m.held k ≡ false → step g m (up k t) ≡ step g m (tick t)
  pub repeat_changes : is_held m.held k ≡ true → (step g m (down k t)).number ≡ 0 → step g m (down k t) ≡ only_time_passes g m t
  pub stray_up_changes : k.0 < keys → is_held m.held k ≡ false → (step g m (up k t)).number ≡ 0
      → step g m (up k t) ≡ only_time_passes g m t

-- the same with another held set
abbrev pub holding : ℕ → Machine → Machine
holding h m = record { settings = m.settings; resting = m.resting; last = m.last; held = h }

abbrev pub answer_holding : ℕ → Answer → Answer
answer_holding h r = record { number = r.number; items = r.items; sendings = r.sendings; machine = holding h r.machine }

-- Of everything lent, every machine, event and set h: an event that is neither a down nor an up of a character key asks nothing of the
-- held set but whether it is well formed, and leaves it as it is. With h in its place it gives the same.
abbrev pub SetNotRead : Lent → Machine → Event → ℕ → Type 0
SetNotRead g m e h =
    e.kind ≢ 1 → e.kind ≢ 2 → held_formed h ≡ held_formed m.held → step g (holding h m) e ≡ answer_holding h (step g m e)

-- Whether key k is held after an accepted event, by its kind and key: a down holds its key, an up releases it, and every other
-- key stays as it was before.
abbrev pub held_then : ℕ → Key → Key → Bool → Bool
held_then kind N k before =
    if eqb kind 1 && same_key k N then true orelse
    if eqb kind 2 && same_key k N then false orelse before

-- of every machine and event
abbrev pub HeldAfterwards : Lent → Machine → Event → Type 0
HeldAfterwards g m e =
    (step g m e).number ≡ 0
    → (k : Key) → is_held (step g m e).machine.held k ≡ held_then e.kind e.key k (is_held m.held k)

-- whether key k is held after accepted events, one after the other
abbrev pub held_through : Key → List Event → Bool → Bool
held_through k [] before = before
held_through k (e ∷ es) before = held_through k es (held_then e.kind e.key k before)

-- the keys of these presses are held
abbrev pub AllHeld : ℕ → List Press → Type 0
AllHeld h [] = Unit {0}
AllHeld h (p ∷ ps) = (is_held h p.key ≡ true) × AllHeld h ps

-- what waits and was not released: everything that waits but M in S8
abbrev pub not_released : Resting → List Press
not_released S1 = []
not_released (S2 M m) = press M m ∷ []
not_released (S3 O o) = []
not_released (S4 M m O o) = press M m ∷ []
not_released (S5 O o M m) = press M m ∷ []
not_released (S6 O o M m r) = press M m ∷ []
not_released (S7 M m K k) = press M m ∷ (press K k ∷ [])
not_released (S8 M m K k r) = press K k ∷ []

-- Of every sequence of events from a fresh state: at most 6 keys are held, a waiting key that was not released is held, and a key is
-- held exactly when the accepted events say so: the last down or up of it among them is a down.
pub record HeldInSequence (g : Lent) (s : Settings) (es : List Event) : Type 0 where
  pub at_most_6 : length (held_keys (state g s es).held) ≤ most_held
  pub waiting_is_held : AllHeld (state g s es).held (not_released (state g s es).resting)
  pub held_as_accepted : (k : Key) → is_held (state g s es).held k ≡ held_through k (accepted_events g s es) false

abbrev pub HeldInSequences : Type 0
HeldInSequences = (g : Lent) (s : Settings) → in_range s ≡ true → (es : List Event) → HeldInSequence g s es
