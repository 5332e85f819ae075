-- Document 02, 11/12: what the second opinion asks of the events before one, which are given latest first: whether the event is accepted
-- (01, "Numbers given back"), and as what it acts (7/12). No machine is asked. Kinds: 1 character down, 2 character up, 3 thumb down, 4
-- thumb up, 5 function down, 6 tick.
use Rattle.std.specs.Prelude.{ℕ, zero, suc, ◌+◌, Bool, false, ◌&&◌, ◌||◌, not, List, [], ◌∷◌, eqb, ltb}
use Rattle.choice.specs.Choice.{if◌then◌orelse◌}
use Rattle.rules.specs.{Numbers.{keys, largest_stamp, most_held}}
use Rattle.rules.specs.declared.{Stamp.{Stamp}, Key.{Key}, Event.{Event}}

abbrev pub is : ℕ → Event → Bool
is kind e = eqb e.kind kind

-- A key is held if it last went down.
unfoldable pub held : Key → List Event → Bool
held k [] = false
held k (d ∷ before) = if (is 1 d || is 2 d) && eqb d.key.0 k.0 then is 1 d orelse held k before

abbrev pub tick_at : Stamp → Event
tick_at now = record { kind = 6; key = record { 0 = 0 }; stamp = now }

-- a down of a key that is held, and an up of one that is not, act as a tick
abbrev pub idle : List Event → Event → Bool
idle before e = (is 1 e && held e.key before) || (is 2 e && not (held e.key before))

abbrev pub heard_as : List Event → Event → Event
heard_as before e = if idle before e then tick_at e.stamp orelse e

-- accepted events as they act
unfoldable pub heard : List Event → List Event → List Event
heard before [] = []
heard before (e ∷ es) = heard_as before e ∷ heard (e ∷ before) es

-- 3: kinds 1 and 2 have one of 31 keys, 3 and 4 key 0 or 1, 5 and 6 key 0
abbrev pub allowed : Event → Bool
allowed e =
    ((is 1 e || is 2 e) && ltb e.key.0 keys)
    || ((is 3 e || is 4 e) && ltb e.key.0 2)
    || ((is 5 e || is 6 e) && ltb e.key.0 1)

-- 5: the last accepted stamp, 0 where none was
abbrev pub last_stamp : List Event → ℕ
last_stamp [] = 0
last_stamp (d ∷ before) = d.stamp.0

-- 11: how many of the keys below n are held
unfoldable pub held_below : ℕ → List Event → ℕ
held_below zero before = 0
held_below (suc n) before = held_below n before + (if held (record { 0 = n }) before then 1 orelse 0)

-- a press of a new key while 6 are held
abbrev pub too_many : List Event → Event → Bool
too_many before e = is 1 e && not (held e.key before) && eqb (held_below keys before) most_held

-- The number of an event, in 01's order: 3, 4, 5, then 11; 0 if it is accepted.
unfoldable pub number_after : List Event → Event → ℕ
number_after before e =
    if not (allowed e) then 3 orelse
    if ltb largest_stamp e.stamp.0 then 4 orelse
    if ltb e.stamp.0 (last_stamp before) then 5 orelse
    if too_many before e then 11 orelse 0

-- the accepted ones of some events
unfoldable pub accepted : List Event → List Event → List Event
accepted before [] = []
accepted before (e ∷ es) = if eqb (number_after before e) 0 then (e ∷ accepted (e ∷ before) es) orelse accepted before es
