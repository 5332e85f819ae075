-- Document 01, "Numbers given back", for events: which events are refused, in which order, and one step as a whole. The
-- kinds and keys of events are those of section "Log".
use Rattle.std.specs.Prelude.{ℕ, Bool, not, ◌&&◌, List, [], ◌++◌, ltb, eqb}
use Rattle.std.proofs.Math.Option.{Option, none, some}
use Rattle.choice.specs.Choice.{if◌then◌orelse◌}
use Rattle.rules.specs.Numbers.{largest_stamp, most_held}
use Rattle.rules.specs.Held.{is_held, hold, release, how_many}
use Rattle.rules.specs.Pairs.{Lent, lent_good}
use Rattle.rules.specs.States.{is_key, well_formed}
use Rattle.rules.specs.OneEvent.{Done, one_event}
use Rattle.rules.specs.ZeroDelay.{signs, shown, Sending, sent}
use Rattle.rules.specs.declared.Stamp.{Stamp}
use Rattle.rules.specs.declared.Key.{Key}
use Rattle.rules.specs.declared.Thumb.{Thumb}
use Rattle.rules.specs.declared.Thumb.TheVariants.{Left, Right}
use Rattle.rules.specs.declared.Machine.{Machine}
use Rattle.rules.specs.declared.Item.{Item}
use Rattle.rules.specs.declared.Event.{Event}
use Rattle.rules.specs.declared.Input.{Input}
use Rattle.rules.specs.declared.Input.TheVariants.{CharacterDown, CharacterUp, ThumbDown, ThumbUp, FunctionDown, Tick}

-- kinds 1 and 2: a character key, below 31
abbrev pub with_character : (Key → Input) → Key → Option Input
with_character kind k = if is_key k then some (kind k) orelse none

-- kinds 3 and 4: 0 is the left thumb, 1 the right one
abbrev pub with_thumb : (Thumb → Input) → Key → Option Input
with_thumb kind k =
    if eqb k.0 0 then some (kind Left) orelse
    if eqb k.0 1 then some (kind Right) orelse none

-- kinds 5 and 6: the key is 0
abbrev pub with_0 : Input → Key → Option Input
with_0 kind k = if eqb k.0 0 then some kind orelse none

-- Kinds: 1 character down, 2 character up, 3 thumb down, 4 thumb up, 5 function down, 6 tick. None where the kind or the key
-- is not allowed.
unfoldable pub input : ℕ → Key → Option Input
input kind k =
    if eqb kind 1 then with_character CharacterDown k orelse
    if eqb kind 2 then with_character CharacterUp k orelse
    if eqb kind 3 then with_thumb ThumbDown k orelse
    if eqb kind 4 then with_thumb ThumbUp k orelse
    if eqb kind 5 then with_0 FunctionDown k orelse
    if eqb kind 6 then with_0 Tick k orelse none

-- What an input acts as, with the keys of the set h held (7/12): a down of a key that is held, and an up of one that is not, act
-- as a tick.
abbrev pub acts_as : ℕ → Input → Input
acts_as h (CharacterDown k) = if is_held h k then Tick orelse CharacterDown k
acts_as h (CharacterUp k) = if is_held h k then CharacterUp k orelse Tick
acts_as h (ThumbDown P) = ThumbDown P
acts_as h (ThumbUp P) = ThumbUp P
acts_as h FunctionDown = FunctionDown
acts_as h Tick = Tick

-- the held set after an input that acts
abbrev pub held_after : ℕ → Input → ℕ
held_after h (CharacterDown k) = hold h k
held_after h (CharacterUp k) = release h k
held_after h (ThumbDown P) = h
held_after h (ThumbUp P) = h
held_after h FunctionDown = h
held_after h Tick = h

-- An event is refused with a number, or accepted as an input that acts.
pub data Verdict : Type 0 where
  refused : ℕ → Verdict
  accepted : Input → Verdict

-- A press of a new key: a down of a key not held.
unfoldable pub is_new : Machine → Event → Bool
is_new m e = eqb e.kind 1 && not (is_held m.held e.key)

-- a press of a new key while 6 are held
abbrev pub too_many : Machine → Event → Bool
too_many m e = is_new m e && eqb (how_many m.held) most_held

-- 11 for that; else the event is accepted
abbrev pub judge_room : Machine → Event → Input → Verdict
judge_room m e i = if too_many m e then refused 11 orelse accepted (acts_as m.held i)

-- 4, stamp above the largest; then 5, stamp before the last accepted; then 11
abbrev pub judge_stamp : Machine → Event → Input → Verdict
judge_stamp m e i =
    if ltb largest_stamp e.stamp.0 then refused 4 orelse
    if ltb e.stamp.0 m.last.0 then refused 5 orelse judge_room m e i

-- 3, kind or key not allowed; then the stamp
abbrev pub judge_input : Machine → Event → Option Input → Verdict
judge_input m e none = refused 3
judge_input m e (some i) = judge_stamp m e i

-- 2, state not well formed; then 3, 4, 5, 11
unfoldable pub judge : Lent → Machine → Event → Verdict
judge g m e = if well_formed g m then judge_input m e (input e.kind e.key) orelse refused 2

-- What an event gives back: the number, the items committed, what is sent, and the state.
pub record Answer : Type 0 where
  pub number : ℕ
  pub items : List Item
  pub sendings : List Sending
  pub machine : Machine

-- a refused event: nothing committed, nothing sent, the state handed back as given
abbrev pub refusal : Machine → ℕ → Answer
refusal m n = record { number = n; items = []; sendings = []; machine = m }

-- an accepted event: what one_event commits and leaves, what zero delay sends, the new last stamp and the new held set
abbrev pub acceptance : Machine → Stamp → ℕ → Done → Answer
acceptance m now h d =
    record {
      number = 0;
      items = d.items;
      sendings = sent (shown m.resting) (signs d.items ++ shown d.resting);
      machine = record { settings = m.settings; resting = d.resting; last = now; held = h };
    }

abbrev pub answer : Lent → Machine → Stamp → Verdict → Answer
answer g m now (refused n) = refusal m n
answer g m now (accepted i) = acceptance m now (held_after m.held i) (one_event g m.settings now m.resting i)

-- one step, with a list that is accepted
unfoldable pub step_with : Lent → Machine → Event → Answer
step_with g m e = answer g m e.stamp (judge g m e)

-- One step as a whole. The order on an event: 12, what is lent is not good (9/12), before anything else; then 2, 3, 4, 5, 11.
unfoldable pub step : Lent → Machine → Event → Answer
step g m e = if lent_good g then step_with g m e orelse refusal m 12
