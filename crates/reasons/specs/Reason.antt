-- Why an item was committed: the state before the event, whether its line "late" or the event itself committed, what was compared, how
-- far the deadline lay, and what the same event would have done had it come sooner or later. All of it is a view on `one_event` of
-- document 01: no rule is said again here. The laws are in ReasonFacts.antt.
use Rattle.std.specs.Prelude.{ℕ, ◌-◌, Bool, true, List, [], map, ℤ}
use Rattle.std.proofs.Math.Option.{Option, none, some}
use Rattle.choice.specs.Choice.{if◌then◌orelse◌}
use Rattle.rules.specs.Pairs.{Lent, lent_good}
use Rattle.rules.specs.States.{at, lag, deadline, at_or_before, fresh}
use Rattle.rules.specs.OneEvent.{Done, same_key, same_thumb, due_by, one_event}
use Rattle.rules.specs.OneEvent.{second_character_takes_thumb, second_thumb_takes_character, short_overlap, pair_stays}
use Rattle.rules.specs.OneEvent.{short_pair, short_of}
use Rattle.rules.specs.GivenBack.{Verdict, refused, accepted, judge, Answer}
use Rattle.rules.specs.Sequences.{along}
use Rattle.rules.specs.Distance.{distance_to}
use Rattle.rules.specs.declared.Stamp.{Stamp}
use Rattle.rules.specs.declared.Key.{Key}
use Rattle.rules.specs.declared.Thumb.{Thumb}
use Rattle.rules.specs.declared.Settings.{Settings}
use Rattle.rules.specs.declared.Resting.{Resting}
use Rattle.rules.specs.declared.Resting.TheVariants.{S1, S2, S3, S4, S5, S6, S7, S8}
use Rattle.rules.specs.declared.Machine.{Machine}
use Rattle.rules.specs.declared.Item.{Item}
use Rattle.rules.specs.declared.Event.{Event}
use Rattle.rules.specs.declared.Input.{Input}
use Rattle.rules.specs.declared.Input.TheVariants.{CharacterDown, CharacterUp, ThumbDown, ThumbUp, FunctionDown, Tick}
use Rattle.reasons.specs.Turning.{decided, since, turnings, next_turn, last_turn}

-- What committed: the line "late", or the event: a character, M up, K up, a thumb, O up or a function key.
pub data Cause : Type 0 where
  late : Cause
  by : Input → Cause

-- What a line compares: nothing, or two gaps a and b by one of 01's tests.
pub data Test : Type 0 where
  nothing_compared : Test
  -- S4, a second character: a against b
  takes_thumb : ℕ → ℕ → Test
  -- S5, another thumb: a against b
  takes_character : ℕ → ℕ → Test
  -- S4, M up, and S5, O up: the percentage; 100b against it of a+b, and b against 400
  overlaps : ℕ → ℕ → ℕ → Test
  -- S7 and S8, a third key: a against b
  stays : ℕ → ℕ → Test
  -- S7, M up: N and T_s; 100b against N(a+b), and b against T_s
  overlaps_as_pair : ℕ → ℕ → ℕ → ℕ → Test
  -- S8, K up: the percentage L; 100b against L of c, where b is the overlap and c the time that K was down
  overlaps_of : ℕ → ℕ → ℕ → Test

-- how a test comes out: by 01's own test
abbrev pub comes_out : Test → Bool
comes_out nothing_compared = true
comes_out (takes_thumb a b) = second_character_takes_thumb a b
comes_out (takes_character a b) = second_thumb_takes_character a b
comes_out (overlaps percent a b) = short_overlap percent a b
comes_out (stays a b) = pair_stays a b
comes_out (overlaps_as_pair n t_s a b) = short_pair (record { pairs = []; t_s = t_s; n = n }) a b
comes_out (overlaps_of percent b c) = short_of percent b c

-- what the line of an event compares: S4, a=o-m, b=now-o
abbrev pub compared_in_S4 : Settings → Stamp → Key → Stamp → Stamp → Input → Test
compared_in_S4 s now M m o (CharacterDown N) = takes_thumb (lag m o) (lag o now)
compared_in_S4 s now M m o (CharacterUp N) = if same_key N M then overlaps s.j (lag m o) (lag o now) orelse nothing_compared
compared_in_S4 s now M m o (ThumbDown P) = nothing_compared
compared_in_S4 s now M m o (ThumbUp P) = nothing_compared
compared_in_S4 s now M m o FunctionDown = nothing_compared
compared_in_S4 s now M m o Tick = nothing_compared

-- S5, a=m-o, b=now-m
abbrev pub compared_in_S5 : Settings → Stamp → Thumb → Stamp → Stamp → Input → Test
compared_in_S5 s now O o m (CharacterDown N) = nothing_compared
compared_in_S5 s now O o m (CharacterUp N) = nothing_compared
compared_in_S5 s now O o m (ThumbDown P) = if same_thumb P O then nothing_compared orelse takes_character (lag o m) (lag m now)
compared_in_S5 s now O o m (ThumbUp P) = if same_thumb P O then overlaps s.l (lag o m) (lag m now) orelse nothing_compared
compared_in_S5 s now O o m FunctionDown = nothing_compared
compared_in_S5 s now O o m Tick = nothing_compared

-- S7, a=k-m, b=now-k
abbrev pub compared_in_S7 : Lent → Stamp → Key → Stamp → Stamp → Input → Test
compared_in_S7 g now M m k (CharacterDown N) = stays (lag m k) (lag k now)
compared_in_S7 g now M m k (CharacterUp N) =
    if same_key N M then overlaps_as_pair g.n g.t_s (lag m k) (lag k now) orelse nothing_compared
compared_in_S7 g now M m k (ThumbDown P) = stays (lag m k) (lag k now)
compared_in_S7 g now M m k (ThumbUp P) = nothing_compared
compared_in_S7 g now M m k FunctionDown = nothing_compared
compared_in_S7 g now M m k Tick = nothing_compared

-- S8, the same; K up: b=r-k, c=now-k
abbrev pub compared_in_S8 : Settings → Stamp → Stamp → Key → Stamp → Stamp → Input → Test
compared_in_S8 s now m K k r (CharacterDown N) = stays (lag m k) (lag k now)
compared_in_S8 s now m K k r (CharacterUp N) = if same_key N K then overlaps_of s.l (lag k r) (lag k now) orelse nothing_compared
compared_in_S8 s now m K k r (ThumbDown P) = stays (lag m k) (lag k now)
compared_in_S8 s now m K k r (ThumbUp P) = nothing_compared
compared_in_S8 s now m K k r FunctionDown = nothing_compared
compared_in_S8 s now m K k r Tick = nothing_compared

-- S1, S2, S3 and S6 compare nothing.
abbrev pub compared : Lent → Settings → Stamp → Resting → Input → Test
compared g s now S1 i = nothing_compared
compared g s now (S2 M m) i = nothing_compared
compared g s now (S3 O o) i = nothing_compared
compared g s now (S4 M m O o) i = compared_in_S4 s now M m o i
compared g s now (S5 O o M m) i = compared_in_S5 s now O o m i
compared g s now (S6 O o M m r) i = nothing_compared
compared g s now (S7 M m K k) i = compared_in_S7 g now M m k i
compared g s now (S8 M m K k r) i = compared_in_S8 s now m K k r i

-- The nearest stamp before the last turning stamp v, at which the event would have been decided otherwise: one millisecond before it,
-- unless that is before the state began.
abbrev pub sooner_at : Stamp → Option Stamp → Option Stamp
sooner_at began none = none
sooner_at began (some v) = if at_or_before v began then none orelse some (at (v.0 - 1))

-- What would have been, had the event come so many milliseconds sooner, or later: another decision.
pub record Otherwise : Type 0 where
  pub ms : ℕ
  pub decision : Done

-- at a stamp t, n milliseconds away
abbrev pub otherwise : Lent → Settings → Resting → Input → ℕ → Stamp → Otherwise
otherwise g s x i n t = record { ms = n; decision = decided g s x i t }

abbrev pub if_later : Lent → Settings → Resting → Input → Stamp → Option Stamp → Option Otherwise
if_later g s x i now none = none
if_later g s x i now (some t) = some (otherwise g s x i (lag now t) t)

abbrev pub if_sooner : Lent → Settings → Resting → Input → Stamp → Option Stamp → Option Otherwise
if_sooner g s x i now none = none
if_sooner g s x i now (some t) = some (otherwise g s x i (lag t now) t)

pub record Reason : Type 0 where
  -- the state before the event: its keys and stamps
  pub before : Resting
  pub cause : Cause
  pub test : Test
  -- how far its deadline lay from the event (3/12)
  pub due : Option ℤ
  pub sooner : Option Otherwise
  pub later : Option Otherwise

-- the line "late" compares nothing
abbrev pub reason : Lent → Settings → Stamp → Resting → Input → Reason
reason g s now x i =
    let is_late = due_by now (deadline g s x) in
    record {
      before = x;
      cause = if is_late then late orelse by i;
      test = if is_late then nothing_compared orelse compared g s now x i;
      due = distance_to now (deadline g s x);
      sooner = if_sooner g s x i now (sooner_at (since x) (last_turn now (turnings g s x i)));
      later = if_later g s x i now (next_turn now (turnings g s x i));
    }

-- A committed item with its reason.
pub record Reasoned : Type 0 where
  pub item : Item
  pub reason : Reason

abbrev pub with_reason : Reason → Item → Reasoned
with_reason r c = record { item = c; reason = r }

-- the items of one event, each with its reason: what is late commits, or the event does, never both
abbrev pub reasoned : Lent → Settings → Stamp → Resting → Input → List Reasoned
reasoned g s now x i = map (with_reason (reason g s now x i)) (one_event g s now x i).items

-- a refused event commits nothing
abbrev pub reasoned_if : Lent → Machine → Stamp → Verdict → List Reasoned
reasoned_if g m now (refused n) = []
reasoned_if g m now (accepted i) = reasoned g m.settings now m.resting i

-- of one step; of a list that is not accepted nothing is committed
unfoldable pub step_reasons : Lent → Machine → Event → List Reasoned
step_reasons g m e = if lent_good g then reasoned_if g m e.stamp (judge g m e) orelse []

abbrev pub reasons_in : Lent → Machine → Event → Answer → List Reasoned
reasons_in g m e r = step_reasons g m e

-- of a whole sequence of events from a fresh state
abbrev pub reasons : Lent → Settings → List Event → List Reasoned
reasons g s es = along g (reasons_in g) (fresh s) es
