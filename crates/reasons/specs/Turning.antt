-- Document 01, "One event", read along the event's stamp: with the same state and the same event, from which stamp on is the decision
-- another one? That it is so is said in ReasonFacts.antt.
-- M is a character key pressed at m, K a second one pressed at k, O a thumb pressed at o; r is the release of the thumb in S6, of M in
-- S8. N is the new character key, P the thumb of the event, g what is lent.
use Rattle.std.specs.Prelude.{ℕ, ◌+◌, ◌-◌, ◌*◌, ◌/◌, min, List, [], ◌∷◌, ltb}
use Rattle.std.proofs.Math.Option.{Option, none, some}
use Rattle.choice.specs.Choice.{if◌then◌orelse◌}
use Rattle.rules.specs.Numbers.{short_overlap_time, up}
use Rattle.rules.specs.Pairs.{Pair, Lent, is_pair}
use Rattle.rules.specs.States.{at, lag, later, deadline, at_or_before}
use Rattle.rules.specs.OneEvent.{Done, ◌leaving◌, same_key, same_thumb, one_event}
use Rattle.rules.specs.declared.Stamp.{Stamp}
use Rattle.rules.specs.declared.Key.{Key}
use Rattle.rules.specs.declared.Thumb.{Thumb}
use Rattle.rules.specs.declared.Settings.{Settings}
use Rattle.rules.specs.declared.Resting.{Resting}
use Rattle.rules.specs.declared.Resting.TheVariants.{S1, S2, S3, S4, S5, S6, S7, S8}
use Rattle.rules.specs.declared.Input.{Input}
use Rattle.rules.specs.declared.Input.TheVariants.{CharacterDown, CharacterUp, ThumbDown, ThumbUp, FunctionDown, Tick}

-- What rests, and not since when: each stamp put to 0.
abbrev pub unstamped : Resting → Resting
unstamped S1 = S1
unstamped (S2 M m) = S2 M (at 0)
unstamped (S3 O o) = S3 O (at 0)
unstamped (S4 M m O o) = S4 M (at 0) O (at 0)
unstamped (S5 O o M m) = S5 O (at 0) M (at 0)
unstamped (S6 O o M m r) = S6 O (at 0) M (at 0) (at 0)
unstamped (S7 M m K k) = S7 M (at 0) K (at 0)
unstamped (S8 M m K k r) = S8 M (at 0) K (at 0) (at 0)

-- A decision: the items that an event commits, and what rests then.
abbrev pub decision : Done → Done
decision d = d.items leaving unstamped d.resting

-- the decision on an event at a stamp, what is late included
abbrev pub decided : Lent → Settings → Resting → Input → Stamp → Done
decided g s x i now = decision (one_event g s now x i)

-- the last stamp of a state: no event of it comes before
abbrev pub since : Resting → Stamp
since S1 = at 0
since (S2 M m) = m
since (S3 O o) = o
since (S4 M m O o) = o
since (S5 O o M m) = m
since (S6 O o M m r) = r
since (S7 M m K k) = k
since (S8 M m K k r) = r

-- Turning stamps, in order: at each of them the decision becomes another one.
abbrev pub never : List Stamp
never = []

-- at a deadline, if there is one
abbrev pub at_deadline : Option Stamp → List Stamp
at_deadline none = never
at_deadline (some d) = d ∷ []

-- at v, or at the deadline where that is sooner
abbrev pub at_or_late : Stamp → Option Stamp → List Stamp
at_or_late v none = v ∷ []
at_or_late v (some d) = at (min v.0 d.0) ∷ []

-- In each state d is its deadline, l the list of pairs.
-- S2: M up, a function key and a character that makes no pair with M commit M, as the line "late" does: no stamp turns that. Else the
-- deadline does.
abbrev pub turns_in_S2 : List Pair → Option Stamp → Key → Input → List Stamp
turns_in_S2 l d M (CharacterDown N) = if is_pair l M N then at_deadline d orelse never
turns_in_S2 l d M (CharacterUp N) = if same_key N M then never orelse at_deadline d
turns_in_S2 l d M (ThumbDown P) = at_deadline d
turns_in_S2 l d M (ThumbUp P) = at_deadline d
turns_in_S2 l d M FunctionDown = never
turns_in_S2 l d M Tick = at_deadline d

-- S3: another thumb, O up and a function key do what the line "late" does.
abbrev pub turns_in_S3 : Option Stamp → Thumb → Input → List Stamp
turns_in_S3 d O (CharacterDown N) = at_deadline d
turns_in_S3 d O (CharacterUp N) = at_deadline d
turns_in_S3 d O (ThumbDown P) = if same_thumb P O then at_deadline d orelse never
turns_in_S3 d O (ThumbUp P) = if same_thumb P O then never orelse at_deadline d
turns_in_S3 d O FunctionDown = never
turns_in_S3 d O Tick = at_deadline d

-- S4: a character takes the thumb before the stamp v; M up leaves M alone before w. Another thumb, O up and a function key commit M+O,
-- as the line "late" does.
abbrev pub turns_in_S4 : Option Stamp → Stamp → Stamp → Key → Thumb → Input → List Stamp
turns_in_S4 d v w M O (CharacterDown N) = at_or_late v d
turns_in_S4 d v w M O (CharacterUp N) = if same_key N M then at_or_late w d orelse at_deadline d
turns_in_S4 d v w M O (ThumbDown P) = if same_thumb P O then at_deadline d orelse never
turns_in_S4 d v w M O (ThumbUp P) = if same_thumb P O then never orelse at_deadline d
turns_in_S4 d v w M O FunctionDown = never
turns_in_S4 d v w M O Tick = at_deadline d

-- S5: another thumb takes the character before v; O up leads to S6 before w. A character, M up and a function key commit M+O, as the line
-- "late" does.
abbrev pub turns_in_S5 : Option Stamp → Stamp → Stamp → Thumb → Key → Input → List Stamp
turns_in_S5 d v w O M (CharacterDown N) = never
turns_in_S5 d v w O M (CharacterUp N) = if same_key N M then never orelse at_deadline d
turns_in_S5 d v w O M (ThumbDown P) = if same_thumb P O then at_deadline d orelse at_or_late v d
turns_in_S5 d v w O M (ThumbUp P) = if same_thumb P O then at_or_late w d orelse at_deadline d
turns_in_S5 d v w O M FunctionDown = never
turns_in_S5 d v w O M Tick = at_deadline d

-- S6: a function key does what the line "late" does, and nothing else does.
abbrev pub turns_in_S6 : Option Stamp → Input → List Stamp
turns_in_S6 d (CharacterDown N) = at_deadline d
turns_in_S6 d (CharacterUp N) = at_deadline d
turns_in_S6 d (ThumbDown P) = at_deadline d
turns_in_S6 d (ThumbUp P) = at_deadline d
turns_in_S6 d FunctionDown = never
turns_in_S6 d Tick = at_deadline d

-- S7: a third key parts the pair before v; M up leads to S8 before w. K up and a function key commit the pair, as the line "late" does.
abbrev pub turns_in_S7 : Option Stamp → Stamp → Stamp → Key → Key → Input → List Stamp
turns_in_S7 d v w M K (CharacterDown N) = at_or_late v d
turns_in_S7 d v w M K (CharacterUp N) =
    if same_key N M then at_or_late w d orelse
    if same_key N K then never orelse at_deadline d
turns_in_S7 d v w M K (ThumbDown P) = at_or_late v d
turns_in_S7 d v w M K (ThumbUp P) = at_deadline d
turns_in_S7 d v w M K FunctionDown = never
turns_in_S7 d v w M K Tick = at_deadline d

-- S8, a third key: the line "late" parts the pair too. So where v comes before the deadline there are two turning stamps: parted, then
-- together, then parted since it is late. Else there is the deadline at most.
abbrev pub at_and_late : Stamp → Option Stamp → List Stamp → List Stamp
at_and_late v none late-only = v ∷ []
at_and_late v (some d) late-only = if ltb v.0 d.0 then v ∷ d ∷ [] orelse late-only

-- S8: a third key parts the pair before v; it stays together where K is up before w, and M and K are parted from there on. The line "late"
-- parts them as a third letter does that makes no pair with K.
abbrev pub turns_in_S8 : List Pair → Option Stamp → Stamp → Stamp → Key → Input → List Stamp
turns_in_S8 l d v w K (CharacterDown N) = at_and_late v d (if is_pair l K N then at_deadline d orelse never)
turns_in_S8 l d v w K (CharacterUp N) = if same_key N K then at_or_late w d orelse at_deadline d
turns_in_S8 l d v w K (ThumbDown P) = at_and_late v d (at_deadline d)
turns_in_S8 l d v w K (ThumbUp P) = at_deadline d
turns_in_S8 l d v w K FunctionDown = at_deadline d
turns_in_S8 l d v w K Tick = at_deadline d

-- The stamps v and w. S4, a=o-m: a>b before o+a, and b<400 before o+400; before the deadline 100b < J(a+b) always holds.
abbrev pub nearer_before : Stamp → Stamp → Stamp
nearer_before m o = later o (lag m o)

-- in S5 too, with L, and m for o
abbrev pub brief_before : Stamp → Stamp
brief_before o = later o short_overlap_time

-- S5, a=m-o: a≥b before m+a+1. S7 and S8, a=k-m: a≥b before k+a+1.
abbrev pub parts_before : Stamp → Stamp → Stamp
parts_before m k = later k (lag m k + 1)

-- S7, M up: 100b < N(a+b) while b is below aN/(100-N), rounded up; and b<T_s before the deadline.
abbrev pub short_before : ℕ → Stamp → Stamp → Stamp
short_before n m k = later k (up (lag m k * n) (100 - n))

-- S8, K up: 100(r-k) < L(now-k) from the first millisecond behind k+100(r-k)/L on
abbrev pub share_before : ℕ → Stamp → Stamp → Stamp
share_before l k r = later k ((100 * lag k r) / l + 1)

abbrev pub turns_in : Lent → Settings → Option Stamp → Resting → Input → List Stamp
turns_in g s d S1 i = never
turns_in g s d (S2 M m) i = turns_in_S2 g.pairs d M i
turns_in g s d (S3 O o) i = turns_in_S3 d O i
turns_in g s d (S4 M m O o) i = turns_in_S4 d (nearer_before m o) (brief_before o) M O i
turns_in g s d (S5 O o M m) i = turns_in_S5 d (parts_before o m) (brief_before m) O M i
turns_in g s d (S6 O o M m r) i = turns_in_S6 d i
turns_in g s d (S7 M m K k) i = turns_in_S7 d (parts_before m k) (short_before g.n m k) M K i
turns_in g s d (S8 M m K k r) i = turns_in_S8 g.pairs d (parts_before m k) (share_before s.l k r) K i

-- the turning stamps of a state and an event
abbrev pub turnings : Lent → Settings → Resting → Input → List Stamp
turnings g s x i = turns_in g s (deadline g s x) x i

-- how many of them are at or before a stamp
abbrev pub passed : Stamp → List Stamp → ℕ
passed now [] = 0
passed now (v ∷ vs) = (if at_or_before v now then 1 orelse 0) + passed now vs

-- of turning stamps in order: the first behind a stamp, and the last at or before it
abbrev pub next_turn : Stamp → List Stamp → Option Stamp
next_turn now [] = none
next_turn now (v ∷ vs) = if at_or_before v now then next_turn now vs orelse some v

abbrev pub or_else : Stamp → Option Stamp → Option Stamp
or_else v none = some v
or_else v (some w) = some w

abbrev pub last_turn : Stamp → List Stamp → Option Stamp
last_turn now [] = none
last_turn now (v ∷ vs) = if at_or_before v now then or_else v (last_turn now vs) orelse none
