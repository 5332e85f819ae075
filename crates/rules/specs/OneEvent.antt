-- Document 01, "One event": what each resting state does when its deadline is due ("late") and at each kind of event.
-- M is a character key pressed at m, K a second one pressed at k, O a thumb pressed at o; r is the release of the thumb in S6, of M in
-- S8. N is the new character key, P the thumb of the event, now the event's stamp, g what is lent (9/12).
use Rattle.std.specs.Prelude.{ℕ, zero, suc, ◌+◌, ◌*◌, Bool, true, false, ◌&&◌, List, [], ◌∷◌, ◌++◌, ltb, leb, eqb}
use Rattle.std.proofs.Math.Option.{Option, none, some}
use Rattle.choice.specs.Choice.{if◌then◌orelse◌}
use Rattle.rules.specs.Numbers.{short_overlap_time}
unfoldable pub use Rattle.rules.specs.Pairs.{same_key}
use Rattle.rules.specs.Pairs.{Lent, is_pair, pair_character}
use Rattle.rules.specs.States.{lag, deadline, at_or_before}
use Rattle.rules.specs.declared.Stamp.{Stamp}
use Rattle.rules.specs.declared.Key.{Key}
use Rattle.rules.specs.declared.Thumb.{Thumb}
use Rattle.rules.specs.declared.Thumb.TheVariants.{Left, Right}
use Rattle.rules.specs.declared.Settings.{Settings}
use Rattle.rules.specs.declared.Resting.{Resting}
use Rattle.rules.specs.declared.Resting.TheVariants.{S1, S2, S3, S4, S5, S6, S7, S8}
use Rattle.rules.specs.declared.Face.TheVariants.{Plain, With}
use Rattle.rules.specs.declared.Item.{Item}
use Rattle.rules.specs.declared.Item.TheVariants.{Character, Mark, Together}
use Rattle.rules.specs.declared.Input.{Input}
use Rattle.rules.specs.declared.Input.TheVariants.{CharacterDown, CharacterUp, ThumbDown, ThumbUp, FunctionDown, Tick}

-- What a rule does: the items that it commits, in order, and the state that it leaves. 01's "commit M, S1" is
-- `plain M leaving S1`.
pub record Done : Type 0 where
  pub items : List Item
  pub resting : Resting

infix 10 ◌leaving◌
abbrev pub ◌leaving◌ : List Item → Resting → Done
i leaving x = record { items = i; resting = x }

abbrev pub nothing : List Item
nothing = []

-- M, the plain character
abbrev pub plain : Key → List Item
plain M = Character M Plain ∷ []

-- M+O, M's face for thumb O
abbrev pub chord : Key → Thumb → List Item
chord M O = Character M (With O) ∷ []

-- the character of the pair M, K
abbrev pub together : Lent → Key → Key → List Item
together g M K = Together M K (pair_character g.pairs M K) ∷ []

-- mark O happens only with solo 1
unfoldable pub mark : Settings → Thumb → List Item
mark s O = if eqb s.solo 1 then Mark O ∷ [] orelse []

unfoldable pub same_thumb : Thumb → Thumb → Bool
same_thumb Left Left = true
same_thumb Left Right = false
same_thumb Right Left = false
same_thumb Right Right = true

-- S4, a second character: it takes the thumb from M where a>b, that is b<a; an equal gap leaves it with M (1/12)
unfoldable pub second_character_takes_thumb : ℕ → ℕ → Bool
second_character_takes_thumb a b = ltb b a

-- S5, a second thumb: it takes the character from O where a≥b, that is b≤a
unfoldable pub second_thumb_takes_character : ℕ → ℕ → Bool
second_thumb_takes_character a b = leb b a

-- 100b < J(a+b) in S4, L for J in S5; and b<400
unfoldable pub short_overlap : ℕ → ℕ → ℕ → Bool
short_overlap percent a b = ltb (100 * b) (percent * (a + b)) && ltb b short_overlap_time

-- S7 and S8, a third key: the pair stays together where the gap between its two is the smaller one; an equal gap parts it
unfoldable pub pair_stays : ℕ → ℕ → Bool
pair_stays a b = ltb a b

-- S7, M up: 100b < N(a+b), and b<T_s
unfoldable pub short_pair : Lent → ℕ → ℕ → Bool
short_pair g a b = ltb (100 * b) (g.n * (a + b)) && ltb b g.t_s

-- S8, K up: the overlap b is below L percent of the time c that K was down
unfoldable pub short_of : ℕ → ℕ → ℕ → Bool
short_of percent b c = ltb (100 * b) (percent * c)

-- The line "late" of each state. Nothing is late in S1. (Where 01 says "or late", that half is here, the other half below.)
abbrev pub late : Lent → Settings → Resting → Done
late g s S1 = nothing leaving S1
late g s (S2 M m) = plain M leaving S1
late g s (S3 O o) = mark s O leaving S1
late g s (S4 M m O o) = chord M O leaving S1
late g s (S5 O o M m) = chord M O leaving S1
late g s (S6 O o M m r) = (mark s O ++ plain M) leaving S1
late g s (S7 M m K k) = together g M K leaving S1
late g s (S8 M m K k r) = (plain M ++ plain K) leaving S1

-- S1: character → S2. Thumb → S3.
abbrev pub in_S1 : Stamp → Input → Done
in_S1 now (CharacterDown N) = nothing leaving S2 N now
in_S1 now (CharacterUp N) = nothing leaving S1
in_S1 now (ThumbDown P) = nothing leaving S3 P now
in_S1 now (ThumbUp P) = nothing leaving S1
in_S1 now FunctionDown = nothing leaving S1
in_S1 now Tick = nothing leaving S1

-- S2: character → S7 if it makes a pair with M; else commit M, S2 with the new key. Thumb → S4. M up or function → commit M, S1.
abbrev pub in_S2 : Lent → Stamp → Key → Stamp → Input → Done
in_S2 g now M m (CharacterDown N) = if is_pair g.pairs M N then (nothing leaving S7 M m N now) orelse (plain M leaving S2 N now)
in_S2 g now M m (CharacterUp N) = if same_key N M then (plain M leaving S1) orelse (nothing leaving S2 M m)
in_S2 g now M m (ThumbDown P) = nothing leaving S4 M m P now
in_S2 g now M m (ThumbUp P) = nothing leaving S2 M m
in_S2 g now M m FunctionDown = plain M leaving S1
in_S2 g now M m Tick = nothing leaving S2 M m

-- S3: character → S5. Other thumb → mark O, S3 with it. O up or function → mark O, S1.
abbrev pub in_S3 : Settings → Stamp → Thumb → Stamp → Input → Done
in_S3 s now O o (CharacterDown N) = nothing leaving S5 O o N now
in_S3 s now O o (CharacterUp N) = nothing leaving S3 O o
in_S3 s now O o (ThumbDown P) = if same_thumb P O then (nothing leaving S3 O o) orelse (mark s O leaving S3 P now)
in_S3 s now O o (ThumbUp P) = if same_thumb P O then (mark s O leaving S1) orelse (nothing leaving S3 O o)
in_S3 s now O o FunctionDown = mark s O leaving S1
in_S3 s now O o Tick = nothing leaving S3 O o

-- S4, a=o-m (lag m o), b=now-o (lag o now): character → if a>b commit M, S5 with the same O and the new key; else commit M+O, S2 with
-- the new key. Other thumb → commit M+O, S3 with it. M up → if the overlap is short commit M, S3 with O and its old stamp; else
-- commit M+O, S1. O up or function → commit M+O, S1.
abbrev pub in_S4 : Settings → Stamp → Key → Stamp → Thumb → Stamp → Input → Done
in_S4 s now M m O o (CharacterDown N) =
    if second_character_takes_thumb (lag m o) (lag o now) then (plain M leaving S5 O o N now)
    orelse (chord M O leaving S2 N now)
in_S4 s now M m O o (CharacterUp N) =
    if same_key N M then
    (if short_overlap s.j (lag m o) (lag o now) then (plain M leaving S3 O o) orelse (chord M O leaving S1))
    orelse (nothing leaving S4 M m O o)
in_S4 s now M m O o (ThumbDown P) = if same_thumb P O then (nothing leaving S4 M m O o) orelse (chord M O leaving S3 P now)
in_S4 s now M m O o (ThumbUp P) = if same_thumb P O then (chord M O leaving S1) orelse (nothing leaving S4 M m O o)
in_S4 s now M m O o FunctionDown = chord M O leaving S1
in_S4 s now M m O o Tick = nothing leaving S4 M m O o

-- S5, a=m-o (lag o m), b=now-m (lag m now): character → commit M+O, S2 with the new key. Other thumb → if a≥b mark O, S4 with M and
-- the new thumb; else commit M+O, S3 with the new thumb. O up → if the overlap is short S6; else commit M+O, S1. M up or function →
-- commit M+O, S1.
abbrev pub in_S5 : Settings → Stamp → Thumb → Stamp → Key → Stamp → Input → Done
in_S5 s now O o M m (CharacterDown N) = chord M O leaving S2 N now
in_S5 s now O o M m (CharacterUp N) = if same_key N M then (chord M O leaving S1) orelse (nothing leaving S5 O o M m)
in_S5 s now O o M m (ThumbDown P) =
    if same_thumb P O then (nothing leaving S5 O o M m) orelse
    if second_thumb_takes_character (lag o m) (lag m now) then (mark s O leaving S4 M m P now)
    orelse (chord M O leaving S3 P now)
in_S5 s now O o M m (ThumbUp P) =
    if same_thumb P O then
    (if short_overlap s.l (lag o m) (lag m now) then (nothing leaving S6 O o M m now) orelse (chord M O leaving S1))
    orelse (nothing leaving S5 O o M m)
in_S5 s now O o M m FunctionDown = chord M O leaving S1
in_S5 s now O o M m Tick = nothing leaving S5 O o M m

-- S6: character → commit M+O, S2 with the new key. Either thumb → commit M+O, S3 with it. M up → commit M+O, S1.
-- Function → mark O, commit M plain, S1.
abbrev pub in_S6 : Settings → Stamp → Thumb → Stamp → Key → Stamp → Stamp → Input → Done
in_S6 s now O o M m r (CharacterDown N) = chord M O leaving S2 N now
in_S6 s now O o M m r (CharacterUp N) = if same_key N M then (chord M O leaving S1) orelse (nothing leaving S6 O o M m r)
in_S6 s now O o M m r (ThumbDown P) = chord M O leaving S3 P now
in_S6 s now O o M m r (ThumbUp P) = nothing leaving S6 O o M m r
in_S6 s now O o M m r FunctionDown = (mark s O ++ plain M) leaving S1
in_S6 s now O o M m r Tick = nothing leaving S6 O o M m r

-- S7 and S8, a=k-m (lag m k), b=now-k (lag k now). Character → if a<b commit the pair, S2 with the new key; else commit M, and go
-- on with K: S7 if the new key makes a pair with it, else commit K, S2 with the new key. Thumb → if a<b commit the pair, S3 with
-- it; else commit M, S4 with K and its own stamp, and the thumb.
abbrev pub third : Lent → Stamp → Key → Stamp → Key → Stamp → Key → Done
third g now M m K k N =
    if pair_stays (lag m k) (lag k now) then (together g M K leaving S2 N now) orelse
    if is_pair g.pairs K N then (plain M leaving S7 K k N now) orelse ((plain M ++ plain K) leaving S2 N now)

abbrev pub third_thumb : Lent → Stamp → Key → Stamp → Key → Stamp → Thumb → Done
third_thumb g now M m K k P =
    if pair_stays (lag m k) (lag k now) then (together g M K leaving S3 P now) orelse (plain M leaving S4 K k P now)

-- S7: character, thumb → as above. M up → if the overlap is short S8; else commit the pair, S1. K up or function → commit the
-- pair, S1.
abbrev pub in_S7 : Lent → Stamp → Key → Stamp → Key → Stamp → Input → Done
in_S7 g now M m K k (CharacterDown N) = third g now M m K k N
in_S7 g now M m K k (CharacterUp N) =
    if same_key N M then
    (if short_pair g (lag m k) (lag k now) then (nothing leaving S8 M m K k now) orelse (together g M K leaving S1))
    orelse (if same_key N K then (together g M K leaving S1) orelse (nothing leaving S7 M m K k))
in_S7 g now M m K k (ThumbDown P) = third_thumb g now M m K k P
in_S7 g now M m K k (ThumbUp P) = nothing leaving S7 M m K k
in_S7 g now M m K k FunctionDown = together g M K leaving S1
in_S7 g now M m K k Tick = nothing leaving S7 M m K k

-- S8: character, thumb → as above. K up → if the overlap is short of L percent commit M, K, S1; else commit the pair, S1.
-- Function → commit the pair, S1.
abbrev pub in_S8 : Lent → Settings → Stamp → Key → Stamp → Key → Stamp → Stamp → Input → Done
in_S8 g s now M m K k r (CharacterDown N) = third g now M m K k N
in_S8 g s now M m K k r (CharacterUp N) =
    if same_key N K then
    (if short_of s.l (lag k r) (lag k now) then ((plain M ++ plain K) leaving S1) orelse (together g M K leaving S1))
    orelse (nothing leaving S8 M m K k r)
in_S8 g s now M m K k r (ThumbDown P) = third_thumb g now M m K k P
in_S8 g s now M m K k r (ThumbUp P) = nothing leaving S8 M m K k r
in_S8 g s now M m K k r FunctionDown = together g M K leaving S1
in_S8 g s now M m K k r Tick = nothing leaving S8 M m K k r

-- what a state does at an event
abbrev pub act : Lent → Settings → Stamp → Resting → Input → Done
act g s now S1 i = in_S1 now i
act g s now (S2 M m) i = in_S2 g now M m i
act g s now (S3 O o) i = in_S3 s now O o i
act g s now (S4 M m O o) i = in_S4 s now M m O o i
act g s now (S5 O o M m) i = in_S5 s now O o M m i
act g s now (S6 O o M m r) i = in_S6 s now O o M m r i
act g s now (S7 M m K k) i = in_S7 g now M m K k i
act g s now (S8 M m K k r) i = in_S8 g s now M m K k r i

-- the deadline is at or before a stamp
abbrev pub due_by : Stamp → Option Stamp → Bool
due_by now none = false
due_by now (some d) = at_or_before d now

-- one after the other: the items of both, and the state that the second leaves
abbrev pub and_then : Done → (Resting → Done) → Done
and_then d f = (d.items ++ (f d.resting).items) leaving (f d.resting).resting

-- the lines "late", each while the deadline is at or before the event's stamp, n at most
unfoldable pub settle_in : ℕ → Lent → Settings → Stamp → Resting → Done
settle_in zero g s now x = nothing leaving x
settle_in (suc n) g s now x =
    if due_by now (deadline g s x) then and_then (late g s x) (settle_in n g s now) orelse (nothing leaving x)

-- Every late line leads to S1, which is never due: a second line never follows (LateOnce in StepFacts.antt).
unfoldable pub settle : Lent → Settings → Stamp → Resting → Done
settle = settle_in 2

-- first what is late, then the event acts
unfoldable pub one_event : Lent → Settings → Stamp → Resting → Input → Done
one_event g s now x i = and_then (settle g s now x) (λ y. act g s now y i)
