-- Document 01, "Keystrokes to try": the examples P1 to P11 as one table (P8 as 1/12 of document 02 has it), the numbers that
-- 01 works out as another; distances of 3/12, the slow hands of 4/12, the held keys of 7/12 and the pairs of 9/12 as more. The proofs
-- are in proofs/Examples.antt.
use Rattle.std.specs.Prelude.{ℕ, ◌+◌, ◌^◌, List, [], ◌∷◌, ◌++◌, map, ◌≡◌, pos, negsuc}
use Prim.Native.Char.{code}
use Prim.Native.String.{String}
use Rattle.std.proofs.Math.Option.{none, some}
use Rattle.rules.specs.Numbers.{largest_stamp, settings_of, A, B, D, W, FJ}
use Rattle.rules.specs.LayoutFacts.{key}
use Rattle.rules.specs.Pairs.{Pair, Lent, no_pairs, P, longest}
use Rattle.rules.specs.PairFacts.{pair}
use Rattle.rules.specs.States.{at}
use Rattle.rules.specs.ZeroDelay.{Sending, backspace, sign}
use Rattle.rules.specs.GivenBack.{Answer, step}
use Rattle.rules.specs.Sequences.{state, items}
use Rattle.rules.specs.Distance.{Asking, not_answered, asking}
use Rattle.rules.specs.declared.Thumb.{Thumb}
use Rattle.rules.specs.declared.Thumb.TheVariants.{Left, Right}
use Rattle.rules.specs.declared.Settings.{Settings}
use Rattle.rules.specs.declared.Resting.{Resting}
use Rattle.rules.specs.declared.Resting.TheVariants.{S1, S2, S3, S4, S5, S6, S7, S8}
use Rattle.rules.specs.declared.Machine.{Machine}
use Rattle.rules.specs.declared.Face.TheVariants.{Plain, With}
use Rattle.rules.specs.declared.Item.{Item}
use Rattle.rules.specs.declared.Item.TheVariants.{Character, Mark, Together}
use Rattle.rules.specs.declared.Event.{Event}

-- key 21 is か, え, が; 24 is さ, れ, ざ
abbrev pub か : Item
か = Character (key 21) Plain

abbrev pub え : Item
え = Character (key 21) (With Left)

abbrev pub が : Item
が = Character (key 21) (With Right)

abbrev pub さ : Item
さ = Character (key 24) Plain

abbrev pub ざ : Item
ざ = Character (key 24) (With Right)

abbrev pub right_mark : Item
right_mark = Mark Right

-- A line of an example: an event, or what 01 says of the moment after the events above it.
pub data Line : Type 0 where
  event : Event → Line
  -- the items of the whole run so far
  text : List Item → Line
  -- the resting state
  rests : Resting → Line
  -- what the last event sent
  sent : List Sending → Line
  -- the number that the last event gave back
  answered : ℕ → Line
  -- how far the deadline lies, asked at a stamp
  asked : ℕ → Asking → Line

-- an event's kind, key and stamp
abbrev pub an_event : ℕ → ℕ → ℕ → Event
an_event kind k n = record { kind = kind; key = key k; stamp = at n }

abbrev pub arrives : ℕ → ℕ → ℕ → Line
arrives kind k n = event (an_event kind k n)

abbrev pub thumb_key : Thumb → ℕ
thumb_key Left = 0
thumb_key Right = 1

abbrev pub down : ℕ → ℕ → Line
down k n = arrives 1 k n

abbrev pub up : ℕ → ℕ → Line
up k n = arrives 2 k n

abbrev pub thumb : Thumb → ℕ → Line
thumb O n = arrives 3 (thumb_key O) n

abbrev pub thumb_up : Thumb → ℕ → Line
thumb_up O n = arrives 4 (thumb_key O) n

abbrev pub tick : ℕ → Line
tick n = arrives 6 0 n

-- An example: its name, what is lent, the settings and its lines.
pub record Example : Type 0 where
  pub name : String
  pub lent : Lent
  pub settings : Settings
  pub lines : List Line

abbrev pub with_list : String → Lent → Settings → List Line → Example
with_list n g s l = record { name = n; lent = g; settings = s; lines = l }

abbrev pub example : String → Settings → List Line → Example
example n s l = with_list n no_pairs s l

-- T=100, J=L=50, solo 0 unless said
abbrev pub usual : Settings
usual = settings_of 100 50 50 0

abbrev pub with_solo : Settings
with_solo = settings_of 100 50 50 1

abbrev pub with_J_60 : Settings
with_J_60 = settings_of 100 60 50 0

abbrev pub with_J_70 : Settings
with_J_70 = settings_of 100 70 50 0

abbrev pub with_L_60 : Settings
with_L_60 = settings_of 100 50 60 0

abbrev pub slow : Settings
slow = settings_of 1000 50 50 0

abbrev pub nothing : Line
nothing = text []

abbrev pub function : ℕ → Line
function n = arrives 5 0 n

abbrev pub examples : List Example
examples =
    example "P1" usual (down 21 0 ∷ tick 99 ∷ nothing ∷ tick 100 ∷ text (か ∷ []) ∷ []) ∷
    example "P2" usual (down 21 0 ∷ up 21 50 ∷ text (か ∷ []) ∷ []) ∷
    example "P3" usual (down 21 0 ∷ thumb Right 30 ∷ up 21 59 ∷ text (か ∷ []) ∷ rests (S3 Right (at 30)) ∷ []) ∷
    example "P4" usual (down 21 0 ∷ thumb Right 30 ∷ up 21 60 ∷ text (が ∷ []) ∷ rests S1 ∷ []) ∷
    example "P5" usual (thumb Right 0 ∷ down 21 30 ∷ tick 59 ∷ nothing ∷ tick 60 ∷ text (が ∷ []) ∷ []) ∷
    example "P6" usual (down 21 0 ∷ thumb Right 0 ∷ tick 0 ∷ text (が ∷ []) ∷ []) ∷
    example "P7" usual
    (down 21 0 ∷ thumb Right 30 ∷ down 24 50 ∷ text (か ∷ []) ∷ tick 70 ∷ text (か ∷ ざ ∷ []) ∷ []) ∷
    example "P8" with_J_60
    (down 21 0 ∷ thumb Right 30 ∷ down 24 60 ∷ text (が ∷ []) ∷ rests (S2 (key 24) (at 60)) ∷ tick 126 ∷ text (が ∷ []) ∷
    tick 127 ∷ text (が ∷ さ ∷ []) ∷ []) ∷
    example "P9" with_solo
    (thumb Right 0 ∷ down 21 40 ∷ thumb_up Right 60 ∷ tick 79 ∷ nothing ∷ tick 80 ∷ text (right_mark ∷ か ∷ []) ∷
    sent (backspace ∷ sign 2 ∷ sign (code "か") ∷ []) ∷ []) ∷
    example "P10" with_solo
    (thumb Right 0 ∷ down 21 40 ∷ thumb Left 60 ∷ text (right_mark ∷ []) ∷ tick 80 ∷ text (right_mark ∷ え ∷ []) ∷ []) ∷
    example "P11" usual (thumb Right 0 ∷ down 21 1000 ∷ tick 1099 ∷ nothing ∷ tick 1100 ∷ text (が ∷ []) ∷ []) ∷ []

-- Two of "Where a programmer slips": the deadline that is due comes before the event; waits are rounded up. And which percentage
-- an overlap is measured by: J where the character came first, L where the thumb did.
abbrev pub slips : List Example
slips =
    example "late first" usual (down 21 0 ∷ thumb Right 100 ∷ tick 200 ∷ text (か ∷ []) ∷ []) ∷
    example "rounded up" with_J_70 (down 21 0 ∷ thumb Right 10 ∷ tick 33 ∷ nothing ∷ tick 34 ∷ text (が ∷ []) ∷ []) ∷
    example "by J" with_J_60 (down 21 0 ∷ thumb Right 30 ∷ up 21 70 ∷ text (か ∷ []) ∷ rests (S3 Right (at 30)) ∷ []) ∷
    example "by L" with_L_60
    (thumb Right 0 ∷ down 21 30 ∷ thumb_up Right 70 ∷ nothing ∷ rests (S6 Right (at 0) (key 21) (at 30) (at 70)) ∷ []) ∷ []

-- 4/12: with a large T the short-overlap time decides a plain chord. 399 ms are short, 400 are not.
abbrev pub slow_hands : List Example
slow_hands =
    example "an overlap of 399" slow
    (down 21 0 ∷ thumb Right 500 ∷ up 21 899 ∷ text (か ∷ []) ∷ rests (S3 Right (at 500)) ∷ []) ∷
    example "an overlap of 400" slow (down 21 0 ∷ thumb Right 500 ∷ up 21 900 ∷ text (が ∷ []) ∷ rests S1 ∷ []) ∷ []

-- 7/12: a repeat and an up of a key not held act as a tick, a function key does not clear the set, a seventh key is refused, but
-- no thumb and no function key.
abbrev pub held_down : List Example
held_down =
    example "a repeat" usual
    (down 21 0 ∷ down 21 99 ∷ answered 0 ∷ nothing ∷ rests (S2 (key 21) (at 0)) ∷ down 21 100 ∷ text (か ∷ []) ∷ rests S1 ∷
    up 21 150 ∷ down 21 160 ∷ rests (S2 (key 21) (at 160)) ∷ []) ∷
    example "an up that comes alone" usual (up 21 0 ∷ answered 0 ∷ down 21 10 ∷ up 24 20 ∷ nothing ∷ rests (S2 (key 21) (at 10)) ∷ []) ∷
    example "a function key" usual (down 21 0 ∷ arrives 5 0 10 ∷ text (か ∷ []) ∷ down 21 20 ∷ rests S1 ∷ []) ∷
    example "a seventh key" usual
    (down 0 0 ∷ down 2 0 ∷ down 3 0 ∷ down 4 0 ∷ down 5 0 ∷ down 30 0 ∷ answered 0 ∷ down 21 0 ∷ answered 11 ∷
    rests (S2 (key 30) (at 0)) ∷ thumb Right 0 ∷ answered 0 ∷ rests (S4 (key 30) (at 0) Right (at 0)) ∷ thumb_up Right 0 ∷ answered 0 ∷
    arrives 5 0 0 ∷ answered 0 ∷ rests S1 ∷ down 31 0 ∷ answered 3 ∷ down 21 (largest_stamp + 1) ∷ answered 4 ∷ down 4 5 ∷ answered 0 ∷
    down 21 4 ∷ answered 5 ∷ up 4 5 ∷ down 21 5 ∷ answered 0 ∷ rests (S2 (key 21) (at 5)) ∷ []) ∷ []

-- The answers to one that asks. A machine whose settings are out of range is not well formed.
abbrev pub to_wait : ℕ → Asking
to_wait n = record { number = 0; distance = some (pos n) }

abbrev pub due_now : Asking
due_now = to_wait 0

abbrev pub one_late : Asking
one_late = record { number = 0; distance = some (negsuc 0) }

abbrev pub no_deadline : Asking
no_deadline = record { number = 0; distance = none }

abbrev pub refused : ℕ → Asking
refused n = not_answered n

-- Distances of 3/12: to the deadlines of examples above, one for each state that has one; and the refusals.
abbrev pub distances : List Example
distances =
    example "P1" usual
    (asked 0 no_deadline ∷ down 21 0 ∷ asked 0 (to_wait 100) ∷ asked 99 (to_wait 1) ∷ asked 100 due_now ∷ asked 101 one_late ∷
    tick 100 ∷ asked 100 no_deadline ∷ []) ∷
    example "P3" usual (down 21 0 ∷ thumb Right 30 ∷ asked 59 (to_wait 1) ∷ asked 60 due_now ∷ []) ∷
    example "P5" usual (thumb Right 0 ∷ down 21 30 ∷ asked 59 (to_wait 1) ∷ []) ∷
    example "P11" usual (thumb Right 0 ∷ down 21 1000 ∷ asked 1099 (to_wait 1) ∷ []) ∷
    example "P9" with_solo (thumb Right 0 ∷ down 21 40 ∷ thumb_up Right 60 ∷ asked 79 (to_wait 1) ∷ asked 81 one_late ∷ []) ∷
    example "a thumb alone, solo 0" usual (thumb Right 0 ∷ asked 1000 no_deadline ∷ []) ∷
    example "a thumb alone, solo 1" with_solo (thumb Right 0 ∷ asked 40 (to_wait 60) ∷ []) ∷
    example "refused" usual
    (down 21 50 ∷ asked 49 (refused 5) ∷ asked 50 (to_wait 100) ∷ asked (largest_stamp + 1) (refused 4) ∷ []) ∷
    example "refused as a state" (settings_of 49 50 50 0) (asked 0 (refused 2) ∷ asked (largest_stamp + 1) (refused 2) ∷ []) ∷ []

-- 9/12. Keys 21 and 24 together give ヴ, 24 and 18 ヷ; 19 and 0 are in no pair. T_s=100, N=50 unless said.
abbrev pub lent_with : List Pair → ℕ → ℕ → Lent
lent_with l t n = record { pairs = l; t_s = t; n = n }

abbrev pub two_pairs : List Pair
two_pairs = pair 21 24 (code "ヴ") ∷ pair 24 18 (code "ヷ") ∷ []

abbrev pub ヴ : Item
ヴ = Together (key 21) (key 24) (code "ヴ")

-- the same, with 24 pressed first
abbrev pub ヴ_turned : Item
ヴ_turned = Together (key 24) (key 21) (code "ヴ")

abbrev pub い : Item
い = Character (key 18) Plain

abbrev pub stop : Item
stop = Character (key 0) Plain

abbrev pub with_pairs : String → List Line → Example
with_pairs n l = with_list n (lent_with two_pairs 100 50) usual l

-- 21@0, 24@30, and what comes then: a is 30
abbrev pub in_S7 : String → List Line → Example
in_S7 n l = with_pairs n (down 21 0 ∷ down 24 30 ∷ l)

-- with 21 up@59: b was 29, and the deadline is 88
abbrev pub in_S8 : String → List Line → Example
in_S8 n l = in_S7 n (up 21 59 ∷ l)

abbrev pub rests_S7 : ℕ → ℕ → ℕ → ℕ → Line
rests_S7 M m K k = rests (S7 (key M) (at m) (key K) (at k))

abbrev pub rests_S8 : ℕ → ℕ → ℕ → ℕ → ℕ → Line
rests_S8 M m K k r = rests (S8 (key M) (at m) (key K) (at k) (at r))

-- two shown letters give way to the pair's character, and c is shown behind it
abbrev pub sent_ヴ : List Sending → Line
sent_ヴ more = sent (backspace ∷ backspace ∷ sign (code "ヴ") ∷ more)

-- Two letters wait: S7, line by line.
abbrev pub two_wait : List Example
two_wait =
    in_S7 "late" (sent (sign (code "さ") ∷ []) ∷ asked 30 (to_wait 100) ∷ asked 131 one_late ∷ tick 129 ∷ nothing ∷ rests_S7 21 0 24 30 ∷
    tick 130 ∷ text (ヴ ∷ []) ∷ sent_ヴ [] ∷ rests S1 ∷ []) ∷
    with_pairs "either order" (down 24 0 ∷ down 21 30 ∷ tick 130 ∷ text (ヴ_turned ∷ []) ∷ sent_ヴ [] ∷ []) ∷
    with_pairs "no pair" (down 21 0 ∷ down 18 30 ∷ text (か ∷ []) ∷ sent (sign (code "い") ∷ []) ∷ rests (S2 (key 18) (at 30)) ∷ []) ∷
    with_pairs "equal stamps" (down 21 0 ∷ down 24 0 ∷ rests_S7 21 0 24 0 ∷ down 18 0 ∷ text (か ∷ []) ∷ rests_S7 24 0 18 0 ∷ []) ∷
    in_S7 "a third letter, further off"
    (down 18 61 ∷ text (ヴ ∷ []) ∷ sent_ヴ (sign (code "い") ∷ []) ∷ rests (S2 (key 18) (at 61)) ∷ []) ∷
    in_S7 "a third letter, equal gaps, a pair with the second"
    (down 18 60 ∷ text (か ∷ []) ∷ sent (sign (code "い") ∷ []) ∷ rests_S7 24 30 18 60 ∷ []) ∷
    in_S7 "a third letter, equal gaps, no pair with the second"
    (down 19 60 ∷ text (か ∷ さ ∷ []) ∷ sent (sign (code "ん") ∷ []) ∷ rests (S2 (key 19) (at 60)) ∷ []) ∷
    in_S7 "a thumb, further off" (thumb Right 61 ∷ text (ヴ ∷ []) ∷ sent_ヴ [] ∷ rests (S3 Right (at 61)) ∷ []) ∷
    in_S7 "a thumb, equal gaps"
    (thumb Right 60 ∷ text (か ∷ []) ∷ sent [] ∷ rests (S4 (key 24) (at 30) Right (at 60)) ∷ tick 90 ∷ text (か ∷ ざ ∷ []) ∷ []) ∷
    in_S7 "M up, a short overlap" (up 21 59 ∷ nothing ∷ sent [] ∷ rests_S8 21 0 24 30 59 ∷ []) ∷
    in_S7 "M up, no short overlap" (up 21 60 ∷ text (ヴ ∷ []) ∷ sent_ヴ [] ∷ rests S1 ∷ []) ∷
    in_S7 "M up, late already" (up 21 130 ∷ text (ヴ ∷ []) ∷ rests S1 ∷ []) ∷
    -- no overlap at all: S8 is due at once, so what is late comes before K's up
    in_S7 "both up at K's press"
    (up 21 30 ∷ rests_S8 21 0 24 30 30 ∷ asked 30 due_now ∷ up 24 30 ∷ text (か ∷ さ ∷ []) ∷ sent [] ∷ rests S1 ∷ []) ∷
    in_S7 "K up" (up 24 31 ∷ text (ヴ ∷ []) ∷ sent_ヴ [] ∷ rests S1 ∷ []) ∷
    in_S7 "a function key" (function 31 ∷ text (ヴ ∷ []) ∷ sent_ヴ [] ∷ rests S1 ∷ []) ∷
    in_S7 "a tick, a thumb up, repeats"
    (tick 31 ∷ thumb_up Right 32 ∷ down 21 33 ∷ down 24 34 ∷ up 19 35 ∷ answered 0 ∷ nothing ∷ rests_S7 21 0 24 30 ∷ []) ∷
    with_pairs "another key up" (down 0 0 ∷ down 21 10 ∷ down 24 40 ∷ up 0 41 ∷ text (stop ∷ []) ∷ rests_S7 21 10 24 40 ∷ []) ∷ []

-- M is up and two letters wait: S8, line by line.
abbrev pub one_is_up : List Example
one_is_up =
    in_S8 "late" (asked 59 (to_wait 29) ∷ asked 89 one_late ∷ tick 87 ∷ nothing ∷ tick 88 ∷ text (か ∷ さ ∷ []) ∷ sent [] ∷ rests S1 ∷ []) ∷
    in_S8 "a third letter, further off"
    (down 18 61 ∷ text (ヴ ∷ []) ∷ sent_ヴ (sign (code "い") ∷ []) ∷ rests (S2 (key 18) (at 61)) ∷ []) ∷
    in_S8 "a third letter, equal gaps, a pair with the second"
    (down 18 60 ∷ text (か ∷ []) ∷ sent (sign (code "い") ∷ []) ∷ rests_S7 24 30 18 60 ∷ []) ∷
    in_S8 "a third letter, equal gaps, no pair with the second"
    (down 19 60 ∷ text (か ∷ さ ∷ []) ∷ sent (sign (code "ん") ∷ []) ∷ rests (S2 (key 19) (at 60)) ∷ []) ∷
    in_S8 "M again, further off" (down 21 61 ∷ text (ヴ ∷ []) ∷ sent_ヴ (sign (code "か") ∷ []) ∷ rests (S2 (key 21) (at 61)) ∷ []) ∷
    in_S8 "M again, equal gaps" (down 21 60 ∷ text (か ∷ []) ∷ sent (sign (code "か") ∷ []) ∷ rests_S7 24 30 21 60 ∷ []) ∷
    in_S8 "a thumb, further off" (thumb Left 61 ∷ text (ヴ ∷ []) ∷ sent_ヴ [] ∷ rests (S3 Left (at 61)) ∷ []) ∷
    in_S8 "a thumb, equal gaps" (thumb Left 60 ∷ text (か ∷ []) ∷ sent [] ∷ rests (S4 (key 24) (at 30) Left (at 60)) ∷ []) ∷
    in_S8 "K up" (up 24 87 ∷ text (ヴ ∷ []) ∷ sent_ヴ [] ∷ rests S1 ∷ []) ∷
    with_list "K up, L=60" (lent_with two_pairs 100 50) with_L_60
    (down 21 0 ∷ down 24 30 ∷ up 21 59 ∷ up 24 78 ∷ text (ヴ ∷ []) ∷ sent_ヴ [] ∷ rests S1 ∷ []) ∷
    with_list "K up, L=60, short of it" (lent_with two_pairs 100 50) with_L_60
    (down 21 0 ∷ down 24 30 ∷ up 21 59 ∷ up 24 79 ∷ text (か ∷ さ ∷ []) ∷ sent [] ∷ rests S1 ∷ []) ∷
    -- 100·30 is 60·50, which is not below it
    with_list "K up, L=60, equal to it" (lent_with two_pairs 100 50) with_L_60
    (down 21 0 ∷ down 24 31 ∷ up 21 61 ∷ rests_S8 21 0 24 31 61 ∷ up 24 81 ∷ text (ヴ ∷ []) ∷ rests S1 ∷ []) ∷
    with_list "K up, by L and not by J" (lent_with two_pairs 100 50) with_J_70
    (down 21 0 ∷ down 24 30 ∷ up 21 59 ∷ rests_S8 21 0 24 30 59 ∷ up 24 87 ∷ text (ヴ ∷ []) ∷ rests S1 ∷ []) ∷
    -- the short-overlap time of S4 and S5 bounds neither: overlaps of 450
    with_list "overlaps of more than 400" (lent_with two_pairs 1_000 50) with_L_60
    (down 21 0 ∷ down 24 500 ∷ up 21 950 ∷ rests_S8 21 0 24 500 950 ∷ up 24 1_399 ∷ text (か ∷ さ ∷ []) ∷ sent [] ∷ rests S1 ∷ []) ∷
    in_S8 "a function key" (function 60 ∷ text (ヴ ∷ []) ∷ sent_ヴ [] ∷ rests S1 ∷ []) ∷
    in_S8 "a tick, a thumb up, a repeat, M up once more"
    (tick 60 ∷ thumb_up Right 61 ∷ down 24 62 ∷ up 21 63 ∷ answered 0 ∷ nothing ∷ rests_S8 21 0 24 30 59 ∷ []) ∷
    with_pairs "another key up"
    (down 0 0 ∷ down 21 10 ∷ down 24 40 ∷ up 21 69 ∷ up 0 70 ∷ text (stop ∷ []) ∷ rests_S8 21 10 24 40 69 ∷ []) ∷ []

-- How long letters wait, by the list, T_s and N.
abbrev pub how_long : List Example
how_long =
    -- P=200: a key in some pair waits the larger of A and P, one in no pair A
    with_list "P above A" (lent_with two_pairs 200 50) usual
    (down 18 0 ∷ asked 0 (to_wait 200) ∷ tick 199 ∷ nothing ∷ tick 200 ∷ text (い ∷ []) ∷ []) ∷
    with_list "in no pair" (lent_with two_pairs 200 50) usual (down 0 0 ∷ asked 0 (to_wait 100) ∷ tick 100 ∷ text (stop ∷ []) ∷ []) ∷
    with_list "A above P" (lent_with two_pairs 50 50) usual (down 21 0 ∷ asked 0 (to_wait 100) ∷ []) ∷
    with_list "A, rounded up, above P" (lent_with two_pairs 50 50) with_J_60 (down 21 0 ∷ asked 0 (to_wait 67) ∷ []) ∷
    with_list "a pair within P, behind A" (lent_with two_pairs 200 50) usual
    (down 21 0 ∷ down 24 150 ∷ nothing ∷ rests_S7 21 0 24 150 ∷ []) ∷
    -- two letters wait T_s, be P shorter (67) or longer (150)
    with_list "T_s and not P, which is shorter" (lent_with two_pairs 100 60) (settings_of 50 50 50 0)
    (down 21 0 ∷ down 24 30 ∷ asked 30 (to_wait 100) ∷ []) ∷
    with_list "T_s and not P, which is longer" (lent_with two_pairs 100 40) (settings_of 50 50 50 0)
    (down 21 0 ∷ down 24 30 ∷ asked 30 (to_wait 100) ∷ []) ∷
    -- N=60: P is 100·40/60, and S8's wait 44·40/60, both rounded up
    with_list "rounded up" (lent_with two_pairs 100 60) (settings_of 50 50 50 0)
    (down 21 0 ∷ asked 0 (to_wait 67) ∷ down 24 30 ∷ up 21 74 ∷ rests_S8 21 0 24 30 74 ∷ asked 74 (to_wait 30) ∷ []) ∷
    with_list "by N" (lent_with two_pairs 100 60) usual (down 21 0 ∷ down 24 30 ∷ up 21 75 ∷ text (ヴ ∷ []) ∷ rests S1 ∷ []) ∷
    -- the longest waits come near to these (the numbers stand below)
    with_list "145 of 150" (lent_with two_pairs 50 50) (settings_of 50 50 50 0)
    (down 21 0 ∷ down 24 49 ∷ up 21 97 ∷ asked 97 (to_wait 48) ∷ tick 144 ∷ nothing ∷ tick 145 ∷ text (か ∷ さ ∷ []) ∷ []) ∷
    with_list "217 of 220" (lent_with two_pairs 60 50) usual
    (down 21 0 ∷ down 24 99 ∷ up 21 158 ∷ asked 158 (to_wait 59) ∷ tick 216 ∷ nothing ∷ tick 217 ∷ text (か ∷ さ ∷ []) ∷ []) ∷
    with_list "2,995 of 3,000" (lent_with two_pairs 1_000 50) (settings_of 50 50 50 0)
    (down 21 0 ∷ down 24 999 ∷ up 21 1_997 ∷ asked 1_997 (to_wait 998) ∷ tick 2_994 ∷ nothing ∷ tick 2_995 ∷ text (か ∷ さ ∷ []) ∷ []) ∷ []

-- What else the list, T_s and N decide: what is sent, and 12.
abbrev pub lent_decides : List Example
lent_decides =
    -- a pair's character that is shown already stays
    with_list "か for か, さ" (lent_with (pair 21 24 (code "か") ∷ []) 100 50) usual
    (down 21 0 ∷ down 24 30 ∷ up 24 31 ∷ text (Together (key 21) (key 24) (code "か") ∷ []) ∷ sent (backspace ∷ []) ∷ []) ∷
    with_list "か for か, さ, and a third letter" (lent_with (pair 21 24 (code "か") ∷ []) 100 50) usual
    (down 21 0 ∷ down 24 30 ∷ down 18 61 ∷ sent (backspace ∷ sign (code "い") ∷ []) ∷ []) ∷
    with_list "さ for か, さ" (lent_with (pair 21 24 (code "さ") ∷ []) 100 50) usual
    (down 21 0 ∷ down 24 30 ∷ up 24 31 ∷ sent (backspace ∷ backspace ∷ sign (code "さ") ∷ []) ∷ []) ∷
    -- 12 before 2, 3, 4 and 5, with no pairs too
    with_list "12 before 2" (lent_with (pair 21 21 (code "ヴ") ∷ []) 100 50) (settings_of 49 50 50 0)
    (asked 0 (refused 12) ∷ down 21 0 ∷ answered 12 ∷ down 31 (largest_stamp + 1) ∷ answered 12 ∷ nothing ∷ rests S1 ∷ []) ∷
    with_list "12 with no pairs" (lent_with [] 49 50) usual (asked (largest_stamp + 1) (refused 12) ∷ down 31 0 ∷ answered 12 ∷ []) ∷ []

-- A letter that waits with a thumb asks no list: 21 and 24, a pair, where a thumb came before one of them or between them. (ListNotRead
-- in StepFacts.antt says it of every list.)
abbrev pub beside_a_thumb : List Example
beside_a_thumb =
    with_pairs "S5, a letter" (thumb Right 0 ∷ down 21 30 ∷ down 24 50 ∷ text (が ∷ []) ∷ rests (S2 (key 24) (at 50)) ∷ []) ∷
    with_pairs "S6, a letter"
    (thumb Right 0 ∷ down 21 30 ∷ thumb_up Right 50 ∷ rests (S6 Right (at 0) (key 21) (at 30) (at 50)) ∷ down 24 60 ∷ text (が ∷ []) ∷
    rests (S2 (key 24) (at 60)) ∷ []) ∷
    with_pairs "S4, a letter nearer to the thumb"
    (down 21 0 ∷ thumb Right 30 ∷ down 24 50 ∷ text (か ∷ []) ∷ rests (S5 Right (at 30) (key 24) (at 50)) ∷ []) ∷
    with_list "S4, a letter as far from the thumb" (lent_with two_pairs 100 50) with_J_60
    (down 21 0 ∷ thumb Right 30 ∷ down 24 60 ∷ text (が ∷ []) ∷ rests (S2 (key 24) (at 60)) ∷ []) ∷ []

-- The lines as the rules have them: each thing that 01 says is replaced by what there is. es are the events so far, from a
-- fresh state; n is the number that the last of them gave back, q what it sent.
abbrev pub observed_lines : Lent → Settings → List Event → ℕ → List Sending → List Line → List Line
observed_lines g s es n q [] = []
observed_lines g s es n q (event e ∷ ls) =
    event e ∷ observed_lines g s (es ++ (e ∷ [])) (step g (state g s es) e).number (step g (state g s es) e).sendings ls
observed_lines g s es n q (text said ∷ ls) = text (items g s es) ∷ observed_lines g s es n q ls
observed_lines g s es n q (rests said ∷ ls) = rests (state g s es).resting ∷ observed_lines g s es n q ls
observed_lines g s es n q (sent said ∷ ls) = sent q ∷ observed_lines g s es n q ls
observed_lines g s es n q (answered said ∷ ls) = answered n ∷ observed_lines g s es n q ls
observed_lines g s es n q (asked t said ∷ ls) = asked t (asking g (state g s es) (at t)) ∷ observed_lines g s es n q ls

abbrev pub observed : Example → Example
observed x = with_list x.name x.lent x.settings (observed_lines x.lent x.settings [] 0 [] x.lines)

-- The examples hold: what the rules give is what the table says.
abbrev pub ExamplesHold : Type 0
ExamplesHold = map observed examples ≡ examples

abbrev pub SlipsHold : Type 0
SlipsHold = map observed slips ≡ slips

abbrev pub SlowHandsHold : Type 0
SlowHandsHold = map observed slow_hands ≡ slow_hands

abbrev pub HeldDownHold : Type 0
HeldDownHold = map observed held_down ≡ held_down

abbrev pub TwoWaitHold : Type 0
TwoWaitHold = map observed two_wait ≡ two_wait

abbrev pub OneIsUpHold : Type 0
OneIsUpHold = map observed one_is_up ≡ one_is_up

abbrev pub HowLongHold : Type 0
HowLongHold = map observed how_long ≡ how_long

abbrev pub LentDecidesHold : Type 0
LentDecidesHold = map observed lent_decides ≡ lent_decides

abbrev pub BesideAThumbHold : Type 0
BesideAThumbHold = map observed beside_a_thumb ≡ beside_a_thumb

-- A machine made by hand, that no sequence leaves: key 21 waits since a stamp, whether it is held or not.
abbrev pub waits_21 : ℕ → ℕ → ℕ → Machine
waits_21 since last held = record { settings = usual; resting = S2 (key 21) (at since); last = at last; held = held }

abbrev pub gives : ℕ → List Item → List Sending → Machine → Answer
gives n is q m = record { number = n; items = is; sendings = q; machine = m }

-- 7/12 at such machines: only the held set says what is a repeat, what is a new press and what an up without a down, not what waits.
-- The set is empty; or the keys 0 to 5; or 0 to 4 and 21.
pub record ByHandHold : Type 0 where
  pub up_as_tick : step no_pairs (waits_21 0 0 0) (an_event 2 21 50) ≡ gives 0 [] [] (waits_21 0 50 0)
  pub down_is_new : step no_pairs (waits_21 0 0 0) (an_event 1 21 50) ≡ gives 0 (か ∷ []) (sign (code "か") ∷ []) (waits_21 50 50 (2 ^ 21))
  pub down_refused : step no_pairs (waits_21 0 0 63) (an_event 1 21 50) ≡ gives 11 [] [] (waits_21 0 0 63)
  pub repeat_accepted : step no_pairs (waits_21 0 0 (31 + 2 ^ 21)) (an_event 1 21 50) ≡ gives 0 [] [] (waits_21 0 50 (31 + 2 ^ 21))

-- 9/12 at a machine that rests in S7 with 21 and 24: with a list in which they are a pair it goes on, with another one it is not well
-- formed.
abbrev pub waits_21_24 : ℕ → Machine
waits_21_24 last = record { settings = usual; resting = S7 (key 21) (at 0) (key 24) (at 30); last = at last; held = 0 }

pub record OtherListHold : Type 0 where
  pub its_list : step (lent_with two_pairs 100 50) (waits_21_24 30) (an_event 6 0 40) ≡ gives 0 [] [] (waits_21_24 40)
  pub other_list : step (lent_with (pair 21 18 (code "ヴ") ∷ []) 100 50) (waits_21_24 30) (an_event 6 0 40) ≡ gives 2 [] [] (waits_21_24 30)
  pub no_list : step no_pairs (waits_21_24 30) (an_event 6 0 40) ≡ gives 2 [] [] (waits_21_24 30)

-- More machines made by hand, well formed or not, with the usual settings and no key held: what is lent, what rests, the last stamp, and
-- the number that a tick at that stamp is answered.
pub record ByHand : Type 0 where
  pub lent : Lent
  pub resting : Resting
  pub last : ℕ
  pub number : ℕ

abbrev pub made_with : List Pair → Resting → ℕ → ℕ → ByHand
made_with l x last n = record { lent = lent_with l 100 50; resting = x; last = last; number = n }

abbrev pub made : Resting → ℕ → ℕ → ByHand
made = made_with two_pairs

abbrev pub by_hand : List ByHand
by_hand =
    -- each of two waiting letters in some pair of the list, but not in one
    made_with (pair 21 18 (code "ヴ") ∷ pair 24 0 (code "ヷ") ∷ []) (S7 (key 21) (at 0) (key 24) (at 30)) 40 2 ∷
    made_with (pair 21 18 (code "ヴ") ∷ pair 24 0 (code "ヷ") ∷ []) (S8 (key 21) (at 0) (key 24) (at 30) (at 40)) 40 2 ∷
    made (S7 (key 21) (at 0) (key 24) (at 30)) 40 0 ∷
    made (S8 (key 21) (at 0) (key 24) (at 30) (at 40)) 40 0 ∷
    -- stamps in the order of events, equal ones too
    made (S4 (key 21) (at 40) Right (at 30)) 40 2 ∷
    made (S7 (key 21) (at 40) (key 24) (at 30)) 40 2 ∷
    made (S8 (key 21) (at 40) (key 24) (at 30) (at 40)) 40 2 ∷
    made (S8 (key 21) (at 0) (key 24) (at 30) (at 20)) 40 2 ∷
    made (S7 (key 21) (at 30) (key 24) (at 30)) 30 0 ∷
    made (S8 (key 21) (at 30) (key 24) (at 30) (at 30)) 30 0 ∷
    -- and none behind the last accepted one
    made (S7 (key 21) (at 0) (key 24) (at 50)) 40 2 ∷
    made (S8 (key 21) (at 0) (key 24) (at 30) (at 50)) 40 2 ∷ []

abbrev pub hand_made : ByHand → Machine
hand_made x = record { settings = usual; resting = x.resting; last = at x.last; held = 0 }

abbrev pub ticked : ByHand → ByHand
ticked x =
    record {
      lent = x.lent;
      resting = x.resting;
      last = x.last;
      number = (step x.lent (hand_made x) (an_event 6 0 x.last)).number;
    }

abbrev pub FormedByHandHold : Type 0
FormedByHandHold = map ticked by_hand ≡ by_hand

abbrev pub DistancesHold : Type 0
DistancesHold = map observed distances ≡ distances

-- A number that 01 works out.
pub data Number : Type 0 where
  A_is : ℕ → Number
  B_is : ℕ → Number
  D_is : ℕ → Number
  W_is : ℕ → Number
  -- FJ of a lag
  FJ_is : ℕ → ℕ → Number
  -- with pairs (9/12)
  P_is : ℕ → Number
  longest_is : ℕ → Number

pub record Worked : Type 0 where
  pub lent : Lent
  pub settings : Settings
  pub numbers : List Number

abbrev pub worked_with : Lent → Settings → List Number → Worked
worked_with g s n = record { lent = g; settings = s; numbers = n }

abbrev pub worked : Settings → List Number → Worked
worked s n = worked_with no_pairs s n

-- Where 01 leaves L open it is 50.
abbrev pub numbers : List Worked
numbers =
    worked with_J_60 (A_is 67 ∷ FJ_is 30 45 ∷ []) ∷
    worked with_J_70 (FJ_is 10 24 ∷ []) ∷
    worked usual (W_is 200 ∷ []) ∷
    worked slow (W_is 2_000 ∷ []) ∷
    worked (settings_of 200 99 99 0) (A_is 3 ∷ B_is 3 ∷ D_is 297 ∷ W_is 29_700 ∷ []) ∷
    -- the longest wait with pairs, where T_s + P is the largest of the three; where FJ is; and without pairs, whatever T_s and N
    worked_with (lent_with two_pairs 50 50) (settings_of 50 50 50 0) (P_is 50 ∷ longest_is 150 ∷ []) ∷
    worked_with (lent_with two_pairs 60 50) usual (P_is 60 ∷ longest_is 220 ∷ []) ∷
    worked_with (lent_with two_pairs 50 50) with_J_60 (A_is 67 ∷ D_is 100 ∷ W_is 250 ∷ longest_is 250 ∷ []) ∷
    -- D is the largest of A, P and D; and with L=10 B is 900, but D only 100
    worked_with (lent_with two_pairs 50 50) with_L_60 (P_is 50 ∷ D_is 101 ∷ longest_is 202 ∷ []) ∷
    worked_with (lent_with two_pairs 50 50) (settings_of 100 50 10 0) (B_is 900 ∷ D_is 100 ∷ longest_is 200 ∷ []) ∷
    -- P is the largest of the three
    worked_with (lent_with two_pairs 1_000 50) (settings_of 50 50 50 0) (P_is 1_000 ∷ longest_is 3_000 ∷ []) ∷
    worked_with (lent_with two_pairs 1_000 99) usual (P_is 11 ∷ longest_is 1_111 ∷ []) ∷
    worked_with (lent_with two_pairs 1_000 1) usual (P_is 99_000 ∷ longest_is 199_000 ∷ []) ∷
    worked_with (lent_with two_pairs 50 50) (settings_of 200 99 99 0) (W_is 29_700 ∷ longest_is 29_700 ∷ []) ∷
    worked_with (lent_with [] 1_000 1) usual (P_is 99_000 ∷ longest_is 200 ∷ []) ∷ []

abbrev pub computed_number : Lent → Settings → Number → Number
computed_number g s (A_is n) = A_is (A s)
computed_number g s (B_is n) = B_is (B s)
computed_number g s (D_is n) = D_is (D s)
computed_number g s (W_is n) = W_is (W s)
computed_number g s (FJ_is x n) = FJ_is x (FJ s x)
computed_number g s (P_is n) = P_is (P g)
computed_number g s (longest_is n) = longest_is (longest g s)

abbrev pub computed : Worked → Worked
computed w = worked_with w.lent w.settings (map (computed_number w.lent w.settings) w.numbers)

-- The numbers hold: what the definitions give is what the table says.
abbrev pub NumbersHold : Type 0
NumbersHold = map computed numbers ≡ numbers
