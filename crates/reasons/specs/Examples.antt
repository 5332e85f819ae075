-- The clerk's question, asked of document 01's keystrokes: each committed item with its reason, as one table. Then keystrokes of 4/12 and
-- of the pairs of 9/12. The proofs are in proofs/Examples.antt.
use Rattle.std.specs.Prelude.{ℕ, List, [], ◌∷◌, ◌++◌, map, ◌≡◌, ℤ, pos, negsuc}
use Prim.Native.String.{String}
use Rattle.std.proofs.Math.Option.{Option, none, some}
use Rattle.rules.specs.LayoutFacts.{key}
use Rattle.rules.specs.Pairs.{Lent, no_pairs}
use Rattle.rules.specs.States.{at}
use Rattle.rules.specs.OneEvent.{◌leaving◌}
use Rattle.rules.specs.Examples.{an_event, thumb_key, usual, with_solo, with_J_60, with_L_60, slow, lent_with, two_pairs}
use Rattle.rules.specs.Examples.{か, え, が, さ, ざ, い, ヴ, right_mark}
use Rattle.rules.specs.declared.Thumb.{Thumb}
use Rattle.rules.specs.declared.Thumb.TheVariants.{Left, Right}
use Rattle.rules.specs.declared.Settings.{Settings}
use Rattle.rules.specs.declared.Resting.{Resting}
use Rattle.rules.specs.declared.Resting.TheVariants.{S1, S2, S3, S4, S5, S7, S8}
use Rattle.rules.specs.declared.Item.{Item}
use Rattle.rules.specs.declared.Event.{Event}
use Rattle.rules.specs.declared.Input.TheVariants.{CharacterDown, CharacterUp, ThumbDown}
use Rattle.reasons.specs.Reason.{Cause, late, by, Test, nothing_compared, takes_thumb, takes_character, overlaps, stays}
use Rattle.reasons.specs.Reason.{overlaps_as_pair, overlaps_of, Otherwise, Reasoned, reasons}

abbrev pub down : ℕ → ℕ → Event
down k n = an_event 1 k n

abbrev pub up : ℕ → ℕ → Event
up k n = an_event 2 k n

abbrev pub thumb : Thumb → ℕ → Event
thumb O n = an_event 3 (thumb_key O) n

abbrev pub thumb_up : Thumb → ℕ → Event
thumb_up O n = an_event 4 (thumb_key O) n

abbrev pub tick : ℕ → Event
tick n = an_event 6 0 n

-- what rests, with its keys and stamps
abbrev pub letter : ℕ → ℕ → Resting
letter M m = S2 (key M) (at m)

abbrev pub letter_thumb : ℕ → ℕ → Thumb → ℕ → Resting
letter_thumb M m O o = S4 (key M) (at m) O (at o)

abbrev pub thumb_letter : Thumb → ℕ → ℕ → ℕ → Resting
thumb_letter O o M m = S5 O (at o) (key M) (at m)

abbrev pub letters : ℕ → ℕ → ℕ → ℕ → Resting
letters M m K k = S7 (key M) (at m) (key K) (at k)

abbrev pub letters_up : ℕ → ℕ → ℕ → ℕ → ℕ → Resting
letters_up M m K k r = S8 (key M) (at m) (key K) (at k) (at r)

-- so many milliseconds sooner or later, this would have been decided
abbrev pub ms : ℕ → List Item → Resting → Option Otherwise
ms n is x = some (record { ms = n; decision = is leaving x })

abbrev pub because : Item → Resting → Cause → Test → ℤ → Option Otherwise → Option Otherwise → Reasoned
because c x why t d sooner later =
    record { item = c; reason = record { before = x; cause = why; test = t; due = some d; sooner = sooner; later = later } }

-- by the deadline, which lies at the event: a millisecond sooner, this
abbrev pub when_due : Item → Resting → List Item → Resting → Reasoned
when_due c x is y = because c x late nothing_compared (pos 0) (ms 1 is y) none

-- Keystrokes and the reasons of what they commit.
pub record Asked : Type 0 where
  pub name : String
  pub lent : Lent
  pub settings : Settings
  pub events : List Event
  pub answers : List Reasoned

abbrev pub why_with : Lent → String → Settings → List Event → List Reasoned → Asked
why_with g n s es a = record { name = n; lent = g; settings = s; events = es; answers = a }

abbrev pub why : String → Settings → List Event → List Reasoned → Asked
why n s es a = why_with no_pairs n s es a

abbrev pub up_21 : Cause
up_21 = by (CharacterUp (key 21))

-- さい, with which both berth notices begin, and the い behind them
abbrev pub さい_typed : List Event
さい_typed = down 24 0 ∷ up 24 60 ∷ down 18 100 ∷ up 18 150 ∷ []

abbrev pub さい_because : List Reasoned
さい_because =
    because さ (letter 24 0) (by (CharacterUp (key 24))) nothing_compared (pos 40) none none ∷
    because い (letter 18 100) (by (CharacterUp (key 18))) nothing_compared (pos 50) none none ∷ []

abbrev pub い_because : Reasoned
い_because = when_due い (letter 18 300) [] (letter 18 0)

abbrev pub asked : List Asked
asked =
    why "P1" usual (down 21 0 ∷ tick 99 ∷ tick 100 ∷ []) (when_due か (letter 21 0) [] (letter 21 0) ∷ []) ∷
    -- up or late, it is か: no stamp turns that
    why "P2" usual (down 21 0 ∷ up 21 50 ∷ []) (because か (letter 21 0) up_21 nothing_compared (pos 50) none none ∷ []) ∷
    -- 29 ms of overlap, 30 were needed: 1 ms too early for が
    why "P3" usual (down 21 0 ∷ thumb Right 30 ∷ up 21 59 ∷ [])
    (because か (letter_thumb 21 0 Right 30) up_21 (overlaps 50 30 29) (pos 1) none (ms 1 (が ∷ []) S1) ∷ []) ∷
    why "P4" usual (down 21 0 ∷ thumb Right 30 ∷ up 21 60 ∷ [])
    (when_due が (letter_thumb 21 0 Right 30) (か ∷ []) (S3 Right (at 0)) ∷ []) ∷
    -- the thumb is 30 ms from 21 and 20 from 24: 24 takes it; 10 ms later 21 would have kept it
    why "P7" usual (down 21 0 ∷ thumb Right 30 ∷ down 24 50 ∷ tick 70 ∷ [])
    (because か (letter_thumb 21 0 Right 30) (by (CharacterDown (key 24))) (takes_thumb 30 20) (pos 10) none
    (ms 10 (が ∷ []) (letter 24 0)) ∷
    when_due ざ (thumb_letter Right 30 24 50) [] (thumb_letter Right 0 24 0) ∷ []) ∷
    -- equal gaps, 15 ms before the deadline: a millisecond sooner 24 would have taken the thumb
    why "P8" with_J_60 (down 21 0 ∷ thumb Right 30 ∷ down 24 60 ∷ tick 127 ∷ [])
    (because が (letter_thumb 21 0 Right 30) (by (CharacterDown (key 24))) (takes_thumb 30 30) (pos 15)
    (ms 1 (か ∷ []) (thumb_letter Right 0 24 0)) none ∷
    when_due さ (letter 24 60) [] (letter 24 0) ∷ []) ∷
    why "P10" with_solo (thumb Right 0 ∷ down 21 40 ∷ thumb Left 60 ∷ tick 80 ∷ [])
    (because right_mark (thumb_letter Right 0 21 40) (by (ThumbDown Left)) (takes_character 40 20) (pos 20) none
    (ms 20 (が ∷ []) (S3 Left (at 0))) ∷
    when_due え (letter_thumb 21 40 Left 60) [] (letter_thumb 21 0 Left 0) ∷ []) ∷
    -- a thumb that comes when M is due: a millisecond sooner they would have waited together
    why "late first" usual (down 21 0 ∷ thumb Right 100 ∷ []) (when_due か (letter 21 0) [] (letter_thumb 21 0 Right 0) ∷ []) ∷
    -- no lag, so nothing comes before its deadline
    why "P6" usual (down 21 0 ∷ thumb Right 0 ∷ tick 0 ∷ [])
    (because が (letter_thumb 21 0 Right 0) late nothing_compared (pos 0) none none ∷ []) ∷
    -- 4/12: not the deadline turns it, but the 400 ms
    why "an overlap of 399" slow (down 21 0 ∷ thumb Right 500 ∷ up 21 899 ∷ [])
    (because か (letter_thumb 21 0 Right 500) up_21 (overlaps 50 500 399) (pos 101) none (ms 1 (が ∷ []) S1) ∷ []) ∷
    -- さいがい, disaster: 21 was up 10 ms behind the deadline, so 11 ms sooner it would have been か
    why "disaster" usual
    (さい_typed ++ (down 21 200 ∷ thumb Right 230 ∷ up 21 270 ∷ thumb_up Right 280 ∷ down 18 300 ∷ tick 400 ∷ []))
    (さい_because ++
    (because が (letter_thumb 21 200 Right 230) late nothing_compared (negsuc 9) (ms 11 (か ∷ []) (S3 Right (at 0))) none ∷
    い_because ∷ [])) ∷
    -- さいかい, reopening: 21 was up 20 ms after the right thumb; 30 were needed: 10 ms too early for が
    why "reopening" usual
    (さい_typed ++ (down 21 200 ∷ thumb Right 230 ∷ up 21 250 ∷ thumb_up Right 280 ∷ down 18 300 ∷ tick 400 ∷ []))
    (さい_because ++
    (because か (letter_thumb 21 200 Right 230) up_21 (overlaps 50 30 20) (pos 10) none (ms 10 (が ∷ []) S1) ∷
    い_because ∷ [])) ∷ []

abbrev pub why_with_pairs : String → List Event → List Reasoned → Asked
why_with_pairs n es a = why_with (lent_with two_pairs 100 50) n usual (down 21 0 ∷ down 24 30 ∷ es) a

-- 9/12: 21 and 24 together give ヴ, 24 and 18 ヷ. T_s=100, N=50.
abbrev pub asked_of_pairs : List Asked
asked_of_pairs =
    why_with_pairs "parted by a third letter" (down 18 60 ∷ [])
    (because か (letters 21 0 24 30) (by (CharacterDown (key 18))) (stays 30 30) (pos 70) none (ms 1 (ヴ ∷ []) (letter 18 0)) ∷ []) ∷
    why_with_pairs "not parted by a third letter" (down 18 61 ∷ [])
    (because ヴ (letters 21 0 24 30) (by (CharacterDown (key 18))) (stays 30 31) (pos 69) (ms 1 (か ∷ []) (letters 24 0 18 0)) none ∷
    []) ∷
    why_with_pairs "no short overlap" (up 21 60 ∷ [])
    (because ヴ (letters 21 0 24 30) up_21 (overlaps_as_pair 50 100 30 30) (pos 70) (ms 1 [] (letters_up 21 0 24 0 0)) none ∷ []) ∷
    -- S8, due at 88: a third key turns it at 61, and at 88 once more
    why_with_pairs "one is up, and a thumb" (up 21 59 ∷ thumb Left 80 ∷ [])
    (because ヴ (letters_up 21 0 24 30 59) (by (ThumbDown Left)) (stays 30 50) (pos 8) (ms 20 (か ∷ []) (letter_thumb 24 0 Left 0))
    (ms 8 (か ∷ さ ∷ []) (S3 Left (at 0))) ∷ []) ∷
    why_with (lent_with two_pairs 100 50) "one is up, and the other" with_L_60 (down 21 0 ∷ down 24 30 ∷ up 21 59 ∷ up 24 78 ∷ [])
    (because ヴ (letters_up 21 0 24 30 59) (by (CharacterUp (key 24))) (overlaps_of 60 29 48) (pos 10) none (ms 1 (か ∷ さ ∷ []) S1) ∷
    []) ∷ []

-- the reasons as the rules have them
abbrev pub answered : Asked → Asked
answered q = why_with q.lent q.name q.settings q.events (reasons q.lent q.settings q.events)

pub record ReasonsHold : Type 0 where
  pub of_document_01 : map answered asked ≡ asked
  pub of_pairs : map answered asked_of_pairs ≡ asked_of_pairs
