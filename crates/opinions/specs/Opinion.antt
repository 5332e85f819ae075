-- Document 02, 11/12, "A plain second opinion": what the whole list of accepted events commits, and what waits at its end. It keeps no
-- waiting letter: from a place in the list, with at most a thumb still set, it looks forward for the first event that decides.
-- M is the event that pressed a letter, O the one that pressed a thumb, e the one that is met. S1 to S6 are named only so that a line is
-- found in 01, "One event".
use Rattle.std.specs.Prelude.{ℕ, zero, suc, ◌+◌, ◌-◌, ◌*◌, min, Bool, false, ◌&&◌, ◌||◌, not, List, [], ◌∷◌, ◌++◌, eqb, ltb, leb, length}
use Rattle.std.proofs.Math.Option.{Option, none, some}
use Rattle.choice.specs.Choice.{if◌then◌orelse◌}
use Rattle.rules.specs.{Numbers.{short_overlap_time, A, B, FJ, FL}, Sequences.{Press, press}}
use Rattle.rules.specs.declared.{Stamp.{Stamp}, Thumb.{Thumb}, Settings.{Settings}, Item.{Item}, Event.{Event}}
use Rattle.rules.specs.declared.{Thumb.TheVariants.{Left, Right}, Face.TheVariants.{Plain, With}, Item.TheVariants.{Character, Mark}}
use Rattle.opinions.specs.Earlier.{is, heard}

-- the milliseconds from one event to a later one
abbrev pub gap : Event → Event → ℕ
gap d e = e.stamp.0 - d.stamp.0

-- an event has the key of an earlier one, if there is one
abbrev pub of : Option Event → Event → Bool
of none e = false
of (some d) e = eqb e.key.0 d.key.0

-- What matters to a letter M (or none) and a thumb O that is set (or none): a letter goes down, M goes up, another thumb goes down, O goes
-- up, or the function key goes down.
unfoldable pub matters : Option Event → Option Event → Event → Bool
matters M O e = is 1 e || (is 2 e && of M e) || (is 3 e && not (of O e)) || (is 4 e && of O e) || is 5 e

-- an event is at or past a deadline, if there is one
abbrev pub late : Option Stamp → Event → Bool
late none e = false
late (some d) e = leb d.0 e.stamp.0

-- Looking forward: the list from the first event on that is late, or matters.
unfoldable pub ahead : Option Event → Option Event → Option Stamp → List Event → List Event
ahead M O due [] = []
ahead M O due (e ∷ es) = if late due e || matters M O e then e ∷ es orelse ahead M O due es

-- an event of a kind comes in time
abbrev pub in_time : ℕ → Option Stamp → Event → Bool
in_time kind due e = not (late due e) && is kind e

-- a deadline so many milliseconds after an event
abbrev pub due_after : Event → ℕ → Option Stamp
due_after d x = some (record { 0 = d.stamp.0 + x })

-- 100b < percent(a+b), and b<400
unfoldable pub short : ℕ → ℕ → ℕ → Bool
short percent a b = ltb (100 * b) (percent * (a + b)) && ltb b short_overlap_time

-- What is set at a place: nothing, a thumb, or a thumb that was given to the letter at this place.
pub data Set : Type 0 where
  free : Set
  thumb given : Event → Set

-- A decision. The list is over: what was decided, and the press that waits. Or: what was decided, and from where to go on.
pub data Decision : Type 0 where
  over : List Item → List Press → Decision
  on : List Item → Set → List Event → Decision

abbrev pub after : List Item → Decision → Decision
after i (over j w) = over (i ++ j) w
after i (on j h es) = on (i ++ j) h es

abbrev pub waits : Event → Decision
waits M = over [] (press M.key M.stamp ∷ [])

-- which thumb: 0 is the left one
abbrev pub which : Event → Thumb
which O = if eqb O.key.0 0 then Left orelse Right

abbrev pub alone : Event → List Item
alone M = Character M.key Plain ∷ []

abbrev pub together : Event → Event → List Item
together M O = Character M.key (With (which O)) ∷ []

module _ (s : Settings) where
  abbrev pub mark : Event → List Item
  mark O = if eqb s.solo 1 then Mark (which O) ∷ [] orelse []

  -- S6, the thumb was released at R. In time a press or M up: M with O. Late, or the function key: they were two.
  abbrev pub released : Event → Event → Option Stamp → List Event → Decision
  released O M due [] = waits M
  released O M due (e ∷ es) =
      if late due e || is 5 e then on (mark O ++ alone M) free (e ∷ es) orelse on (together M O) free (e ∷ es)

  abbrev pub from_released : Event → Event → Event → List Event → Decision
  from_released O M R es = let due = due_after R (gap M R) in released O M due (ahead (some M) none due es)

  -- S4, letter, then thumb. In time another letter, nearer to O than M is: M alone, and O is given to it. In time M up after a short
  -- overlap: M alone, and O stays set. Else M with O.
  abbrev pub letter_first : Event → Event → Option Stamp → List Event → Decision
  letter_first M O due [] = waits M
  letter_first M O due (e ∷ es) =
      if in_time 1 due e && ltb (gap O e) (gap M O) then on (alone M) (given O) (e ∷ es) orelse
      if in_time 2 due e && short s.j (gap M O) (gap O e) then on (alone M) (thumb O) es orelse
      on (together M O) free (e ∷ es)

  abbrev pub from_letter_first : Event → Event → List Event → Decision
  from_letter_first M O es = let due = due_after O (FJ s (gap M O)) in letter_first M O due (ahead (some M) (some O) due es)

  -- S5, thumb, then letter. In time another thumb, no further from M than O is: a mark, and M is looked at with that thumb. In time O up
  -- after a short overlap: one looks once more. Else M with O.
  abbrev pub thumb_first : Event → Event → Option Stamp → List Event → Decision
  thumb_first O M due [] = waits M
  thumb_first O M due (e ∷ es) =
      if in_time 3 due e && leb (gap M e) (gap O M) then after (mark O) (from_letter_first M e es) orelse
      if in_time 4 due e && short s.l (gap O M) (gap M e) then from_released O M e es orelse
      on (together M O) free (e ∷ es)

  abbrev pub from_thumb_first : Event → Event → List Event → Decision
  from_thumb_first O M es = let due = due_after M (FL s (min (gap O M) (B s))) in thumb_first O M due (ahead (some M) (some O) due es)

  -- S2, a letter, and no thumb set. In time a thumb: they are looked at together. Else M alone.
  abbrev pub letter_alone : Event → Option Stamp → List Event → Decision
  letter_alone M due [] = waits M
  letter_alone M due (e ∷ es) = if in_time 3 due e then from_letter_first M e es orelse on (alone M) free (e ∷ es)

  abbrev pub from_letter : Event → List Event → Decision
  from_letter M es = let due = due_after M (A s) in letter_alone M due (ahead (some M) none due es)

  -- S3, a thumb set. In time a letter: they are looked at together. Else a mark.
  abbrev pub thumb_alone : Event → Option Stamp → List Event → Decision
  thumb_alone O due [] = over [] []
  thumb_alone O due (e ∷ es) = if in_time 1 due e then from_thumb_first O e es orelse on (mark O) free (e ∷ es)

  -- From a place. S1, nothing set: a letter, a thumb, or one event further. A lone thumb has a deadline only if a mark is wanted, and a
  -- thumb that was given to the letter at this place is not asked for it.
  abbrev pub decide : Set → List Event → Decision
  decide free [] = over [] []
  decide free (e ∷ es) = if is 1 e then from_letter e es orelse if is 3 e then on [] (thumb e) es orelse on [] free es
  decide (thumb O) es = let due = if eqb s.solo 1 then due_after O (B s) orelse none in thumb_alone O due (ahead none (some O) due es)
  decide (given O) [] = over [] []
  decide (given O) (M ∷ es) = from_thumb_first O M es

-- what is decided in all, and what waits
pub record Told : Type 0 where
  pub items : List Item
  pub waiting : List Press

abbrev pub told : List Item → List Press → Told
told i w = record { items = i; waiting = w }

abbrev pub tell : List Item → Told → Told
tell i t = told (i ++ t.items) t.waiting

abbrev pub follow : (Set → List Event → Told) → Decision → Told
follow f (over i w) = told i w
follow f (on i h es) = tell i (f h es)

-- from a place, n decisions at most
unfoldable pub from : Settings → ℕ → Set → List Event → Told
from s zero h es = told [] []
from s (suc n) h es = follow (from s n) (decide s h es)

-- A decision goes on further down the list, or with a thumb no longer set: two for each event, and one, are enough.
unfoldable pub opinion : Settings → List Event → Told
opinion s es = from s (suc (2 * length es)) free (heard [] es)
