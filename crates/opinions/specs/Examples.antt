-- The second opinion on document 01's keystrokes, and on those that 02 added without pairs: the tables of `rules`, in which each text and
-- each number is put down as the opinion has it. Then keystrokes of its own. The proofs are in proofs/Examples.antt.
use Rattle.std.specs.Prelude.{ℕ, List, [], ◌∷◌, ◌++◌, map, ◌≡◌, eqb}
use Prim.Native.String.{String}
use Rattle.choice.specs.Choice.{if◌then◌orelse◌}
use Rattle.rules.specs.Numbers.{settings_of}
use Rattle.rules.specs.LayoutFacts.{key}
use Rattle.rules.specs.States.{at}
use Rattle.rules.specs.Sequences.{Press, press}
use Rattle.rules.specs.Examples.{Line, event, text, rests, sent, answered, asked, an_event, Example, with_list}
use Rattle.rules.specs.Examples.{usual, with_solo, with_J_60, examples, slips, slow_hands, held_down, か, が, さ, ざ, right_mark}
use Rattle.rules.specs.declared.Thumb.TheVariants.{Left}
use Rattle.rules.specs.declared.Settings.{Settings}
use Rattle.rules.specs.declared.Item.{Item}
use Rattle.rules.specs.declared.Item.TheVariants.{Mark}
use Rattle.rules.specs.declared.Event.{Event}
use Rattle.opinions.specs.Earlier.{number_after}
use Rattle.opinions.specs.Opinion.{Told, told, opinion}

-- in the order of events
abbrev pub in_order : List Event → List Event
in_order [] = []
in_order (e ∷ before) = in_order before ++ (e ∷ [])

-- The lines of an example, with the accepted events before, latest first, and the number of the last event. The opinion knows of no
-- states, sendings and distances.
abbrev pub opined_lines : Settings → List Event → ℕ → List Line → List Line
opined_lines s before n [] = []
opined_lines s before n (event e ∷ l) =
    event e ∷ opined_lines s (if eqb (number_after before e) 0 then (e ∷ before) orelse before) (number_after before e) l
opined_lines s before n (text is ∷ l) = text (opinion s (in_order before)).items ∷ opined_lines s before n l
opined_lines s before n (rests x ∷ l) = rests x ∷ opined_lines s before n l
opined_lines s before n (sent q ∷ l) = sent q ∷ opined_lines s before n l
opined_lines s before n (answered m ∷ l) = answered n ∷ opined_lines s before n l
opined_lines s before n (asked t a ∷ l) = asked t a ∷ opined_lines s before n l

abbrev pub opined_example : Example → Example
opined_example x = with_list x.name x.lent x.settings (opined_lines x.settings [] 0 x.lines)

-- the tables of `rules`
pub record SameTables : Type 0 where
  pub same_examples : map opined_example examples ≡ examples
  pub same_slips : map opined_example slips ≡ slips
  pub same_slow_hands : map opined_example slow_hands ≡ slow_hands
  pub same_held_down : map opined_example held_down ≡ held_down

-- Keystrokes: their name, settings and events, and what is told of them.
pub record Keystrokes : Type 0 where
  pub name : String
  pub settings : Settings
  pub events : List Event
  pub tells : Told

abbrev pub keystrokes : String → Settings → List Event → List Item → List Press → Keystrokes
keystrokes n s es i w = record { name = n; settings = s; events = es; tells = told i w }

-- solo 1 and L=99: B is 2, so that a lone thumb is due at once
abbrev pub short_B : Settings
short_B = settings_of 100 50 99 1

-- L=60: a thumb, then a letter 30 ms later, wait 45
abbrev pub solo_L_60 : Settings
solo_L_60 = settings_of 100 50 60 1

abbrev pub down : ℕ → ℕ → Event
down k n = an_event 1 k n

abbrev pub up : ℕ → ℕ → Event
up k n = an_event 2 k n

abbrev pub thumb_down : ℕ → ℕ → Event
thumb_down k n = an_event 3 k n

abbrev pub thumb_up : ℕ → ℕ → Event
thumb_up k n = an_event 4 k n

abbrev pub function_at : ℕ → Event
function_at n = an_event 5 0 n

abbrev pub tick_at : ℕ → Event
tick_at n = an_event 6 0 n

abbrev pub own_keystrokes : List Keystrokes
own_keystrokes =
    -- the thumb goes on with the second letter, and its own deadline is not asked
    keystrokes "a thumb given on" short_B (down 21 0 ∷ thumb_down 1 30 ∷ down 24 50 ∷ tick_at 5000 ∷ []) (か ∷ ざ ∷ []) [] ∷
    -- it is asked where the first letter went up
    keystrokes "a thumb left behind" short_B (down 21 0 ∷ thumb_down 1 30 ∷ up 21 40 ∷ down 24 50 ∷ tick_at 5000 ∷ [])
    (か ∷ right_mark ∷ さ ∷ []) [] ∷
    -- an equal gap stays with the first letter, and between two thumbs goes to the second one
    keystrokes "equal gaps" with_J_60 (down 21 0 ∷ thumb_down 1 30 ∷ down 24 60 ∷ []) (が ∷ []) (press (key 24) (at 60) ∷ []) ∷
    keystrokes "equal gaps, two thumbs" solo_L_60 (thumb_down 1 0 ∷ down 21 30 ∷ thumb_down 0 60 ∷ []) (right_mark ∷ [])
    (press (key 21) (at 30) ∷ []) ∷
    keystrokes "the second thumb further off" solo_L_60 (thumb_down 1 0 ∷ down 21 30 ∷ thumb_down 0 61 ∷ tick_at 128 ∷ [])
    (が ∷ Mark Left ∷ []) [] ∷
    -- two decisions for each of them
    keystrokes "thumbs one after the other" with_solo (thumb_down 0 0 ∷ thumb_down 1 10 ∷ thumb_down 0 20 ∷ thumb_down 1 30 ∷ [])
    (Mark Left ∷ right_mark ∷ Mark Left ∷ []) [] ∷
    -- no press, so that the first one is looked at further on
    keystrokes "a repeat between letter and thumb" usual (down 21 0 ∷ down 21 20 ∷ thumb_down 1 30 ∷ down 21 59 ∷ up 21 60 ∷ [])
    (が ∷ []) [] ∷
    keystrokes "a stray up" usual (down 21 0 ∷ thumb_down 1 30 ∷ up 24 40 ∷ []) [] (press (key 21) (at 0) ∷ []) ∷
    keystrokes "a released thumb" with_solo (thumb_down 1 0 ∷ down 21 40 ∷ thumb_up 1 60 ∷ []) [] (press (key 21) (at 40) ∷ []) ∷
    keystrokes "a released thumb, a function key" with_solo (thumb_down 1 0 ∷ down 21 40 ∷ thumb_up 1 60 ∷ function_at 79 ∷ [])
    (right_mark ∷ か ∷ []) [] ∷
    keystrokes "a released thumb, another thumb" with_solo (thumb_down 1 0 ∷ down 21 40 ∷ thumb_up 1 60 ∷ thumb_down 1 79 ∷ up 21 80 ∷ [])
    (が ∷ []) [] ∷ []

abbrev pub as_told : Keystrokes → Keystrokes
as_told x = record { name = x.name; settings = x.settings; events = x.events; tells = opinion x.settings x.events }

abbrev pub OwnKeystrokes : Type 0
OwnKeystrokes = map as_told own_keystrokes ≡ own_keystrokes
