-- Each sentence of demand 3, and the moved clock of 8/12, tried where there are pairs (as Tried.antt does without): two letters that
-- come out as one character, and two that come out one by one.
use Prim.Native.Nat.{◌<◌}
use Prim.Native.Char.{code}
use mathlib.Core.Bool.{true}
use mathlib.Core.List.{List, [], ◌∷◌, ◌++◌}
use mathlib.Core.Path.{◌≡◌, refl, sym, ◌∙◌}
use lib.Dec.{lit≤}
use lib.ListN.{length}
use Rattle.rules.specs.Numbers.{in_range}
use Rattle.rules.specs.Pairs.{Lent, longest}
use Rattle.rules.specs.LayoutFacts.{key}
use Rattle.rules.specs.States.{at, fresh}
use Rattle.rules.specs.ZeroDelay.{backspace, sign}
use Rattle.rules.specs.Sequences.{press, characters, state, presses, items, line, screen}
use Rattle.rules.specs.Demand3.{with_event, SameText, TakesNothing}
use Rattle.rules.specs.Distance.{asking}
use Rattle.rules.specs.MovedClock.{moved_events, ClockMoved}
use Rattle.rules.specs.Examples.{an_event, usual, lent_with, two_pairs, to_wait, さ, い, ヴ}
use Rattle.rules.specs.declared.Resting.TheVariants.{S8}
use Rattle.rules.specs.declared.Event.{Event}
use Rattle.rules.proofs.Computing.{a_step, a_distance}
use Rattle.rules.proofs.Demand3.{demand_3}
use Rattle.rules.proofs.MovedClock.{clock_moved}
use Rattle.rules.proofs.Tried.{all_stay}

-- {21, 24} and {24, 18}, T_s=100, N=50: the longest wait is 300
abbrev lent : Lent
lent = lent_with two_pairs 100 50

-- Two letters as one: 21@0, key 31 (refused 3), 24@30, a tick, 24 up@60, 21 up@70. Then two that wait: 24@200, 18@220, 24 up@230.
abbrev busy : List Event
busy =
    an_event 1 21 0 ∷ an_event 1 31 5 ∷ an_event 1 24 30 ∷ an_event 6 0 40 ∷ an_event 2 24 60 ∷ an_event 2 21 70 ∷ an_event 1 24 200 ∷
    an_event 1 18 220 ∷ an_event 2 24 230 ∷ []

-- the same without the refused event and with other ticks
abbrev calm : List Event
calm =
    an_event 1 21 0 ∷ an_event 1 24 30 ∷ an_event 2 24 60 ∷ an_event 2 21 70 ∷ an_event 6 0 199 ∷ an_event 1 24 200 ∷ an_event 1 18 220 ∷
    an_event 2 24 230 ∷ an_event 6 0 239 ∷ []

-- at 500 the two come out one by one
abbrev parted : List Event
parted = with_event busy (an_event 6 0 500)

-- 21@0, up@10, then 21@20 and 24@50: 24 up at 60 makes ヴ of かさ, behind か
abbrev shows_two : List Event
shows_two = an_event 1 21 0 ∷ an_event 2 21 10 ∷ an_event 1 21 20 ∷ an_event 1 24 50 ∷ []

-- a key with itself: every event is refused 12
abbrev bad : Lent
bad = lent_with (record { first = key 21; second = key 21; character = code "ヴ" } ∷ []) 100 50

usual_in_range : in_range usual ≡ true
unfolding in_range
usual_in_range = refl

-- What the sequences come to.
record Computed : Type 0 where
  busy_presses : presses lent usual busy
      ≡ press (key 21) (at 0) ∷ press (key 24) (at 30) ∷ press (key 24) (at 200) ∷ press (key 18) (at 220) ∷ []
  busy_items : items lent usual busy ≡ ヴ ∷ []
  busy_rests : (state lent usual busy).resting ≡ S8 (key 24) (at 200) (key 18) (at 220) (at 230)
  busy_screen : screen lent usual busy ≡ code "ヴ" ∷ code "さ" ∷ code "い" ∷ []
  parted_items : items lent usual parted ≡ ヴ ∷ さ ∷ い ∷ []
  parted_screen : screen lent usual parted ≡ code "ヴ" ∷ code "さ" ∷ code "い" ∷ []
  shows_two_line : line lent usual shows_two ≡ code "か" ∷ []
  shows_two_screen : screen lent usual shows_two ≡ code "か" ∷ code "か" ∷ code "さ" ∷ []
  longest_wait : longest lent usual ≡ 300
  bad_changes_nothing : state bad usual busy ≡ fresh usual
  bad_screen : screen bad usual busy ≡ []

computed : Computed
unfolding a_step
computed =
    record {
      busy_presses = refl;
      busy_items = refl;
      busy_rests = refl;
      busy_screen = refl;
      parted_items = refl;
      parted_screen = refl;
      shows_two_line = refl;
      shows_two_screen = refl;
      longest_wait = refl;
      bad_changes_nothing = refl;
      bad_screen = refl;
    }

-- Sentence 1: one item answers two presses, and two wait.
tried_1 : characters (items lent usual busy) ≡ key 21 ∷ key 24 ∷ []
unfolding a_step
tried_1 = refl

two_answered : (demand_3 lent usual usual_in_range busy).keys_in_order.answered
    ++ (press (key 24) (at 200) ∷ press (key 18) (at 220) ∷ [])
    ≡ presses lent usual busy
unfolding a_step
two_answered = sym (demand_3 lent usual usual_in_range busy).keys_in_order.presses_are

-- Sentence 2: 24@200 is committed by an event at 500.
tried_2 : 2 < length (characters (items lent usual parted))
unfolding a_step
tried_2 =
    (demand_3 lent usual usual_in_range parted).committed_in_time busy [] (an_event 6 0 500) refl refl
    (press (key 21) (at 0) ∷ press (key 24) (at 30) ∷ []) (press (key 18) (at 220) ∷ []) (press (key 24) (at 200)) refl (lit≤ tt)

-- Sentence 3: the two sequences differ in ticks and a refused event only.
tried_3 : SameText lent usual busy calm (at 500)
unfolding a_step
tried_3 = (demand_3 lent usual usual_in_range busy).ticks_do_not_matter calm (at 500) refl refl refl

-- Sentence 4: a line, and two letters that wait.
tried_4 : screen lent usual busy ≡ line lent usual busy ++ (code "さ" ∷ code "い" ∷ [])
unfolding a_step
tried_4 = (demand_3 lent usual usual_in_range busy).screen_is_line

-- Sentence 5: 24 up sends two backspaces and ヴ, behind a line that is not empty; the first backspace, and the second.
first_takes : TakesNothing lent usual shows_two []
unfolding a_step
first_takes =
    (demand_3 lent usual usual_in_range (with_event shows_two (an_event 2 24 60))).no_backspace_takes_committed
    shows_two [] (an_event 2 24 60) refl [] (backspace ∷ sign (code "ヴ") ∷ []) refl

second_takes : TakesNothing lent usual shows_two (backspace ∷ [])
unfolding a_step
second_takes =
    (demand_3 lent usual usual_in_range (with_event shows_two (an_event 2 24 60))).no_backspace_takes_committed
    shows_two [] (an_event 2 24 60) refl (backspace ∷ []) (sign (code "ヴ") ∷ []) refl

-- 8/12, a second later: two letters wait as before, and are due as far off.
record Moved : Type 0 where
  busy_items : items lent usual (moved_events 1_000 busy) ≡ ヴ ∷ []
  busy_rests : (state lent usual (moved_events 1_000 busy)).resting ≡ S8 (key 24) (at 1_200) (key 18) (at 1_220) (at 1_230)
  busy_asked : asking lent (state lent usual busy) (at 235) ≡ to_wait 5

computed_moved : Moved
unfolding a_distance
computed_moved = record { busy_items = refl; busy_rests = refl; busy_asked = refl }

busy_moved : ClockMoved lent 1_000 usual busy
busy_moved = clock_moved lent 1_000 usual busy (all_stay 1_000 busy refl)

busy_asked_moved : asking lent (state lent usual (moved_events 1_000 busy)) (at 1_235) ≡ to_wait 5
busy_asked_moved = busy_moved.same_distance (at 235) (λ _. lit≤ tt) ∙ computed_moved.busy_asked
