-- Each sentence of demand 3, and the moved clock of 8/12, tried on concrete events, refused ones among them, so that none holds for
-- want of cases: the premises are met by computation, and what follows says something. TriedPairs.antt does the same with pairs.
use Prim.Native.Nat.{ℕ, ◌+◌, ◌<◌}
use Prim.Native.Char.{code}
use mathlib.Core.Bool.{Bool, true, ◌&&◌, and-eq-true_iff}
use mathlib.Core.List.{List, [], ◌∷◌, ◌++◌, map}
use mathlib.Core.Path.{◌≡◌, refl, sym, ◌∙◌}
use lib.Dec.{ltb, leb, lit≤}
use lib.ListN.{length}
use borrow.Author.Tests.{leb-true, le-ltb}
use Rattle.choice.specs.Choice.{if◌then◌orelse◌}
use Rattle.rules.specs.Numbers.{largest_stamp, in_range}
use Rattle.rules.specs.Pairs.{no_pairs}
use Rattle.rules.specs.LayoutFacts.{key}
use Rattle.rules.specs.States.{at, fresh}
use Rattle.rules.specs.ZeroDelay.{sign}
use Rattle.rules.specs.Sequences.{press, characters, state, presses, items, line, screen}
use Rattle.rules.specs.Demand3.{with_event, SameText, TakesNothing}
use Rattle.rules.specs.Distance.{asking}
use Rattle.rules.specs.MovedClock.{moved_events, AllStay, Told, all_told, ClockMoved}
use Rattle.rules.specs.Examples.{usual, with_solo, が, to_wait}
use Rattle.rules.specs.declared.Resting.TheVariants.{S2}
use Rattle.rules.specs.declared.Event.{Event}
use Rattle.rules.proofs.Computing.{a_step, a_distance}
use Rattle.rules.proofs.Demand3.{demand_3}
use Rattle.rules.proofs.MovedClock.{clock_moved}

-- kind, key, stamp
e : ℕ → ℕ → ℕ → Event
e kind k n = record { kind = kind; key = key k; stamp = at n }

-- 21@0, key 31 (refused 3), 21@20 (a repeat), R@30, 24@10 (refused 5), a tick, 21 up@60, a stamp too large (refused 4), 24@100.
busy : List Event
busy =
    e 1 21 0 ∷ e 1 31 5 ∷ e 1 21 20 ∷ e 3 1 30 ∷ e 1 24 10 ∷ e 6 0 40 ∷ e 2 21 60 ∷ e 6 0 1_000_000_000_001 ∷ e 1 24 100 ∷ []

-- the same without the refused events and with another tick
calm : List Event
calm = e 1 21 0 ∷ e 1 21 20 ∷ e 3 1 30 ∷ e 2 21 60 ∷ e 6 0 99 ∷ e 1 24 100 ∷ []

usual_in_range : in_range usual ≡ true
unfolding in_range
usual_in_range = refl

solo_in_range : in_range with_solo ≡ true
unfolding in_range
solo_in_range = refl

-- with solo 1: 21@0, up@10, then R@20, 21@60, R up@80: at 100 a mark and か come out where が was shown
marked : List Event
marked = e 1 21 0 ∷ e 2 21 10 ∷ e 3 1 20 ∷ e 1 21 60 ∷ e 4 1 80 ∷ []

-- What the sequences come to.
record Computed : Type 0 where
  busy_presses : presses no_pairs usual busy ≡ press (key 21) (at 0) ∷ press (key 24) (at 100) ∷ []
  busy_items : items no_pairs usual busy ≡ が ∷ []
  busy_line : line no_pairs usual busy ≡ code "が" ∷ []
  busy_screen : screen no_pairs usual busy ≡ code "が" ∷ code "さ" ∷ []
  busy_last : (state no_pairs usual busy).last ≡ at 100
  marked_line : line no_pairs with_solo marked ≡ code "か" ∷ []
  marked_screen : screen no_pairs with_solo marked ≡ code "か" ∷ code "が" ∷ []

computed : Computed
unfolding e busy calm marked a_step
computed =
    record {
      busy_presses = refl;
      busy_items = refl;
      busy_line = refl;
      busy_screen = refl;
      busy_last = refl;
      marked_line = refl;
      marked_screen = refl;
    }

-- Sentence 1: one press is answered, and one waits.
tried_1 : characters (items no_pairs usual busy) ≡ key 21 ∷ []
unfolding e busy calm marked a_step
tried_1 = refl

one_answered : (demand_3 no_pairs usual usual_in_range busy).keys_in_order.answered ++ (press (key 24) (at 100) ∷ [])
    ≡ presses no_pairs usual busy
unfolding e busy calm marked a_step
one_answered = sym (demand_3 no_pairs usual usual_in_range busy).keys_in_order.presses_are

-- Sentence 2: 24@100 is committed by an event at 100 + W, and W is 200.
tried_2 : 1 < length (characters (items no_pairs usual (with_event busy (e 6 0 300))))
unfolding e busy calm marked a_step
tried_2 =
    (demand_3 no_pairs usual usual_in_range (with_event busy (e 6 0 300))).committed_in_time busy [] (e 6 0 300) refl refl
    (press (key 21) (at 0) ∷ []) [] (press (key 24) (at 100)) refl (lit≤ tt)

-- Sentence 3: the two sequences differ in ticks and refused events only.
tried_3 : SameText no_pairs usual busy calm (at 300)
unfolding e busy calm marked a_step
tried_3 = (demand_3 no_pairs usual usual_in_range busy).ticks_do_not_matter calm (at 300) refl refl refl

-- Sentence 4: a line and a waiting character, neither of them empty.
tried_4 : screen no_pairs usual busy ≡ line no_pairs usual busy ++ (code "さ" ∷ [])
unfolding e busy calm marked a_step
tried_4 = (demand_3 no_pairs usual usual_in_range busy).screen_is_line

-- Sentence 5: the tick at 100 sends a backspace, a mark and か, behind a line that is not empty.
tried_5 : TakesNothing no_pairs with_solo marked []
unfolding e busy calm marked a_step
tried_5 =
    (demand_3 no_pairs with_solo solo_in_range (with_event marked (e 6 0 100))).no_backspace_takes_committed marked [] (e 6 0 100) refl []
    (sign 2 ∷ sign (code "か") ∷ []) refl

-- 8/12. Seven keys, of which the last is refused 11.
crowd : List Event
crowd = e 1 0 0 ∷ e 1 1 0 ∷ e 1 2 0 ∷ e 1 3 0 ∷ e 1 4 0 ∷ e 1 30 0 ∷ e 1 21 0 ∷ []

numbers_of : List Told → List ℕ
numbers_of ts = map (λ (t : Told). t.number) ts

-- that all stamps stay in range, as a test
abbrev pub in_reach : ℕ → List Event → Bool
in_reach k [] = true
in_reach k (a ∷ es) = (if ltb largest_stamp a.stamp.0 then true orelse leb (a.stamp.0 + k) largest_stamp) && in_reach k es

pub all_stay : (k : ℕ) (es : List Event) → in_reach k es ≡ true → AllStay k es
all_stay k [] h = tt
all_stay k (a ∷ es) h =
    let here = if ltb largest_stamp a.stamp.0 then true orelse leb (a.stamp.0 + k) largest_stamp in
    let p = (and-eq-true_iff here (in_reach k es)).0 h in
    (λ low. leb-true _ _ (rw (le-ltb largest_stamp a.stamp.0 low) at p.0), all_stay k es p.1)

-- A chord whose events are all accepted, moved so far that its last stamp is the largest; events of which some are refused, a second
-- later; and both kinds of a stamp 0: while nothing is accepted the last stamp is 0, before the move and after it, and one that was
-- accepted moves.
record Moved : Type 0 where
  calm_numbers : numbers_of (all_told no_pairs usual calm) ≡ 0 ∷ 0 ∷ 0 ∷ 0 ∷ 0 ∷ 0 ∷ []
  calm_items : items no_pairs usual (moved_events 999_999_999_900 calm) ≡ が ∷ []
  calm_rests : (state no_pairs usual (moved_events 999_999_999_900 calm)).resting ≡ S2 (key 24) (at 1_000_000_000_000)
  busy_numbers : numbers_of (all_told no_pairs usual (moved_events 1_000 busy)) ≡ 0 ∷ 3 ∷ 0 ∷ 0 ∷ 5 ∷ 0 ∷ 0 ∷ 4 ∷ 0 ∷ []
  busy_line : line no_pairs usual (moved_events 1_000 busy) ≡ code "が" ∷ []
  busy_rests : (state no_pairs usual (moved_events 1_000 busy)).resting ≡ S2 (key 24) (at 1_100)
  busy_last : (state no_pairs usual (moved_events 1_000 busy)).last ≡ at 1_100
  busy_held : (state no_pairs usual (moved_events 1_000 busy)).held ≡ 16_777_216
  busy_asked : asking no_pairs (state no_pairs usual busy) (at 150) ≡ to_wait 50
  crowd_numbers : numbers_of (all_told no_pairs usual (moved_events 1_000 crowd)) ≡ 0 ∷ 0 ∷ 0 ∷ 0 ∷ 0 ∷ 0 ∷ 11 ∷ []
  fresh_stays : state no_pairs usual (moved_events 1_000 (e 1 31 5 ∷ [])) ≡ fresh usual
  first_moves : (state no_pairs usual (moved_events 1_000 (e 6 0 0 ∷ []))).last ≡ at 1_000

computed_moved : Moved
unfolding e busy calm crowd numbers_of a_distance
computed_moved =
    record {
      calm_numbers = refl;
      calm_items = refl;
      calm_rests = refl;
      busy_numbers = refl;
      busy_line = refl;
      busy_rests = refl;
      busy_last = refl;
      busy_held = refl;
      busy_asked = refl;
      crowd_numbers = refl;
      fresh_stays = refl;
      first_moves = refl;
    }

calm_moved : ClockMoved no_pairs 999_999_999_900 usual calm
unfolding e calm
calm_moved = clock_moved no_pairs 999_999_999_900 usual calm (all_stay 999_999_999_900 calm refl)

busy_moved : ClockMoved no_pairs 1_000 usual busy
unfolding e busy
busy_moved = clock_moved no_pairs 1_000 usual busy (all_stay 1_000 busy refl)

crowd_moved : ClockMoved no_pairs 1_000 usual crowd
unfolding e crowd
crowd_moved = clock_moved no_pairs 1_000 usual crowd (all_stay 1_000 crowd refl)

-- asked a second later
busy_asked_moved : asking no_pairs (state no_pairs usual (moved_events 1_000 busy)) (at 1_150) ≡ to_wait 50
busy_asked_moved = busy_moved.same_distance (at 150) (λ _. lit≤ tt) ∙ computed_moved.busy_asked
