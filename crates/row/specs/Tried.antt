-- Events at rows, tried on concrete ones: what they come to, and that there are calls of which the laws of RowCalls.antt speak. The
-- proofs are in proofs/Tried.antt.
use Rattle.std.specs.Prelude.{ℕ, List, [], ◌∷◌, ◌++◌, map, ◌≡◌, length, replicate}
use Rattle.rules.specs.Pairs.{Lent, no_pairs}
use Rattle.rules.specs.LayoutFacts.{key}
use Rattle.rules.specs.States.{at, fresh, opening, opened}
use Rattle.rules.specs.MovedClock.{moved_events, AllStay}
use Rattle.rules.specs.Examples.{usual, with_solo, が, to_wait}
use Rattle.rules.specs.declared.Machine.{Machine}
use Rattle.std.specs.Prelude.{Ok}
use Rattle.rules.specs.declared.Item.{Item}
use Rattle.rules.specs.declared.Event.{Event}
use Rattle.row.specs.Row.{RowAnswer, step_at, asking_at}
use Rattle.row.specs.RowRuns.{RowEvent, row_step, events_of}
use Rattle.row.specs.RowCalls.{Called, RowCalls}

-- keyboard, kind, key, stamp
abbrev pub at_board : ℕ → ℕ → ℕ → ℕ → RowEvent
at_board k kind c n = record { board = k; event = record { kind = kind; key = key c; stamp = at n } }

-- what events give back, each at the row that the one before left
abbrev pub row_answers : Lent → List Machine → List RowEvent → List RowAnswer
row_answers g row [] = []
row_answers g row (x ∷ xs) = row_step g row x ∷ row_answers g (row_step g row x).row xs

abbrev pub row_left : List Machine → List RowAnswer → List Machine
row_left row [] = row
row_left row (a ∷ more) = row_left a.row more

abbrev pub items_along : List RowAnswer → List Item
items_along [] = []
items_along (a ∷ more) = a.items ++ items_along more

abbrev pub two : List Machine
two = fresh usual ∷ fresh with_solo ∷ []

-- A chord at keyboard 0, 21@1000, R@1030, 21 up@1060, with a key out of range (refused 3) in it; between them keyboard 1, whose clock
-- is far behind, 21@5, then 24@3 (refused 5), a keyboard that the row does not have, and a tick at keyboard 0 before its last (refused 5).
abbrev pub mixed : List RowEvent
mixed =
    at_board 0 1 21 1_000 ∷ at_board 1 1 21 5 ∷ at_board 0 1 31 1_010 ∷ at_board 0 3 1 1_030 ∷ at_board 1 1 24 3 ∷ at_board 2 1 21 0
    ∷ at_board 0 2 21 1_060 ∷ at_board 0 6 0 5 ∷ []

abbrev pub answered : List RowAnswer
answered = row_answers no_pairs two mixed

-- N is 0: not good
abbrev pub bad : Lent
bad = record { pairs = []; t_s = 50; n = 0 }

abbrev pub press : Event
press = record { kind = 1; key = key 21; stamp = at 0 }

-- What they come to. Sixteen is the most that a row may have; 13 comes before 12.
pub record Computed : Type 0 where
  pub numbers : map (λ (a : RowAnswer). a.number) answered ≡ 0 ∷ 0 ∷ 3 ∷ 0 ∷ 5 ∷ 13 ∷ 0 ∷ 5 ∷ []
  pub items : items_along answered ≡ が ∷ []
  pub asked_1 : asking_at no_pairs (row_left two answered) 1 (at 5) ≡ to_wait 100
  pub sixteen : (step_at no_pairs (replicate 16 (fresh usual)) 15 press).number ≡ 0
  pub past_sixteen : (step_at no_pairs (replicate 16 (fresh usual)) 16 press).number ≡ 13
  pub seventeen : (step_at no_pairs (replicate 17 (fresh usual)) 0 press).number ≡ 13
  pub no_row : (step_at no_pairs [] 0 press).number ≡ 13
  pub bad_list : (step_at bad two 1 press).number ≡ 12
  pub bad_list_past : (step_at bad two 2 press).number ≡ 13
  pub asked_past : (asking_at bad two 2 (at 0)).number ≡ 13
  pub asked_bad : (asking_at bad two 1 (at 0)).number ≡ 12

-- keyboard 0's events at another place of another row, whose other keyboards get something else; and two seconds later
abbrev pub others : List RowEvent
others =
    at_board 2 1 21 1_000 ∷ at_board 2 1 31 1_010 ∷ at_board 0 1 24 7 ∷ at_board 2 3 1 1_030 ∷ at_board 2 2 21 1_060 ∷ at_board 1 5 0 0
    ∷ at_board 2 6 0 5 ∷ []

abbrev pub later_on : List RowEvent
later_on =
    at_board 2 1 21 3_000 ∷ at_board 2 1 31 3_010 ∷ at_board 0 1 24 7 ∷ at_board 2 3 1 3_030 ∷ at_board 2 2 21 3_060 ∷ at_board 2 6 0 2_005
    ∷ []

-- calls with these events, seen from keyboard k, which holds a fresh machine at the first
abbrev pub CalledWith : ℕ → List RowEvent → Type 0
CalledWith k xs = (cs : List Called) × RowCalls no_pairs k (fresh usual) xs cs

-- Two calls, the second at a longer row with another machine beside this one.
pub record Grown : Type 0 where
  pub called : List Called
  pub calls : RowCalls no_pairs 0 (fresh usual) (at_board 0 1 21 1_000 ∷ at_board 0 3 1 1_030 ∷ []) called
  pub lengths : map (λ (c : Called). length c.row) called ≡ 2 ∷ 3 ∷ []

-- What isolation, demand 3 and the moved clock ask for, met.
pub record Met : Type 0 where
  pub is_opened : opened (Ok (fresh usual)) ≡ opening usual
  pub called : CalledWith 0 mixed
  pub called_apart : CalledWith 2 others
  pub same_events : events_of 0 mixed ≡ events_of 2 others
  pub called_later : CalledWith 2 later_on
  pub same_moved : events_of 2 later_on ≡ moved_events 2_000 (events_of 0 mixed)
  pub all_stay : AllStay 2_000 (events_of 0 mixed)
  pub grown : Grown
