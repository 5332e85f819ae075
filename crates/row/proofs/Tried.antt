-- Events at rows, tried on concrete ones: by computation.
use Prim.Native.Nat.{ℕ}
use mathlib.Core.List.{List, [], ◌∷◌, map}
use mathlib.Core.Path.{◌≡◌, refl, ap}
use lib.Count.{ones_in}
use lib.Dec.{lit≤, eqb}
use Rattle.std.specs.Prelude.{Result}
use Rattle.choice.proofs.Choices.{both_ways}
use Rattle.rules.specs.declared.Refusal.{Refusal}
use Rattle.row.specs.declared.Told.{Told}
use lib.ListN.{get_or}
use Rattle.rules.specs.Numbers.{in_range, up, A, B, FJ, FL}
use Rattle.rules.specs.Pairs.{Lent, pair_of, in_some_pair, none_twice, each_good, lent_good, no_pairs, alone}
use Rattle.rules.specs.Layout.{table, code_point}
use Rattle.rules.specs.Held.{is_held, hold, release, how_many, held_formed}
use Rattle.rules.specs.States.{fresh, opening, well_formed}
use Rattle.rules.specs.OneEvent.{mark, same_thumb, same_key, second_character_takes_thumb, second_thumb_takes_character, short_overlap}
use Rattle.rules.specs.OneEvent.{settle_in, settle, one_event}
use Rattle.rules.specs.ZeroDelay.{character, sent}
use Rattle.rules.specs.GivenBack.{input, is_new, judge, step_with, step}
use Rattle.rules.specs.Distance.{asking_with, asking}
use Rattle.rules.specs.Examples.{usual, with_solo}
use Rattle.rules.specs.declared.Machine.{Machine}
use Rattle.rules.proofs.Tried.{all_stay}
use Rattle.preview.specs.Views.{sending_list, packed_sendings}
use Rattle.row.specs.Row.{keyboard, RowAnswer, step_at, asking_at}
use Rattle.row.specs.Views.{told_number, told_items, told_sendings, TellsAt}
use Rattle.row.specs.RowFacts.{Found}
use Rattle.row.specs.RowRuns.{RowEvent, row_step, events_of}
use Rattle.row.specs.RowCalls.{Called, HandedOn, no_call, handed, no_more, call}
use Rattle.row.specs.Tried.{at_board, row_answers, two, mixed, others, later_on, Computed, CalledWith, Met}
use Rattle.row.proofs.RowCalls.{packed_told, row_of_the_code}

-- a call that answers and leaves what the definition says, where its items and sendings are ones that can be told
abbrev as_told : RowAnswer → Result Told Refusal
as_told a = packed_told (record { number = a.number; items = a.items; sendings = a.sendings })

abbrev called : RowAnswer → Called
called a = record { told = as_told a; row = a.row }

abbrev read_back : RowAnswer → RowAnswer
read_back a =
    record {
      number = told_number (as_told a);
      items = told_items (as_told a);
      sendings = sending_list (told_sendings (as_told a));
      row = a.row;
    }

packed_again : (a : RowAnswer) → sending_list (told_sendings (as_told a)) ≡ a.sendings → told_sendings (as_told a) ≡ packed_sendings a.sendings
packed_again a =
    both_ways
    (λ (r : Result Told Refusal). sending_list (told_sendings r) ≡ a.sendings → told_sendings r ≡ packed_sendings a.sendings)
    (eqb a.number 0)
    (λ h. refl)
    (λ h. ap packed_sendings h)

tells : (a : RowAnswer) → read_back a ≡ a → TellsAt (called a).told a
tells a h =
    record {
      number_is = ap (λ (z : RowAnswer). z.number) h;
      items_are = ap (λ (z : RowAnswer). z.items) h;
      sendings_are = ap (λ (z : RowAnswer). z.sendings) h;
      packed = packed_again a (ap (λ (z : RowAnswer). z.sendings) h);
    }

same_head : {a b : RowAnswer} {l k : List RowAnswer} → a ∷ l ≡ b ∷ k → a ≡ b
same_head h = cc

same_tail : {a b : RowAnswer} {l k : List RowAnswer} → a ∷ l ≡ b ∷ k → l ≡ k
same_tail h = cc

handed_on : (g : Lent) (row : List Machine) (xs : List RowEvent) → map read_back (row_answers g row xs) ≡ row_answers g row xs
    → HandedOn g row xs (map called (row_answers g row xs))
handed_on g row [] h = no_call
handed_on g row (x ∷ xs) h =
    handed (tells (row_step g row x) (same_head h), refl) (handed_on g (row_step g row x).row xs (same_tail h))

seen : (k : ℕ) (row : List Machine) (xs : List RowEvent) → Found row k (fresh usual)
    → map read_back (row_answers no_pairs row xs) ≡ row_answers no_pairs row xs → CalledWith k xs
seen k row xs f h =
    let calls = map called (row_answers no_pairs row xs) in
    (calls, row_of_the_code.row_handed_on no_pairs k row (fresh usual) xs calls (handed_on no_pairs row xs h) f)

abbrev three : List Machine
three = fresh with_solo ∷ fresh with_solo ∷ fresh usual ∷ []

-- the row after keyboard 0's press, with a keyboard more
abbrev pressed : RowAnswer
pressed = row_step no_pairs two (at_board 0 1 21 1_000)

abbrev longer : List Machine
longer = get_or pressed.row 0 (fresh usual) ∷ fresh usual ∷ fresh with_solo ∷ []

abbrev chord : RowAnswer
chord = row_step no_pairs longer (at_board 0 3 1 1_030)

pub tried : Computed × Met
unfolding keyboard step_at asking_at asking asking_with step step_with lent_good none_twice each_good in_some_pair alone pair_of judge
    is_new input well_formed is_held hold release how_many held_formed ones_in in_range opening one_event settle settle_in mark
    same_thumb same_key second_character_takes_thumb second_thumb_takes_character short_overlap sent character code_point table up A B
    FJ FL
tried = (
  record {
    numbers = refl;
    items = refl;
    asked_1 = refl;
    sixteen = refl;
    past_sixteen = refl;
    seventeen = refl;
    no_row = refl;
    bad_list = refl;
    bad_list_past = refl;
    asked_past = refl;
    asked_bad = refl;
  },
  record {
    is_opened = refl;
    called = seen 0 two mixed (record { not_above_16 = lit≤ tt; stands = refl }) refl;
    called_apart = seen 2 three others (record { not_above_16 = lit≤ tt; stands = refl }) refl;
    same_events = refl;
    called_later = seen 2 three later_on (record { not_above_16 = lit≤ tt; stands = refl }) refl;
    same_moved = refl;
    all_stay = all_stay 2_000 (events_of 0 mixed) refl;
    grown = record {
      called = called pressed ∷ called chord ∷ [];
      calls = call {after = get_or pressed.row 0 (fresh usual)} {row = two} (record { not_above_16 = lit≤ tt; stands = refl })
          (tells pressed refl, refl) (record { not_above_16 = lit≤ tt; stands = refl })
          (call {after = get_or chord.row 0 (fresh usual)} {row = longer} (record { not_above_16 = lit≤ tt; stands = refl })
          (tells chord refl, refl) (record { not_above_16 = lit≤ tt; stands = refl }) no_more);
      lengths = refl;
    };
  },
)
