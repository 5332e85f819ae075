-- The clock moved, for a keyboard that a C host drives: the numbers of a call are those of the answer and of the machine.
use Prim.Native.Nat.{ℕ}
use mathlib.Core.List.{List, [], ◌∷◌, map}
use mathlib.Core.Option.{none, some}
use mathlib.Core.Path.{◌≡◌, refl, sym, ap, ◌∙◌}
use Rattle.rules.specs.Pairs.{Lent}
use Rattle.rules.specs.States.{fresh, later}
use Rattle.rules.specs.GivenBack.{step}
use Rattle.rules.specs.Sequences.{along, state}
use Rattle.rules.specs.MovedClock.{moved_events, Told, told, told_in}
use Rattle.rules.specs.declared.Machine.{Machine}
use Rattle.rules.specs.declared.Event.{Event}
use Rattle.rules.proofs.MovedClock.{clock_moved}
use Rattle.preview.specs.Views.{packed_sendings}
use Rattle.machine_numbers.specs.Fields.{numbers_of}
use Rattle.keyboard.specs.Keyboard.{words_of, answer_numbers, answered_numbers, asked_numbers}
use Rattle.keyboard.specs.KeyboardFacts.{answers}
use Rattle.keyboard.specs.MovedKeyboard.{besides_machine, KeyboardMovedStatement}
use Rattle.keyboard.proofs.HandedOn.{keyboard_facts}
use Rattle.keyboard.proofs.DistanceNumbers.{asks}

-- what an event tells, as numbers
abbrev as_numbers : Told → List ℕ
as_numbers t = besides_machine (answer_numbers (numbers_of none) t.number (words_of t.items) (packed_sendings t.sendings))

all_numbers : (g : Lent) (x : Machine) (es : List Event)
    → map besides_machine (map answered_numbers (answers g x es)) ≡ map as_numbers (along g told_in x es)
all_numbers g x [] = refl
all_numbers g x (e ∷ es) = ap (λ (l : List (List ℕ)). as_numbers (told (step g x e)) ∷ l) (all_numbers g (step g x e).machine es)

pub keyboard_moved : KeyboardMovedStatement
keyboard_moved g k s es stay first again rs moved run other =
    let m = clock_moved g k s es stay in
    let facts = keyboard_facts g in
    let before = facts.names_last run in
    let after = facts.names_last other in
    record {
      same_numbers =
          ap (map besides_machine) (facts.runs other) ∙ all_numbers g (fresh s) (moved_events k es)
          ∙ ap (map as_numbers) m.same_answers
          ∙ sym (all_numbers g (fresh s) es)
          ∙ ap (map besides_machine) (sym (facts.runs run));
      names_state = before;
      names_moved = after ∙ ap some m.states_moved;
      same_distance = λ now stays.
          asks g _ (state g s (moved_events k es)) after (later now k) ∙ ap asked_numbers (m.same_distance now stays)
          ∙ sym (asks g _ (state g s es) before now);
    }
