-- What the test of a keyboard's number says of the row of numbers that the code holds: where a keyboard's lie, and which answer is due.
use Prim.Native.Nat.{ℕ, ◌<◌, ◌*◌, ◌^◌}
use native.Mathlib.Omega.{arith}
use mathlib.Core.List.{List}
use mathlib.Core.Option.{none}
use mathlib.Core.Path.{◌≡◌, sym, ap, ◌∙◌}
use lib.Dec.{T}
use lib.ListN.{length, get_or, set}
use Rattle.rules.specs.Pairs.{Lent}
use Rattle.rules.specs.declared.Stamp.{Stamp}
use Rattle.rules.specs.declared.Event.{Event}
use Rattle.machine_numbers.specs.Fields.{no_machine}
use Rattle.machine_numbers.specs.declared.MachineNumbers.{MachineNumbers}
use Rattle.keyboard.specs.Keyboard.{step_numbers, distance_numbers}
use Rattle.keyboard.specs.declared.StepAnswer.{StepAnswer}
use Rattle.keyboard.specs.declared.DistanceAnswer.{DistanceAnswer}
use Rattle.row.specs.Views.{is_keyboard}
use Rattle.row.proofs.Found.{stands_at}
use Rattle.row.proofs.Placed.{within, short, not_there}
use Rattle.keyboard_row.specs.Keyboards.{keyboard_numbers, told_of, row_numbers, no_keyboard, not_asked}
use Rattle.keyboard_row.specs.Keyboards.{row_step_numbers, row_distance_numbers}
use Rattle.keyboard_row.specs.KeyboardsFacts.{FoundNumbers}
use Rattle.keyboard_row.specs.declared.RowStepAnswer.{RowStepAnswer}
use Rattle.keyboard_row.proofs.Finding.{none_found, step_here, step_nowhere, distance_here, distance_nowhere}

-- bytes of a machine's numbers in memory: the code scales a keyboard's number by it
abbrev pub size : ℕ
size = 56

-- numbers that stand for what lies past the end of a row: no answer depends on them
abbrev pub any_machine : MachineNumbers
any_machine = no_machine

-- the numbers that the code copies out
abbrev pub numbers_at : List MachineNumbers → ℕ → MachineNumbers
numbers_at row k = get_or row k any_machine

-- a place's offset is a usize
pub offset_fits : (n k : ℕ) → T (is_keyboard n k) → k * size < 2 ^ 64
offset_fits n k t = let s = short n k t in let w = within n k t in omega arith

module _ (row : List MachineNumbers) (k : ℕ) where
  is_found : T (is_keyboard (length row) k) → FoundNumbers row k (numbers_at row k)
  is_found t =
      record { not_above_16 = short (length row) k t; stands = stands_at row k any_machine (within (length row) k t) }

  not_found : (T (is_keyboard (length row) k) → ⊥) → keyboard_numbers row k ≡ none
  not_found f = none_found row k (not_there (length row) k f)

  module _ (g : Lent) (t : T (is_keyboard (length row) k)) where
    -- the answer of the keyboard's own machine, with the machine in its place
    pub told_here : (e : Event) (a : StepAnswer) → a ≡ step_numbers g (numbers_at row k) e
        → row_numbers (told_of a) (set row k a.machine) ≡ row_step_numbers g row k e
    told_here e a h =
        ap (λ (a : StepAnswer). row_numbers (told_of a) (set row k a.machine)) h
        ∙ sym (step_here row k g e (numbers_at row k) (is_found t))

    pub asked_here : (now : Stamp) (r : DistanceAnswer) → r ≡ distance_numbers g (numbers_at row k) now
        → r ≡ row_distance_numbers g row k now
    asked_here now r h = h ∙ sym (distance_here row k g now (numbers_at row k) (is_found t))

  module _ (g : Lent) (f : T (is_keyboard (length row) k) → ⊥) where
    pub told_nowhere : (e : Event) (r : RowStepAnswer) → r ≡ no_keyboard → row_numbers r row ≡ row_step_numbers g row k e
    told_nowhere e r h = ap (λ (a : RowStepAnswer). row_numbers a row) h ∙ sym (step_nowhere row k g e (not_found f))

    pub asked_nowhere : (now : Stamp) (r : DistanceAnswer) → r ≡ not_asked → r ≡ row_distance_numbers g row k now
    asked_nowhere now r h = h ∙ sym (distance_nowhere row k g now (not_found f))
