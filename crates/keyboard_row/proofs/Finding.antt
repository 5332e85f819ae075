-- One keyboard of a row of numbers: what finding it says of the row, and what an event or an asking there comes to.
use Prim.Native.Nat.{ℕ}
use mathlib.Core.List.{List}
use mathlib.Core.Option.{Option, none, some, none-ne-some}
use mathlib.Core.Path.{◌≡◌, refl, sym, ◌∙◌}
use lib.ListN.{length, set, length-set}
use Rattle.rules.specs.Pairs.{Lent}
use Rattle.rules.specs.declared.Stamp.{Stamp}
use Rattle.rules.specs.declared.Event.{Event}
use Rattle.machine_numbers.specs.declared.MachineNumbers.{MachineNumbers}
use Rattle.keyboard.specs.Keyboard.{step_numbers, distance_numbers}
use Rattle.row.specs.RowFacts.{NoKeyboard}
use Rattle.row.proofs.Found.{seat_found, seat_there, seat_none, seat_why, set_same}
use Rattle.keyboard_row.specs.Keyboards.{keyboard_numbers, refused_13, answered_at, row_step_numbers, not_asked, row_distance_numbers}
use Rattle.keyboard_row.specs.KeyboardsFacts.{FoundNumbers}

module _ (row : List MachineNumbers) (k : ℕ) where
  -- the keyboard that is found
  pub found_in : (f : MachineNumbers) → keyboard_numbers row k ≡ some f → FoundNumbers row k f
  unfolding keyboard_numbers
  found_in f h = let found = seat_found row k f h in record { not_above_16 = found.0; stands = found.1 }

  pub is_there : (f : MachineNumbers) → FoundNumbers row k f → keyboard_numbers row k ≡ some f
  unfolding keyboard_numbers
  is_there f found = seat_there row k f found.not_above_16 found.stands

  pub none_found : NoKeyboard (length row) k → keyboard_numbers row k ≡ none
  unfolding keyboard_numbers
  none_found = seat_none row k

  pub none_why : keyboard_numbers row k ≡ none → NoKeyboard (length row) k
  unfolding keyboard_numbers
  none_why = seat_why row k

  pub not_13 : (f : MachineNumbers) → FoundNumbers row k f → ¬ NoKeyboard (length row) k
  not_13 f found due = none-ne-some f (sym (none_found due) ∙ is_there f found)

  -- 13 is due, or a keyboard is found
  pub by_found : {P : Type 0} → (keyboard_numbers row k ≡ none → P) → ((f : MachineNumbers) → FoundNumbers row k f → P) → P
  by_found {P} at_none at_some = go (keyboard_numbers row k) refl
    where
      go : (o : Option MachineNumbers) → keyboard_numbers row k ≡ o → P
      go none h = at_none h
      go (some f) h = at_some f (found_in f h)

  -- an event at a keyboard that is found, and at one that is not
  pub step_here : (g : Lent) (e : Event) (f : MachineNumbers) → FoundNumbers row k f
      → row_step_numbers g row k e ≡ answered_at row k (step_numbers g f e)
  unfolding row_step_numbers
  step_here g e f found = rw (is_there f found)

  pub step_nowhere : (g : Lent) (e : Event) → keyboard_numbers row k ≡ none → row_step_numbers g row k e ≡ refused_13 row
  unfolding row_step_numbers
  step_nowhere g e h = rw h

  -- an asking
  pub distance_here : (g : Lent) (now : Stamp) (f : MachineNumbers) → FoundNumbers row k f
      → row_distance_numbers g row k now ≡ distance_numbers g f now
  unfolding row_distance_numbers
  distance_here g now f found = rw (is_there f found)

  pub distance_nowhere : (g : Lent) (now : Stamp) → keyboard_numbers row k ≡ none → row_distance_numbers g row k now ≡ not_asked
  unfolding row_distance_numbers
  distance_nowhere g now h = rw h

  -- a keyboard's own numbers put in their place
  pub put_own : (f a : MachineNumbers) → FoundNumbers row k f → FoundNumbers (set row k a) k a
  put_own f a found =
      record { not_above_16 = rw (length-set row k a) found.not_above_16; stands = set_same row k f a found.stands }
