-- What a C host reads off the numbers of a step, and what it makes of them by the rule of include/trabeculon.h: that nothing which
-- a step sends or commits is lost on the way. The proofs are in proofs/HostScreen.antt.
use Rattle.std.specs.Prelude.{ℕ, zero, suc, true, false, ◌≡◌, take, replicate}
use mathlib.Core.List.{List, [], ◌∷◌, ◌++◌, map, foldl}
use Rattle.std.proofs.Math.Option.{none, some}
use Rattle.rules.specs.Pairs.{Lent, lent_good}
use Rattle.rules.specs.ZeroDelay.{sign_unless_0, shown, Sending, backspace, send}
use Rattle.rules.specs.GivenBack.{step}
use Rattle.rules.specs.Sequences.{without_last, state, line}
use Rattle.rules.specs.Distance.{asking}
use Rattle.rules.specs.declared.Stamp.{Stamp}
use Rattle.rules.specs.declared.Settings.{Settings}
use Rattle.rules.specs.declared.Machine.{Machine}
use Rattle.rules.specs.declared.Event.{Event}
use Rattle.machine_numbers.specs.Fields.{named}
use Rattle.machine_numbers.specs.declared.MachineNumbers.{MachineNumbers}
use Rattle.keyboard.specs.declared.OpenAnswer.{OpenAnswer}
use Rattle.keyboard.specs.declared.StepAnswer.{StepAnswer}
use Rattle.keyboard.specs.Keyboard.{word_of, answered_numbers, step_numbers, distance_numbers}
use Rattle.keyboard.specs.KeyboardFacts.{KeyboardRun}

-- those of sent_first, sent_second and sent_third that are not 0
abbrev pub signs_sent : StepAnswer → List ℕ
signs_sent r = sign_unless_0 r.sent_first ++ sign_unless_0 r.sent_second ++ sign_unless_0 r.sent_third

-- those of first and second that are not 0
abbrev pub signs_committed : StepAnswer → List ℕ
signs_committed r = sign_unless_0 r.first ++ sign_unless_0 r.second

-- the last sign taken back, so many times
abbrev pub taken_back : ℕ → List ℕ → List ℕ
taken_back zero screen = screen
taken_back (suc n) screen = taken_back n (without_last screen)

-- The header's rule, "Show": take the last sign on the screen back, as many times as backspaces says; then add the signs sent.
abbrev pub shows : List ℕ → StepAnswer → List ℕ
shows screen r = taken_back r.backspaces screen ++ signs_sent r

-- and: the committed line grows by the signs committed
abbrev pub grows : List ℕ → StepAnswer → List ℕ
grows line r = line ++ signs_committed r

-- over the answers of all calls, both being empty at the start
abbrev pub host_screen : List StepAnswer → List ℕ
host_screen rs = foldl shows [] rs

abbrev pub host_line : List StepAnswer → List ℕ
host_line rs = foldl grows [] rs

-- what was sent, read off the numbers
abbrev pub sendings_read : StepAnswer → List Sending
sendings_read r = replicate r.backspaces backspace ++ send (signs_sent r)

-- the words of the items, as many as there are items, 0 for an empty face
abbrev pub words_read : StepAnswer → List ℕ
words_read r = take r.items (r.first ∷ r.second ∷ [])

-- Of everything lent.
pub record HostFacts (g : Lent) : Type 0 where
  -- Of numbers that name a machine: the number of an event, and of asking, is document 01's.
  pub number_back : (f : MachineNumbers) (x : Machine) (e : Event) → named f ≡ some x → (step_numbers g f e).number ≡ (step g x e).number
  pub asked_back : (f : MachineNumbers) (x : Machine) (now : Stamp) → named f ≡ some x
      → (distance_numbers g f now).number ≡ (asking g x now).number
  -- Of numbers that name none: refused 12 if what is lent is not accepted, else 2.
  pub no_machine_12 : (f : MachineNumbers) (e : Event) (now : Stamp) → named f ≡ none → lent_good g ≡ false
      → ((step_numbers g f e).number ≡ 12) × ((distance_numbers g f now).number ≡ 12)
  pub no_machine_2 : (f : MachineNumbers) (e : Event) (now : Stamp) → named f ≡ none → lent_good g ≡ true
      → ((step_numbers g f e).number ≡ 2) × ((distance_numbers g f now).number ≡ 2)
  -- Of every machine and event: the numbers say all that is sent, and the words of all items.
  pub sendings_back : (x : Machine) (e : Event) → sendings_read (answered_numbers (step g x e)) ≡ (step g x e).sendings
  pub words_back : (x : Machine) (e : Event) → words_read (answered_numbers (step g x e)) ≡ map word_of (step g x e).items
  -- Of calls from opening on: the host's line is the committed line, and its screen is that line and what is shown behind it.
  pub line_is : {s : Settings} {first : OpenAnswer} {es : List Event} {rs : List StepAnswer} → KeyboardRun g s first es rs
      → host_line rs ≡ line g s es
  pub screen_is : {s : Settings} {first : OpenAnswer} {es : List Event} {rs : List StepAnswer} → KeyboardRun g s first es rs
      → host_screen rs ≡ line g s es ++ shown (state g s es).resting
