-- Document 02, 8/12, for a keyboard that a C host drives: what the calls of a host are answered whose clock has another zero point. The
-- proof is proofs/MovedKeyboard.antt.
use Rattle.std.specs.Prelude.{ℕ, List, [], ◌∷◌, map, ◌≡◌}
use Rattle.std.proofs.Math.Option.{some}
use Rattle.rules.specs.Pairs.{Lent}
use Rattle.rules.specs.States.{later}
use Rattle.rules.specs.Sequences.{state, accepted_events}
use Rattle.rules.specs.MovedClock.{moved_events, moved_state, Stays, AllStay}
use Rattle.rules.specs.declared.Stamp.{Stamp}
use Rattle.rules.specs.declared.Settings.{Settings}
use Rattle.rules.specs.declared.Event.{Event}
use Rattle.machine_numbers.specs.Fields.{named}
use Rattle.machine_numbers.specs.declared.MachineNumbers.{MachineNumbers}
use Rattle.keyboard.specs.declared.OpenAnswer.{OpenAnswer}
use Rattle.keyboard.specs.declared.StepAnswer.{StepAnswer}
use Rattle.keyboard.specs.Keyboard.{distance_numbers}
use Rattle.keyboard.specs.KeyboardFacts.{KeyboardRun, last_numbers}

-- the numbers of an answer besides the machine's
abbrev pub besides_machine : StepAnswer → List ℕ
besides_machine a =
    a.number ∷ a.items ∷ a.first ∷ a.second ∷ a.backspaces ∷ a.sent_first ∷ a.sent_second ∷ a.sent_third ∷ []

-- Of the answers to calls with the events es and g lent, and to the same calls with k added to every stamp; before and after are the
-- machine's numbers that the last calls gave back.
pub record KeyboardMoved (g : Lent) (k : ℕ) (s : Settings) (es : List Event) (rs moved : List StepAnswer)
    (before after : MachineNumbers) : Type 0 where
  -- at each call the same numbers
  pub same_numbers : map besides_machine moved ≡ map besides_machine rs
  -- the numbers of a machine name it: the state that the events leave, and that state with its stamps moved
  pub names_state : named before ≡ some (state g s es)
  pub names_moved : named after ≡ some (moved_state k (accepted_events g s es) (state g s es))
  -- asked at a stamp that moves too: the same numbers
  pub same_distance : (now : Stamp) → Stays k now → distance_numbers g after (later now k) ≡ distance_numbers g before now

-- the statement: calls from opening on
abbrev pub KeyboardMovedStatement : Type 0
KeyboardMovedStatement =
    (g : Lent) (k : ℕ) (s : Settings) (es : List Event) → AllStay k es
    → (first again : OpenAnswer) (rs moved : List StepAnswer)
    → KeyboardRun g s first es rs
    → KeyboardRun g s again (moved_events k es) moved
    → KeyboardMoved g k s es rs moved (last_numbers first.machine rs) (last_numbers again.machine moved)
