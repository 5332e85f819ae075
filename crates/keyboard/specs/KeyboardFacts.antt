-- What a C host leans on when it hands a keyboard's numbers from call to call (Keyboard.antt). The proofs are in
-- proofs/HandedOn.antt.
use Rattle.std.specs.Prelude.{ℕ, Bool, true, List, [], ◌∷◌, map, ◌≢◌, ◌≡◌}
use Rattle.std.proofs.Math.Option.{some}
use Rattle.rules.specs.Numbers.{settings_of}
use Rattle.rules.specs.Pairs.{Lent, lent_good}
use Rattle.rules.specs.States.{fresh, opening}
use Rattle.rules.specs.GivenBack.{Answer, step}
use Rattle.rules.specs.Sequences.{along, state}
use Rattle.rules.specs.declared.Stamp.{Stamp}
use Rattle.rules.specs.declared.Settings.{Settings}
use Rattle.rules.specs.declared.Machine.{Machine}
use Rattle.rules.specs.declared.Event.{Event}
use Rattle.pairs.specs.LentFacts.{word}
use Rattle.machine_numbers.specs.Fields.{named}
use Rattle.machine_numbers.specs.Formed.{names_formed}
use Rattle.machine_numbers.specs.declared.MachineNumbers.{MachineNumbers}
use Rattle.keyboard.specs.declared.OpenAnswer.{OpenAnswer}
use Rattle.keyboard.specs.declared.StepAnswer.{StepAnswer}
use Rattle.keyboard.specs.Keyboard.{event_of, lent_of, open_numbers, answered_numbers, refused_numbers, step_numbers}

-- Calls of `trabeculon_step`, each with the machine that the one before gave back and with one list, T_s and N lent to all: what each
-- answers, by the contract of that function in its own words.
pub data KeyboardCalls (g : Lent) : MachineNumbers → List Event → List StepAnswer → Type 0 where
  no_more : {f : MachineNumbers} → KeyboardCalls g f [] []
  call : {f : MachineNumbers} {kind key : ℕ} {stamp : Stamp} {r : StepAnswer} {es : List Event} {rs : List StepAnswer}
      → r ≡ step_numbers g f (event_of kind key stamp)
      → KeyboardCalls g r.machine es rs
      → KeyboardCalls g f (event_of kind key stamp ∷ es) (r ∷ rs)

-- What `trabeculon_open` answers for settings s beside number 0, by its contract, and calls from the machine that it gives.
pub record KeyboardRun (g : Lent) (s : Settings) (first : OpenAnswer) (es : List Event) (rs : List StepAnswer) : Type 0 where
  pub opened_as : first ≡ open_numbers (opening (settings_of s.t s.j s.l s.solo))
  pub opened_well : first.number ≡ 0
  pub calls : KeyboardCalls g first.machine es rs

-- the machine that the last call gave back
abbrev pub last_numbers : MachineNumbers → List StepAnswer → MachineNumbers
last_numbers f [] = f
last_numbers f (r ∷ rs) = last_numbers r.machine rs

-- the answers of document 01 along a sequence, from a machine
abbrev pub answers : Lent → Machine → List Event → List Answer
answers g x es = along g (λ m e a. a ∷ []) x es

-- numbers that name a machine which is well formed: no others are accepted
abbrev pub formed_numbers : Lent → MachineNumbers → Bool
formed_numbers g f = names_formed g (named f)

-- Of everything lent.
pub record KeyboardFacts (g : Lent) : Type 0 where
  -- Everything that is accepted can be lent by a host: each pair as its number, T_s and N as they are.
  pub lends : lent_good g ≡ true → lent_of (map word g.pairs) g.t_s g.n ≡ g
  -- The numbers that opening gives name the machine that it opened, or none if the settings are refused.
  pub opens : (s : Settings) → named (open_numbers (opening s)).machine ≡ (opening s).machine
  -- The numbers after an event name the machine after it, so calls that hand them on are the steps of one machine.
  pub steps_on : (f : MachineNumbers) (x : Machine) (e : Event) → named f ≡ some x
      → named (step_numbers g f e).machine ≡ some (step g x e).machine
  -- A refused event commits nothing and sends nothing, and the numbers are as given, whatever they are.
  pub refuses : (f : MachineNumbers) (e : Event) → (step_numbers g f e).number ≢ 0
      → step_numbers g f e ≡ refused_numbers f (step_numbers g f e).number
  -- Calls from a machine that was opened are answered as document 01 answers the same events from a fresh state. Of those answers
  -- demand 3 speaks.
  pub runs : {s : Settings} {first : OpenAnswer} {es : List Event} {rs : List StepAnswer} → KeyboardRun g s first es rs
      → rs ≡ map answered_numbers (answers g (fresh s) es)
  -- The numbers that the last of them gave back name the state that the events leave.
  pub names_last : {s : Settings} {first : OpenAnswer} {es : List Event} {rs : List StepAnswer} → KeyboardRun g s first es rs
      → named (last_numbers first.machine rs) ≡ some (state g s es)
  -- An event leaves numbers as well formed as they were. So a host may save the numbers of a machine that it was given, and go on
  -- with them later.
  pub keeps_formed : (f : MachineNumbers) (e : Event) → formed_numbers g (step_numbers g f e).machine ≡ formed_numbers g f
