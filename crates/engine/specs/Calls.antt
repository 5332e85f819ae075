-- What a caller of `Machine::open` and `engine::step` sees who lends the same at every call. Each clause below is the contract of one of
-- the two functions, in its own words, and both hold at every input, so a caller's own sequence of calls is a `CodeRun`, whatever is
-- lent and whatever the settings and the events are. Of every `CodeRun` the record at the end is proved, in proofs/Calls.antt.
use Rattle.std.specs.Prelude.{◌≡◌, true, List, [], ◌∷◌, ◌++◌, Result, Ok}
use Rattle.rules.specs.Numbers.{in_range}
use Rattle.rules.specs.Pairs.{Lent}
use Rattle.rules.specs.States.{fresh, opening, opened}
use Rattle.rules.specs.GivenBack.{Answer, step}
use Rattle.rules.specs.Sequences.{along, state}
use Rattle.rules.specs.Demand3.{Demand3}
use Rattle.rules.specs.declared.Settings.{Settings}
use Rattle.rules.specs.declared.Machine.{Machine}
use Rattle.rules.specs.declared.Event.{Event}
use Rattle.rules.specs.declared.Refusal.{Refusal}
use Rattle.engine.specs.Views.{stepped, Gives}
use Rattle.engine.specs.declared.Stepped.{Stepped}

-- what one call gives back
abbrev pub Given : Type 0
Given = Result Stepped Refusal

-- the machine after a call at m: m itself where the event is refused
abbrev pub machine_after : Machine → Given → Machine
machine_after m r = (stepped m r).machine

-- Calls of `engine::step`, each with the machine after the one before: what each answers, by the contract `Gives m r (step g m e)`, where
-- g is what is lent.
pub data Calls (g : Lent) : Machine → List Event → List Given → Type 0 where
  no_more : {m : Machine} → Calls g m [] []
  call : {m : Machine} {e : Event} {r : Given} {es : List Event} {rs : List Given} → Gives m r (step g m e)
      → Calls g (machine_after m r) es rs
      → Calls g m (e ∷ es) (r ∷ rs)

-- A machine that `Machine::open` gave for settings s, by the contract `opened r ≡ opening settings`, and calls from it.
pub record CodeRun (g : Lent) (s : Settings) (m : Machine) (es : List Event) (rs : List Given) : Type 0 where
  pub machine_opened : opened (Ok m) ≡ opening s
  pub calls : Calls g m es rs

-- the machine after the last call
abbrev pub last_machine : Machine → List Given → Machine
last_machine m [] = m
last_machine m (r ∷ rs) = last_machine (machine_after m r) rs

-- what f reads off each event, the machine that it got and its answer, joined along the calls
abbrev pub along_calls : {X : Type 0} → (Machine → Event → Answer → List X) → Machine → List Event → List Given → List X
along_calls f m [] rs = []
along_calls f m (e ∷ es) [] = []
along_calls f m (e ∷ es) (r ∷ rs) = f m e (stepped m r) ++ along_calls f (machine_after m r) es rs

-- Demand 3 is about what the two functions return: the calls leave the machine, and give the readings (items, sendings, presses,
-- numbers: any f), of the definition's sequence from a fresh state, and of that sequence demand 3 holds.
pub record OfTheCode (g : Lent) (s : Settings) (m : Machine) (es : List Event) (rs : List Given) : Type 1 where
  pub settings_in_range : in_range s ≡ true
  pub same_machine : last_machine m rs ≡ state g s es
  pub same_readings : {X : Type 0} (f : Machine → Event → Answer → List X) → along_calls f m es rs ≡ along g f (fresh s) es
  pub demand_3_holds : Demand3 g s es
