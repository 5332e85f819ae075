-- Numbers lose nothing of a machine, and a machine has one form in numbers only. The proofs are in proofs/RoundTrip.antt.
use Rattle.std.specs.Prelude.{◌<◌, true, false, ◌≡◌}
use Rattle.std.proofs.Math.Option.{none, some}
use Rattle.rules.specs.Pairs.{Lent}
use Rattle.rules.specs.States.{fresh, well_formed}
use Rattle.rules.specs.GivenBack.{step}
use Rattle.rules.specs.declared.Settings.{Settings}
use Rattle.rules.specs.declared.Resting.{Resting}
use Rattle.rules.specs.declared.Resting.TheVariants.{S1, S2, S3, S4, S5, S6, S7, S8}
use Rattle.rules.specs.declared.Machine.{Machine}
use Rattle.rules.specs.declared.Event.{Event}
use Rattle.machine_numbers.specs.declared.MachineNumbers.{MachineNumbers}
use Rattle.machine_numbers.specs.Fields.{key_numbers, in_numbers, named, no_machine, is_no_machine}

-- A key's number is one of 8 bits, as the machine's type has it; the host's field for K's is wider.
abbrev pub SecondFits : Resting → Type 0
SecondFits S1 = Unit {0}
SecondFits (S2 M m) = Unit {0}
SecondFits (S3 O o) = Unit {0}
SecondFits (S4 M m O o) = Unit {0}
SecondFits (S5 O o M m) = Unit {0}
SecondFits (S6 O o M m r) = Unit {0}
SecondFits (S7 M m K k) = K.0 < key_numbers
SecondFits (S8 M m K k r) = K.0 < key_numbers

abbrev pub Fits : Machine → Type 0
Fits x = SecondFits x.resting

-- It is one in a fresh machine, in a well-formed one, in one that numbers name, and after every event.
pub record AllFit : Type 0 where
  pub fresh_fits : (s : Settings) → Fits (fresh s)
  pub well_formed_fits : (g : Lent) (x : Machine) → well_formed g x ≡ true → Fits x
  pub step_fits : (g : Lent) (x : Machine) (e : Event) → Fits x → Fits (step g x e).machine
  pub named_fits : (f : MachineNumbers) (x : Machine) → named f ≡ some x → Fits x

pub record LosesNothing : Type 0 where
  -- The numbers of a machine name that machine.
  pub back : (x : Machine) → Fits x → named (in_numbers x) ≡ some x
  -- Numbers that name a machine are the numbers of that machine.
  pub one_form : (f : MachineNumbers) (x : Machine) → named f ≡ some x → in_numbers x ≡ f
  -- Zeros name none; they are the only numbers that are no machine's by that test, and no machine has them.
  pub none_named : named no_machine ≡ none
  pub zeros : (f : MachineNumbers) → is_no_machine f ≡ true → f ≡ no_machine
  pub zeros_test : is_no_machine no_machine ≡ true
  pub not_zeros : (x : Machine) → is_no_machine (in_numbers x) ≡ false
