-- What holds of every sequence of events from a fresh state besides demand 3: no state that it leaves is ill formed, so no event
-- of it is refused 2. The proof is proofs/Formed.antt.
use Rattle.std.specs.Prelude.{true, List, ◌≢◌, ◌≡◌}
use Rattle.rules.specs.Numbers.{in_range}
use Rattle.rules.specs.Pairs.{Lent}
use Rattle.rules.specs.States.{well_formed}
use Rattle.rules.specs.GivenBack.{step}
use Rattle.rules.specs.Sequences.{state}
use Rattle.rules.specs.declared.Settings.{Settings}
use Rattle.rules.specs.declared.Event.{Event}

-- of what is lent, settings s and a sequence es
pub record SequenceFacts (g : Lent) (s : Settings) (es : List Event) : Type 0 where
  pub stays_well_formed : well_formed g (state g s es) ≡ true
  pub never_refused_2 : (e : Event) → (step g (state g s es) e).number ≢ 2

-- the statement
abbrev pub SequenceFactsStatement : Type 0
SequenceFactsStatement = (g : Lent) (s : Settings) → in_range s ≡ true → (es : List Event) → SequenceFacts g s es
