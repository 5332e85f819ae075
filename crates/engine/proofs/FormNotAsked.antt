-- With a list that is accepted, at a machine that is well formed, an event for which neither is asked is a step apart from what is sent.
use mathlib.Core.Path.{◌≡◌, refl}
use mathlib.Core.Bool.{true, false}
use mathlib.Core.Option.{Option, none, some}
use native.Mathlib.Omega.{arith}
use lib.Dec.{ltb, eqb}
use Rattle.rules.specs.Numbers.{largest_stamp}
use Rattle.rules.specs.Pairs.{Lent, lent_good}
use Rattle.rules.specs.States.{well_formed}
use Rattle.rules.specs.OneEvent.{one_event}
use Rattle.rules.specs.GivenBack.{Verdict, refused, accepted, input, too_many, judge_input, judge, answer, step_with, step}
use Rattle.rules.specs.declared.Stamp.{Stamp}
use Rattle.rules.specs.declared.Machine.{Machine}
use Rattle.rules.specs.declared.Event.{Event}
use Rattle.rules.specs.declared.Input.{Input}
use Rattle.choice.proofs.Choices.{both_ways}
use Rattle.rules.proofs.Tests.{good_bounds}
use Rattle.rules.proofs.Late.{settle_once}
use Rattle.deadlines.proofs.Formed.{LentHeld, well_formed_deadline}
use Rattle.engine.specs.Views.{apart_from_sent}
use Rattle.engine.specs.FormNotAsked.{judge_event, one_event_at_most, by_verdict, take_formed, AsStep}

-- no sum stops short
pub formed_one_event : (g : Lent) → LentHeld g → (m : Machine) (now : Stamp) (i : Input) → well_formed g m ≡ true
    → one_event_at_most g m.settings now m.resting i ≡ one_event g m.settings now m.resting i
unfolding one_event one_event_at_most
formed_one_event g held m now i w = rw (settle_once g m.settings now m.resting, well_formed_deadline g held m w)

-- T_s and N that are accepted are numbers of two bytes and of one
good_held : (g : Lent) → lent_good g ≡ true → LentHeld g
good_held g e =
    let b = good_bounds g e in
    record { t_s = omega (arith, b.T_s_bounds.1); n = omega (arith, b.N_bounds.1) }

-- a refusal has another number than 0
abbrev Not0 : Verdict → Type 0
Not0 (refused n) = eqb n 0 ≡ false
Not0 (accepted i) = Unit {0}

not_0 : (m : Machine) (e : Event) (i : Option Input) → Not0 (judge_input m e i)
not_0 m e none = refl
not_0 m e (some i) =
    both_ways Not0 (ltb largest_stamp e.stamp.0) refl
    (both_ways Not0 (ltb e.stamp.0 m.last.0) refl (both_ways Not0 (too_many m e) refl tt))

same_answer : (g : Lent) → LentHeld g → (m : Machine) (now : Stamp) (v : Verdict) → well_formed g m ≡ true → Not0 v
    → by_verdict g m now v ≡ apart_from_sent (answer g m now v)
same_answer g held m now (refused n) w z = rw z
same_answer g held m now (accepted i) w z = rw (formed_one_event g held m now i w)

pub as_step : AsStep
unfolding take_formed step step_with judge judge_event
as_step g m e good w =
    rw (good, w) (same_answer g (good_held g good) m e.stamp (judge_event m e) w (not_0 m e (input e.kind e.key)))
