-- The laws at a machine, for the events that it accepts.
use Prim.Native.Nat.{◌≤◌}
use native.Mathlib.Omega.{arith}
use mathlib.Core.Bool.{Bool, true, false, ◌&&◌, and-eq-true_iff}
use mathlib.Core.Option.{some, some-injective}
use mathlib.Core.Path.{◌≡◌, refl, sym, ap, ◌∙◌}
use borrow.Author.Tests.{leb-true}
use Rattle.choice.specs.Choice.{if◌then◌orelse◌}
use Rattle.rules.specs.Numbers.{largest_stamp, in_range}
use Rattle.rules.specs.Held.{held_formed}
use Rattle.rules.specs.Pairs.{Lent, lent_good}
use Rattle.rules.specs.States.{at, keys_below, at_or_before, stamps_by, in_order, pair_lent, well_formed}
use Rattle.rules.specs.GivenBack.{input, acts_as, accepted, judge, Answer, refusal, answer, step_with, step}
use Rattle.rules.specs.declared.Stamp.{Stamp}
use Rattle.rules.specs.declared.Resting.{Resting}
use Rattle.rules.specs.declared.Resting.TheVariants.{S1, S2, S3, S4, S5, S6, S7, S8}
use Rattle.rules.specs.declared.Machine.{Machine}
use Rattle.rules.specs.declared.Event.{Event}
use Rattle.rules.specs.declared.Input.{Input}
use Rattle.rules.proofs.Steps.{Accepted, taken, judge_cases}
use Rattle.rules.proofs.Ticks.{not_0}
use Rattle.reasons.specs.Turning.{decided, since}
use Rattle.reasons.specs.Reason.{step_reasons}
use Rattle.reasons.specs.ReasonFacts.{TrueReasonsStatement, event_at, decision_of, TurnsAtMachine}
use Rattle.reasons.proofs.Items.{same_items, true_cause}
use Rattle.reasons.proofs.Turnings.{true_turnings}
use Rattle.reasons.proofs.Margins.{true_margins}

-- what an event with number 0 was judged as
record Taken (g : Lent) (m : Machine) (e : Event) : Type 0 where
  input_is : Input
  passed_all : Accepted g m e input_is
  judged : judge g m e ≡ accepted (acts_as m.held input_is)

was_taken : (g : Lent) (m : Machine) (e : Event) → (step g m e).number ≡ 0 → Taken g m e
unfolding step step_with
was_taken g m e = go (lent_good g) refl
  where
    go : (b : Bool) → lent_good g ≡ b → (if b then answer g m e.stamp (judge g m e) orelse refusal m 12).number ≡ 0 → Taken g m e
    go true good =
        judge_cases (λ v. judge g m e ≡ v → (answer g m e.stamp v).number ≡ 0 → Taken g m e) g m e good
        (λ n z _ h. not_0 n z h)
        (λ i a j _. record { input_is = i; passed_all = a; judged = j })
        refl
    go false good = λ h. absurd (omega arith)

-- a well-formed machine: settings in range, and nothing rests from behind the last stamp
from_last : (last : Stamp) (x : Resting) → stamps_by last x ≡ true → (since x).0 ≤ last.0
from_last last S1 h = omega arith
from_last last (S2 M m) h = leb-true m.0 last.0 h
from_last last (S3 O o) h = leb-true o.0 last.0 h
from_last last (S4 M m O o) h = leb-true o.0 last.0 ((and-eq-true_iff (at_or_before m last) (at_or_before o last)).0 h).1
from_last last (S5 O o M m) h = leb-true m.0 last.0 ((and-eq-true_iff (at_or_before o last) (at_or_before m last)).0 h).1
from_last last (S6 O o M m r) h =
    leb-true r.0 last.0 ((and-eq-true_iff (at_or_before o last && at_or_before m last) (at_or_before r last)).0 h).1
from_last last (S7 M m K k) h = leb-true k.0 last.0 ((and-eq-true_iff (at_or_before m last) (at_or_before k last)).0 h).1
from_last last (S8 M m K k r) h =
    leb-true r.0 last.0 ((and-eq-true_iff (at_or_before m last && at_or_before k last) (at_or_before r last)).0 h).1

pub record Formed (m : Machine) : Type 0 where
  pub ranged : in_range m.settings ≡ true
  pub stamps : stamps_by m.last m.resting ≡ true
  pub low : m.last.0 ≤ largest_stamp
  pub since_last : (since m.resting).0 ≤ m.last.0

pub formed : (g : Lent) (m : Machine) → well_formed g m ≡ true → Formed m
unfolding well_formed
formed g m w =
    let y = m.resting in
    let last = m.last in
    let two = in_range m.settings && keys_below y in
    let three = two && stamps_by last y in
    let four = three && at_or_before last (at largest_stamp) in
    let five = four && in_order y in
    let six = five && held_formed m.held in
    let h6 = ((and-eq-true_iff six (pair_lent g y)).0 w).0 in
    let h5 = ((and-eq-true_iff five (held_formed m.held)).0 h6).0 in
    let h4 = ((and-eq-true_iff four (in_order y)).0 h5).0 in
    let h3 = (and-eq-true_iff three (at_or_before last (at largest_stamp))).0 h4 in
    let h2 = (and-eq-true_iff two (stamps_by last y)).0 h3.0 in
    record {
      ranged = ((and-eq-true_iff (in_range m.settings) (keys_below y)).0 h2.0).0;
      stamps = h2.1;
      low = leb-true last.0 largest_stamp h3.1;
      since_last = from_last last y h2.1;
    }

answered : (g : Lent) (m : Machine) (e : Event) (k : Taken g m e) → step g m e ≡ taken g m e (acts_as m.held k.input_is)
unfolding step step_with
answered g m e k = rw (k.passed_all.was_good, k.judged)

pub true_reasons : TrueReasonsStatement
unfolding step_reasons
true_reasons g m e h =
    let k = was_taken g m e h in
    let a = k.passed_all in
    let f = formed g m a.was_well_formed in
    record {
      good_list = a.was_good;
      good_machine = a.was_well_formed;
      names = k.input_is;
      is_input = a.is_input;
      acts = acts_as m.held k.input_is;
      acts_so = refl;
      is_accepted = k.judged;
      its_step = ap (λ (r : Answer). r.items) (answered g m e k);
      its_reasons = rw (a.was_good, k.judged);
      its_items = same_items g m e;
      its_cause = true_cause g m.settings e.stamp m.resting (acts_as m.held k.input_is);
      its_margins = true_margins g a.was_good m.settings f.ranged e.stamp m.resting (acts_as m.held k.input_is)
          (omega (arith, f.since_last, a.not_before));
    }

-- by the input that an event's kind and key are
decides : (g : Lent) (m : Machine) (e : Event) (k : Taken g m e) (i : Input) → input e.kind e.key ≡ some i
    → decision_of (step g m e) ≡ decided g m.settings m.resting (acts_as m.held i) e.stamp
decides g m e k i h =
    let same : k.input_is ≡ i = some-injective _ _ (sym k.passed_all.is_input ∙ h) in
    ap decision_of (answered g m e k) ∙ ap (λ j. decided g m.settings m.resting (acts_as m.held j) e.stamp) same

pub turns_at_machine : TurnsAtMachine
turns_at_machine g m kind n t u at-t at-u =
    let k = was_taken g m (event_at kind n t) at-t in
    let l = was_taken g m (event_at kind n u) at-u in
    let i = k.input_is in
    let is_input : input kind n ≡ some i = k.passed_all.is_input in
    let f = formed g m k.passed_all.was_well_formed in
    let r = true_turnings g k.passed_all.was_good m.settings f.ranged m.resting (acts_as m.held i) in
    let from-t : (since m.resting).0 ≤ t.0 = omega (arith, f.since_last, k.passed_all.not_before) in
    let from-u : (since m.resting).0 ≤ u.0 = omega (arith, f.since_last, l.passed_all.not_before) in
    let of-t = decides g m (event_at kind n t) k i is_input in
    let of-u = decides g m (event_at kind n u) l i is_input in
    record {
      same_side = λ e. of-t ∙ r.same_side t u from-t from-u (rw is_input at e) ∙ sym of-u;
      other_side = λ e j. r.other_side t u from-t from-u (rw is_input at e) (sym of-t ∙ j ∙ of-u);
    }
