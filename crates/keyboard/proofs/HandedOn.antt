-- What a C host leans on when it hands a keyboard's numbers from call to call.
use native.Mathlib.Omega.{arith}
use mathlib.Core.Bool.{true, ◌&&◌, and-eq-true_iff}
use mathlib.Core.List.{List, [], ◌∷◌, map}
use mathlib.Core.Logic.{◌≢◌}
use mathlib.Core.Option.{Option, none, some}
use mathlib.Core.Path.{◌≡◌, refl, sym, ap, ap₂, ◌∙◌}
use lib.Dec.{leb}
use lib.ListN.{length}
use Rattle.rules.specs.Numbers.{in_range, within}
use Rattle.rules.specs.Pairs.{Pair, Lent, pairs_most, T_s_least, T_s_most, N_least, N_most, none_twice, pair_good, each_good, lent_good}
use Rattle.rules.specs.States.{fresh, Opening, opening}
use Rattle.rules.specs.GivenBack.{Verdict, refused, accepted, judge, Answer, answer, step_with, step}
use Rattle.rules.specs.Sequences.{after, state}
use Rattle.rules.specs.declared.Settings.{Settings}
use Rattle.rules.specs.declared.Machine.{Machine}
use Rattle.rules.specs.declared.Event.{Event}
use Rattle.choice.proofs.Choices.{both_ways}
use Rattle.rules.proofs.Formed.{stays_formed}
use Rattle.pairs.specs.Lent.{pairs_in}
use Rattle.pairs.specs.LentFacts.{word}
use Rattle.pairs.proofs.Words.{can_be_lent}
use Rattle.machine_numbers.specs.Fields.{in_numbers, named, numbers_of}
use Rattle.machine_numbers.specs.Formed.{names_formed}
use Rattle.machine_numbers.specs.declared.MachineNumbers.{MachineNumbers}
use Rattle.machine_numbers.proofs.RoundTrip.{loses_nothing, all_fit}
use Rattle.keyboard.specs.Keyboard.{event_of, lent_of, answered_numbers, refused_numbers, step_named, step_numbers}
use Rattle.keyboard.specs.declared.OpenAnswer.{OpenAnswer}
use Rattle.keyboard.specs.declared.StepAnswer.{StepAnswer}
use Rattle.keyboard.specs.KeyboardFacts.{KeyboardCalls, no_more, call, KeyboardRun, last_numbers, answers}
use Rattle.keyboard.specs.KeyboardFacts.{formed_numbers, KeyboardFacts}

-- the numbers of good pairs are these pairs
pairs_back : (l : List Pair) → each_good l ≡ true → pairs_in (map word l) ≡ l
unfolding each_good
pairs_back [] h = refl
pairs_back (p ∷ l) h =
    let (good, more) = (and-eq-true_iff (pair_good p) (each_good l)).0 h in
    ap₂ (λ (q : Pair) (qs : List Pair). q ∷ qs) ((can_be_lent p).read_back good) (pairs_back l more)

good_pairs : (g : Lent) → lent_good g ≡ true → each_good g.pairs ≡ true
unfolding lent_good
good_pairs g h =
    let few = leb (length g.pairs) pairs_most in
    let t_s = within T_s_least T_s_most g.t_s in
    let upto = few && none_twice g.pairs in
    let each = each_good g.pairs in
    let (front, n) = (and-eq-true_iff (upto && each && t_s) (within N_least N_most g.n)).0 h in
    ((and-eq-true_iff upto each).0 ((and-eq-true_iff (upto && each) t_s).0 front).0).1

lends : (g : Lent) → lent_good g ≡ true → lent_of (map word g.pairs) g.t_s g.n ≡ g
lends g good = rw (pairs_back g.pairs (good_pairs g good))

-- the numbers that opening gives: zeros, or a fresh machine's
opens : (s : Settings) → named (numbers_of (opening s).machine) ≡ (opening s).machine
unfolding opening
opens s =
    both_ways (λ (o : Opening). named (numbers_of o.machine) ≡ o.machine) (in_range s)
    (loses_nothing.back (fresh s) (all_fit.fresh_fits s))
    loses_nothing.none_named

-- the numbers of a machine after an event, at one that numbers name
after_back : (g : Lent) (f : MachineNumbers) (x : Machine) (e : Event) → named f ≡ some x
    → named (in_numbers (step g x e).machine) ≡ some (step g x e).machine
after_back g f x e h = loses_nothing.back (step g x e).machine (all_fit.step_fits g x e (all_fit.named_fits f x h))

steps_on : (g : Lent) (f : MachineNumbers) (x : Machine) (e : Event) → named f ≡ some x
    → named (step_numbers g f e).machine ≡ some (step g x e).machine
unfolding step_numbers
steps_on g f x e h = rw h (after_back g f x e h)

-- of a machine's answer, by its verdict
by_verdict : (g : Lent) (f : MachineNumbers) (x : Machine) (e : Event) → in_numbers x ≡ f → (v : Verdict)
    → (answered_numbers (answer g x e.stamp v)).number ≢ 0
    → answered_numbers (answer g x e.stamp v) ≡ refused_numbers f (answered_numbers (answer g x e.stamp v)).number
by_verdict g f x e same (refused n) h = rw same
by_verdict g f x e same (accepted i) h = absurd (h refl)

refuses : (g : Lent) (f : MachineNumbers) (e : Event) → (step_numbers g f e).number ≢ 0
    → step_numbers g f e ≡ refused_numbers f (step_numbers g f e).number
unfolding step_numbers step step_with
refuses g f e = go (named f) refl
  where
    go : (y : Option Machine) → named f ≡ y → (step_named g f e y).number ≢ 0
        → step_named g f e y ≡ refused_numbers f (step_named g f e y).number
    go none h = λ _. refl
    go (some x) h =
        let by = by_verdict g f x e (loses_nothing.one_form f x h) in
        both_ways
        (λ (r : Answer). (answered_numbers r).number ≢ 0 → answered_numbers r ≡ refused_numbers f (answered_numbers r).number)
        (lent_good g) (by (judge g x e)) (by (refused 12))

-- a call at numbers that name a machine
pub call_answers : (g : Lent) (f : MachineNumbers) (x : Machine) (e : Event) → named f ≡ some x
    → step_numbers g f e ≡ answered_numbers (step g x e)
unfolding step_numbers
call_answers g f x e h = rw h

-- what calls answer, and what the last numbers name
runs_from : (g : Lent) {f : MachineNumbers} {es : List Event} {rs : List StepAnswer} (x : Machine) → named f ≡ some x
    → KeyboardCalls g f es rs → (rs ≡ map answered_numbers (answers g x es)) × (named (last_numbers f rs) ≡ some (after g x es))
runs_from g x h no_more = (refl, h)
runs_from g x h (call {f = f} {kind = kind} {key = key} {stamp = stamp} {r = r} same more) =
    let e = event_of kind key stamp in
    let here : r ≡ answered_numbers (step g x e) = same ∙ call_answers g f x e h in
    let rest = runs_from g (step g x e).machine (ap (λ (a : StepAnswer). named a.machine) same ∙ steps_on g f x e h) more in
    (rw (here, rest.0), rest.1)

-- what was opened is fresh
opened_fresh : (s : Settings) → (opening s).number ≡ 0 → (opening s).machine ≡ some (fresh s)
unfolding opening
opened_fresh s =
    both_ways (λ (o : Opening). o.number ≡ 0 → o.machine ≡ some (fresh s)) (in_range s) (λ _. refl) (λ z. absurd (omega arith))

from_opening : {g : Lent} {s : Settings} {first : OpenAnswer} {es : List Event} {rs : List StepAnswer} → KeyboardRun g s first es rs
    → (rs ≡ map answered_numbers (answers g (fresh s) es)) × (named (last_numbers first.machine rs) ≡ some (state g s es))
from_opening {g} {s} run =
    let same = run.opened_as in
    let zero : (opening s).number ≡ 0 = sym (ap (λ (a : OpenAnswer). a.number) same) ∙ run.opened_well in
    let names = ap (λ (a : OpenAnswer). named a.machine) same ∙ opens s ∙ opened_fresh s zero in
    runs_from g (fresh s) names run.calls

keeps_formed : (g : Lent) (f : MachineNumbers) (e : Event) → formed_numbers g (step_numbers g f e).machine ≡ formed_numbers g f
unfolding step_numbers
keeps_formed g f e = go (named f) refl
  where
    go : (y : Option Machine) → named f ≡ y → formed_numbers g (step_named g f e y).machine ≡ names_formed g y
    go none h = ap (names_formed g) h
    go (some x) h = ap (names_formed g) (after_back g f x e h) ∙ stays_formed g x e

pub keyboard_facts : (g : Lent) → KeyboardFacts g
keyboard_facts g =
    record {
      lends = lends g;
      opens = opens;
      steps_on = steps_on g;
      refuses = refuses g;
      runs = λ run. (from_opening run).0;
      names_last = λ run. (from_opening run).1;
      keeps_formed = keeps_formed g;
    }
