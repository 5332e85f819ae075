-- Calls at a row of numbers are, for each keyboard, calls at its own numbers alone; so isolation, and demand 3 and the moved clock for its
-- own events.
use Prim.Native.Nat.{ℕ}
use native.Mathlib.Omega.{arith}
use mathlib.Core.Bool.{Bool, true, false}
use mathlib.Core.List.{List, [], ◌∷◌, ◌++◌}
use mathlib.Core.Option.{some}
use mathlib.Core.Path.{◌≡◌, refl, sym, ap, subst, ◌∙◌}
use lib.Dec.{eqb}
use lib.ListN.{get_elem?}
use borrow.Author.Tests.{eqb-true, eqb-false}
use Rattle.choice.specs.Choice.{if◌then◌orelse◌}
use Rattle.rules.specs.Pairs.{Lent}
use Rattle.rules.specs.Numbers.{in_range, settings_of}
use Rattle.rules.specs.States.{Opening, opening, later}
use Rattle.rules.specs.GivenBack.{step}
use Rattle.rules.specs.Sequences.{state}
use Rattle.rules.specs.declared.Settings.{Settings}
use Rattle.rules.specs.declared.Event.{Event}
use Rattle.choice.proofs.Choices.{by_test}
use Rattle.rules.proofs.Demand3.{demand_3}
use Rattle.rules.proofs.LastAccepted.{last_accepted}
use Rattle.machine_numbers.specs.declared.MachineNumbers.{MachineNumbers}
use Rattle.keyboard.specs.Keyboard.{open_numbers, step_numbers, distance_numbers}
use Rattle.keyboard.specs.KeyboardFacts.{KeyboardCalls, KeyboardRun, last_numbers}
use Rattle.keyboard.specs.KeyboardFacts as one
use Rattle.keyboard.specs.declared.OpenAnswer.{OpenAnswer}
use Rattle.keyboard.specs.declared.StepAnswer.{StepAnswer}
use Rattle.keyboard.proofs.HandedOn.{call_answers, keyboard_facts}
use Rattle.keyboard.proofs.HostScreen.{host_facts}
use Rattle.keyboard.proofs.DistanceNumbers.{asks}
use Rattle.keyboard.proofs.MovedKeyboard.{keyboard_moved}
use Rattle.row.specs.RowRuns.{RowEvent, events_of}
use Rattle.keyboard_row.specs.Keyboards.{RowNumbers, row_step_numbers}
use Rattle.keyboard_row.specs.KeyboardsFacts.{FoundNumbers}
use Rattle.keyboard_row.specs.KeyboardsRuns.{RowCalls, no_more, call, RowHandedOn, own_answer, answers_of, OwnCalls}
use Rattle.keyboard_row.specs.KeyboardsRuns.{IsolatedNumbers, OpenedInRowStatement, MovedInRowStatement}
use Rattle.keyboard_row.proofs.Finding.{step_here, distance_here}
use Rattle.keyboard_row.proofs.KeyboardsFacts.{row_step_facts}

-- the numbers that are found at a place are the ones that stand there
one_found : {row : List MachineNumbers} {k : ℕ} {f h : MachineNumbers} → FoundNumbers row k f → FoundNumbers row k h → f ≡ h
one_found {row} {k} {f} {h} p q = let same : some f ≡ some h = sym p.stands ∙ q.stands in cc

module _ (g : Lent) (k : ℕ) where
  -- keyboard k's numbers after a call at it, and after a call at another
  found_own : (row : List MachineNumbers) (x : RowEvent) (f : MachineNumbers) → FoundNumbers row k f → eqb x.board k ≡ true
      → FoundNumbers (row_step_numbers g row x.board x.event).row k (step_numbers g f x.event).machine
  found_own row x f found own = rw (eqb-true x.board k own) ((row_step_facts g row k x.event).as_alone f found).same_machine

  found_other : (row : List MachineNumbers) (x : RowEvent) (f : MachineNumbers) → FoundNumbers row k f → eqb x.board k ≡ false
      → FoundNumbers (row_step_numbers g row x.board x.event).row k f
  found_other row x f found other =
      let facts = row_step_facts g row x.board x.event in
      record {
        not_above_16 = rw facts.same_length found.not_above_16;
        stands = facts.others_stay k (λ e. eqb-false x.board k other (sym e)) ∙ found.stands;
      }

  -- it is found after every call
  found_on : (row : List MachineNumbers) (x : RowEvent) (f : MachineNumbers) → FoundNumbers row k f
      → (h : MachineNumbers) × FoundNumbers (row_step_numbers g row x.board x.event).row k h
  found_on row x f found = go (eqb x.board k) refl
    where
      go : (t : Bool) → eqb x.board k ≡ t → (h : MachineNumbers) × FoundNumbers (row_step_numbers g row x.board x.event).row k h
      go true own = ((step_numbers g f x.event).machine, found_own row x f found own)
      go false other = (f, found_other row x f found other)

  -- what it gets of a call at it
  answer_own : (row : List MachineNumbers) (x : RowEvent) (f : MachineNumbers) → FoundNumbers row k f → eqb x.board k ≡ true
      → own_answer (row_step_numbers g row x.board x.event).told (get_elem? (row_step_numbers g row x.board x.event).row k)
      ≡ step_numbers g f x.event ∷ []
  answer_own row x f found own =
      rw ((found_own row x f found own).stands, eqb-true x.board k own, ((row_step_facts g row k x.event).as_alone f found).same_answer)

  own_at : (f : MachineNumbers) (xs : List RowEvent) (rs : List RowNumbers) → RowCalls g k f xs rs
      → KeyboardCalls g f (events_of k xs) (answers_of k xs rs)
  own_at f _ _ no_more = one.no_more
  own_at f _ _ (call {after = after} {row = row} {x = x} {r = r} {xs = xs} {rs = rs} found same next more) =
      go (eqb x.board k) refl (own_at after xs rs more)
    where
      left : FoundNumbers (row_step_numbers g row x.board x.event).row k after
      left = subst (λ (a : RowNumbers). FoundNumbers a.row k after) same next

      go : (t : Bool) → eqb x.board k ≡ t → KeyboardCalls g after (events_of k xs) (answers_of k xs rs)
          → KeyboardCalls g f ((if t then (x.event ∷ []) orelse []) ++ events_of k xs)
          ((if t then own_answer r.told (get_elem? r.row k) orelse []) ++ answers_of k xs rs)
      go true own rest =
          let here : own_answer r.told (get_elem? r.row k) ≡ step_numbers g f x.event ∷ []
          = rw same (answer_own row x f found own) in
          let on : after ≡ (step_numbers g f x.event).machine = one_found left (found_own row x f found own) in
          subst (λ (l : List StepAnswer). KeyboardCalls g f (x.event ∷ events_of k xs) (l ++ answers_of k xs rs)) (sym here)
          (one.call refl (subst (λ (h : MachineNumbers). KeyboardCalls g h (events_of k xs) (answers_of k xs rs)) on rest))
      go false other rest =
          subst (λ (h : MachineNumbers). KeyboardCalls g h (events_of k xs) (answers_of k xs rs))
          (one_found left (found_other row x f found other)) rest

pub own_calls : OwnCalls
own_calls g k f xs rs calls = own_at g k f xs rs calls

pub row_handed_on : RowHandedOn
row_handed_on g k row f [] found = no_more
row_handed_on g k row f (x ∷ xs) found =
    let (h, left) = found_on g k row x f found in
    call found refl left (row_handed_on g k (row_step_numbers g row x.board x.event).row h xs left)

-- calls with the same events from the same numbers are answered the same
same_calls : {g : Lent} {f : MachineNumbers} {es : List Event} {rs qs : List StepAnswer} → KeyboardCalls g f es rs
    → KeyboardCalls g f es qs → rs ≡ qs
same_calls one.no_more one.no_more = refl
same_calls {g} {f} (one.call {r = r} {es = es} {rs = rs} p more) (one.call {r = q} {rs = qs} p' more') =
    let same : r ≡ q = p ∙ sym p' in
    rw (same, same_calls more (subst (λ (a : StepAnswer). KeyboardCalls g a.machine es qs) (sym same) more'))

pub isolated_numbers : IsolatedNumbers
isolated_numbers g k j f xs ys rs qs c d same =
    let mine = own_calls g k f xs rs c in
    let theirs = subst (λ (es : List Event). KeyboardCalls g f es (answers_of j ys qs)) (sym same) (own_calls g j f ys qs d) in
    let answers = same_calls mine theirs in
    record {
      same_answers = answers;
      same_machine = ap (last_numbers f) answers;
      same_distance = λ row other now found there.
          distance_here row k g now (last_numbers f (answers_of k xs rs)) found
          ∙ ap (λ (l : List StepAnswer). distance_numbers g (last_numbers f l) now) answers
          ∙ sym (distance_here other j g now (last_numbers f (answers_of j ys qs)) there);
    }

-- what was opened has settings in range
opened_in_range : (s : Settings) → (opening s).number ≡ 0 → in_range s ≡ true
unfolding opening
opened_in_range s = by_test (λ (o : Opening). o.number ≡ 0 → in_range s ≡ true) (in_range s) (λ h _. h) (λ _ z. absurd (omega arith))

-- a keyboard that was opened and got calls at a row has a run of its own
run_of : (g : Lent) (k : ℕ) (s : Settings) (first : OpenAnswer) (xs : List RowEvent) (rs : List RowNumbers)
    → first ≡ open_numbers (opening (settings_of s.t s.j s.l s.solo)) → first.number ≡ 0
    → RowCalls g k first.machine xs rs
    → KeyboardRun g s first (events_of k xs) (answers_of k xs rs)
run_of g k s first xs rs opened_as opened_well calls =
    record { opened_as = opened_as; opened_well = opened_well; calls = own_calls g k first.machine xs rs calls }

pub opened_in_row : OpenedInRowStatement
opened_in_row g k s first xs rs opened_as opened_well calls =
    let run = run_of g k s first xs rs opened_as opened_well calls in
    let zero : (opening s).number ≡ 0 = sym (ap (λ (a : OpenAnswer). a.number) opened_as) ∙ opened_well in
    let last = last_numbers first.machine (answers_of k xs rs) in
    let after = state g s (events_of k xs) in
    let names = (keyboard_facts g).names_last run in
    record {
      is_run = run;
      answers_are = (keyboard_facts g).runs run;
      names_last = names;
      line_is = (host_facts g).line_is run;
      screen_is = (host_facts g).screen_is run;
      demand_3_holds = demand_3 g s (opened_in_range s zero) (events_of k xs);
      same_asked = λ row now found. distance_here row k g now last found ∙ asks g last after names now;
      own_last_stamp = λ good row e found.
          let at : (row_step_numbers g row k e).told.number ≡ (step g after e).number
          = ap (λ (a : RowNumbers). a.told.number) (step_here row k g e last found)
          ∙ ap (λ (a : StepAnswer). a.number) (call_answers g last after e names) in
          rw at ((last_accepted g good s (opened_in_range s zero) (events_of k xs)).gives_5 e);
    }

pub moved_in_row : MovedInRowStatement
moved_in_row g d k j s first xs ys rs qs opened_as opened_well c c' moved stay =
    let run = run_of g k s first xs rs opened_as opened_well c in
    let other-run = subst (λ (es : List Event). KeyboardRun g s first es (answers_of j ys qs)) moved
    (run_of g j s first ys qs opened_as opened_well c') in
    let both = keyboard_moved g d s (events_of k xs) stay first first (answers_of k xs rs) (answers_of j ys qs) run other-run in
    let last = last_numbers first.machine (answers_of k xs rs) in
    let other_last = last_numbers first.machine (answers_of j ys qs) in
    record {
      own_moved = both;
      same_distance = λ row other now stays found there.
          distance_here other j g (later now d) other_last there
          ∙ both.same_distance now stays
          ∙ sym (distance_here row k g now last found);
    }
