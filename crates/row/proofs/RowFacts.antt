-- One event and one asking at a row: exactly when they are refused 13, that they are else the keyboard's own, and what they leave as
-- it was.
use Prim.Native.Nat.{ℕ, ◌<◌}
use native.Mathlib.Omega.{arith}
use mathlib.Core.List.{List}
use mathlib.Core.Option.{Option, none, some, none-ne-some}
use mathlib.Core.Path.{◌≡◌, refl, sym, ap, ◌∙◌}
use lib.Dec.{ltb, lit<}
use lib.ListN.{length, length-set}
use Rattle.rules.specs.Numbers.{largest_stamp}
use Rattle.rules.specs.Pairs.{Lent, lent_good}
use Rattle.rules.specs.States.{well_formed}
use Rattle.rules.specs.GivenBack.{Answer, Verdict, input, too_many, judge_input, judge, answer, step_with, step}
use Rattle.rules.specs.Distance.{Asking, not_answered, asking}
use Rattle.rules.specs.Demand3.{tick}
use Rattle.rules.specs.declared.Stamp.{Stamp}
use Rattle.rules.specs.declared.Machine.{Machine}
use Rattle.rules.specs.declared.Event.{Event}
use Rattle.rules.specs.declared.Input.{Input}
use Rattle.choice.proofs.Choices.{both_ways}
use Rattle.rules.proofs.Refusals.{refusals}
use Rattle.rules.proofs.DistanceFacts.{same_refusals, distance_facts}
use Rattle.row.specs.Row.{keyboard, RowAnswer, refused_13, answered_at, step_at, asking_at}
use Rattle.row.specs.RowFacts.{NoKeyboard, Found, RowFacts, RowAskingFacts}
use Rattle.row.proofs.Found.{set_same, set_other, set_as_is, found_in, none_found, none_why, is_there}
use Rattle.row.proofs.Found.{step_here, step_nowhere, asking_here, asking_nowhere}

-- no event at a keyboard alone is refused 13
below_13 : (g : Lent) (m : Machine) (e : Event) → (step g m e).number < 13
unfolding step step_with judge
below_13 g m e =
    both_ways (λ (a : Answer). a.number < 13) (lent_good g)
    (both_ways (λ (v : Verdict). (answer g m e.stamp v).number < 13) (well_formed g m) (by_input (input e.kind e.key)) (lit< tt))
    (lit< tt)
  where
    by_input : (i : Option Input) → (answer g m e.stamp (judge_input m e i)).number < 13
    by_input none = lit< tt
    by_input (some i) =
        both_ways (λ (v : Verdict). (answer g m e.stamp v).number < 13) (ltb largest_stamp e.stamp.0) (lit< tt)
        (both_ways (λ (v : Verdict). (answer g m e.stamp v).number < 13) (ltb e.stamp.0 m.last.0) (lit< tt)
        (both_ways (λ (v : Verdict). (answer g m e.stamp v).number < 13) (too_many m e) (lit< tt) (lit< tt)))

module _ (row : List Machine) (k : ℕ) where
  -- where a keyboard is found, 13 is not due
  not_13 : (m : Machine) → Found row k m → ¬ NoKeyboard (length row) k
  not_13 m f due = none-ne-some m (sym (none_found row k due) ∙ is_there row k m f)

  -- 13 is due, or a keyboard is found
  by_found : {P : Type 0} → (keyboard row k ≡ none → P) → ((m : Machine) → Found row k m → P) → P
  by_found {P} at_none at_some = go (keyboard row k) refl
    where
      go : (o : Option Machine) → keyboard row k ≡ o → P
      go none h = at_none h
      go (some m) h = at_some m (found_in row k m h)

  no_keyboard_there : keyboard row k ≡ none → (¬ NoKeyboard (length row) k) → {P : Type 0} → P
  no_keyboard_there h not_due = absurd (not_due (none_why row k h))

module _ (g : Lent) (row : List Machine) (k : ℕ) (e : Event) where
  facts_nowhere : keyboard row k ≡ none → RowFacts g row k e
  facts_nowhere h =
      let at : step_at g row k e ≡ refused_13 row = step_nowhere row k g e h in
      record {
        gives_13 = (λ _. none_why row k h, λ _. rw at);
        changes_nothing = λ _. at;
        gives_12 = (
          λ n. absurd (let z : ◌≡◌ {A = ℕ} 13 12 = sym (ap (λ (a : RowAnswer). a.number) at) ∙ n in omega arith),
          λ p. no_keyboard_there row k h p.0,
        );
        else_its_own = λ not_due. no_keyboard_there row k h not_due;
        refused = λ _. record { no_items = rw at; no_sendings = rw at; row_as_given = rw at };
        same_length = rw at;
        others_stay = λ j other. rw at;
      }

  facts_here : (m : Machine) → Found row k m → RowFacts g row k e
  facts_here m f =
      let at : step_at g row k e ≡ answered_at row k (step g m e) = step_here row k g e m f in
      let number_is : (step_at g row k e).number ≡ (step g m e).number = rw at in
      record {
        gives_13 = (
          λ n. absurd (let b = below_13 g m e in omega arith),
          λ due. absurd (not_13 row k m f due),
        );
        changes_nothing = λ due. absurd (not_13 row k m f due);
        gives_12 = (
          λ n. (not_13 row k m f, (refusals g m e).gives_12.0 (sym number_is ∙ n)),
          λ p. number_is ∙ (refusals g m e).gives_12.1 p.1,
        );
        else_its_own = λ _. record {
          machine = m;
          found = f;
          same_number = number_is;
          same_items = rw at;
          same_sendings = rw at;
          same_machine = rw at (set_same row k m (step g m e).machine f.stands);
        };
        refused = λ n.
            let r = (refusals g m e).refused (λ z. n (number_is ∙ z)) in
            record {
              no_items = rw at r.no_items;
              no_sendings = rw at r.no_sendings;
              row_as_given = rw (at, r.machine_as_given) (set_as_is row k m f.stands);
            };
        same_length = rw at (length-set row k (step g m e).machine);
        others_stay = λ j other. rw at (set_other row k j (step g m e).machine other);
      }

pub row_facts : (g : Lent) (row : List Machine) (k : ℕ) (e : Event) → RowFacts g row k e
row_facts g row k e = by_found row k (facts_nowhere g row k e) (facts_here g row k e)

module _ (g : Lent) (row : List Machine) (k : ℕ) (now : Stamp) where
  asking_facts_nowhere : keyboard row k ≡ none → RowAskingFacts g row k now
  asking_facts_nowhere h =
      let at : asking_at g row k now ≡ not_answered 13 = asking_nowhere row k g now h in
      record {
        gives_13 = (λ _. none_why row k h, λ _. rw at);
        no_distance = λ _. at;
        gives_12 = (
          λ n. absurd (let z : ◌≡◌ {A = ℕ} 13 12 = sym (ap (λ (a : Asking). a.number) at) ∙ n in omega arith),
          λ p. no_keyboard_there row k h p.0,
        );
        else_its_own = λ not_due. no_keyboard_there row k h not_due;
        same_refusals = rw (at, step_nowhere row k g (tick now) h);
      }

  asking_facts_here : (m : Machine) → Found row k m → RowAskingFacts g row k now
  asking_facts_here m f =
      let at : asking_at g row k now ≡ asking g m now = asking_here row k g now m f in
      let number_is : (asking_at g row k now).number ≡ (step g m (tick now)).number = ap (λ (a : Asking). a.number) at
      ∙ same_refusals g m now in
      record {
        gives_13 = (
          λ n. absurd (let b = below_13 g m (tick now) in omega arith),
          λ due. absurd (not_13 row k m f due),
        );
        no_distance = λ due. absurd (not_13 row k m f due);
        gives_12 = (
          λ n. (not_13 row k m f, (refusals g m (tick now)).gives_12.0 (sym number_is ∙ n)),
          λ p. number_is ∙ (refusals g m (tick now)).gives_12.1 p.1,
        );
        else_its_own = λ _. record {
          machine = m;
          found = f;
          same_asking = at;
          distance_facts = λ n. distance_facts g m now (ap (λ (a : Asking). a.number) (sym at) ∙ n);
        };
        same_refusals = number_is ∙ ap (λ (a : RowAnswer). a.number) (sym (step_here row k g (tick now) m f));
      }

pub row_asking_facts : (g : Lent) (row : List Machine) (k : ℕ) (now : Stamp) → RowAskingFacts g row k now
row_asking_facts g row k now = by_found row k (asking_facts_nowhere g row k now) (asking_facts_here g row k now)
