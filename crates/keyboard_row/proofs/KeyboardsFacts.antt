-- One call at a row of numbers: exactly when it is refused 13, that it is else the keyboard's own, what it leaves as it was, and that it
-- is the call at the row of machines that the numbers name.
use Prim.Native.Nat.{ℕ, zero, suc}
use native.Mathlib.Omega.{arith}
use mathlib.Core.Bool.{Bool, true, false}
use mathlib.Core.List.{List, [], ◌∷◌}
use mathlib.Core.Logic.{◌↔◌, ◌≢◌, inl, inr}
use mathlib.Core.Option.{Option, none, some, none-ne-some}
use mathlib.Core.Path.{◌≡◌, refl, sym, ap, ◌∙◌}
use lib.Dec.{eqb}
use lib.ListN.{length, length-map, length-set, get_elem?, set}
use borrow.Author.Tests.{eqb-true, eqb-false}
use Rattle.rules.specs.Pairs.{Lent, lent_good}
use Rattle.rules.specs.Refusals.{NotGood}
use Rattle.rules.specs.GivenBack.{step}
use Rattle.rules.specs.declared.Stamp.{Stamp}
use Rattle.rules.specs.declared.Machine.{Machine}
use Rattle.rules.specs.declared.Event.{Event}
use Rattle.rules.proofs.Refusals.{refusals}
use Rattle.machine_numbers.specs.Fields.{named}
use Rattle.machine_numbers.specs.Formed.{machine_at}
use Rattle.machine_numbers.specs.declared.MachineNumbers.{MachineNumbers}
use Rattle.machine_numbers.proofs.Forms.{at_named}
use Rattle.keyboard.specs.Keyboard.{no_machine_number, refused_numbers, step_named, step_numbers, asked_numbers}
use Rattle.keyboard.specs.declared.DistanceAnswer.{DistanceAnswer}
use Rattle.keyboard.specs.DistanceNumbers.{tick_at}
use Rattle.keyboard.proofs.HandedOn.{call_answers, keyboard_facts}
use Rattle.keyboard.proofs.DistanceNumbers.{asks, distance_numbers_facts, same_refused_numbers}
use Rattle.row.specs.Row.{keyboard, RowAnswer}
use Rattle.row.specs.RowFacts.{NoKeyboard, Found}
use Rattle.row.proofs.Found.{set_same, set_other, set_as_is}
use Rattle.row.proofs.Found as of_machines
use Rattle.row.proofs.RowFacts.{row_facts}
use Rattle.keyboard_row.specs.Keyboards.{keyboard_numbers, RowNumbers, told_of, row_numbers, refused_told, refused_13, answered_at}
use Rattle.keyboard_row.specs.Keyboards.{row_step_numbers, not_asked, row_distance_numbers}
use Rattle.keyboard_row.specs.KeyboardsFacts.{FoundNumbers, RowStepFacts, RowDistanceFacts, NamedAt, AsMachines, AsMachinesStatement}
use Rattle.keyboard_row.specs.KeyboardsFacts.{machines_of, HasMachines}
use Rattle.keyboard_row.proofs.Finding.{none_why, not_13, by_found, step_here, step_nowhere, distance_here, distance_nowhere}
use Rattle.keyboard_row.proofs.Finding.{put_own}

-- No event at a keyboard alone is refused 13, nor 12 but where what is lent is not good.

-- a machine alone is a row of one
alone : (x : Machine) → Found (x ∷ []) 0 x
alone x = record { not_above_16 = omega arith; stands = refl }

machine_not_13 : (g : Lent) (x : Machine) (e : Event) → (step g x e).number ≢ 13
machine_not_13 g x e n =
    go ((row_facts g (x ∷ []) 0 e).gives_13.0 (ap (λ (a : RowAnswer). a.number) (of_machines.step_here (x ∷ []) 0 g e x (alone x)) ∙ n))
  where
    go : NoKeyboard 1 0 → ⊥
    go (inl h) = omega (arith, h)
    go (inr h) = omega (arith, h)

number_not_13 : (g : Lent) (f : MachineNumbers) (e : Event) → (step_numbers g f e).number ≢ 13
unfolding step_numbers
number_not_13 g f e = go (named f)
  where
    by_good : (t : Bool) → lent_good g ≡ t → no_machine_number g ≢ 13
    by_good true p = rw p (λ z. omega (arith, z))
    by_good false p = rw p (λ z. omega (arith, z))

    go : (y : Option Machine) → (step_named g f e y).number ≢ 13
    go none = by_good (lent_good g) refl
    go (some x) = machine_not_13 g x e

number_12 : (g : Lent) (f : MachineNumbers) (e : Event) → (step_numbers g f e).number ≡ 12 ↔ NotGood g
unfolding step_numbers
number_12 g f e = go (named f)
  where
    by_good : (t : Bool) → lent_good g ≡ t → no_machine_number g ≡ 12 → NotGood g
    by_good true p h = absurd (let z : ◌≡◌ {A = ℕ} 2 12 = rw p at h in omega arith)
    by_good false p h = p

    go : (y : Option Machine) → (step_named g f e y).number ≡ 12 ↔ NotGood g
    go none = (by_good (lent_good g) refl, λ bad. rw bad)
    go (some x) = (refusals g x e).gives_12

-- a refused event: what is told, and the numbers as given
refused_answer : (g : Lent) (f : MachineNumbers) (e : Event) → (step_numbers g f e).number ≢ 0
    → step_numbers g f e ≡ refused_numbers f (step_numbers g f e).number
refused_answer g f e = (keyboard_facts g).refuses f e

no_machine_answer : (g : Lent) (f : MachineNumbers) (e : Event) → named f ≡ none
    → step_numbers g f e ≡ refused_numbers f (no_machine_number g)
unfolding step_numbers
no_machine_answer g f e h = rw h

-- numbers as given, put in their place
put_back : (row : List MachineNumbers) (k : ℕ) (f : MachineNumbers) (n : ℕ) → FoundNumbers row k f
    → answered_at row k (refused_numbers f n) ≡ row_numbers (refused_told n) row
put_back row k f n found = ap (λ (l : List MachineNumbers). row_numbers (refused_told n) l) (set_as_is row k f found.stands)

module _ (g : Lent) (row : List MachineNumbers) (k : ℕ) where
  no_keyboard_there : keyboard_numbers row k ≡ none → (¬ NoKeyboard (length row) k) → {P : Type 0} → P
  no_keyboard_there h not_due = absurd (not_due (none_why row k h))

  step_nowhere_facts : (e : Event) → keyboard_numbers row k ≡ none → RowStepFacts g row k e
  step_nowhere_facts e h =
      let at : row_step_numbers g row k e ≡ refused_13 row = step_nowhere row k g e h in
      record {
        gives_13 = (λ _. none_why row k h, λ _. rw at);
        changes_nothing = λ _. at;
        gives_12 = (
          λ n. absurd (let z : ◌≡◌ {A = ℕ} 13 12 = sym (ap (λ (a : RowNumbers). a.told.number) at) ∙ n in omega arith),
          λ p. no_keyboard_there h p.0,
        );
        as_alone = λ f found. absurd (not_13 row k f found (none_why row k h));
        no_machine = λ f found _. absurd (not_13 row k f found (none_why row k h));
        refused = λ _. rw at;
        same_length = rw at;
        others_stay = λ j other. rw at;
      }

  step_here_facts : (e : Event) (f : MachineNumbers) → FoundNumbers row k f → RowStepFacts g row k e
  step_here_facts e f found =
      let at : row_step_numbers g row k e ≡ answered_at row k (step_numbers g f e) = step_here row k g e f found in
      let number_is : (row_step_numbers g row k e).told.number ≡ (step_numbers g f e).number = rw at in
      record {
        gives_13 = (λ n. absurd (number_not_13 g f e (sym number_is ∙ n)), λ due. absurd (not_13 row k f found due));
        changes_nothing = λ due. absurd (not_13 row k f found due);
        gives_12 = (
          λ n. (not_13 row k f found, (number_12 g f e).0 (sym number_is ∙ n)),
          λ p. number_is ∙ (number_12 g f e).1 p.1,
        );
        as_alone = λ h there. record {
          same_answer = step_here row k g e h there;
          same_machine = rw (step_here row k g e h there) (put_own row k h (step_numbers g h e).machine there);
        };
        no_machine = λ h there none_named.
            step_here row k g e h there
            ∙ ap (answered_at row k) (no_machine_answer g h e none_named)
            ∙ put_back row k h (no_machine_number g) there;
        refused = λ n.
            at
            ∙ ap (answered_at row k) (refused_answer g f e (λ z. n (number_is ∙ z)))
            ∙ put_back row k f (step_numbers g f e).number found
            ∙ ap (λ (m : ℕ). row_numbers (refused_told m) row) (sym number_is);
        same_length = rw at (length-set row k (step_numbers g f e).machine);
        others_stay = λ j other. rw at (set_other row k j (step_numbers g f e).machine other);
      }

  pub row_step_facts : (e : Event) → RowStepFacts g row k e
  row_step_facts e = by_found row k (step_nowhere_facts e) (step_here_facts e)

  -- asking is refused as a tick there is
  refused_as_tick : (now : Stamp) → (row_distance_numbers g row k now).number ≡ (row_step_numbers g row k (tick_at now)).told.number
  refused_as_tick now =
      by_found row k
      (λ h. rw (distance_nowhere row k g now h, step_nowhere row k g (tick_at now) h))
      (λ f found. rw (distance_here row k g now f found, step_here row k g (tick_at now) f found) (same_refused_numbers g f now))

  none_asked : (now : Stamp) → NoKeyboard (length row) k → row_distance_numbers g row k now ≡ not_asked
  none_asked now due =
      by_found row k (distance_nowhere row k g now) (λ f found. absurd (not_13 row k f found due))

  pub row_distance_facts : (now : Stamp) → RowDistanceFacts g row k now
  row_distance_facts now =
      let tick = row_step_facts (tick_at now) in
      let same = refused_as_tick now in
      record {
        gives_13 = rw same tick.gives_13;
        no_distance = none_asked now;
        gives_12 = rw same tick.gives_12;
        as_alone = λ f found. distance_here row k g now f found;
        distance_laws = λ f x found names answered.
            distance_numbers_facts g f x names now
            (sym (ap (λ (a : DistanceAnswer). a.number) (distance_here row k g now f found)) ∙ answered);
        same_refusals = same;
      }

-- Rows of numbers and rows of machines.

-- a list that is as long as another has something where the other has
at_both : {A B : Type 0} (l : List A) (r : List B) (k : ℕ) (a : A) → length l ≡ length r → get_elem? l k ≡ some a
    → (b : B) × (get_elem? r k ≡ some b)
at_both [] r k a h p = absurd (none-ne-some a p)
at_both (x ∷ l) [] k a h p = absurd (omega (arith, h))
at_both (x ∷ l) (y ∷ r) zero a h p = (y, refl)
at_both (x ∷ l) (y ∷ r) (suc k) a h p = at_both l r k a (omega (arith, h)) p

some_one : {A : Type 0} {a b : A} → some a ≡ some b → a ≡ b
some_one h = cc

module _ (g : Lent) (row : List MachineNumbers) (machines : List Machine) (k : ℕ) (e : Event) (beside : NamedAt k row machines) where
  as_nowhere : keyboard_numbers row k ≡ none → AsMachines g row machines k e
  as_nowhere h =
      let none-there : keyboard machines k ≡ none = of_machines.none_found machines k (rw beside.as_many (none_why row k h)) in
      record {
        told_is = rw (step_nowhere row k g e h, of_machines.step_nowhere machines k g e none-there);
        asked_is = λ now. rw (distance_nowhere row k g now h, of_machines.asking_nowhere machines k g now none-there);
        named_on = λ j at_j. rw (step_nowhere row k g e h, of_machines.step_nowhere machines k g e none-there) at_j;
      }

  as_here : (f : MachineNumbers) → FoundNumbers row k f → AsMachines g row machines k e
  as_here f found =
      let (x, stands) = at_both row machines k f (sym beside.as_many) found.stands in
      let there : Found machines k x = record { not_above_16 = rw beside.as_many found.not_above_16; stands = stands } in
      let is_named : named f ≡ some x = beside.names f x found.stands stands in
      let told = step_here row k g e f found in
      let answered = of_machines.step_here machines k g e x there in
      record {
        told_is = rw (told, answered) (ap told_of (call_answers g f x e is_named));
        asked_is = λ now.
            distance_here row k g now f found
            ∙ asks g f x is_named now
            ∙ ap asked_numbers (sym (of_machines.asking_here machines k g now x there));
        named_on = λ j at_j. rw (told, answered) (put_both j at_j x stands found is_named);
      }
    where
      put_both : (j : ℕ) → NamedAt j row machines → (x : Machine) → get_elem? machines k ≡ some x → FoundNumbers row k f → named f ≡ some x
          → NamedAt j (set row k (step_numbers g f e).machine) (set machines k (step g x e).machine)
      put_both j at_j x stands found is_named =
          record {
            as_many = length-set machines k (step g x e).machine ∙ at_j.as_many ∙ sym (length-set row k (step_numbers g f e).machine);
            names = go (eqb j k) refl;
          }
        where
          go : (t : Bool) → eqb j k ≡ t → (h : MachineNumbers) (y : Machine)
              → get_elem? (set row k (step_numbers g f e).machine) j ≡ some h
              → get_elem? (set machines k (step g x e).machine) j ≡ some y
              → named h ≡ some y
          go true own h y p q =
              let same : j ≡ k = eqb-true j k own in
              let of-numbers = some_one (sym (set_same row k f (step_numbers g f e).machine found.stands) ∙ (rw same at p)) in
              let of-machine = some_one (sym (set_same machines k x (step g x e).machine stands) ∙ (rw same at q)) in
              rw (← of-numbers, ← of-machine) ((keyboard_facts g).steps_on f x e is_named)
          go false other h y p q =
              at_j.names h y
              (sym (set_other row k j (step_numbers g f e).machine (eqb-false j k other)) ∙ p)
              (sym (set_other machines k j (step g x e).machine (eqb-false j k other)) ∙ q)

pub as_machines : AsMachinesStatement
as_machines g row machines k e beside =
    by_found row k (as_nowhere g row machines k e beside) (as_here g row machines k e beside)

-- what stands at a place of the machines of a row
machines_at : (row : List MachineNumbers) (k : ℕ) (f : MachineNumbers) → get_elem? row k ≡ some f
    → get_elem? (machines_of row) k ≡ some (machine_at f)
machines_at [] k f h = absurd (none-ne-some f h)
machines_at (x ∷ row) zero f h = ap (λ (y : MachineNumbers). some (machine_at y)) (some_one h)
machines_at (x ∷ row) (suc k) f h = machines_at row k f h

pub has_machines : HasMachines
has_machines row k f x h is_named =
    record {
      as_many = length-map row machine_at;
      names = λ f' x' p q.
          let same-f : f' ≡ f = some_one (sym p ∙ h) in
          let same-x : x' ≡ machine_at f = some_one (sym q ∙ machines_at row k f h) in
          rw (same-f, same-x, at_named f x is_named) is_named;
    }
