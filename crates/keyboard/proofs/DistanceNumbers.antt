-- The laws of the distance, of the numbers for C: numbers that name a machine answer as the machine does.
use Prim.Native.Nat.{ℕ}
use native.Mathlib.Omega.{arith}
use mathlib.Core.List.{List, [], ◌∷◌}
use mathlib.Core.Logic.{◌≢◌}
use mathlib.Core.Option.{Option, none, some}
use mathlib.Core.Path.{◌≡◌, refl, sym, ap, subst, ◌∙◌}
use lib.IntN.{ℤ, pos}
use lib.ListN.{length}
use Rattle.rules.specs.Pairs.{Lent}
use Rattle.rules.specs.States.{later}
use Rattle.rules.specs.GivenBack.{step}
use Rattle.rules.specs.Demand3.{tick}
use Rattle.rules.specs.Distance.{asking}
use Rattle.rules.specs.DistanceFacts.{DueOrOverdue, less, only_last}
use Rattle.rules.specs.declared.Stamp.{Stamp}
use Rattle.rules.specs.declared.Machine.{Machine}
use Rattle.rules.specs.declared.Item.{Item}
use Rattle.rules.proofs.DistanceFacts.{distance_facts, same_refusals}
use Rattle.machine_numbers.specs.Fields.{in_numbers, named}
use Rattle.machine_numbers.specs.declared.MachineNumbers.{MachineNumbers}
use Rattle.machine_numbers.proofs.RoundTrip.{loses_nothing}
use Rattle.keyboard.specs.Keyboard.{told_numbers, answered_numbers, asked_numbers, step_named, step_numbers}
use Rattle.keyboard.specs.Keyboard.{distance_named, distance_numbers}
use Rattle.keyboard.specs.DistanceNumbers.{tick_at, SaysDue, SaysIn, SaysNone, told_later, with_last, only_last_numbers}
use Rattle.keyboard.specs.DistanceNumbers.{DistanceNumbers, SameRefusedNumbers}
use Rattle.keyboard.specs.declared.StepAnswer.{StepAnswer}
use Rattle.keyboard.specs.declared.DistanceAnswer.{DistanceAnswer}
use Rattle.keyboard.proofs.HandedOn.{call_answers}

-- What the numbers say of a distance is what the distance is.

says_due : (n : ℕ) (o : Option ℤ) → SaysDue (told_numbers n o) → DueOrOverdue o
says_due n none h = absurd (omega (arith, h.0))
says_due n (some z) h = record { distance = z; is_answer = refl; is_due = h.1 }

due_says : (n : ℕ) (o : Option ℤ) → DueOrOverdue o → SaysDue (told_numbers n o)
due_says n none h = absurd (never h.distance h.is_answer)
  where
    never : (z : ℤ) → none ≡ some z → ⊥
    never z e = let w : ◌≡◌ {A = ℕ} 0 1 = cc in omega arith
due_says n (some z) h =
    let same : z ≡ h.distance = cc in
    (refl, rw same h.is_due)

says_in : (k n : ℕ) (o : Option ℤ) → SaysIn (told_numbers k o) n → o ≡ some (pos n)
says_in k n none h = absurd (omega (arith, h.0))
says_in k n (some z) h = ap some h.1

says_none : (k : ℕ) (o : Option ℤ) → SaysNone (told_numbers k o) → o ≡ none
says_none k none h = refl
says_none k (some z) h = absurd (omega (arith, h))

told_less : (d : ℕ) (o : Option ℤ) → told_numbers 0 (less d o) ≡ told_later (told_numbers 0 o) d
told_less d none = refl
told_less d (some z) = refl

told_number : (k : ℕ) (o : Option ℤ) → (told_numbers k o).number ≡ k
told_number k none = refl
told_number k (some z) = refl

-- no items are counted where there are none, and only there
none_counted : (l : List Item) → length l ≢ 0 → l ≢ []
none_counted l h e = h (ap length e)

some_counted : (l : List Item) → l ≢ [] → length l ≢ 0
some_counted [] h = absurd (h refl)
some_counted (i ∷ l) h = λ z. omega (arith, z)

-- a machine with another last stamp
in_numbers_last : (x : Machine) (t : Stamp) → in_numbers (only_last x t).machine ≡ with_last (in_numbers x) t
unfolding in_numbers
in_numbers_last x t = refl

module _ (g : Lent) (f : MachineNumbers) (x : Machine) (names : named f ≡ some x) where
  pub asks : (now : Stamp) → distance_numbers g f now ≡ asked_numbers (asking g x now)
  unfolding distance_numbers
  asks now = rw names

  ticks : (t : Stamp) → step_numbers g f (tick_at t) ≡ answered_numbers (step g x (tick t))
  ticks t = call_answers g f x (tick_at t) names

  only_last_is : (t : Stamp) → answered_numbers (only_last x t) ≡ only_last_numbers f t
  only_last_is t = rw (in_numbers_last x t, loses_nothing.one_form f x names)

  pub distance_numbers_facts : (now : Stamp) → (distance_numbers g f now).number ≡ 0 → DistanceNumbers g f x now
  distance_numbers_facts now answered =
      let k = (asking g x now).number in
      let o = (asking g x now).distance in
      let zero : k ≡ 0 = sym (told_number k o) ∙ sym (ap number (asks now)) ∙ answered in
      let facts = distance_facts g x now zero in
      record {
        due_commits = λ h. subst Counts (sym (ticks now)) (some_counted _ (facts.due_commits (due h)));
        commits_due = λ h. subst SaysDue (sym (asks now)) (due_says k o (facts.commits_due (none_counted _ (subst Counts (ticks now) h))));
        due_is_late = λ h. ticks now ∙ ap answered_numbers (facts.due_is_late (due h));
        later_is_less = λ d le.
            asks (later now d) ∙ ap asked_numbers (facts.later_is_less d le)
            ∙ told_less d o
            ∙ ap (λ (n : ℕ). told_later (told_numbers n o) d) (sym zero)
            ∙ ap (λ (r : DistanceAnswer). told_later r d) (sym (asks now));
        early_tick = λ n h t lt z.
            ticks t ∙ ap answered_numbers (facts.early_tick n (in_n n h) t lt (accepted t z))
            ∙ only_last_is t;
        tick_on_time = λ n h le.
            ticks (later now n)
            ∙ ap answered_numbers (facts.tick_on_time n (in_n n h) le);
        never_due = λ h t z.
            ticks t ∙ ap answered_numbers (facts.never_due (says_none k o (subst SaysNone (asks now) h)) t (accepted t z))
            ∙ only_last_is t;
      }
    where
      due : SaysDue (distance_numbers g f now) → DueOrOverdue (asking g x now).distance
      due h = says_due (asking g x now).number (asking g x now).distance (subst SaysDue (asks now) h)

      in_n : (n : ℕ) → SaysIn (distance_numbers g f now) n → (asking g x now).distance ≡ some (pos n)
      in_n n h =
          says_in (asking g x now).number n (asking g x now).distance (subst (λ (r : DistanceAnswer). SaysIn r n) (asks now) h)

      number : DistanceAnswer → ℕ
      number r = r.number

      Counts : StepAnswer → Type 0
      Counts r = r.items ≢ 0

      accepted : (t : Stamp) → (step_numbers g f (tick_at t)).number ≡ 0 → (step g x (tick t)).number ≡ 0
      accepted t z = sym (ap (λ (r : StepAnswer). r.number) (ticks t)) ∙ z

pub same_refused_numbers : (g : Lent) (f : MachineNumbers) (now : Stamp) → SameRefusedNumbers g f now
unfolding distance_numbers step_numbers
same_refused_numbers g f now = go (named f)
  where
    go : (y : Option Machine) → (distance_named g now y).number ≡ (step_named g f (tick_at now) y).number
    go none = refl
    go (some x) = told_number (asking g x now).number (asking g x now).distance ∙ same_refusals g x now
