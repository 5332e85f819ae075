-- The second opinion on a sequence of events is what the rules commit, and what they leave waiting.
use Prim.Native.Nat.{ℕ, suc}
use mathlib.Core.Bool.{true}
use mathlib.Core.List.{List, [], ◌∷◌, ◌++◌, reverse_aux}
use mathlib.Core.Path.{◌≡◌, refl, sym, ap, ◌∙◌}
use lib.ListN.{length}
use Rattle.rules.specs.Pairs.{lent_good}
use Rattle.rules.specs.States.{fresh}
use Rattle.rules.specs.OneEvent.{one_event}
use Rattle.rules.specs.GivenBack.{acts_as, Answer, step}
use Rattle.rules.specs.Sequences.{after, along, accepted_in, items_in, waiting}
use Rattle.rules.specs.declared.Settings.{Settings}
use Rattle.rules.specs.declared.Machine.{Machine}
use Rattle.rules.specs.declared.Resting.{Resting}
use Rattle.rules.specs.declared.Event.{Event}
use Rattle.rules.proofs.Steps.{taken, step_cases}
use Rattle.opinions.specs.Earlier.{heard, number_after, accepted}
use Rattle.opinions.specs.Opinion.{Told, told, tell, opinion}
use Rattle.opinions.specs.SameAsRules.{SameAsRulesStatement}
use Rattle.opinions.proofs.Agree.{Stroke, stroke, events, g, run, agrees}
use Rattle.opinions.proofs.Back.{Knows, knows_fresh, number_is, heard_of, knows_next}

heard_length : (before es : List Event) → length (heard before es) ≡ length es
unfolding heard
heard_length before [] = refl
heard_length before (e ∷ es) = ap suc (heard_length (e ∷ before) es)

module _ (t n : ℕ) (good : lent_good (g t n) ≡ true) where
  -- events before, own accepted ones, those of the rules, and what the rules tell
  record Hears (s : Settings) (x : Resting) (before own acc : List Event) (u : Told) : Type 0 where
    same : own ≡ acc
    list : List Stroke
    are : heard before own ≡ events list
    ran : u ≡ run t n s x list

  -- with the answer of the first event, r
  abbrev First : Machine → List Event → Event → List Event → Answer → Type 0
  First m before e es r =
      Hears m.settings m.resting before (accepted before (e ∷ es)) (accepted_in m e r ++ along (g t n) accepted_in r.machine es)
      (told (r.items ++ along (g t n) items_in r.machine es) (waiting (after (g t n) r.machine es).resting))

  hears : (m : Machine) (before es : List Event) → Knows (g t n) m before
      → Hears m.settings m.resting before (accepted before es) (along (g t n) accepted_in m es)
      (told (along (g t n) items_in m es) (waiting (after (g t n) m es).resting))
  unfolding accepted heard run
  hears m before [] w = record { same = refl; list = []; are = refl; ran = refl }
  hears m before (e ∷ es) w =
      step_cases (λ (r : Answer). r ≡ step (g t n) m e → First m before e es r) (g t n) m e
      (λ k z q.
      let no : number_after before e ≡ k = sym (number_is (g t n) good m before w e) ∙ ap (λ (r : Answer). r.number) (sym q) in
      let more = hears m before es w in
      rw (no, z) (record { same = more.same; list = more.list; are = more.are; ran = more.ran }))
      (λ i a q.
      let yes : number_after before e ≡ 0 = sym (number_is (g t n) good m before w e) ∙ ap (λ (r : Answer). r.number) (sym q) in
      let j = acts_as m.held i in
      let next = (taken (g t n) m e j).machine in
      let more = hears next (e ∷ before) es (knows_next (g t n) good m before w e i a q) in
      rw yes
      (record {
        same = ap (λ (l : List Event). e ∷ l) more.same;
        list = stroke j e.stamp ∷ more.list;
        are = rw (heard_of (g t n) good m before w e i a, more.are);
        ran = ap (tell (one_event (g t n) m.settings e.stamp m.resting j).items) more.ran;
      }))
      refl

  -- what is known after a sequence
  knows_after : (m : Machine) (before es : List Event) → Knows (g t n) m before
      → Knows (g t n) (after (g t n) m es) (reverse_aux (accepted before es) before)
  unfolding accepted
  knows_after m before [] w = w
  knows_after m before (e ∷ es) w =
      step_cases (λ (r : Answer). r ≡ step (g t n) m e
      → Knows (g t n) (after (g t n) r.machine es) (reverse_aux (accepted before (e ∷ es)) before)) (g t n) m e
      (λ k z q.
      let no : number_after before e ≡ k = sym (number_is (g t n) good m before w e) ∙ ap (λ (r : Answer). r.number) (sym q) in
      rw (no, z) (knows_after m before es w))
      (λ i a q.
      let yes : number_after before e ≡ 0 = sym (number_is (g t n) good m before w e) ∙ ap (λ (r : Answer). r.number) (sym q) in
      rw yes (knows_after (taken (g t n) m e (acts_as m.held i)).machine (e ∷ before) es (knows_next (g t n) good m before w e i a q)))
      refl

pub same_as_rules : SameAsRulesStatement
unfolding opinion
same_as_rules t n good s r es =
    let w = knows_fresh (g t n) s r in
    let h = hears t n good (fresh s) [] es w in
    let size : length (accepted [] es) ≡ length (events h.list) = sym (heard_length [] (accepted [] es)) ∙ ap length h.are in
    record {
      same_events = h.same;
      same_number = λ e. sym (number_is (g t n) good _ _ (knows_after t n good (fresh s) [] es w) e);
      same_told = rw (← h.same, size, h.are) (agrees t n s h.list) ∙ sym h.ran;
    }
