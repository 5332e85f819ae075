-- What 7/12 says of a step and of a sequence.
use Prim.Native.Nat.{ℕ, ◌<◌}
use mathlib.Core.Bool.{true, false, ◌&&◌, and-eq-true_iff}
use mathlib.Core.List.{List, [], ◌∷◌, ◌++◌}
use mathlib.Core.Option.{Option, none, some}
use mathlib.Core.Path.{◌≡◌, refl, sym, ◌∙◌, ap}
use lib.Dec.{ltb, eqb}
use borrow.Author.Tests.{lt-ltb, ne_eqb}
use Rattle.rules.specs.Numbers.{keys, largest_stamp, in_range}
use Rattle.rules.specs.Held.{is_held, held_formed}
use Rattle.rules.specs.Pairs.{Lent, lent_good}
use Rattle.rules.specs.States.{at, fresh, at_or_before, keys_below, stamps_by, in_order, pair_lent, well_formed}
use Rattle.rules.specs.GivenBack.{with_thumb, input, acts_as, held_after, Verdict, accepted, is_new}
use Rattle.rules.specs.GivenBack.{judge_input, judge, Answer, answer, step_with, step}
use Rattle.rules.specs.Sequences.{after, along, accepted_in, state, accepted_events}
use Rattle.rules.specs.Demand3.{tick}
use Rattle.rules.specs.DistanceFacts.{only_time_passes}
use Rattle.rules.specs.HeldRules.{down, up, ActsAsTick, holding, answer_holding, SetNotRead, held_then}
use Rattle.rules.specs.HeldRules.{HeldAfterwards, held_through, AllHeld, not_released, HeldInSequences}
use Rattle.rules.specs.declared.Stamp.{Stamp}
use Rattle.rules.specs.declared.Key.{Key}
use Rattle.rules.specs.declared.Thumb.{Thumb}
use Rattle.rules.specs.declared.Thumb.TheVariants.{Left, Right}
use Rattle.rules.specs.declared.Machine.{Machine}
use Rattle.rules.specs.declared.Event.{Event}
use Rattle.rules.specs.declared.Input.{Input}
use Rattle.rules.specs.declared.Input.TheVariants.{ThumbDown, ThumbUp}
use Rattle.choice.proofs.Choices.{both_ways, two_ways}
use Rattle.rules.proofs.Held.{held_key, none_held, formed_test, formed_exactly}
use Rattle.rules.proofs.Steps.{taken, step_cases}
use Rattle.rules.proofs.StillHeld.{still_held}
use Rattle.rules.proofs.Ticks.{not_0}
use Rattle.rules.proofs.Demand3.{ran}
use Rattle.rules.proofs.DistanceFacts.{tick_is_time}

module _ (g : Lent) (m : Machine) (k : Key) (t : Stamp) where
  repeat : is_held m.held k ≡ true → step g m (down k t) ≡ step g m (tick t)
  unfolding step step_with judge input is_new
  repeat h = rw (lt-ltb k.0 keys (held_key m.held k h), h)

  stray_up : k.0 < keys → is_held m.held k ≡ false → step g m (up k t) ≡ step g m (tick t)
  unfolding step step_with judge input is_new
  stray_up lt f = rw (lt-ltb k.0 keys lt, f)

  -- what gives the same as a tick does no more than a tick
  passes : (r : Answer) → r ≡ step g m (tick t) → r.number ≡ 0 → r ≡ only_time_passes g m t
  passes r same taken = same ∙ tick_is_time g m t (ap (λ (q : Answer). q.number) (sym same) ∙ taken)

pub acts_as_tick : (g : Lent) (m : Machine) (k : Key) (t : Stamp) → ActsAsTick g m k t
acts_as_tick g m k t =
    record {
      repeat = repeat g m k t;
      stray_up = stray_up g m k t;
      repeat_changes = λ h. passes g m k t (step g m (down k t)) (repeat g m k t h);
      stray_up_changes = λ lt f. passes g m k t (step g m (up k t)) (stray_up g m k t lt f);
    }

-- what kinds 3 to 6 give acts as itself whatever is held, and holds and releases nothing
data Unread : Option Input → Type 0 where
  not_allowed : Unread none
  unread : {i : Input} → ((h : ℕ) → acts_as h i ≡ i) → ((h : ℕ) → held_after h i ≡ h) → Unread (some i)

thumb_unread : (f : Thumb → Input) → ((P : Thumb) → Unread (some (f P))) → (k : Key) → Unread (with_thumb f k)
thumb_unread f u k =
    both_ways Unread (eqb k.0 0) (u Left) (both_ways Unread (eqb k.0 1) (u Right) not_allowed)

-- neither a down nor an up of a character key
input_unread : (kind : ℕ) (k : Key) → eqb kind 1 ≡ false → eqb kind 2 ≡ false → Unread (input kind k)
unfolding input
input_unread kind k no-down no-up =
    rw (no-down, no-up)
    (both_ways Unread (eqb kind 3) (thumb_unread ThumbDown (λ P. unread (λ h. refl) (λ h. refl)) k)
    (both_ways Unread (eqb kind 4) (thumb_unread ThumbUp (λ P. unread (λ h. refl) (λ h. refl)) k)
    (both_ways Unread (eqb kind 5) (both_ways Unread (eqb k.0 0) (unread (λ h. refl) (λ h. refl)) not_allowed)
    (both_ways Unread (eqb kind 6) (both_ways Unread (eqb k.0 0) (unread (λ h. refl) (λ h. refl)) not_allowed)
    not_allowed))))

module _ (g : Lent) (m : Machine) (e : Event) (h : ℕ) where
  -- two verdicts that come to the same answer but for the held set
  abbrev Same : Verdict → Verdict → Type 0
  Same v w = answer g (holding h m) e.stamp v ≡ answer_holding h (answer g m e.stamp w)

  input_same : eqb e.kind 1 ≡ false → (o : Option Input) → Unread o → Same (judge_input (holding h m) e o) (judge_input m e o)
  unfolding is_new
  input_same no-down none not_allowed = refl
  input_same no-down (some i) (unread acts keeps) =
      let act : Same (accepted (acts_as h i)) (accepted (acts_as m.held i)) = rw (acts h, acts m.held, keeps h) in
      two_ways Same {t = ltb largest_stamp e.stamp.0} refl refl
      (two_ways Same {t = ltb e.stamp.0 m.last.0} refl refl (rw no-down act))

  pub set_not_read : SetNotRead g m e h
  unfolding step step_with judge well_formed
  set_not_read not-1 not_2 same =
      let no-down : eqb e.kind 1 ≡ false = ne_eqb _ _ not-1 in
      let no-up : eqb e.kind 2 ≡ false = ne_eqb _ _ not_2 in
      let formed : well_formed g (holding h m) ≡ well_formed g m = rw same in
      two_ways (λ (a b : Answer). a ≡ answer_holding h b) {t = lent_good g} refl
      (two_ways Same formed (input_same no-down (input e.kind e.key) (input_unread e.kind e.key no-down no-up)) refl)
      refl

pub held_afterwards : (g : Lent) (m : Machine) (e : Event) → HeldAfterwards g m e
held_afterwards g m e =
    step_cases
    (λ (r : Answer). r.number ≡ 0 → (k : Key) → is_held r.machine.held k ≡ held_then e.kind e.key k (is_held m.held k))
    g m e (λ n z h. not_0 n z h) (λ i a _. a.keys_held)

-- event by event
held_along : (g : Lent) (k : Key) (m : Machine) (es : List Event)
    → is_held (after g m es).held k ≡ held_through k (along g accepted_in m es) (is_held m.held k)
held_along g k m [] = refl
held_along g k m (e ∷ es) =
    step_cases
    (λ (r : Answer).
    is_held (after g r.machine es).held k
    ≡ held_through k (accepted_in m e r ++ along g accepted_in r.machine es) (is_held m.held k))
    g m e (λ n z. rw z (held_along g k m es))
    (λ i a.
    let next = (taken g m e (acts_as m.held i)).machine in
    held_along g k next es ∙ ap (held_through k (along g accepted_in next es)) (a.keys_held k))

-- two waiting letters of a well-formed machine are a pair of the list
machine_lent : (g : Lent) (m : Machine) → well_formed g m ≡ true → pair_lent g m.resting ≡ true
unfolding well_formed
machine_lent g m w =
    let y = m.resting in
    let front =
    in_range m.settings && keys_below y && stamps_by m.last y && at_or_before m.last (at largest_stamp) && in_order y
    && held_formed m.held in
    ((and-eq-true_iff front (pair_lent g y)).0 w).1

-- what waits and was not released is held, event by event
abbrev WaitsHeld : Machine → Type 0
WaitsHeld m = AllHeld m.held (not_released m.resting)

waits_held : (g : Lent) (m : Machine) → WaitsHeld m → (es : List Event) → WaitsHeld (after g m es)
waits_held g m h [] = h
waits_held g m h (e ∷ es) =
    waits_held g (step g m e).machine
    (step_cases (λ (r : Answer). WaitsHeld r.machine) g m e (λ n z. h)
    (λ i a.
    still_held g a.was_good m.settings e.stamp m.resting (machine_lent g m a.was_well_formed) m.held
    (acts_as m.held i) a.key_below h))
    es

pub held_in_sequences : HeldInSequences
held_in_sequences g s r es =
    let n = (ran g s r es).next in
    let h = (state g s es).held in
    record {
      at_most_6 = ((formed_exactly h).0 (formed_test h n.formed)).1;
      waiting_is_held = waits_held g (fresh s) tt es;
      held_as_accepted = λ k. held_along g k (fresh s) es ∙ ap (held_through k (accepted_events g s es)) (none_held k);
    }
