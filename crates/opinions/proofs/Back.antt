-- What the events before one say is what a machine knows that took them: the number of the event, and as what it acts.
use Prim.Native.Nat.{ℕ, zero, suc, ◌^◌, ◌<◌}
use native.Mathlib.Omega.{arith}
use borrow.Author.Tests.{eqb-true, eqb-false, eq-eqb, ne_eqb, le-ltb}
use mathlib.Core.Bool.{Bool, true, false, ◌&&◌, ◌||◌, true≢false}
use mathlib.Core.List.{List, [], ◌∷◌}
use mathlib.Core.Option.{Option, none, some, none-ne-some, some-injective}
use mathlib.Core.Path.{◌≡◌, refl, sym, ap, ◌∙◌, subst}
use lib.Dec.{eqb, ltb}
use lib.ListN.{length, length-append}
use Rattle.choice.specs.Choice.{if◌then◌orelse◌}
use Rattle.rules.specs.Numbers.{keys, largest_stamp, in_range}
use Rattle.rules.specs.Held.{is_held, held_below as keys_below, held_keys, how_many}
use Rattle.rules.specs.Pairs.{Lent, lent_good, same_key}
use Rattle.rules.specs.States.{fresh, is_key, well_formed}
use Rattle.rules.specs.GivenBack.{with_character, with_thumb, with_0, input, acts_as, is_new, too_many as too_many_for, judge_input, judge}
use Rattle.rules.specs.GivenBack.{refused, accepted as accepted_as, Answer, answer, step_with, step}
use Rattle.rules.specs.HeldRules.{held_then}
use Rattle.rules.specs.declared.Stamp.{Stamp}
use Rattle.rules.specs.declared.Key.{Key}
use Rattle.rules.specs.declared.Settings.{Settings}
use Rattle.rules.specs.declared.Machine.{Machine}
use Rattle.rules.specs.declared.Event.{Event}
use Rattle.rules.specs.declared.Input.{Input}
use Rattle.rules.specs.declared.Input.TheVariants.{CharacterDown, CharacterUp, ThumbDown, ThumbUp, FunctionDown, Tick}
use Rattle.choice.proofs.Choices.{by_test, either}
use Rattle.rules.proofs.Held.{none_held, counts_keys}
use Rattle.rules.proofs.Steps.{Accepted, taken, machine_formed, step_cases}
use Rattle.rules.proofs.Formed.{stays_formed, sequence_facts}
use Rattle.opinions.specs.Earlier.{held, heard_as, allowed, last_stamp, held_below, number_after}
use Rattle.opinions.proofs.Agree.{key, kind_of, key_of, event, event_of}

-- An event's kind and key are allowed exactly where they give an input, and then they are that input's.
data Named (kind : ℕ) (k : Key) (now : Stamp) : Option Input → Type 0 where
  no_input : allowed (event kind k now) ≡ false → Named kind k now none
  input_is : {i : Input} → allowed (event kind k now) ≡ true → kind ≡ kind_of i → k ≡ key_of i → Named kind k now (some i)

module _ (kind : ℕ) (k : Key) (now : Stamp) where
  key_is : (n : ℕ) → eqb k.0 n ≡ true → k ≡ key n
  key_is n e = ap key (eqb-true k.0 n e)

  not_below_1 : eqb k.0 0 ≡ false → ltb k.0 1 ≡ false
  not_below_1 a = le-ltb k.0 1 (omega (arith, eqb-false k.0 0 a))

  not_below_2 : eqb k.0 0 ≡ false → eqb k.0 1 ≡ false → ltb k.0 2 ≡ false
  not_below_2 a b = le-ltb k.0 2 (omega (arith, eqb-false k.0 0 a, eqb-false k.0 1 b))

  named_1 : Named 1 k now (with_character CharacterDown k)
  named_1 = by_test (Named 1 k now) (is_key k) (λ b. input_is (rw b) refl refl) (λ b. no_input (rw b))

  named_2 : Named 2 k now (with_character CharacterUp k)
  named_2 = by_test (Named 2 k now) (is_key k) (λ b. input_is (rw b) refl refl) (λ b. no_input (rw b))

  named_3 : Named 3 k now (with_thumb ThumbDown k)
  named_3 =
      by_test (Named 3 k now) (eqb k.0 0) (λ z. input_is (rw (eqb-true k.0 0 z)) refl (key_is 0 z))
      (λ a. by_test (Named 3 k now) (eqb k.0 1) (λ z. input_is (rw (eqb-true k.0 1 z)) refl (key_is 1 z))
      (λ b. no_input (rw (not_below_2 a b))))

  named_4 : Named 4 k now (with_thumb ThumbUp k)
  named_4 =
      by_test (Named 4 k now) (eqb k.0 0) (λ z. input_is (rw (eqb-true k.0 0 z)) refl (key_is 0 z))
      (λ a. by_test (Named 4 k now) (eqb k.0 1) (λ z. input_is (rw (eqb-true k.0 1 z)) refl (key_is 1 z))
      (λ b. no_input (rw (not_below_2 a b))))

  named_5 : Named 5 k now (with_0 FunctionDown k)
  named_5 =
      by_test (Named 5 k now) (eqb k.0 0) (λ z. input_is (rw (eqb-true k.0 0 z)) refl (key_is 0 z))
      (λ a. no_input (rw (not_below_1 a)))

  named_6 : Named 6 k now (with_0 Tick k)
  named_6 =
      by_test (Named 6 k now) (eqb k.0 0) (λ z. input_is (rw (eqb-true k.0 0 z)) refl (key_is 0 z))
      (λ a. no_input (rw (not_below_1 a)))

  -- one kind after the other
  or_kind : (n : ℕ) {o p : Option Input} → Named n k now o → (eqb kind n ≡ false → Named kind k now p)
      → Named kind k now (if eqb kind n then o orelse p)
  or_kind n {o} a b = by_test (Named kind k now) (eqb kind n) (λ h. subst (λ (x : ℕ). Named x k now o) (sym (eqb-true kind n h)) a) b

  named : Named kind k now (input kind k)
  unfolding input
  named =
      or_kind 1 named_1 (λ n1. or_kind 2 named_2 (λ n2. or_kind 3 named_3 (λ n3. or_kind 4 named_4 (λ n4. or_kind 5 named_5
      (λ n5. or_kind 6 named_6 (λ n6. no_input (rw (n1, n2, n3, n4, n5, n6))))))))

is_event_of : (e : Event) (i : Input) → e.kind ≡ kind_of i → e.key ≡ key_of i → e ≡ event_of i e.stamp
is_event_of e i a b = λ j. record { kind = a j; key = b j; stamp = e.stamp }

-- Held keys: a set that has the keys that the events before hold.
abbrev pub KnowsHeld : ℕ → List Event → Type 0
KnowsHeld h before = (k : Key) → is_held h k ≡ held k before

-- as what an input acts
heard_is : (h : ℕ) (before : List Event) → KnowsHeld h before → (i : Input) (now : Stamp)
    → heard_as before (event_of i now) ≡ event_of (acts_as h i) now
heard_is h before w (CharacterDown N) now = either (held N before) (λ e. rw (w N, e)) (λ e. rw (w N, e))
heard_is h before w (CharacterUp N) now = either (held N before) (λ e. rw (w N, e)) (λ e. rw (w N, e))
heard_is h before w (ThumbDown P) now = refl
heard_is h before w (ThumbUp P) now = refl
heard_is h before w FunctionDown now = refl
heard_is h before w Tick now = refl

eqb_turned : (a b : ℕ) → eqb a b ≡ eqb b a
eqb_turned a b =
    either (eqb b a) (λ e. eq-eqb a b (sym (eqb-true b a e)) ∙ sym e) (λ e. ne_eqb a b (λ z. eqb-false b a e (sym z)) ∙ sym e)

-- a key after an event
held_next : (e : Event) (before : List Event) (k : Key) → held_then e.kind e.key k (held k before) ≡ held k (e ∷ before)
unfolding held same_key
held_next e before k = rw (eqb_turned k.0 e.key.0) (go (eqb e.kind 1) (eqb e.kind 2) (eqb e.key.0 k.0))
  where
    go : (a b c : Bool) → (if a && c then true orelse if b && c then false orelse held k before) ≡ (if (a || b) && c then a orelse held k before)
    go true b true = refl
    go true true false = refl
    go true false false = refl
    go false true true = refl
    go false true false = refl
    go false false true = refl
    go false false false = refl

-- how many they are
counted : (b : Bool) (k : Key) → length (if b then k ∷ [] orelse []) ≡ (if b then 1 orelse 0)
counted true k = refl
counted false k = refl

count_below : (h : ℕ) (before : List Event) → KnowsHeld h before → (n : ℕ) → length (keys_below h n) ≡ held_below n before
unfolding held_below
count_below h before w zero = refl
count_below h before w (suc n) =
    length-append (keys_below h n) _ ∙ rw (counted (is_held h (key n)) (key n), w (key n), count_below h before w n)

count_held : (h : ℕ) (before : List Event) → KnowsHeld h before → h < 2 ^ keys → how_many h ≡ held_below keys before
unfolding held_keys
count_held h before w low = counts_keys h low ∙ count_below h before w keys

-- what a machine knows of the events before: it is well formed, its last stamp is theirs, and it holds the keys that they hold
pub record Knows (g : Lent) (m : Machine) (before : List Event) : Type 0 where
  pub formed : well_formed g m ≡ true
  pub last_is : m.last.0 ≡ last_stamp before
  pub held_is : KnowsHeld m.held before

pub knows_fresh : (g : Lent) (s : Settings) → in_range s ≡ true → Knows g (fresh s) []
unfolding held
knows_fresh g s r = record { formed = (sequence_facts g s r []).stays_well_formed; last_is = refl; held_is = none_held }

module _ (g : Lent) (good : lent_good g ≡ true) (m : Machine) (before : List Event) (w : Knows g m before) (e : Event) where
  -- by three tests, in order
  number_by : (a b c : Bool) (i : Input)
      → (answer g m e.stamp (if a then refused 4 orelse if b then refused 5 orelse if c then refused 11 orelse accepted_as i)).number
      ≡ (if a then 4 orelse if b then 5 orelse if c then 11 orelse 0)
  number_by true b c i = refl
  number_by false true c i = refl
  number_by false false true i = refl
  number_by false false false i = refl

  by_input : (o : Option Input) → Named e.kind e.key e.stamp o
      → (answer g m e.stamp (judge_input m e o)).number ≡ number_after before e
  unfolding number_after is_new
  by_input none (no_input a) = rw a
  by_input (some i) (input_is a b c) =
      let count : how_many m.held ≡ held_below keys before =
      count_held m.held before w.held_is (machine_formed g m w.formed).below in
      number_by (ltb largest_stamp e.stamp.0) (ltb e.stamp.0 m.last.0) (too_many_for m e) (acts_as m.held i)
      ∙ rw (a, w.last_is, w.held_is e.key, count)

  -- the number of an event
  pub number_is : (step g m e).number ≡ number_after before e
  unfolding step step_with judge
  number_is = rw (good, w.formed) (by_input (input e.kind e.key) (named e.kind e.key e.stamp))

  -- an accepted event, and what is known after it
  pub heard_of : (i : Input) → Accepted g m e i → heard_as before e ≡ event_of (acts_as m.held i) e.stamp
  heard_of i a = go (input e.kind e.key) (named e.kind e.key e.stamp) a.is_input
    where
      go : (o : Option Input) → Named e.kind e.key e.stamp o → o ≡ some i
          → heard_as before e ≡ event_of (acts_as m.held i) e.stamp
      go none n h = absurd (none-ne-some i h)
      go (some j) (input_is a b c) h =
          ap (heard_as before) (is_event_of e j b c)
          ∙ heard_is m.held before w.held_is j e.stamp
          ∙ ap (λ (k : Input). event_of (acts_as m.held k) e.stamp) (some-injective j i h)

  pub knows_next : (i : Input) (a : Accepted g m e i) → taken g m e (acts_as m.held i) ≡ step g m e
      → Knows g (taken g m e (acts_as m.held i)).machine (e ∷ before)
  knows_next i a q =
      record {
        formed = ap (λ (r : Answer). well_formed g r.machine) q ∙ stays_formed g m e ∙ w.formed;
        last_is = refl;
        held_is = λ k. a.keys_held k ∙ rw (w.held_is k) (held_next e before k);
      }

  -- the same of an event whose number is 0
  pub knows_step : number_after before e ≡ 0 → Knows g (step g m e).machine (e ∷ before)
  knows_step h =
      step_cases (λ (r : Answer). r ≡ step g m e → Knows g r.machine (e ∷ before)) g m e
      (λ n z q.
      let is_0 : n ≡ 0 = ap (λ (r : Answer). r.number) q ∙ number_is ∙ h in
      absurd (true≢false (sym (eq-eqb n 0 is_0) ∙ z)))
      knows_next refl
