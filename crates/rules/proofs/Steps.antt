-- One way to show something of a step: show it of a refusal, and of an accepted event with all that was tested of it.
use Prim.Native.Nat.{ℕ, ◌≤◌, ◌<◌}
use mathlib.Core.Bool.{Bool, true, false, not, ◌&&◌, and-eq-true_iff}
use mathlib.Core.List.{List, [], ◌∷◌}
use mathlib.Core.Option.{Option, none, some}
use mathlib.Core.Path.{◌≡◌, refl, sym, ◌∙◌, ap, subst}
use lib.Dec.{eqb, ltb}
use borrow.Author.Tests.{ltb-true, ltb-false, le-ltb, eqb-true, eqb-false}
use Rattle.choice.specs.Choice.{if◌then◌orelse◌}
use Rattle.rules.specs.Numbers.{keys, largest_stamp, most_held, within, in_range}
use Rattle.rules.specs.Held.{is_held, hold, release, how_many, held_formed}
use Rattle.rules.specs.Pairs.{Lent, lent_good}
use Rattle.rules.specs.States.{at, is_key, keys_below, at_or_before, stamps_by, in_order, pair_lent, well_formed}
use Rattle.rules.specs.OneEvent.{one_event}
use Rattle.rules.specs.GivenBack.{with_character, with_thumb, with_0, input, acts_as, held_after, Verdict, refused, accepted}
use Rattle.rules.specs.GivenBack.{is_new, too_many, judge, judge_input, Answer, refusal, acceptance, answer, step_with, step}
use Rattle.rules.specs.Sequences.{Press, press}
use Rattle.rules.specs.HeldRules.{held_then}
use Rattle.rules.specs.declared.Stamp.{Stamp}
use Rattle.rules.specs.declared.Key.{Key}
use Rattle.rules.specs.declared.Thumb.{Thumb}
use Rattle.rules.specs.declared.Machine.{Machine}
use Rattle.rules.specs.declared.Event.{Event}
use Rattle.rules.specs.declared.Input.{Input}
use Rattle.rules.specs.declared.Input.TheVariants.{CharacterDown, CharacterUp, ThumbDown, ThumbUp, FunctionDown, Tick}
use Rattle.choice.proofs.Choices.{both_ways, by_test, either}
use Rattle.rules.proofs.Held.{held_facts, held_by_hold, held_by_release, FormedSet, set_formed, formed_hold, formed_release}

-- the press that an input is
abbrev pub pressed : Stamp → Input → List Press
pressed now (CharacterDown k) = press k now ∷ []
pressed now (CharacterUp k) = []
pressed now (ThumbDown P) = []
pressed now (ThumbUp P) = []
pressed now FunctionDown = []
pressed now Tick = []

abbrev pub is_key_input : Input → Bool
is_key_input (CharacterDown k) = true
is_key_input (CharacterUp k) = true
is_key_input (ThumbDown P) = true
is_key_input (ThumbUp P) = true
is_key_input FunctionDown = true
is_key_input Tick = false

-- a pressed key is one of the 31
abbrev pub KeyBelow : Input → Type 0
KeyBelow (CharacterDown k) = k.0 < keys
KeyBelow (CharacterUp k) = Unit {0}
KeyBelow (ThumbDown P) = Unit {0}
KeyBelow (ThumbUp P) = Unit {0}
KeyBelow FunctionDown = Unit {0}
KeyBelow Tick = Unit {0}

-- what the kind and the key of an event say of the input that they give, and of what it acts as with the keys of h held
pub record Parsed (kind : ℕ) (k : Key) (i : Input) : Type 0 where
  pub key_event : within 1 5 kind ≡ is_key_input i
  pub presses : (h : ℕ) (now : Stamp) → (if eqb kind 1 && not (is_held h k) then (press k now ∷ []) orelse []) ≡ pressed now (acts_as h i)
  pub key_below : (h : ℕ) → KeyBelow (acts_as h i)
  pub keys_held : (h : ℕ) (j : Key) → is_held (held_after h (acts_as h i)) j ≡ held_then kind k j (is_held h j)
  pub room : (h : ℕ) → FormedSet h → ((eqb kind 1 && not (is_held h k)) && eqb (how_many h) most_held) ≡ false
      → FormedSet (held_after h (acts_as h i))

data Allowed (kind : ℕ) (k : Key) : Option Input → Type 0 where
  not_allowed : Allowed kind k none
  allowed : {i : Input} → Parsed kind k i → Allowed kind k (some i)

module _ (k : Key) where
  with_character_parses : (n : ℕ) (f : Key → Input) → (k.0 < keys → Parsed n k (f k)) → Allowed n k (with_character f k)
  with_character_parses n f p = by_test (Allowed n k) (is_key k) (λ b. allowed (p (ltb-true _ _ b))) (λ _. not_allowed)

  with_thumb_parses : (n : ℕ) (f : Thumb → Input) → ((P : Thumb) → Parsed n k (f P)) → Allowed n k (with_thumb f k)
  with_thumb_parses n f p =
      by_test (Allowed n k) (eqb k.0 0) (λ _. allowed (p _))
      (λ _. by_test (Allowed n k) (eqb k.0 1) (λ _. allowed (p _)) (λ _. not_allowed))

  with_0_parses : (n : ℕ) (i : Input) → Parsed n k i → Allowed n k (with_0 i k)
  with_0_parses n i p = by_test (Allowed n k) (eqb k.0 0) (λ _. allowed p) (λ _. not_allowed)

  -- one kind after the other: from the number of the kind on, everything computes
  or_kind : (n kind : ℕ) {o p : Option Input} → Allowed n k o → Allowed kind k p → Allowed kind k (if eqb kind n then o orelse p)
  or_kind n kind {o} a b =
      by_test (Allowed kind k) (eqb kind n) (λ h. subst (λ (x : ℕ). Allowed x k o) (sym (eqb-true kind n h)) a) (λ _. b)

-- a down holds its key and an up releases it, also where they act as a tick
down_holds : (h : ℕ) (k : Key) → held_after h (acts_as h (CharacterDown k)) ≡ hold h k
down_holds h k = either (is_held h k) (λ t. rw (t, (held_facts h k).held_already t)) (λ f. rw f)

up_releases : (h : ℕ) (k : Key) → held_after h (acts_as h (CharacterUp k)) ≡ release h k
up_releases h k = either (is_held h k) (λ t. rw t) (λ f. rw (f, (held_facts h k).free_already f))

-- a down is a press of a new key, or acts as a tick
down_parses : (k : Key) → k.0 < keys → Parsed 1 k (CharacterDown k)
down_parses k lt =
    record {
      key_event = refl;
      presses = λ h now. either (is_held h k) (λ t. rw t) (λ f. rw f);
      key_below = λ h. both_ways KeyBelow (is_held h k) tt lt;
      keys_held = λ h j. ap (λ (g : ℕ). is_held g j) (down_holds h k) ∙ held_by_hold h k j lt;
      room = λ h f. either (is_held h k) (λ t _. rw t f) (λ n. rw n (λ few. formed_hold h k f (eqb-false _ _ few)));
    }

-- an up releases a held key, or acts as a tick
up_parses : (k : Key) → Parsed 2 k (CharacterUp k)
up_parses k =
    record {
      key_event = refl;
      presses = λ h now. both_ways (λ (i : Input). [] ≡ pressed now i) (is_held h k) refl refl;
      key_below = λ h. both_ways KeyBelow (is_held h k) tt tt;
      keys_held = λ h j. ap (λ (g : ℕ). is_held g j) (up_releases h k) ∙ held_by_release h k j;
      room = λ h f _. subst FormedSet (sym (up_releases h k)) (formed_release h k f);
    }

-- kinds 3 to 6: no key is pressed, held or released
module _ (k : Key) where
  thumb_down_parses : (P : Thumb) → Parsed 3 k (ThumbDown P)
  thumb_down_parses P =
      record { key_event = refl; presses = λ h now. refl; key_below = λ h. tt; keys_held = λ h j. refl; room = λ h f _. f }

  thumb_up_parses : (P : Thumb) → Parsed 4 k (ThumbUp P)
  thumb_up_parses P =
      record { key_event = refl; presses = λ h now. refl; key_below = λ h. tt; keys_held = λ h j. refl; room = λ h f _. f }

  function_parses : Parsed 5 k FunctionDown
  function_parses =
      record { key_event = refl; presses = λ h now. refl; key_below = λ h. tt; keys_held = λ h j. refl; room = λ h f _. f }

  tick_parses : Parsed 6 k Tick
  tick_parses =
      record { key_event = refl; presses = λ h now. refl; key_below = λ h. tt; keys_held = λ h j. refl; room = λ h f _. f }

parses : (kind : ℕ) (k : Key) → Allowed kind k (input kind k)
unfolding input
parses kind k =
    or_kind k 1 kind (with_character_parses k 1 CharacterDown (down_parses k))
    (or_kind k 2 kind (with_character_parses k 2 CharacterUp (λ _. up_parses k))
    (or_kind k 3 kind (with_thumb_parses k 3 ThumbDown (thumb_down_parses k))
    (or_kind k 4 kind (with_thumb_parses k 4 ThumbUp (thumb_up_parses k))
    (or_kind k 5 kind (with_0_parses k 5 FunctionDown (function_parses k))
    (or_kind k 6 kind (with_0_parses k 6 Tick (tick_parses k))
    not_allowed)))))

-- the held set of a well-formed machine
pub machine_formed : (g : Lent) (m : Machine) → well_formed g m ≡ true → FormedSet m.held
unfolding well_formed
machine_formed g m w =
    let y = m.resting in
    let last = m.last in
    let front = in_range m.settings && keys_below y && stamps_by last y && at_or_before last (at largest_stamp) && in_order y in
    let with-held = ((and-eq-true_iff (front && held_formed m.held) (pair_lent g y)).0 w).0 in
    set_formed m.held ((and-eq-true_iff front (held_formed m.held)).0 with-held).1

-- all that was tested of an event with the input i that is accepted, and what follows for what i acts as
pub record Accepted (g : Lent) (m : Machine) (e : Event) (i : Input) : Type 0 where
  pub was_good : lent_good g ≡ true
  pub was_well_formed : well_formed g m ≡ true
  pub is_input : input e.kind e.key ≡ some i
  pub not_above : e.stamp.0 ≤ largest_stamp
  pub not_before : m.last.0 ≤ e.stamp.0
  pub key_event : within 1 5 e.kind ≡ is_key_input i
  pub presses : (if is_new m e then (press e.key e.stamp ∷ []) orelse []) ≡ pressed e.stamp (acts_as m.held i)
  pub key_below : KeyBelow (acts_as m.held i)
  pub keys_held : (j : Key) → is_held (held_after m.held (acts_as m.held i)) j ≡ held_then e.kind e.key j (is_held m.held j)
  pub stays_formed : FormedSet (held_after m.held (acts_as m.held i))

-- what an accepted event gives back
abbrev pub taken : Lent → Machine → Event → Input → Answer
taken g m e i =
    acceptance m e.stamp (held_after m.held i) (one_event g m.settings e.stamp m.resting i)

-- by the verdict, with what is lent good: refused, or accepted with all that was tested
pub judge_cases :
    (P : Verdict → Type 0) (g : Lent) (m : Machine) (e : Event) → lent_good g ≡ true
    → ((n : ℕ) → eqb n 0 ≡ false → P (refused n))
    → ((i : Input) → Accepted g m e i → P (accepted (acts_as m.held i)))
    → P (judge g m e)
unfolding judge is_new
judge_cases P g m e good no_way yes_way =
    by_test P (well_formed g m) (λ w. on_input w (input e.kind e.key) refl (parses e.kind e.key)) (λ _. no_way 2 refl)
  where
    on_input : well_formed g m ≡ true → (o : Option Input) → input e.kind e.key ≡ o → Allowed e.kind e.key o
        → P (judge_input m e o)
    on_input w none h not_allowed = no_way 3 refl
    on_input w (some i) h (allowed a) =
        by_test P (ltb largest_stamp e.stamp.0) (λ _. no_way 4 refl)
        (λ low. by_test P (ltb e.stamp.0 m.last.0) (λ _. no_way 5 refl)
        (λ late. by_test P (too_many m e) (λ _. no_way 11 refl)
        (λ room. yes_way i (record {
          was_good = good;
          was_well_formed = w;
          is_input = h;
          not_above = ltb-false _ _ low;
          not_before = ltb-false _ _ late;
          key_event = a.key_event;
          presses = a.presses m.held e.stamp;
          key_below = a.key_below m.held;
          stays_formed = a.room m.held (machine_formed g m w) room;
          keys_held = a.keys_held m.held;
        }))))

pub step_cases :
    (P : Answer → Type 0) (g : Lent) (m : Machine) (e : Event)
    → ((n : ℕ) → eqb n 0 ≡ false → P (refusal m n))
    → ((i : Input) → Accepted g m e i → P (taken g m e (acts_as m.held i)))
    → P (step g m e)
unfolding step step_with
step_cases P g m e no_way yes_way =
    by_test P (lent_good g)
    (λ good. judge_cases (λ v. P (answer g m e.stamp v)) g m e good no_way yes_way)
    (λ _. no_way 12 refl)

-- an event that passes every test is accepted
pub step_accepted : (g : Lent) (m : Machine) (e : Event) (i : Input) → lent_good g ≡ true → well_formed g m ≡ true
    → input e.kind e.key ≡ some i → e.stamp.0 ≤ largest_stamp → m.last.0 ≤ e.stamp.0 → too_many m e ≡ false
    → step g m e ≡ taken g m e (acts_as m.held i)
unfolding step step_with judge
step_accepted g m e i good w h low late room =
    rw (good, w, h, le-ltb largest_stamp e.stamp.0 low, le-ltb e.stamp.0 m.last.0 late, room)
