-- Along a sequence: presses are answered in order, what waits is not older than the longest wait, and the state stays well formed.
use Prim.Native.Nat.{ℕ, ◌+◌, ◌≤◌, ◌<◌}
use native.Mathlib.Omega.{arith}
use mathlib.Core.Bool.{true}
use mathlib.Core.List.{List, [], ◌∷◌, ◌++◌, append_assoc, append-nil, tail-eq_of_cons-eq}
use mathlib.Core.Path.{◌≡◌, refl, sym, ◌∙◌, ap, ap₂, subst}
use lib.ListN.{length}
use borrow.Author.Tests.{lt-ltb, le-leb}
use Rattle.rules.specs.Numbers.{keys, largest_stamp}
use Rattle.rules.specs.Pairs.{Lent, lent_good}
use Rattle.rules.specs.States.{keys_below, stamps_by, in_order, pair_lent}
use Rattle.rules.specs.GivenBack.{acts_as, Answer, step}
use Rattle.rules.specs.Sequences.{after, along, Press, keys_of, press_in, items_in, characters, waiting}
use Rattle.rules.specs.declared.Stamp.{Stamp}
use Rattle.rules.specs.declared.Key.{Key}
use Rattle.rules.specs.declared.Settings.{Settings}
use Rattle.rules.specs.declared.Resting.{Resting}
use Rattle.rules.specs.declared.Resting.TheVariants.{S1, S2, S3, S4, S5, S6, S7, S8}
use Rattle.rules.specs.declared.Machine.{Machine}
use Rattle.rules.specs.declared.Item.{Item}
use Rattle.rules.specs.declared.Event.{Event}
use Rattle.rules.proofs.Held.{FormedSet}
use Rattle.rules.proofs.Steps.{step_cases}
use Rattle.rules.proofs.Bounds.{Limits, Bounds}
use Rattle.rules.proofs.Kept.{Sound, keys_of_append, characters_append, one_event_keeps}

-- A machine between two events of a sequence with settings s.
pub record Resumable (g : Lent) (s : Settings) (q : Limits) (m : Machine) : Type 0 where
  pub same_settings : m.settings ≡ s
  pub not_above : m.last.0 ≤ largest_stamp
  pub formed : FormedSet m.held
  pub sound : Sound g q m.last.0 m.resting

-- What was pressed on the way, beside what waited before: given is answered, the rest waits.
pub record Answered (m : Machine) (new : List Press) (items : List Item) (after : Machine) : Type 0 where
  pub given : List Press
  pub joined : waiting m.resting ++ new ≡ given ++ waiting after.resting
  pub answers : keys_of given ≡ characters items

-- the tests of well-formedness that a resting state is held to
pub record Tested (g : Lent) (last : Stamp) (y : Resting) : Type 0 where
  pub keys : keys_below y ≡ true
  pub stamps : stamps_by last y ≡ true
  pub order : in_order y ≡ true
  pub pair : pair_lent g y ≡ true

tested : {g : Lent} {last : Stamp} {y : Resting} → keys_below y ≡ true → stamps_by last y ≡ true → in_order y ≡ true → pair_lent g y ≡ true
    → Tested g last y
tested k s o p = record { keys = k; stamps = s; order = o; pair = p }

pub sound_tests : (g : Lent) (q : Limits) (last : Stamp) (y : Resting) → Sound g q last.0 y → Tested g last y
sound_tests g q last S1 h = tested refl refl refl refl
sound_tests g q last (S2 M m) h = tested (lt-ltb _ _ h.0) (le-leb _ _ h.1) refl refl
sound_tests g q last (S3 O o) h = tested refl (le-leb _ _ h) refl refl
sound_tests g q last (S4 M m O o) h =
    tested (lt-ltb _ _ h.0) (rw (le-leb m.0 last.0 (omega arith)) (le-leb o.0 last.0 (omega arith))) (le-leb _ _ h.1) refl
sound_tests g q last (S5 O o M m) h =
    tested (lt-ltb _ _ h.0) (rw (le-leb o.0 last.0 (omega arith)) (le-leb m.0 last.0 (omega arith))) (le-leb _ _ h.1) refl
sound_tests g q last (S6 O o M m r) h =
    tested (lt-ltb _ _ h.0)
    (rw (le-leb o.0 last.0 (omega arith), le-leb m.0 last.0 (omega arith)) (le-leb r.0 last.0 (omega arith)))
    (rw (le-leb o.0 m.0 h.1) (le-leb m.0 r.0 h.2))
    refl
sound_tests g q last (S7 M m K k) h =
    tested (rw (lt-ltb M.0 keys h.0) (lt-ltb K.0 keys h.1))
    (rw (le-leb m.0 last.0 (omega arith)) (le-leb k.0 last.0 h.3))
    (le-leb m.0 k.0 h.2)
    h.6
sound_tests g q last (S8 M m K k r) h =
    tested (rw (lt-ltb M.0 keys h.0) (lt-ltb K.0 keys h.1))
    (rw (le-leb m.0 last.0 (omega arith), le-leb k.0 last.0 (omega arith)) (le-leb r.0 last.0 h.4))
    (rw (le-leb m.0 k.0 h.2) (le-leb k.0 r.0 h.3))
    h.8

-- The bounds are wanted of an accepted event only, and then what is lent is good.
module _ (g : Lent) (s : Settings) (q : Limits) (b : lent_good g ≡ true → Bounds g s q) where
  -- one event
  pub record Stepped (m : Machine) (e : Event) (r : Answer) : Type 0 where
    pub next : Resumable g s q r.machine
    pub answered : Answered m (press_in m e r) r.items r.machine

  pub steps : (m : Machine) (e : Event) → Resumable g s q m → Stepped m e (step g m e)
  steps m e h =
      step_cases (Stepped m e) g m e
      (λ n z. record {
        next = h;
        answered = record {
          given = [];
          joined = rw z (append-nil (waiting m.resting));
          answers = refl;
        };
      })
      (λ i a.
      let kept =
      one_event_keeps g m.settings q (subst (λ (t : Settings). Bounds g t q) (sym h.same_settings) (b a.was_good))
      m.last e.stamp m.resting (acts_as m.held i) a.not_before h.sound a.key_below in
      record {
        next = record {
          same_settings = h.same_settings;
          not_above = a.not_above;
          formed = a.stays_formed;
          sound = kept.sound;
        };
        answered = record {
          given = kept.given;
          joined = ap (λ (l : List Press). waiting m.resting ++ l) a.presses ∙ kept.joined;
          answers = kept.answers;
        };
      })

  -- a sequence of events
  pub record Ran (m : Machine) (es : List Event) : Type 0 where
    pub next : Resumable g s q (after g m es)
    pub answered : Answered m (along g press_in m es) (along g items_in m es) (after g m es)

  pub runs : (m : Machine) (es : List Event) → Resumable g s q m → Ran m es
  runs m [] h = record { next = h; answered = record { given = []; joined = append-nil (waiting m.resting); answers = refl } }
  runs m (e ∷ es) h =
      let one = steps m e h in
      let more = runs (step g m e).machine es one.next in
      record {
        next = more.next;
        answered = record {
          given = one.answered.given ++ more.answered.given;
          joined =
              sym (append_assoc (waiting m.resting) (press_in m e (step g m e)) (along g press_in (step g m e).machine es))
              ∙ ap (λ (l : List Press). l ++ along g press_in (step g m e).machine es) one.answered.joined
              ∙ append_assoc one.answered.given (waiting (step g m e).machine.resting) (along g press_in (step g m e).machine es)
              ∙ ap (λ (l : List Press). one.answered.given ++ l) more.answered.joined
              ∙ sym (append_assoc one.answered.given more.answered.given (waiting (after g (step g m e).machine es).resting));
          answers =
              keys_of_append one.answered.given more.answered.given
              ∙ ap₂ (λ (k l : List Key). k ++ l) one.answered.answers more.answered.answers
              ∙ sym (characters_append (step g m e).items (along g items_in (step g m e).machine es));
        };
      }

-- what waits is not older than w
abbrev pub NotOlder : ℕ → ℕ → List Press → Type 0
NotOlder w n [] = Unit {0}
NotOlder w n (p ∷ ps) = (n < p.stamp.0 + w) × NotOlder w n ps

pub waiting_not_older : {g : Lent} {s : Settings} {q : Limits} → Bounds g s q → (n : ℕ) (y : Resting) → Sound g q n y
    → NotOlder q.w n (waiting y)
waiting_not_older b n S1 h = tt
waiting_not_older b n (S2 M m) h = (omega arith, tt)
waiting_not_older b n (S3 O o) h = tt
waiting_not_older b n (S4 M m O o) h = (omega arith, tt)
waiting_not_older b n (S5 O o M m) h = (omega arith, tt)
waiting_not_older b n (S6 O o M m r) h = (omega arith, tt)
waiting_not_older b n (S7 M m K k) h = let w = b.with_pair M K h.6 in (omega arith, (omega arith, tt))
waiting_not_older b n (S8 M m K k r) h = let w = b.with_pair M K h.8 in (omega arith, (omega arith, tt))

-- a press of the list, at any place in it
at_its_place : (w n : ℕ) (before behind : List Press) (p : Press) → NotOlder w n (before ++ (p ∷ behind)) → n < p.stamp.0 + w
at_its_place w n [] behind p h = h.0
at_its_place w n (q ∷ before) behind p h = at_its_place w n before behind p h.1

-- An old press is not among those that wait, so it is among those given.
pub old_is_given : (w n : ℕ) (given left before behind : List Press) (p : Press)
    → before ++ (p ∷ behind) ≡ given ++ left → NotOlder w n left → p.stamp.0 + w ≤ n → length before < length given
old_is_given w n [] left before behind p e h old =
    let new = at_its_place w n before behind p (subst (NotOlder w n) (sym e) h) in omega arith
old_is_given w n (g ∷ given) left [] behind p e h old = omega arith
old_is_given w n (g ∷ given) left (q ∷ before) behind p e h old =
    let more = old_is_given w n given left before behind p (tail-eq_of_cons-eq e) h old in omega arith
