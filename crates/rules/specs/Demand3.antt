-- Demand 3: one statement about every sequence of events from a fresh state. Its words are those of Sequences.antt; the proof
-- is proofs/Demand3.antt.
use Rattle.std.specs.Prelude.{ℕ, ◌+◌, ◌≤◌, true, List, [], ◌∷◌, ◌++◌, ◌≡◌}
use Rattle.rules.specs.Numbers.{in_range}
use Rattle.rules.specs.Pairs.{Lent, longest}
use Rattle.rules.specs.ZeroDelay.{shown, Sending, backspace}
use Rattle.rules.specs.GivenBack.{step}
use Rattle.rules.specs.Sequences.{Press, keys_of, characters, waiting, typed, signs_among, state}
use Rattle.rules.specs.Sequences.{presses, accepted_key_events, items, Committed, line, screen}
use Rattle.rules.specs.declared.Stamp.{Stamp}
use Rattle.rules.specs.declared.Settings.{Settings}
use Rattle.rules.specs.declared.Event.{Event}

-- Sentence 1, keys are kept in order: the presses are those that the committed characters answer, key by key, and then the
-- ones that wait.
pub record KeysInOrder (g : Lent) (s : Settings) (es : List Event) : Type 0 where
  pub answered : List Press
  pub presses_are : presses g s es ≡ answered ++ waiting (state g s es).resting
  pub keys_are : keys_of answered ≡ characters (items g s es)

-- a sequence and one event more
abbrev pub with_event : List Event → Event → List Event
with_event es e = es ++ (e ∷ [])

-- Sentence 2, committed within the longest wait (W where there are no pairs): at each accepted event e of the sequence, every press
-- p so far whose stamp lies that or more before e's is committed.
abbrev pub CommittedInTime : Lent → Settings → List Event → Type 0
CommittedInTime g s es =
    (upto rest : List Event) (e : Event) → es ≡ upto ++ (e ∷ rest) → (step g (state g s upto) e).number ≡ 0
    → (before behind : List Press) (p : Press) → presses g s (with_event upto e) ≡ before ++ (p ∷ behind)
    → p.stamp.0 + longest g s ≤ e.stamp.0
    → Committed g s (with_event upto e) before

-- a tick: kind 6, key 0
abbrev pub tick : Stamp → Event
tick t = record { kind = 6; key = record { 0 = 0 }; stamp = t }

-- Sentence 3, ticks do not matter: another sequence with the same accepted key events, both closed by an accepted tick of one
-- stamp, commits the same items and leaves the same state.
pub record SameText (g : Lent) (s : Settings) (es other : List Event) (t : Stamp) : Type 0 where
  pub same_items : items g s (with_event es (tick t)) ≡ items g s (with_event other (tick t))
  pub same_state : state g s (with_event es (tick t)) ≡ state g s (with_event other (tick t))

abbrev pub TicksDoNotMatter : Lent → Settings → List Event → Type 0
TicksDoNotMatter g s es =
    (other : List Event) (t : Stamp)
    → accepted_key_events g s es ≡ accepted_key_events g s other
    → (step g (state g s es) (tick t)).number ≡ 0
    → (step g (state g s other) (tick t)).number ≡ 0
    → SameText g s es other t

-- Sentence 4: the screen is the committed line and what is shown of the waiting character.
abbrev pub ScreenIsLine : Lent → Settings → List Event → Type 0
ScreenIsLine g s es = screen g s es ≡ line g s es ++ shown (state g s es).resting

-- a list begins with another
pub record Begins (l front : List ℕ) : Type 0 where
  pub rest : List ℕ
  pub joined : l ≡ front ++ rest

-- Sentence 5, no backspace takes a committed character. 01: it takes one when the screen it leaves doesn't begin with the line
-- committed before its event, or when that event sent a character or mark before it. This is the contrary of both: at the event
-- that comes after `upto`, behind `sent-before`.
pub record TakesNothing (g : Lent) (s : Settings) (upto : List Event) (sent-before : List Sending) : Type 0 where
  pub line_stays : Begins (typed (screen g s upto) (sent-before ++ (backspace ∷ []))) (line g s upto)
  pub no_sign_before : signs_among sent-before ≡ []

-- at each event e of the sequence, each backspace that it sends
abbrev pub NoBackspaceTakesCommitted : Lent → Settings → List Event → Type 0
NoBackspaceTakesCommitted g s es =
    (upto rest : List Event) (e : Event) → es ≡ upto ++ (e ∷ rest)
    → (sent-before sent-behind : List Sending) → (step g (state g s upto) e).sendings ≡ sent-before ++ (backspace ∷ sent-behind)
    → TakesNothing g s upto sent-before

pub record Demand3 (g : Lent) (s : Settings) (es : List Event) : Type 0 where
  pub keys_in_order : KeysInOrder g s es
  pub committed_in_time : CommittedInTime g s es
  pub ticks_do_not_matter : TicksDoNotMatter g s es
  pub screen_is_line : ScreenIsLine g s es
  pub no_backspace_takes_committed : NoBackspaceTakesCommitted g s es

-- the statement
abbrev pub Demand3Statement : Type 0
Demand3Statement = (g : Lent) (s : Settings) → in_range s ≡ true → (es : List Event) → Demand3 g s es
