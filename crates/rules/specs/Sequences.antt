-- Document 01, "The words of demand 3": what a sequence of events is, and what is read off it (at the end of this file: the
-- state that it leaves, its presses, accepted key events, items, line and screen).
use Rattle.std.specs.Prelude.{ℕ, ◌<◌, Bool, ◌&&◌, List, [], ◌∷◌, ◌++◌, eqb, length}
use Rattle.choice.specs.Choice.{if◌then◌orelse◌}
use Rattle.rules.specs.Numbers.{within}
use Rattle.rules.specs.Pairs.{Lent}
use Rattle.rules.specs.States.{fresh}
use Rattle.rules.specs.ZeroDelay.{signs, Sending, backspace, sign}
use Rattle.rules.specs.GivenBack.{is_new, Answer, step}
use Rattle.rules.specs.declared.Stamp.{Stamp}
use Rattle.rules.specs.declared.Key.{Key}
use Rattle.rules.specs.declared.Settings.{Settings}
use Rattle.rules.specs.declared.Resting.{Resting}
use Rattle.rules.specs.declared.Resting.TheVariants.{S1, S2, S3, S4, S5, S6, S7, S8}
use Rattle.rules.specs.declared.Machine.{Machine}
use Rattle.rules.specs.declared.Item.{Item}
use Rattle.rules.specs.declared.Item.TheVariants.{Character, Mark, Together}
use Rattle.rules.specs.declared.Event.{Event}

-- The state that a sequence leaves: every event gets the state that the last one handed back. One g serves the whole sequence (9/12).
abbrev pub after : Lent → Machine → List Event → Machine
after g m [] = m
after g m (e ∷ es) = after g (step g m e).machine es

-- What f reads off each event, the state that it got and its answer, joined along the sequence.
abbrev pub along : {X : Type 0} → Lent → (Machine → Event → Answer → List X) → Machine → List Event → List X
along g f m [] = []
along g f m (e ∷ es) = f m e (step g m e) ++ along g f (step g m e).machine es

-- number 0: the event was accepted
abbrev pub is_accepted : Answer → Bool
is_accepted r = eqb r.number 0

-- A press: a character key and when it went down.
pub record Press : Type 0 where
  pub key : Key
  pub stamp : Stamp

abbrev pub press : Key → Stamp → Press
press k m = record { key = k; stamp = m }

abbrev pub keys_of : List Press → List Key
keys_of [] = []
keys_of (p ∷ ps) = p.key ∷ keys_of ps

-- a character press is an accepted down of a key not held (7/12)
abbrev pub press_in : Machine → Event → Answer → List Press
press_in m e r = if is_accepted r && is_new m e then (press e.key e.stamp ∷ []) orelse []

-- the event itself, if it was accepted
abbrev pub accepted_in : Machine → Event → Answer → List Event
accepted_in m e r = if is_accepted r then (e ∷ []) orelse []

-- kinds 1 to 5 are key events; whether one is accepted is not a matter of demand 3
abbrev pub key_event_in : Machine → Event → Answer → List Event
key_event_in m e r = if is_accepted r && within 1 5 e.kind then (e ∷ []) orelse []

abbrev pub items_in : Machine → Event → Answer → List Item
items_in m e r = r.items

abbrev pub sendings_in : Machine → Event → Answer → List Sending
sendings_in m e r = r.sendings

-- the keys of the committed characters, an empty face too; of a pair's both, first pressed first (9/12)
abbrev pub characters : List Item → List Key
characters [] = []
characters (Character k f ∷ is) = k ∷ characters is
characters (Mark O ∷ is) = characters is
characters (Together M K c ∷ is) = M ∷ (K ∷ characters is)

-- what waits is the resting state's M, and behind it K where there is one
abbrev pub waiting : Resting → List Press
waiting S1 = []
waiting (S2 M m) = press M m ∷ []
waiting (S3 O o) = []
waiting (S4 M m O o) = press M m ∷ []
waiting (S5 O o M m) = press M m ∷ []
waiting (S6 O o M m r) = press M m ∷ []
waiting (S7 M m K k) = press M m ∷ (press K k ∷ [])
waiting (S8 M m K k r) = press M m ∷ (press K k ∷ [])

-- without its last sign
abbrev pub without_last : List ℕ → List ℕ
without_last [] = []
without_last (c ∷ []) = []
without_last (c ∷ (d ∷ l)) = c ∷ without_last (d ∷ l)

-- a screen after sendings: a sign is added at its end, a backspace takes its last sign
abbrev pub typed : List ℕ → List Sending → List ℕ
typed l [] = l
typed l (backspace ∷ more) = typed (without_last l) more
typed l (sign c ∷ more) = typed (l ++ (c ∷ [])) more

-- the characters and marks among sendings
abbrev pub signs_among : List Sending → List ℕ
signs_among [] = []
signs_among (backspace ∷ more) = signs_among more
signs_among (sign c ∷ more) = c ∷ signs_among more

-- What is read off a sequence of events es from a fresh state with settings s, with g lent at every event.
module _ (g : Lent) (s : Settings) (es : List Event) where
  abbrev pub state : Machine
  state = after g (fresh s) es

  abbrev pub presses : List Press
  presses = along g press_in (fresh s) es

  abbrev pub accepted_events : List Event
  accepted_events = along g accepted_in (fresh s) es

  abbrev pub accepted_key_events : List Event
  accepted_key_events = along g key_event_in (fresh s) es

  abbrev pub items : List Item
  items = along g items_in (fresh s) es

  -- Each committed character answers the first press not yet answered, a pair's the first two. So a press is answered, and that is
  -- committed, when more characters are committed than presses came before it.
  abbrev pub Committed : List Press → Type 0
  Committed before = length before < length (characters items)

  -- the committed line: empty faces left out
  abbrev pub line : List ℕ
  line = signs items

  abbrev pub screen : List ℕ
  screen = typed [] (along g sendings_in (fresh s) es)
