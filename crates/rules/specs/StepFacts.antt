-- What document 01 says of a step besides its rules: it commits 0 to 2, and sends at most 4; and 9/12 of late lines that follow one
-- another: none ever does. And 01's three cases of what is sent, of which `sent` is the form for any number of shown signs. And which
-- rules ask what is lent. The proofs are in proofs/StepFacts.antt; of StaysFormed in Formed.antt, of LateOnce and ListNotRead in
-- Late.antt there.
use Rattle.std.specs.Prelude.{ℕ, suc, ◌≤◌, Bool, true, false, List, [], ◌∷◌, ◌++◌, ◌≢◌, ◌≡◌, length, replicate}
use Rattle.choice.specs.Choice.{if◌then◌orelse◌}
use Rattle.rules.specs.Pairs.{Lent}
use Rattle.rules.specs.States.{deadline, well_formed}
use Rattle.rules.specs.OneEvent.{◌leaving◌, nothing, late, act, due_by, settle_in, settle}
use Rattle.rules.specs.ZeroDelay.{shown, Sending, backspace, send, sent}
use Rattle.rules.specs.GivenBack.{step}
use Rattle.rules.specs.Demand3.{Begins}
use Rattle.rules.specs.declared.Stamp.{Stamp}
use Rattle.rules.specs.declared.Key.{Key}
use Rattle.rules.specs.declared.Settings.{Settings}
use Rattle.rules.specs.declared.Resting.{Resting}
use Rattle.rules.specs.declared.Resting.TheVariants.{S1, S2, S3, S4, S5, S6, S7, S8}
use Rattle.rules.specs.declared.Machine.{Machine}
use Rattle.rules.specs.declared.Event.{Event}
use Rattle.rules.specs.declared.Input.{Input}
use Rattle.rules.specs.declared.Input.TheVariants.{CharacterDown, CharacterUp, ThumbDown, ThumbUp, FunctionDown, Tick}

-- of everything lent, every machine and event
pub record StepSizes (g : Lent) (m : Machine) (e : Event) : Type 0 where
  pub at_most_2_items : length (step g m e).items ≤ 2
  pub at_most_4_sendings : length (step g m e).sendings ≤ 4

-- of every sign p and signs q
pub record SendingRule (p : ℕ) (q : List ℕ) : Type 0 where
  -- no p: send q
  pub no_p : sent [] q ≡ send q
  -- p is the first of q: send the rest
  pub p_is_first : (rest : List ℕ) → q ≡ p ∷ rest → sent (p ∷ []) q ≡ send rest
  -- else: one backspace, then q
  pub otherwise : ¬ Begins q (p ∷ []) → sent (p ∷ []) q ≡ backspace ∷ send q

-- The same with two shown signs, p and then r (9/12).
pub record SendingTwo (p r : ℕ) (q : List ℕ) : Type 0 where
  -- q begins with both: send the rest
  pub both_stay : (rest : List ℕ) → q ≡ p ∷ r ∷ rest → sent (p ∷ r ∷ []) q ≡ send rest
  -- with p only: one backspace, then what follows p
  pub p_stays : (rest : List ℕ) → q ≡ p ∷ rest → ¬ Begins rest (r ∷ []) → sent (p ∷ r ∷ []) q ≡ backspace ∷ send rest
  -- else: two backspaces, then q
  pub otherwise : ¬ Begins q (p ∷ []) → sent (p ∷ r ∷ []) q ≡ backspace ∷ backspace ∷ send q

-- no word of a list is 0, which stands for none
abbrev pub NoneIs0 : List ℕ → Type 0
NoneIs0 [] = Unit {0}
NoneIs0 (c ∷ q) = (c ≢ 0) × NoneIs0 q

-- What a step sends is some backspaces, two at most, and then signs whose words are not 0, three at most (four of both at most, says
-- StepSizes). So it has room in a count and three words.
pub record Sendable (sendings : List Sending) : Type 0 where
  pub backspaces : ℕ
  pub signs : List ℕ
  pub sends : sendings ≡ replicate backspaces backspace ++ send signs
  pub at_most_2_backspaces : backspaces ≤ 2
  pub at_most_3_signs : length signs ≤ 3
  pub none_is_0 : NoneIs0 signs

-- of everything lent, every machine and event
abbrev pub StepSendable : Lent → Machine → Event → Type 0
StepSendable g m e = Sendable (step g m e).sendings

-- An event leaves every machine as well formed as it was: an accepted one leaves a well-formed machine well formed, and a
-- refused one hands the state back as given.
abbrev pub StaysFormed : Lent → Machine → Event → Type 0
StaysFormed g m e = well_formed g (step g m e).machine ≡ well_formed g m

-- at most two signs are shown
abbrev pub TwoShown : Resting → Type 0
TwoShown x = length (shown x) ≤ 2

-- A late line leaves no state that is due. So after the first line nothing follows, however many are allowed, and nothing that is
-- due is left.
pub record LateOnce (g : Lent) (s : Settings) (now : Stamp) (x : Resting) : Type 0 where
  pub late_rests : (t : Stamp) → due_by t (deadline g s (late g s x).resting) ≡ false
  pub once : (n : ℕ) → settle_in (suc n) g s now x ≡ (if due_by now (deadline g s x) then late g s x orelse (nothing leaving x))
  pub none_left : due_by now (deadline g s (settle g s now x).resting) ≡ false

-- the states whose rules ask what is lent: a letter waits with no thumb
abbrev pub asks_lent : Resting → Bool
asks_lent S1 = false
asks_lent (S2 M m) = true
asks_lent (S3 O o) = false
asks_lent (S4 M m O o) = false
asks_lent (S5 O o M m) = false
asks_lent (S6 O o M m r) = false
asks_lent (S7 M m K k) = true
asks_lent (S8 M m K k r) = true

abbrev pub is_character_down : Input → Bool
is_character_down (CharacterDown N) = true
is_character_down (CharacterUp N) = false
is_character_down (ThumbDown P) = false
is_character_down (ThumbUp P) = false
is_character_down FunctionDown = false
is_character_down Tick = false

-- Of everything that is lent, g and h: the other states do not tell them apart, and in S2 only a character does, and the deadline.
pub record ListNotRead (g h : Lent) (s : Settings) (now : Stamp) : Type 0 where
  pub same_act : (x : Resting) (i : Input) → asks_lent x ≡ false → act g s now x i ≡ act h s now x i
  pub same_deadline : (x : Resting) → asks_lent x ≡ false → deadline g s x ≡ deadline h s x
  pub same_late : (x : Resting) → asks_lent x ≡ false → late g s x ≡ late h s x
  pub same_act_in_S2 : (M : Key) (m : Stamp) (i : Input) → is_character_down i ≡ false → act g s now (S2 M m) i ≡ act h s now (S2 M m) i
  pub same_late_in_S2 : (M : Key) (m : Stamp) → late g s (S2 M m) ≡ late h s (S2 M m)
