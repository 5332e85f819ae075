-- A step commits at most two items and sends at most four; what it sends is by the three cases of document 01.
use Prim.Native.Nat.{ℕ, suc, ◌+◌, ◌≤◌}
use native.Mathlib.Omega.{arith}
use mathlib.Core.List.{List, [], ◌∷◌, ◌++◌, append-nil, append_assoc}
use mathlib.Core.Path.{◌≡◌, refl, sym, ◌∙◌, ap, subst}
use lib.Dec.{eqb}
use lib.ListN.{length, length-append, replicate}
use borrow.Author.Tests.{eqb-true, eqb-false, eq-eqb}
use Rattle.rules.specs.Pairs.{Lent, is_pair}
use Rattle.rules.specs.States.{lag, deadline}
use Rattle.rules.specs.OneEvent.{Done, ◌leaving◌, nothing, together, mark, same_thumb, same_key, second_character_takes_thumb}
use Rattle.rules.specs.OneEvent.{second_thumb_takes_character, short_overlap, pair_stays, short_pair, short_of}
use Rattle.rules.specs.OneEvent.{late, third, third_thumb, act, due_by, and_then, one_event}
use Rattle.rules.specs.ZeroDelay.{sign_unless_0, character, sign_of, signs, shown, Sending, backspace, send, take_back, sent}
use Rattle.rules.specs.Layout.{code_point}
use Rattle.rules.specs.GivenBack.{acts_as, Answer}
use Rattle.rules.specs.Sequences.{waiting}
use Rattle.rules.specs.Demand3.{Begins}
use Rattle.rules.specs.StepFacts.{StepSizes, SendingRule, SendingTwo, NoneIs0, Sendable, StepSendable, TwoShown}
use Rattle.rules.specs.declared.Stamp.{Stamp}
use Rattle.rules.specs.declared.Key.{Key}
use Rattle.rules.specs.declared.Thumb.{Thumb}
use Rattle.rules.specs.declared.Thumb.TheVariants.{Left, Right}
use Rattle.rules.specs.declared.Settings.{Settings}
use Rattle.rules.specs.declared.Face.{Face}
use Rattle.rules.specs.declared.Face.TheVariants.{Plain, With}
use Rattle.rules.specs.declared.Resting.{Resting}
use Rattle.rules.specs.declared.Resting.TheVariants.{S1, S2, S3, S4, S5, S6, S7, S8}
use Rattle.rules.specs.declared.Machine.{Machine}
use Rattle.rules.specs.declared.Item.{Item}
use Rattle.rules.specs.declared.Item.TheVariants.{Character, Mark, Together}
use Rattle.rules.specs.declared.Event.{Event}
use Rattle.rules.specs.declared.Input.{Input}
use Rattle.rules.specs.declared.Input.TheVariants.{CharacterDown, CharacterUp, ThumbDown, ThumbUp, FunctionDown, Tick}
use Rattle.choice.proofs.Choices.{both_ways, by_test}
use Rattle.rules.proofs.Steps.{step_cases}
use Rattle.rules.proofs.Late.{S1_leaves_one, late_and_event, settle_once}

-- Items.

-- at most two items, and three with the letters that wait
abbrev Few : Done → Type 0
Few d = (length d.items ≤ 2) × (length d.items + length (waiting d.resting) ≤ 3)

mark_and : (s : Settings) (O : Thumb) (l : List Item) (y : Resting) → length l + length (waiting y) ≤ 1 → Few ((mark s O ++ l) leaving y)
unfolding mark
mark_and s O l y h = both_ways (λ (k : List Item). Few ((k ++ l) leaving y)) (eqb s.solo 1) (omega arith) (omega arith)

mark_few : (s : Settings) (O : Thumb) (y : Resting) → length (waiting y) ≤ 1 → Few (mark s O leaving y)
unfolding mark
mark_few s O y h = both_ways (λ (k : List Item). Few (k leaving y)) (eqb s.solo 1) (omega arith) (omega arith)

module _ (g : Lent) (now : Stamp) (M : Key) (m : Stamp) (K : Key) (k : Stamp) where
  third_few : (N : Key) → Few (third g now M m K k N)
  third_few N =
      both_ways Few (pair_stays (lag m k) (lag k now)) (omega arith) (both_ways Few (is_pair g.pairs K N) (omega arith) (omega arith))

  third_thumb_few : (P : Thumb) → Few (third_thumb g now M m K k P)
  third_thumb_few P = both_ways Few (pair_stays (lag m k) (lag k now)) (omega arith) (omega arith)

act_few : (g : Lent) (s : Settings) (now : Stamp) (y : Resting) (i : Input) → Few (act g s now y i)
act_few g s now S1 (CharacterDown N) = omega arith
act_few g s now S1 (CharacterUp N) = omega arith
act_few g s now S1 (ThumbDown P) = omega arith
act_few g s now S1 (ThumbUp P) = omega arith
act_few g s now S1 FunctionDown = omega arith
act_few g s now S1 Tick = omega arith
act_few g s now (S2 M m) (CharacterDown N) = both_ways Few (is_pair g.pairs M N) (omega arith) (omega arith)
act_few g s now (S2 M m) (CharacterUp N) = both_ways Few (same_key N M) (omega arith) (omega arith)
act_few g s now (S2 M m) (ThumbDown P) = omega arith
act_few g s now (S2 M m) (ThumbUp P) = omega arith
act_few g s now (S2 M m) FunctionDown = omega arith
act_few g s now (S2 M m) Tick = omega arith
act_few g s now (S3 O o) (CharacterDown N) = omega arith
act_few g s now (S3 O o) (CharacterUp N) = omega arith
act_few g s now (S3 O o) (ThumbDown P) = both_ways Few (same_thumb P O) (omega arith) (mark_few s O (S3 P now) (omega arith))
act_few g s now (S3 O o) (ThumbUp P) = both_ways Few (same_thumb P O) (mark_few s O S1 (omega arith)) (omega arith)
act_few g s now (S3 O o) FunctionDown = mark_few s O S1 (omega arith)
act_few g s now (S3 O o) Tick = omega arith
act_few g s now (S4 M m O o) (CharacterDown N) =
    both_ways Few (second_character_takes_thumb (lag m o) (lag o now)) (omega arith) (omega arith)
act_few g s now (S4 M m O o) (CharacterUp N) =
    both_ways Few (same_key N M) (both_ways Few (short_overlap s.j (lag m o) (lag o now)) (omega arith) (omega arith)) (omega arith)
act_few g s now (S4 M m O o) (ThumbDown P) = both_ways Few (same_thumb P O) (omega arith) (omega arith)
act_few g s now (S4 M m O o) (ThumbUp P) = both_ways Few (same_thumb P O) (omega arith) (omega arith)
act_few g s now (S4 M m O o) FunctionDown = omega arith
act_few g s now (S4 M m O o) Tick = omega arith
act_few g s now (S5 O o M m) (CharacterDown N) = omega arith
act_few g s now (S5 O o M m) (CharacterUp N) = both_ways Few (same_key N M) (omega arith) (omega arith)
act_few g s now (S5 O o M m) (ThumbDown P) =
    both_ways Few (same_thumb P O) (omega arith)
    (both_ways Few (second_thumb_takes_character (lag o m) (lag m now)) (mark_few s O (S4 M m P now) (omega arith)) (omega arith))
act_few g s now (S5 O o M m) (ThumbUp P) =
    both_ways Few (same_thumb P O) (both_ways Few (short_overlap s.l (lag o m) (lag m now)) (omega arith) (omega arith)) (omega arith)
act_few g s now (S5 O o M m) FunctionDown = omega arith
act_few g s now (S5 O o M m) Tick = omega arith
act_few g s now (S6 O o M m r) (CharacterDown N) = omega arith
act_few g s now (S6 O o M m r) (CharacterUp N) = both_ways Few (same_key N M) (omega arith) (omega arith)
act_few g s now (S6 O o M m r) (ThumbDown P) = omega arith
act_few g s now (S6 O o M m r) (ThumbUp P) = omega arith
act_few g s now (S6 O o M m r) FunctionDown = mark_and s O (Character M Plain ∷ []) S1 (omega arith)
act_few g s now (S6 O o M m r) Tick = omega arith
act_few g s now (S7 M m K k) (CharacterDown N) = third_few g now M m K k N
act_few g s now (S7 M m K k) (CharacterUp N) =
    both_ways Few (same_key N M) (both_ways Few (short_pair g (lag m k) (lag k now)) (omega arith) (omega arith))
    (both_ways Few (same_key N K) (omega arith) (omega arith))
act_few g s now (S7 M m K k) (ThumbDown P) = third_thumb_few g now M m K k P
act_few g s now (S7 M m K k) (ThumbUp P) = omega arith
act_few g s now (S7 M m K k) FunctionDown = omega arith
act_few g s now (S7 M m K k) Tick = omega arith
act_few g s now (S8 M m K k r) (CharacterDown N) = third_few g now M m K k N
act_few g s now (S8 M m K k r) (CharacterUp N) =
    both_ways Few (same_key N K) (both_ways Few (short_of s.l (lag k r) (lag k now)) (omega arith) (omega arith)) (omega arith)
act_few g s now (S8 M m K k r) (ThumbDown P) = third_thumb_few g now M m K k P
act_few g s now (S8 M m K k r) (ThumbUp P) = omega arith
act_few g s now (S8 M m K k r) FunctionDown = omega arith
act_few g s now (S8 M m K k r) Tick = omega arith

late_few : (g : Lent) (s : Settings) (y : Resting) → Few (late g s y)
late_few g s S1 = omega arith
late_few g s (S2 M m) = omega arith
late_few g s (S3 O o) = mark_few s O S1 (omega arith)
late_few g s (S4 M m O o) = omega arith
late_few g s (S5 O o M m) = omega arith
late_few g s (S6 O o M m r) = mark_and s O (Character M Plain ∷ []) S1 (omega arith)
late_few g s (S7 M m K k) = omega arith
late_few g s (S8 M m K k r) = omega arith

-- an event commits nothing behind a late line, and leaves one letter at most
pub one_event_few : (g : Lent) (s : Settings) (now : Stamp) (y : Resting) (i : Input) → Few (one_event g s now y i)
unfolding one_event
one_event_few g s now y i =
    rw (settle_once g s now y)
    (both_ways (λ (d : Done). Few (and_then d (λ z. act g s now z i))) (due_by now (deadline g s y))
    (subst Few (sym (late_and_event g s now y i)) (let one = S1_leaves_one g s now i in let few = late_few g s y in omega arith))
    (act_few g s now y i))

-- Sendings.

character_few : (k : Key) (f : Face) → length (character k f) ≤ 1
unfolding character
character_few k f = both_ways (λ (l : List ℕ). length l ≤ 1) (eqb (code_point k f) 0) (omega arith) (omega arith)

two_few : (M K : Key) → length (character M Plain ++ character K Plain) ≤ 2
two_few M K = rw length-append (let a = character_few M Plain in let b = character_few K Plain in omega arith)

-- no more is shown than waits
shown_few : (y : Resting) → length (shown y) ≤ length (waiting y)
shown_few S1 = omega arith
shown_few (S2 M m) = character_few M Plain
shown_few (S3 O o) = omega arith
shown_few (S4 M m O o) = character_few M Plain
shown_few (S5 O o M m) = character_few M (With O)
shown_few (S6 O o M m r) = character_few M (With O)
shown_few (S7 M m K k) = two_few M K
shown_few (S8 M m K k r) = two_few M K

pub two_shown : (y : Resting) → TwoShown y
two_shown S1 = omega arith
two_shown (S2 M m) = omega (arith, character_few M Plain)
two_shown (S3 O o) = omega arith
two_shown (S4 M m O o) = omega (arith, character_few M Plain)
two_shown (S5 O o M m) = omega (arith, character_few M (With O))
two_shown (S6 O o M m r) = omega (arith, character_few M (With O))
two_shown (S7 M m K k) = two_few M K
two_shown (S8 M m K k r) = two_few M K

sign_few : (i : Item) → length (sign_of i) ≤ 1
sign_few (Character k f) = character_few k f
sign_few (Mark O) = omega arith
sign_few (Together M K c) = both_ways (λ (l : List ℕ). length l ≤ 1) (eqb c 0) (omega arith) (omega arith)

pub signs_few : (l : List Item) → length (signs l) ≤ length l
signs_few [] = omega arith
signs_few (i ∷ l) =
    rw length-append
    (let one = sign_few i in
    let more = signs_few l in
    omega arith)

length_send : (q : List ℕ) → length (send q) ≡ length q
length_send [] = refl
length_send (c ∷ q) = ap (λ (n : ℕ). suc n) (length_send q)

length_take_back : (p : List ℕ) → length (take_back p) ≡ length p
length_take_back [] = refl
length_take_back (c ∷ p) = ap (λ (n : ℕ). suc n) (length_take_back p)

sent_few : (p q : List ℕ) → length (sent p q) ≤ length p + length q
unfolding sent
sent_few [] q = omega (arith, length_send q)
sent_few (c ∷ p) [] = omega (arith, length_take_back p)
sent_few (c ∷ p) (d ∷ q) =
    both_ways (λ (l : List Sending). length l ≤ length (c ∷ p) + length (d ∷ q)) (eqb c d)
    (let more = sent_few p q in omega arith)
    (rw length-append (omega (arith, length_take_back p, length_send q)))

-- what q begins with is not sent again
sent_onward : (p r : List ℕ) → sent p (p ++ r) ≡ send r
unfolding sent
sent_onward [] r = refl
sent_onward (c ∷ p) r = rw (eq-eqb c c refl) (sent_onward p r)

-- why at most four are sent: few signs on either side, or all that was shown stays
data Sized (p : List ℕ) (d : Done) : Type 0 where
  short : length p + length d.items + length (waiting d.resting) ≤ 4 → Sized p d
  stays : (more : List ℕ) → signs d.items ++ shown d.resting ≡ p ++ more → length more ≤ 1 → Sized p d

sized_sent : (p : List ℕ) (d : Done) → Sized p d → length (sent p (signs d.items ++ shown d.resting)) ≤ 4
sized_sent p d (short few) =
    let all = sent_few p (signs d.items ++ shown d.resting) in
    let behind = shown_few d.resting in
    let committed = signs_few d.items in
    omega (arith, length-append (signs d.items) (shown d.resting))
sized_sent p d (stays more e few) = rw (e, sent_onward p more) (omega (arith, length_send more))

-- two letters are shown
module _ (g : Lent) (s : Settings) (now : Stamp) (M : Key) (m : Stamp) (K : Key) (k : Stamp) where
  pair_sized : (y : Resting) → length (waiting y) ≤ 1 → Sized (character M Plain ++ character K Plain) (together g M K leaving y)
  pair_sized y h = short (let two = two_few M K in omega arith)

  still_sized : (y : Resting) → shown y ≡ character M Plain ++ character K Plain
      → Sized (character M Plain ++ character K Plain) (nothing leaving y)
  still_sized y e = stays [] (e ∙ sym (append-nil _)) (omega arith)

  third_sized : (N : Key) → Sized (character M Plain ++ character K Plain) (third g now M m K k N)
  third_sized N =
      let Q = Sized (character M Plain ++ character K Plain) in
      both_ways Q (pair_stays (lag m k) (lag k now)) (pair_sized (S2 N now) (omega arith))
      (both_ways Q (is_pair g.pairs K N)
      (stays (character N Plain) (simp (append-nil, append_assoc)) (character_few N Plain))
      (stays (character N Plain) (simp (append-nil, append_assoc)) (character_few N Plain)))

  third_thumb_sized : (P : Thumb) → Sized (character M Plain ++ character K Plain) (third_thumb g now M m K k P)
  third_thumb_sized P =
      both_ways (Sized (character M Plain ++ character K Plain)) (pair_stays (lag m k) (lag k now)) (pair_sized (S3 P now) (omega arith))
      (stays [] (simp append-nil) (omega arith))

  S7_sized : (i : Input) → Sized (character M Plain ++ character K Plain) (act g s now (S7 M m K k) i)
  S7_sized (CharacterDown N) = third_sized N
  S7_sized (CharacterUp N) =
      let Q = Sized (character M Plain ++ character K Plain) in
      both_ways Q (same_key N M)
      (both_ways Q (short_pair g (lag m k) (lag k now)) (still_sized (S8 M m K k now) refl) (pair_sized S1 (omega arith)))
      (both_ways Q (same_key N K) (pair_sized S1 (omega arith)) (still_sized (S7 M m K k) refl))
  S7_sized (ThumbDown P) = third_thumb_sized P
  S7_sized (ThumbUp P) = still_sized (S7 M m K k) refl
  S7_sized FunctionDown = pair_sized S1 (omega arith)
  S7_sized Tick = still_sized (S7 M m K k) refl

  S8_sized : (r : Stamp) (i : Input) → Sized (character M Plain ++ character K Plain) (act g s now (S8 M m K k r) i)
  S8_sized r (CharacterDown N) = third_sized N
  S8_sized r (CharacterUp N) =
      let Q = Sized (character M Plain ++ character K Plain) in
      both_ways Q (same_key N K)
      (both_ways Q (short_of s.l (lag k r) (lag k now)) (stays [] (simp append-nil) (omega arith)) (pair_sized S1 (omega arith)))
      (still_sized (S8 M m K k r) refl)
  S8_sized r (ThumbDown P) = third_thumb_sized P
  S8_sized r (ThumbUp P) = still_sized (S8 M m K k r) refl
  S8_sized r FunctionDown = pair_sized S1 (omega arith)
  S8_sized r Tick = still_sized (S8 M m K k r) refl

-- one letter at most waits
one_letter : (y : Resting) (d : Done) → length (waiting y) ≤ 1 → Few d → Sized (shown y) d
one_letter y d one few = short (let seen = shown_few y in omega arith)

act_sized : (g : Lent) (s : Settings) (now : Stamp) (y : Resting) (i : Input) → Sized (shown y) (act g s now y i)
act_sized g s now S1 i = one_letter S1 _ (omega arith) (act_few g s now S1 i)
act_sized g s now (S2 M m) i = one_letter (S2 M m) _ (omega arith) (act_few g s now (S2 M m) i)
act_sized g s now (S3 O o) i = one_letter (S3 O o) _ (omega arith) (act_few g s now (S3 O o) i)
act_sized g s now (S4 M m O o) i = one_letter (S4 M m O o) _ (omega arith) (act_few g s now (S4 M m O o) i)
act_sized g s now (S5 O o M m) i = one_letter (S5 O o M m) _ (omega arith) (act_few g s now (S5 O o M m) i)
act_sized g s now (S6 O o M m r) i = one_letter (S6 O o M m r) _ (omega arith) (act_few g s now (S6 O o M m r) i)
act_sized g s now (S7 M m K k) i = S7_sized g s now M m K k i
act_sized g s now (S8 M m K k r) i = S8_sized g s now M m K k r i

-- behind a late line, with a state that shows one letter at most
late_sized : (g : Lent) (s : Settings) (y z : Resting) → length (waiting z) ≤ 1 → Sized (shown y) ((late g s y).items leaving z)
late_sized g s S1 z h = short (omega arith)
late_sized g s (S2 M m) z h = short (let one = shown_few (S2 M m) in omega arith)
late_sized g s (S3 O o) z h = one_letter (S3 O o) _ (omega arith) (mark_few s O z h)
late_sized g s (S4 M m O o) z h = short (let one = shown_few (S4 M m O o) in omega arith)
late_sized g s (S5 O o M m) z h = short (let one = shown_few (S5 O o M m) in omega arith)
late_sized g s (S6 O o M m r) z h =
    let one = shown_few (S6 O o M m r) in
    let few = late_few g s (S6 O o M m r) in
    short (omega arith)
late_sized g s (S7 M m K k) z h = short (let two = two_few M K in omega arith)
late_sized g s (S8 M m K k r) z h = stays (shown z) (simp (append-nil, append_assoc)) (let one = shown_few z in omega arith)

one_event_sized : (g : Lent) (s : Settings) (now : Stamp) (y : Resting) (i : Input) → Sized (shown y) (one_event g s now y i)
unfolding one_event
one_event_sized g s now y i =
    rw (settle_once g s now y)
    (both_ways (λ (d : Done). Sized (shown y) (and_then d (λ z. act g s now z i))) (due_by now (deadline g s y))
    (rw (late_and_event g s now y i) (late_sized g s y (act g s now S1 i).resting (S1_leaves_one g s now i)))
    (act_sized g s now y i))

pub step_sizes : (g : Lent) (m : Machine) (e : Event) → StepSizes g m e
step_sizes g m e =
    record {
      at_most_2_items =
          step_cases (λ (r : Answer). length r.items ≤ 2) g m e (λ _ _. omega arith)
          (λ i _. (one_event_few g m.settings e.stamp m.resting (acts_as m.held i)).0);
      at_most_4_sendings =
          step_cases (λ (r : Answer). length r.sendings ≤ 4) g m e (λ _ _. omega arith)
          (λ i _. sized_sent _ _ (one_event_sized g m.settings e.stamp m.resting (acts_as m.held i)));
    }

-- What is sent has room in a count of backspaces and three words.

none_0_append : (a b : List ℕ) → NoneIs0 a → NoneIs0 b → NoneIs0 (a ++ b)
none_0_append [] b h k = k
none_0_append (c ∷ a) b h k = (h.0, none_0_append a b h.1 k)

sign_not_0 : (c : ℕ) → NoneIs0 (sign_unless_0 c)
sign_not_0 c = by_test NoneIs0 (eqb c 0) (λ _. tt) (λ n. (eqb-false _ _ n, tt))

character_not_0 : (k : Key) (f : Face) → NoneIs0 (character k f)
unfolding character
character_not_0 k f = sign_not_0 (code_point k f)

signs_not_0 : (l : List Item) → NoneIs0 (signs l)
signs_not_0 [] = tt
signs_not_0 (Character k f ∷ l) = none_0_append (character k f) (signs l) (character_not_0 k f) (signs_not_0 l)
signs_not_0 (Mark Left ∷ l) = ((λ z. omega arith), signs_not_0 l)
signs_not_0 (Mark Right ∷ l) = ((λ z. omega arith), signs_not_0 l)
signs_not_0 (Together M K c ∷ l) = none_0_append (sign_unless_0 c) (signs l) (sign_not_0 c) (signs_not_0 l)

two_not_0 : (M K : Key) → NoneIs0 (character M Plain ++ character K Plain)
two_not_0 M K = none_0_append (character M Plain) (character K Plain) (character_not_0 M Plain) (character_not_0 K Plain)

shown_not_0 : (y : Resting) → NoneIs0 (shown y)
shown_not_0 S1 = tt
shown_not_0 (S2 M m) = character_not_0 M Plain
shown_not_0 (S3 O o) = tt
shown_not_0 (S4 M m O o) = character_not_0 M Plain
shown_not_0 (S5 O o M m) = character_not_0 M (With O)
shown_not_0 (S6 O o M m r) = character_not_0 M (With O)
shown_not_0 (S7 M m K k) = two_not_0 M K
shown_not_0 (S8 M m K k r) = two_not_0 M K

take_back_counted : (p : List ℕ) → take_back p ≡ replicate (length p) backspace
take_back_counted [] = refl
take_back_counted (c ∷ p) = ap (λ (l : List Sending). backspace ∷ l) (take_back_counted p)

taken_back : (p q : List ℕ) → length p ≤ 2 → length q ≤ 3 → NoneIs0 q → Sendable (take_back p ++ send q)
taken_back p q two few n =
    record {
      backspaces = length p;
      signs = q;
      sends = ap (λ (l : List Sending). l ++ send q) (take_back_counted p);
      at_most_2_backspaces = two;
      at_most_3_signs = few;
      none_is_0 = n;
    }

sent_sendable : (p q : List ℕ) → length p ≤ 2 → length q ≤ 3 → NoneIs0 q → Sendable (sent p q)
unfolding sent
sent_sendable [] q two few n = taken_back [] q two few n
sent_sendable (c ∷ p) [] two few n = rw (← append-nil (take_back (c ∷ p))) (taken_back (c ∷ p) [] two few n)
sent_sendable (c ∷ p) (d ∷ q) two few n =
    both_ways Sendable (eqb c d) (sent_sendable p q (omega arith) (omega arith) n.1) (taken_back (c ∷ p) (d ∷ q) two few n)

pub step_sendable : (g : Lent) (m : Machine) (e : Event) → StepSendable g m e
step_sendable g m e =
    step_cases (λ (r : Answer). Sendable r.sendings) g m e (λ _ _. taken_back [] [] (omega arith) (omega arith) tt)
    (λ i _. by (one_event g m.settings e.stamp m.resting (acts_as m.held i))
    (one_event_few g m.settings e.stamp m.resting (acts_as m.held i)))
  where
    by : (d : Done) → Few d → Sendable (sent (shown m.resting) (signs d.items ++ shown d.resting))
    by d few =
        let behind = shown_few d.resting in
        let committed = signs_few d.items in
        sent_sendable (shown m.resting) (signs d.items ++ shown d.resting) (two_shown m.resting)
        (omega (arith, length-append (signs d.items) (shown d.resting)))
        (none_0_append (signs d.items) (shown d.resting) (signs_not_0 d.items) (shown_not_0 d.resting))

-- The three cases of what is sent.
-- a sign that q does not begin with goes, and so does all that is shown behind it
not_first : (p : ℕ) (more q : List ℕ) → ¬ Begins q (p ∷ []) → sent (p ∷ more) q ≡ take_back (p ∷ more) ++ send q
unfolding sent
not_first p more [] h = sym (append-nil (take_back (p ∷ more)))
not_first p more (d ∷ q) h =
    by_test (λ (l : List Sending). l ≡ take_back (p ∷ more) ++ send (d ∷ q)) (eqb p d)
    (λ same. absurd (h (record { rest = q; joined = ap (λ (c : ℕ). c ∷ q) (sym (eqb-true p d same)) })))
    (λ _. refl)

pub sending_rule : (p : ℕ) (q : List ℕ) → SendingRule p q
unfolding sent
sending_rule p q =
    record {
      no_p = refl;
      p_is_first = λ rest e. rw (e, eq-eqb p p refl);
      otherwise = not_first p [] q;
    }

pub sending_two : (p r : ℕ) (q : List ℕ) → SendingTwo p r q
unfolding sent
sending_two p r q =
    record {
      both_stay = λ rest e. rw (e, eq-eqb p p refl, eq-eqb r r refl);
      p_stays = λ rest e h. rw (e, eq-eqb p p refl) (not_first r [] rest h);
      otherwise = not_first p (r ∷ []) q;
    }
