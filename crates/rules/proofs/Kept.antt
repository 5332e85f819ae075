-- What an action keeps, shown once for every state and event: which presses its items answer, and the order and the distance of
-- the stamps. q bounds the waits (Bounds.antt), n is the last accepted stamp.
use Prim.Native.Nat.{ℕ, ◌+◌, ◌≤◌, ◌<◌, min}
use native.Mathlib.Omega.{arith}
use mathlib.Core.Bool.{true, false}
use mathlib.Core.List.{List, [], ◌∷◌, ◌++◌, append_assoc, append-nil}
use mathlib.Core.Path.{◌≡◌, refl, sym, ◌∙◌, ap, ap₂}
use lib.Dec.{eqb}
use borrow.Author.Tests.{leb-false, ltb-false}
use Rattle.rules.specs.Numbers.{keys, B, FJ, FL}
use Rattle.rules.specs.Pairs.{Lent, is_pair, GN, alone}
use Rattle.rules.specs.States.{lag, deadline}
use Rattle.rules.specs.OneEvent.{Done, mark, same_thumb, same_key, second_character_takes_thumb, second_thumb_takes_character}
use Rattle.rules.specs.OneEvent.{short_overlap, pair_stays, short_pair, short_of, late, third, third_thumb, act, due_by, settle}
use Rattle.rules.specs.OneEvent.{one_event}
use Rattle.rules.specs.Sequences.{Press, press, keys_of, characters, waiting}
use Rattle.rules.specs.declared.Stamp.{Stamp}
use Rattle.rules.specs.declared.Key.{Key}
use Rattle.rules.specs.declared.Thumb.{Thumb}
use Rattle.rules.specs.declared.Settings.{Settings}
use Rattle.rules.specs.declared.Resting.{Resting}
use Rattle.rules.specs.declared.Resting.TheVariants.{S1, S2, S3, S4, S5, S6, S7, S8}
use Rattle.rules.specs.declared.Face.TheVariants.{Plain}
use Rattle.rules.specs.declared.Item.{Item}
use Rattle.rules.specs.declared.Item.TheVariants.{Character, Mark, Together}
use Rattle.rules.specs.declared.Input.{Input}
use Rattle.rules.specs.declared.Input.TheVariants.{CharacterDown, CharacterUp, ThumbDown, ThumbUp, FunctionDown, Tick}
use Rattle.choice.proofs.Choices.{both_ways, by_test}
use Rattle.rules.proofs.Steps.{pressed, KeyBelow}
use Rattle.rules.proofs.Late.{settle_once}
use Rattle.rules.proofs.Bounds.{Limits, Bounds}

pub keys_of_append : (a b : List Press) → keys_of (a ++ b) ≡ keys_of a ++ keys_of b
keys_of_append [] b = refl
keys_of_append (p ∷ a) b = ap (λ (l : List Key). p.key ∷ l) (keys_of_append a b)

pub characters_append : (a b : List Item) → characters (a ++ b) ≡ characters a ++ characters b
characters_append [] b = refl
characters_append (Character k f ∷ a) b = ap (λ (l : List Key). k ∷ l) (characters_append a b)
characters_append (Mark O ∷ a) b = characters_append a b
characters_append (Together M K c ∷ a) b = ap (λ (l : List Key). M ∷ K ∷ l) (characters_append a b)

-- The stamps of a state that a sequence leaves: keys below 31, stamps in order and by n, and not too far apart.
abbrev pub Sound : Lent → Limits → ℕ → Resting → Type 0
Sound g q n S1 = Unit {0}
Sound g q n (S2 M m) = (M.0 < keys) × (m.0 ≤ n) × (n < m.0 + q.x)
Sound g q n (S3 O o) = o.0 ≤ n
Sound g q n (S4 M m O o) = (M.0 < keys) × (m.0 ≤ o.0) × (o.0 ≤ n) × (o.0 ≤ m.0 + q.x) × (n < m.0 + q.w)
Sound g q n (S5 O o M m) = (M.0 < keys) × (o.0 ≤ m.0) × (m.0 ≤ n) × (n < m.0 + q.x)
Sound g q n (S6 O o M m r) = (M.0 < keys) × (o.0 ≤ m.0) × (m.0 ≤ r.0) × (r.0 ≤ n) × (r.0 ≤ m.0 + q.x) × (n < m.0 + q.w)
Sound g q n (S7 M m K k) =
    (M.0 < keys) × (K.0 < keys) × (m.0 ≤ k.0) × (k.0 ≤ n) × (k.0 ≤ m.0 + q.x) × (n < k.0 + q.t) × (is_pair g.pairs M K ≡ true)
Sound g q n (S8 M m K k r) =
    (M.0 < keys) × (K.0 < keys) × (m.0 ≤ k.0) × (k.0 ≤ r.0) × (r.0 ≤ n) × (k.0 ≤ m.0 + q.x) × (r.0 ≤ k.0 + q.t)
    × (n < k.0 + (q.t + q.p)) × (is_pair g.pairs M K ≡ true)

-- What is done with the presses that waited: those given are answered by the items, the others wait on.
pub record Kept (g : Lent) (q : Limits) (n : ℕ) (waited : List Press) (d : Done) : Type 0 where
  pub given : List Press
  pub joined : waited ≡ given ++ waiting d.resting
  pub answers : keys_of given ≡ characters d.items
  pub sound : Sound g q n d.resting

pub keeps : {g : Lent} {q : Limits} {n : ℕ} {waited : List Press} {d : Done} (given : List Press) → waited ≡ given ++ waiting d.resting
    → keys_of given ≡ characters d.items → Sound g q n d.resting → Kept g q n waited d
keeps given j a s = record { given = given; joined = j; answers = a; sound = s }

-- a mark answers no press
pub characters_after_mark : (s : Settings) (O : Thumb) (l : List Item) → characters (mark s O ++ l) ≡ characters l
unfolding mark
characters_after_mark s O l = both_ways (λ (k : List Item). characters (k ++ l) ≡ characters l) (eqb s.solo 1) refl refl

characters_mark : (s : Settings) (O : Thumb) → characters (mark s O) ≡ []
characters_mark s O = ap characters (sym (append-nil (mark s O))) ∙ characters_after_mark s O []

module _ (g : Lent) (s : Settings) (q : Limits) (b : Bounds g s q) where
  -- Two letters wait, and a third key comes. Of the state only this is used.
  module _ (now : Stamp) (M : Key) (m : Stamp) (K : Key) (k : Stamp)
      (h : (K.0 < keys) × (m.0 ≤ k.0) × (k.0 ≤ now.0) × (k.0 ≤ m.0 + q.x)) where
    third_keeps : (N : Key) → N.0 < keys → Kept g q now.0 (press M m ∷ press K k ∷ press N now ∷ []) (third g now M m K k N)
    unfolding pair_stays
    third_keeps N below =
        let Q = Kept g q now.0 (press M m ∷ press K k ∷ press N now ∷ []) in
        by_test Q (pair_stays (lag m k) (lag k now)) (λ _. keeps (press M m ∷ press K k ∷ []) refl refl (omega arith))
        (λ gap. by_test Q (is_pair g.pairs K N)
        (λ pair.
        let le = ltb-false (lag m k) (lag k now) gap in
        keeps (press M m ∷ []) refl refl (h.0, below, omega arith, omega arith, omega arith, omega arith, pair))
        (λ _. keeps (press M m ∷ press K k ∷ []) refl refl (omega arith)))

    third_thumb_keeps : (P : Thumb) → Kept g q now.0 (press M m ∷ press K k ∷ []) (third_thumb g now M m K k P)
    unfolding pair_stays
    third_thumb_keeps P =
        by_test (Kept g q now.0 (press M m ∷ press K k ∷ [])) (pair_stays (lag m k) (lag k now))
        (λ _. keeps (press M m ∷ press K k ∷ []) refl refl (omega arith))
        (λ gap. let le = ltb-false (lag m k) (lag k now) gap in keeps (press M m ∷ []) refl refl (omega arith))

  -- An event's action. The presses that it answers stand first in each line.
  pub act_keeps : (now : Stamp) (y : Resting) (i : Input) → Sound g q now.0 y → KeyBelow i
      → Kept g q now.0 (waiting y ++ pressed now i) (act g s now y i)
  act_keeps now S1 (CharacterDown N) h k = keeps [] refl refl (omega arith)
  act_keeps now S1 (CharacterUp N) h k = keeps [] refl refl tt
  act_keeps now S1 (ThumbDown P) h k = keeps [] refl refl (omega arith)
  act_keeps now S1 (ThumbUp P) h k = keeps [] refl refl tt
  act_keeps now S1 FunctionDown h k = keeps [] refl refl tt
  act_keeps now S1 Tick h k = keeps [] refl refl tt
  act_keeps now (S2 M m) (CharacterDown N) h k =
      by_test (Kept g q now.0 (press M m ∷ press N now ∷ [])) (is_pair g.pairs M N)
      (λ pair.
      let ts = b.t_positive in
      keeps [] refl refl (h.0, k, omega arith, omega arith, omega arith, omega arith, pair))
      (λ _. keeps (press M m ∷ []) refl refl (omega arith))
  act_keeps now (S2 M m) (CharacterUp N) h k =
      both_ways (Kept g q now.0 (press M m ∷ [])) (same_key N M) (keeps (press M m ∷ []) refl refl tt) (keeps [] refl refl h)
  act_keeps now (S2 M m) (ThumbDown P) h k = keeps [] refl refl (omega arith)
  act_keeps now (S2 M m) (ThumbUp P) h k = keeps [] refl refl h
  act_keeps now (S2 M m) FunctionDown h k = keeps (press M m ∷ []) refl refl tt
  act_keeps now (S2 M m) Tick h k = keeps [] refl refl h
  act_keeps now (S3 O o) (CharacterDown N) h k = keeps [] refl refl (omega arith)
  act_keeps now (S3 O o) (CharacterUp N) h k = keeps [] refl refl h
  act_keeps now (S3 O o) (ThumbDown P) h k =
      both_ways (Kept g q now.0 []) (same_thumb P O) (keeps [] refl refl h)
      (keeps [] refl (sym (characters_mark s O)) (omega arith))
  act_keeps now (S3 O o) (ThumbUp P) h k =
      both_ways (Kept g q now.0 []) (same_thumb P O) (keeps [] refl (sym (characters_mark s O)) tt) (keeps [] refl refl h)
  act_keeps now (S3 O o) FunctionDown h k = keeps [] refl (sym (characters_mark s O)) tt
  act_keeps now (S3 O o) Tick h k = keeps [] refl refl h
  act_keeps now (S4 M m O o) (CharacterDown N) h k =
      both_ways (Kept g q now.0 (press M m ∷ press N now ∷ []))
      (second_character_takes_thumb (lag m o) (lag o now))
      (keeps (press M m ∷ []) refl refl (omega arith))
      (keeps (press M m ∷ []) refl refl (omega arith))
  act_keeps now (S4 M m O o) (CharacterUp N) h k =
      both_ways (Kept g q now.0 (press M m ∷ []))
      (same_key N M)
      (both_ways (Kept g q now.0 (press M m ∷ []))
      (short_overlap s.j (lag m o) (lag o now))
      (keeps (press M m ∷ []) refl refl (omega arith))
      (keeps (press M m ∷ []) refl refl tt))
      (keeps [] refl refl h)
  act_keeps now (S4 M m O o) (ThumbDown P) h k =
      both_ways (Kept g q now.0 (press M m ∷ [])) (same_thumb P O) (keeps [] refl refl h)
      (keeps (press M m ∷ []) refl refl (omega arith))
  act_keeps now (S4 M m O o) (ThumbUp P) h k =
      both_ways (Kept g q now.0 (press M m ∷ [])) (same_thumb P O) (keeps (press M m ∷ []) refl refl tt) (keeps [] refl refl h)
  act_keeps now (S4 M m O o) FunctionDown h k = keeps (press M m ∷ []) refl refl tt
  act_keeps now (S4 M m O o) Tick h k = keeps [] refl refl h
  act_keeps now (S5 O o M m) (CharacterDown N) h k = keeps (press M m ∷ []) refl refl (omega arith)
  act_keeps now (S5 O o M m) (CharacterUp N) h k =
      both_ways (Kept g q now.0 (press M m ∷ [])) (same_key N M) (keeps (press M m ∷ []) refl refl tt) (keeps [] refl refl h)
  act_keeps now (S5 O o M m) (ThumbDown P) h k =
      both_ways (Kept g q now.0 (press M m ∷ []))
      (same_thumb P O)
      (keeps [] refl refl h)
      (both_ways (Kept g q now.0 (press M m ∷ []))
      (second_thumb_takes_character (lag o m) (lag m now))
      (keeps [] refl (sym (characters_mark s O)) (omega arith))
      (keeps (press M m ∷ []) refl refl (omega arith)))
  act_keeps now (S5 O o M m) (ThumbUp P) h k =
      both_ways (Kept g q now.0 (press M m ∷ []))
      (same_thumb P O)
      (both_ways (Kept g q now.0 (press M m ∷ []))
      (short_overlap s.l (lag o m) (lag m now))
      (keeps [] refl refl (omega arith))
      (keeps (press M m ∷ []) refl refl tt))
      (keeps [] refl refl h)
  act_keeps now (S5 O o M m) FunctionDown h k = keeps (press M m ∷ []) refl refl tt
  act_keeps now (S5 O o M m) Tick h k = keeps [] refl refl h
  act_keeps now (S6 O o M m r) (CharacterDown N) h k = keeps (press M m ∷ []) refl refl (omega arith)
  act_keeps now (S6 O o M m r) (CharacterUp N) h k =
      both_ways (Kept g q now.0 (press M m ∷ [])) (same_key N M) (keeps (press M m ∷ []) refl refl tt) (keeps [] refl refl h)
  act_keeps now (S6 O o M m r) (ThumbDown P) h k = keeps (press M m ∷ []) refl refl (omega arith)
  act_keeps now (S6 O o M m r) (ThumbUp P) h k = keeps [] refl refl h
  act_keeps now (S6 O o M m r) FunctionDown h k =
      keeps (press M m ∷ []) refl (sym (characters_after_mark s O (Character M Plain ∷ []))) tt
  act_keeps now (S6 O o M m r) Tick h k = keeps [] refl refl h
  act_keeps now (S7 M m K k) (CharacterDown N) h below = third_keeps now M m K k (omega arith) N below
  act_keeps now (S7 M m K k) (CharacterUp N) h below =
      let Q = Kept g q now.0 (press M m ∷ press K k ∷ []) in
      both_ways Q (same_key N M)
      (both_ways Q (short_pair g (lag m k) (lag k now))
      (keeps [] refl refl (h.0, h.1, h.2, h.3, omega arith, h.4, omega arith, omega arith, h.6))
      (keeps (press M m ∷ press K k ∷ []) refl refl tt))
      (both_ways Q (same_key N K) (keeps (press M m ∷ press K k ∷ []) refl refl tt) (keeps [] refl refl h))
  act_keeps now (S7 M m K k) (ThumbDown P) h below = third_thumb_keeps now M m K k (omega arith) P
  act_keeps now (S7 M m K k) (ThumbUp P) h below = keeps [] refl refl h
  act_keeps now (S7 M m K k) FunctionDown h below = keeps (press M m ∷ press K k ∷ []) refl refl tt
  act_keeps now (S7 M m K k) Tick h below = keeps [] refl refl h
  act_keeps now (S8 M m K k r) (CharacterDown N) h below = third_keeps now M m K k (omega arith) N below
  act_keeps now (S8 M m K k r) (CharacterUp N) h below =
      let Q = Kept g q now.0 (press M m ∷ press K k ∷ []) in
      both_ways Q (same_key N K)
      (both_ways Q (short_of s.l (lag k r) (lag k now))
      (keeps (press M m ∷ press K k ∷ []) refl refl tt)
      (keeps (press M m ∷ press K k ∷ []) refl refl tt))
      (keeps [] refl refl h)
  act_keeps now (S8 M m K k r) (ThumbDown P) h below = third_thumb_keeps now M m K k (omega arith) P
  act_keeps now (S8 M m K k r) (ThumbUp P) h below = keeps [] refl refl h
  act_keeps now (S8 M m K k r) FunctionDown h below = keeps (press M m ∷ press K k ∷ []) refl refl tt
  act_keeps now (S8 M m K k r) Tick h below = keeps [] refl refl h

  -- the late line answers what waited
  late_keeps : (n : ℕ) (y : Resting) → Kept g q n (waiting y) (late g s y)
  late_keeps n S1 = keeps [] refl refl tt
  late_keeps n (S2 M m) = keeps (press M m ∷ []) refl refl tt
  late_keeps n (S3 O o) = keeps [] refl (sym (characters_mark s O)) tt
  late_keeps n (S4 M m O o) = keeps (press M m ∷ []) refl refl tt
  late_keeps n (S5 O o M m) = keeps (press M m ∷ []) refl refl tt
  late_keeps n (S6 O o M m r) = keeps (press M m ∷ []) refl (sym (characters_after_mark s O (Character M Plain ∷ []))) tt
  late_keeps n (S7 M m K k) = keeps (press M m ∷ press K k ∷ []) refl refl tt
  late_keeps n (S8 M m K k r) = keeps (press M m ∷ press K k ∷ []) refl refl tt

  -- a deadline that is not due keeps the stamps close
  not_due : (last now : Stamp) (y : Resting) → last.0 ≤ now.0 → Sound g q last.0 y → due_by now (deadline g s y) ≡ false
      → Sound g q now.0 y
  not_due last now S1 le h d = tt
  not_due last now (S2 M m) le h d = let n = leb-false (m.0 + alone g s M) now.0 d in let c = b.wait_S2 M in omega arith
  not_due last now (S3 O o) le h d = omega arith
  not_due last now (S4 M m O o) le h d =
      let n = leb-false (o.0 + FJ s (lag m o)) now.0 d in
      let c = b.wait_S4 (lag m o) (omega arith) in omega arith
  not_due last now (S5 O o M m) le h d =
      let n = leb-false (m.0 + FL s (min (lag o m) (B s))) now.0 d in
      let c = b.wait_S5 (lag o m) in omega arith
  not_due last now (S6 O o M m r) le h d = let n = leb-false (r.0 + lag m r) now.0 d in omega arith
  not_due last now (S7 M m K k) le h d =
      let n = leb-false (k.0 + g.t_s) now.0 d in
      (h.0, h.1, h.2, omega arith, h.4, omega arith, h.6)
  not_due last now (S8 M m K k r) le h d =
      let n = leb-false (r.0 + GN g.n (lag k r)) now.0 d in
      let c = b.wait_S8 (lag k r) (omega arith) in
      (h.0, h.1, h.2, h.3, omega arith, h.5, h.6, omega arith, h.8)

  pub settle_keeps : (last now : Stamp) (y : Resting) → last.0 ≤ now.0 → Sound g q last.0 y
      → Kept g q now.0 (waiting y) (settle g s now y)
  settle_keeps last now y le h =
      rw (settle_once g s now y)
      (by_test (Kept g q now.0 (waiting y)) (due_by now (deadline g s y)) (λ _. late_keeps now.0 y)
      (λ d. keeps [] refl refl (not_due last now y le h d)))

  -- what is late, then the event
  pub one_event_keeps : (last now : Stamp) (y : Resting) (i : Input) → last.0 ≤ now.0 → Sound g q last.0 y → KeyBelow i
      → Kept g q now.0 (waiting y ++ pressed now i) (one_event g s now y i)
  unfolding one_event
  one_event_keeps last now y i le h k =
      let first = settle_keeps last now y le h in
      let second = act_keeps now (settle g s now y).resting i first.sound k in
      keeps (first.given ++ second.given)
      (ap (λ (l : List Press). l ++ pressed now i) first.joined
      ∙ append_assoc first.given (waiting (settle g s now y).resting) (pressed now i)
      ∙ ap (λ (l : List Press). first.given ++ l) second.joined
      ∙ sym (append_assoc first.given second.given (waiting (act g s now (settle g s now y).resting i).resting)))
      (keys_of_append first.given second.given
      ∙ ap₂ (λ (k l : List Key). k ++ l) first.answers second.answers
      ∙ sym (characters_append (settle g s now y).items (act g s now (settle g s now y).resting i).items))
      second.sound
