-- A waiting key that was not released stays held: an action leaves nothing waiting but what waited and what is pressed, and an up of a
-- waiting key commits it, or releases it.
use Prim.Native.Nat.{ℕ}
use mathlib.Core.Bool.{true, false≢true}
use mathlib.Core.List.{List, [], ◌∷◌}
use mathlib.Core.Logic.{◌≢◌}
use mathlib.Core.Path.{◌≡◌, sym, ◌∙◌, ap, subst}
use lib.Dec.{eqb}
use borrow.Author.Tests.{eqb-true, eqb-false}
use Rattle.rules.specs.Held.{is_held, hold, release}
use Rattle.rules.specs.Pairs.{Lent, is_pair, lent_good}
use Rattle.rules.specs.States.{lag, deadline, pair_lent}
use Rattle.rules.specs.OneEvent.{Done, same_thumb, same_key, second_character_takes_thumb, second_thumb_takes_character}
use Rattle.rules.specs.OneEvent.{short_overlap, pair_stays, short_pair, short_of, third, third_thumb, act, due_by, settle, one_event}
use Rattle.rules.specs.GivenBack.{held_after}
use Rattle.rules.specs.Sequences.{Press}
use Rattle.rules.specs.HeldRules.{AllHeld, not_released}
use Rattle.rules.specs.declared.Stamp.{Stamp}
use Rattle.rules.specs.declared.Key.{Key}
use Rattle.rules.specs.declared.Thumb.{Thumb}
use Rattle.rules.specs.declared.Settings.{Settings}
use Rattle.rules.specs.declared.Resting.{Resting}
use Rattle.rules.specs.declared.Resting.TheVariants.{S1, S2, S3, S4, S5, S6, S7, S8}
use Rattle.rules.specs.declared.Input.{Input}
use Rattle.rules.specs.declared.Input.TheVariants.{CharacterDown, CharacterUp, ThumbDown, ThumbUp, FunctionDown, Tick}
use Rattle.choice.proofs.Choices.{both_ways, by_test, either}
use Rattle.rules.proofs.Held.{held_key, held_facts}
use Rattle.rules.proofs.Tests.{good_bounds}
use Rattle.rules.proofs.Pairs.{pair_facts}
use Rattle.rules.proofs.Steps.{pressed, KeyBelow}
use Rattle.rules.proofs.Late.{late_leaves_S1, settle_once}

-- key k is not among them
abbrev Without : Key → List Press → Type 0
Without k [] = Unit {0}
Without k (p ∷ ps) = (p.key.0 ≢ k.0) × Without k ps

hold_keeps_all : (h : ℕ) (k : Key) (l : List Press) → AllHeld h l → AllHeld (hold h k) l
hold_keeps_all h k [] p = tt
hold_keeps_all h k (x ∷ l) p = (
  either (eqb x.key.0 k.0)
      (λ t.
      let same : x.key ≡ k = ap (λ (n : ℕ). record { 0 = n }) (eqb-true _ _ t) in
      subst (λ (j : Key). is_held (hold h k) j ≡ true) (sym same) ((held_facts h k).holds (held_key h k (rw same at p.0))))
      (λ f. (held_facts h k).hold_leaves x.key (eqb-false _ _ f) ∙ p.0),
  hold_keeps_all h k l p.1,
)

release_keeps_all : (h : ℕ) (k : Key) (l : List Press) → Without k l → AllHeld h l → AllHeld (release h k) l
release_keeps_all h k [] w p = tt
release_keeps_all h k (x ∷ l) w p = ((held_facts h k).release_leaves x.key w.0 ∙ p.0, release_keeps_all h k l w.1 p.1)

-- of what an action leaves
abbrev LeavesHeld : ℕ → Done → Type 0
LeavesHeld h d = AllHeld h (not_released d.resting)

abbrev LeavesWithout : Key → Done → Type 0
LeavesWithout N d = Without N (not_released d.resting)

-- Nothing waits but what waited and what is pressed: if all that is held, so is what waits then.
module _ (g : Lent) (s : Settings) (now : Stamp) (h : ℕ) where
  third_held : (M : Key) (m : Stamp) (K : Key) (k : Stamp) (N : Key) → is_held h K ≡ true → is_held h N ≡ true
      → LeavesHeld h (third g now M m K k N)
  third_held M m K k N p q =
      both_ways (LeavesHeld h) (pair_stays (lag m k) (lag k now)) (q, tt)
      (both_ways (LeavesHeld h) (is_pair g.pairs K N) (p, (q, tt)) (q, tt))

  third_thumb_held : (M : Key) (m : Stamp) (K : Key) (k : Stamp) (P : Thumb) → is_held h K ≡ true
      → LeavesHeld h (third_thumb g now M m K k P)
  third_thumb_held M m K k P p = both_ways (LeavesHeld h) (pair_stays (lag m k) (lag k now)) tt (p, tt)

  act_held : (y : Resting) (i : Input) → AllHeld h (not_released y) → AllHeld h (pressed now i) → LeavesHeld h (act g s now y i)
  act_held S1 (CharacterDown N) p q = q
  act_held S1 (CharacterUp N) p q = tt
  act_held S1 (ThumbDown P) p q = tt
  act_held S1 (ThumbUp P) p q = tt
  act_held S1 FunctionDown p q = tt
  act_held S1 Tick p q = tt
  act_held (S2 M m) (CharacterDown N) p q = both_ways (LeavesHeld h) (is_pair g.pairs M N) (p.0, q) q
  act_held (S2 M m) (CharacterUp N) p q = both_ways (LeavesHeld h) (same_key N M) tt p
  act_held (S2 M m) (ThumbDown P) p q = p
  act_held (S2 M m) (ThumbUp P) p q = p
  act_held (S2 M m) FunctionDown p q = tt
  act_held (S2 M m) Tick p q = p
  act_held (S3 O o) (CharacterDown N) p q = q
  act_held (S3 O o) (CharacterUp N) p q = tt
  act_held (S3 O o) (ThumbDown P) p q = both_ways (LeavesHeld h) (same_thumb P O) tt tt
  act_held (S3 O o) (ThumbUp P) p q = both_ways (LeavesHeld h) (same_thumb P O) tt tt
  act_held (S3 O o) FunctionDown p q = tt
  act_held (S3 O o) Tick p q = tt
  act_held (S4 M m O o) (CharacterDown N) p q =
      both_ways (LeavesHeld h) (second_character_takes_thumb (lag m o) (lag o now)) q q
  act_held (S4 M m O o) (CharacterUp N) p q =
      both_ways (LeavesHeld h) (same_key N M) (both_ways (LeavesHeld h) (short_overlap s.j (lag m o) (lag o now)) tt tt) p
  act_held (S4 M m O o) (ThumbDown P) p q = both_ways (LeavesHeld h) (same_thumb P O) p tt
  act_held (S4 M m O o) (ThumbUp P) p q = both_ways (LeavesHeld h) (same_thumb P O) tt p
  act_held (S4 M m O o) FunctionDown p q = tt
  act_held (S4 M m O o) Tick p q = p
  act_held (S5 O o M m) (CharacterDown N) p q = q
  act_held (S5 O o M m) (CharacterUp N) p q = both_ways (LeavesHeld h) (same_key N M) tt p
  act_held (S5 O o M m) (ThumbDown P) p q =
      both_ways (LeavesHeld h) (same_thumb P O) p
      (both_ways (LeavesHeld h) (second_thumb_takes_character (lag o m) (lag m now)) p tt)
  act_held (S5 O o M m) (ThumbUp P) p q =
      both_ways (LeavesHeld h) (same_thumb P O) (both_ways (LeavesHeld h) (short_overlap s.l (lag o m) (lag m now)) p tt) p
  act_held (S5 O o M m) FunctionDown p q = tt
  act_held (S5 O o M m) Tick p q = p
  act_held (S6 O o M m r) (CharacterDown N) p q = q
  act_held (S6 O o M m r) (CharacterUp N) p q = both_ways (LeavesHeld h) (same_key N M) tt p
  act_held (S6 O o M m r) (ThumbDown P) p q = tt
  act_held (S6 O o M m r) (ThumbUp P) p q = p
  act_held (S6 O o M m r) FunctionDown p q = tt
  act_held (S6 O o M m r) Tick p q = p
  act_held (S7 M m K k) (CharacterDown N) p q = third_held M m K k N p.1.0 q.0
  act_held (S7 M m K k) (CharacterUp N) p q =
      both_ways (LeavesHeld h) (same_key N M) (both_ways (LeavesHeld h) (short_pair g (lag m k) (lag k now)) p.1 tt)
      (both_ways (LeavesHeld h) (same_key N K) tt p)
  act_held (S7 M m K k) (ThumbDown P) p q = third_thumb_held M m K k P p.1.0
  act_held (S7 M m K k) (ThumbUp P) p q = p
  act_held (S7 M m K k) FunctionDown p q = tt
  act_held (S7 M m K k) Tick p q = p
  act_held (S8 M m K k r) (CharacterDown N) p q = third_held M m K k N p.0 q.0
  act_held (S8 M m K k r) (CharacterUp N) p q =
      both_ways (LeavesHeld h) (same_key N K) (both_ways (LeavesHeld h) (short_of s.l (lag k r) (lag k now)) tt tt) p
  act_held (S8 M m K k r) (ThumbDown P) p q = third_thumb_held M m K k P p.0
  act_held (S8 M m K k r) (ThumbUp P) p q = p
  act_held (S8 M m K k r) FunctionDown p q = tt
  act_held (S8 M m K k r) Tick p q = p

-- the two keys of a pair are not one key
pair_differs : (g : Lent) → lent_good g ≡ true → (M K : Key) → is_pair g.pairs M K ≡ true → K.0 ≢ M.0
pair_differs g good M K pair e =
    let same : K ≡ M = ap (λ (n : ℕ). record { 0 = n }) e in
    false≢true (sym ((pair_facts g.pairs M M).not_itself (good_bounds g good).each) ∙ (rw same at pair))

-- an up of key N leaves no N waiting that was not released
module _ (g : Lent) (good : lent_good g ≡ true) (s : Settings) (now : Stamp) (N : Key) where
  up_commits : (y : Resting) → pair_lent g y ≡ true → LeavesWithout N (act g s now y (CharacterUp N))
  unfolding same_key
  up_commits S1 pair = tt
  up_commits (S2 M m) pair = by_test (LeavesWithout N) (same_key N M) (λ _. tt) (λ f. (λ e. eqb-false _ _ f (sym e), tt))
  up_commits (S3 O o) pair = tt
  up_commits (S4 M m O o) pair =
      by_test (LeavesWithout N) (same_key N M)
      (λ _. both_ways (LeavesWithout N) (short_overlap s.j (lag m o) (lag o now)) tt tt)
      (λ f. (λ e. eqb-false _ _ f (sym e), tt))
  up_commits (S5 O o M m) pair = by_test (LeavesWithout N) (same_key N M) (λ _. tt) (λ f. (λ e. eqb-false _ _ f (sym e), tt))
  up_commits (S6 O o M m r) pair = by_test (LeavesWithout N) (same_key N M) (λ _. tt) (λ f. (λ e. eqb-false _ _ f (sym e), tt))
  up_commits (S7 M m K k) pair =
      by_test (LeavesWithout N) (same_key N M)
      (λ t. both_ways (LeavesWithout N) (short_pair g (lag m k) (lag k now))
      (λ e. pair_differs g good M K pair (e ∙ eqb-true _ _ t), tt) tt)
      (λ f. by_test (LeavesWithout N) (same_key N K) (λ _. tt)
      (λ j. (λ e. eqb-false _ _ f (sym e), (λ e. eqb-false _ _ j (sym e), tt))))
  up_commits (S8 M m K k r) pair =
      by_test (LeavesWithout N) (same_key N K)
      (λ _. both_ways (LeavesWithout N) (short_of s.l (lag k r) (lag k now)) tt tt)
      (λ f. (λ e. eqb-false _ _ f (sym e), tt))

module _ (g : Lent) (good : lent_good g ≡ true) (s : Settings) (now : Stamp) where
  -- what is late goes, and with it all that waits
  settle_held : (y : Resting) (h : ℕ) → AllHeld h (not_released y) → LeavesHeld h (settle g s now y)
  settle_held y h p =
      rw (settle_once g s now y) (both_ways (LeavesHeld h) (due_by now (deadline g s y)) (rw (late_leaves_S1 g s y) tt) p)

  settle_lent : (y : Resting) → pair_lent g y ≡ true → pair_lent g (settle g s now y).resting ≡ true
  settle_lent y p =
      rw (settle_once g s now y)
      (both_ways (λ (d : Done). pair_lent g d.resting ≡ true) (due_by now (deadline g s y)) (rw (late_leaves_S1 g s y)) p)

  pub still_held : (y : Resting) → pair_lent g y ≡ true → (h : ℕ) (i : Input) → KeyBelow i → AllHeld h (not_released y)
      → AllHeld (held_after h i) (not_released (one_event g s now y i).resting)
  unfolding one_event
  still_held y pair h (CharacterDown N) k p =
      act_held g s now (hold h N) (settle g s now y).resting (CharacterDown N)
      (hold_keeps_all h N (not_released (settle g s now y).resting) (settle_held y h p)) ((held_facts h N).holds k, tt)
  still_held y pair h (CharacterUp N) k p =
      let x = (settle g s now y).resting in
      release_keeps_all h N (not_released (act g s now x (CharacterUp N)).resting) (up_commits g good s now N x (settle_lent y pair))
      (act_held g s now h x (CharacterUp N) (settle_held y h p) tt)
  still_held y pair h (ThumbDown P) k p = act_held g s now h (settle g s now y).resting (ThumbDown P) (settle_held y h p) tt
  still_held y pair h (ThumbUp P) k p = act_held g s now h (settle g s now y).resting (ThumbUp P) (settle_held y h p) tt
  still_held y pair h FunctionDown k p = act_held g s now h (settle g s now y).resting FunctionDown (settle_held y h p) tt
  still_held y pair h Tick k p = act_held g s now h (settle g s now y).resting Tick (settle_held y h p) tt
