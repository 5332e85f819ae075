-- At its turning stamps, and only there, a decision becomes another one: state by state, event by event.
use Prim.Native.Nat.{suc, ◌+◌, ◌-◌, ◌≤◌, ◌<◌, min}
use native.Mathlib.Nat.{min-le_left, min-le_right, le-min, lt_of_not-le}
use native.Mathlib.Decide.{dec_le}
use native.Mathlib.Omega.{arith}
use mathlib.Core.Bool.{Bool, true, false}
use mathlib.Core.List.{List, [], ◌∷◌, ◌++◌}
use mathlib.Core.Logic.{◌≢◌}
use mathlib.Core.Option.{none, some}
use mathlib.Core.Path.{◌≡◌, refl, ap, ◌∙◌}
use lib.Dec.{ltb, leb, eqb}
use borrow.Author.Tests.{le-leb, lt-leb, leb-true, leb-false, ltb-true, ltb-false}
use Rattle.choice.specs.Choice.{if◌then◌orelse◌}
use Rattle.rules.specs.Numbers.{short_overlap_time, B}
use Rattle.rules.specs.Pairs.{Lent, is_pair, same_key, GN}
use Rattle.rules.specs.States.{at, lag, later, deadline}
use Rattle.rules.specs.OneEvent.{Done, ◌leaving◌, nothing, plain, chord, together, mark, same_thumb, late as late_line, act, due_by}
use Rattle.rules.specs.declared.Stamp.{Stamp}
use Rattle.rules.specs.declared.Key.{Key}
use Rattle.rules.specs.declared.Thumb.{Thumb}
use Rattle.rules.specs.declared.Settings.{Settings}
use Rattle.rules.specs.declared.Resting.{Resting}
use Rattle.rules.specs.declared.Resting.TheVariants.{S1, S2, S3, S4, S5, S6, S7, S8}
use Rattle.rules.specs.declared.Input.{Input}
use Rattle.rules.specs.declared.Input.TheVariants.{CharacterDown, CharacterUp, ThumbDown, ThumbUp, FunctionDown, Tick}
use Rattle.choice.proofs.Choices.{by_test, either}
use Rattle.rules.proofs.Late.{late_and_event}
use Rattle.rules.proofs.Tests.{InRange, range_bounds, Good, good_bounds}
use Rattle.reasons.specs.Turning.{unstamped, decision, decided, since, turnings, turns_in, at_and_late, parts_before}
use Rattle.reasons.specs.Turning.{short_before, share_before}
use Rattle.reasons.specs.ReasonFacts.{Turns, TrueTurnings}
use Rattle.reasons.proofs.Items.{when_late, when_in_time}
use Rattle.reasons.proofs.Sides.{number, leave_another, commit_another, same_always, turns_once, turns_twice}
use Rattle.reasons.proofs.Gaps.{takes_thumb_before, takes_thumb_from, takes_character_before, takes_character_from}
use Rattle.reasons.proofs.Gaps.{parted_before, stays_from, not_short_from, short_before_J, short_before_L}
use Rattle.reasons.proofs.Gaps.{short_pair_before, not_short_pair_from, not_short_of_before, short_of_from}

-- what rests where an event acts on S1
abbrev newly : Input → Resting
newly (CharacterDown N) = S2 N (at 0)
newly (CharacterUp N) = S1
newly (ThumbDown P) = S3 P (at 0)
newly (ThumbUp P) = S1
newly FunctionDown = S1
newly Tick = S1

newly_rests : (g : Lent) (s : Settings) (t : Stamp) (i : Input) → unstamped (act g s t S1 i).resting ≡ newly i
newly_rests g s t (CharacterDown N) = refl
newly_rests g s t (CharacterUp N) = refl
newly_rests g s t (ThumbDown P) = refl
newly_rests g s t (ThumbUp P) = refl
newly_rests g s t FunctionDown = refl
newly_rests g s t Tick = refl

-- the decision where the state is late
abbrev overdue : Lent → Settings → Resting → Input → Done
overdue g s x i = (late_line g s x).items leaving newly i

module _ (g : Lent) (s : Settings) (x : Resting) (i : Input) where
  decided_in_time : (t : Stamp) → due_by t (deadline g s x) ≡ false → decided g s x i t ≡ decision (act g s t x i)
  decided_in_time t h = ap decision (when_in_time g s t x i h)

  decided_late : (t : Stamp) → due_by t (deadline g s x) ≡ true → decided g s x i t ≡ overdue g s x i
  decided_late t h =
      ap decision (when_late g s t x i h ∙ late_and_event g s t x i)
      ∙ ap (λ y. (late_line g s x).items leaving y) (newly_rests g s t i)

  -- without a deadline
  untimed : (p : Done) → deadline g s x ≡ none → ((t : Stamp) → decision (act g s t x i) ≡ p) → Turns (since x) [] (decided g s x i)
  untimed p e h = same_always (since x) (decided g s x i) p (λ t _. decided_in_time t (rw e) ∙ h t)

  module _ (d : Stamp) (is_deadline : deadline g s x ≡ some d) where
    in_time : (t : Stamp) → t.0 < d.0 → decided g s x i t ≡ decision (act g s t x i)
    in_time t h = decided_in_time t (rw is_deadline (lt-leb d.0 t.0 h))

    is_late : (t : Stamp) → d.0 ≤ t.0 → decided g s x i t ≡ overdue g s x i
    is_late t h = decided_late t (rw is_deadline (le-leb d.0 t.0 h))

    -- the event does what the line "late" does
    as_late : ((t : Stamp) → decision (act g s t x i) ≡ overdue g s x i) → Turns (since x) [] (decided g s x i)
    as_late h =
        same_always (since x) (decided g s x i) (overdue g s x i)
        (λ t _. either (due_by t (deadline g s x)) (decided_late t) (λ e. decided_in_time t e ∙ h t))

    -- the deadline turns it
    by_deadline : (p : Done) → ((t : Stamp) → decision (act g s t x i) ≡ p) → p ≢ overdue g s x i
        → Turns (since x) (d ∷ []) (decided g s x i)
    by_deadline p h differ =
        turns_once (since x) (decided g s x i) d p (overdue g s x i) (λ t _ b. in_time t b ∙ h t) (λ t _ b. is_late t b) differ

    -- the event changes nothing
    unmoved : ((t : Stamp) → act g s t x i ≡ (nothing leaving x)) → eqb (number (unstamped x)) (number (newly i)) ≡ false
        → Turns (since x) (d ∷ []) (decided g s x i)
    unmoved h differ = by_deadline (nothing leaving unstamped x) (λ t. ap decision (h t)) (leave_another _ _ differ)

    -- the stamp v turns it, or the deadline where that is sooner
    by_stamp : (v : Stamp) (p : Done)
        → ((t : Stamp) → (since x).0 ≤ t.0 → t.0 < v.0 → t.0 < d.0 → decision (act g s t x i) ≡ p)
        → ((t : Stamp) → (since x).0 ≤ t.0 → v.0 ≤ t.0 → decision (act g s t x i) ≡ overdue g s x i)
        → p ≢ overdue g s x i → Turns (since x) (at (min v.0 d.0) ∷ []) (decided g s x i)
    by_stamp v p before behind differ =
        turns_once (since x) (decided g s x i) (at (min v.0 d.0)) p (overdue g s x i)
        (λ t f b.
        let b-v : t.0 < v.0 = omega (arith, b, min-le_left v.0 d.0) in
        let b-d : t.0 < d.0 = omega (arith, b, min-le_right v.0 d.0) in
        in_time t b-d ∙ before t f b-v b-d)
        (λ t f b. from t f b)
        differ
      where
        past : (t : Stamp) → min v.0 d.0 ≤ t.0 → t.0 < d.0 → v.0 ≤ t.0
        past t b h = go (dec_le v.0 t.0)
          where
            go : Dec (v.0 ≤ t.0) → v.0 ≤ t.0
            go (yes j) = j
            go (no j) = absurd (omega (arith, le-min {k = suc t.0} (lt_of_not-le j) h))

        from : (t : Stamp) → (since x).0 ≤ t.0 → min v.0 d.0 ≤ t.0 → decided g s x i t ≡ overdue g s x i
        from t f b =
            either (leb d.0 t.0) (λ h. is_late t (leb-true d.0 t.0 h))
            (λ h. in_time t (leb-false d.0 t.0 h) ∙ behind t f (past t b (leb-false d.0 t.0 h)))

    -- a third key in S8: parted before v, then together until it is late
    by_both : (v : Stamp) (p q : Done) (late-only : List Stamp)
        → ((t : Stamp) → t.0 < v.0 → decision (act g s t x i) ≡ p)
        → ((t : Stamp) → v.0 ≤ t.0 → decision (act g s t x i) ≡ q)
        → p ≢ q → q ≢ overdue g s x i
        → (d.0 ≤ v.0 → Turns (since x) late-only (decided g s x i))
        → Turns (since x) (if ltb v.0 d.0 then v ∷ d ∷ [] orelse late-only) (decided g s x i)
    by_both v p q late-only before between differ differ-then otherwise = go (ltb v.0 d.0) refl
      where
        go : (b : Bool) → ltb v.0 d.0 ≡ b → Turns (since x) (if b then v ∷ d ∷ [] orelse late-only) (decided g s x i)
        go false h = otherwise (ltb-false v.0 d.0 h)
        go true h =
            let sooner : v.0 < d.0 = ltb-true v.0 d.0 h in
            turns_twice (since x) (decided g s x i) v d p q (overdue g s x i) sooner
            (λ t _ b. let b-d : t.0 < d.0 = omega arith in in_time t b-d ∙ before t b)
            (λ t _ b b-d. in_time t b-d ∙ between t b)
            (λ t _ b. is_late t b)
            differ differ-then

-- by the outcome of a test that the turning stamps ask
by_cases : {from : Stamp} {a b : List Stamp} {f : Stamp → Done} (t : Bool) → (t ≡ true → Turns from a f) → (t ≡ false → Turns from b f)
    → Turns from (if t then a orelse b) f
by_cases {from} {a} {b} {f} t h k = by_test (λ (l : List Stamp). Turns from l f) t h k

module _ (g : Lent) (s : Settings) where
  turns_S1 : (i : Input) → Turns (at 0) [] (decided g s S1 i)
  turns_S1 (CharacterDown N) = untimed g s S1 (CharacterDown N) (nothing leaving S2 N (at 0)) refl (λ t. refl)
  turns_S1 (CharacterUp N) = untimed g s S1 (CharacterUp N) (nothing leaving S1) refl (λ t. refl)
  turns_S1 (ThumbDown P) = untimed g s S1 (ThumbDown P) (nothing leaving S3 P (at 0)) refl (λ t. refl)
  turns_S1 (ThumbUp P) = untimed g s S1 (ThumbUp P) (nothing leaving S1) refl (λ t. refl)
  turns_S1 FunctionDown = untimed g s S1 FunctionDown (nothing leaving S1) refl (λ t. refl)
  turns_S1 Tick = untimed g s S1 Tick (nothing leaving S1) refl (λ t. refl)

  module _ (M : Key) (m : Stamp) where
    turns_S2 : (i : Input) → Turns m (turnings g s (S2 M m) i) (decided g s (S2 M m) i)
    turns_S2 (CharacterDown N) =
        by_cases (is_pair g.pairs M N)
        (λ h. by_deadline g s (S2 M m) (CharacterDown N) _ refl (nothing leaving S7 M (at 0) N (at 0)) (λ t. rw h) (leave_another _ _ refl))
        (λ h. as_late g s (S2 M m) (CharacterDown N) _ refl (λ t. rw h))
    turns_S2 (CharacterUp N) =
        by_cases (same_key N M)
        (λ h. as_late g s (S2 M m) (CharacterUp N) _ refl (λ t. rw h))
        (λ h. unmoved g s (S2 M m) (CharacterUp N) _ refl (λ t. rw h) refl)
    turns_S2 (ThumbDown P) =
        by_deadline g s (S2 M m) (ThumbDown P) _ refl (nothing leaving S4 M (at 0) P (at 0)) (λ t. refl) (leave_another _ _ refl)
    turns_S2 (ThumbUp P) =
        unmoved g s (S2 M m) (ThumbUp P) _ refl (λ t. refl) refl
    turns_S2 FunctionDown = as_late g s (S2 M m) FunctionDown _ refl (λ t. refl)
    turns_S2 Tick = unmoved g s (S2 M m) Tick _ refl (λ t. refl) refl

  module _ (O : Thumb) (o : Stamp) where
    -- no thumb is late with solo 0
    turns_S3_unmarked : (i : Input) → deadline g s (S3 O o) ≡ none → Turns o (turns_in g s none (S3 O o) i) (decided g s (S3 O o) i)
    turns_S3_unmarked (CharacterDown N) e = untimed g s (S3 O o) (CharacterDown N) (nothing leaving S5 O (at 0) N (at 0)) e (λ t. refl)
    turns_S3_unmarked (CharacterUp N) e = untimed g s (S3 O o) (CharacterUp N) (nothing leaving S3 O (at 0)) e (λ t. refl)
    turns_S3_unmarked (ThumbDown P) e =
        by_cases (same_thumb P O)
        (λ h. untimed g s (S3 O o) (ThumbDown P) (nothing leaving S3 O (at 0)) e (λ t. rw h))
        (λ h. untimed g s (S3 O o) (ThumbDown P) (mark s O leaving S3 P (at 0)) e (λ t. rw h))
    turns_S3_unmarked (ThumbUp P) e =
        by_cases (same_thumb P O)
        (λ h. untimed g s (S3 O o) (ThumbUp P) (mark s O leaving S1) e (λ t. rw h))
        (λ h. untimed g s (S3 O o) (ThumbUp P) (nothing leaving S3 O (at 0)) e (λ t. rw h))
    turns_S3_unmarked FunctionDown e = untimed g s (S3 O o) FunctionDown (mark s O leaving S1) e (λ t. refl)
    turns_S3_unmarked Tick e = untimed g s (S3 O o) Tick (nothing leaving S3 O (at 0)) e (λ t. refl)

    turns_S3_marked : (i : Input) (d : Stamp) → eqb s.solo 1 ≡ true → deadline g s (S3 O o) ≡ some d
        → Turns o (turns_in g s (some d) (S3 O o) i) (decided g s (S3 O o) i)
    unfolding mark
    turns_S3_marked (CharacterDown N) d y e =
        by_deadline g s (S3 O o) (CharacterDown N) d e (nothing leaving S5 O (at 0) N (at 0)) (λ t. refl) (leave_another _ _ refl)
    turns_S3_marked (CharacterUp N) d y e =
        unmoved g s (S3 O o) (CharacterUp N) d e (λ t. refl) refl
    turns_S3_marked (ThumbDown P) d y e =
        by_cases (same_thumb P O)
        (λ h. by_deadline g s (S3 O o) (ThumbDown P) d e (nothing leaving S3 O (at 0)) (λ t. rw h) (commit_another _ _ (rw y)))
        (λ h. as_late g s (S3 O o) (ThumbDown P) d e (λ t. rw h))
    turns_S3_marked (ThumbUp P) d y e =
        by_cases (same_thumb P O)
        (λ h. as_late g s (S3 O o) (ThumbUp P) d e (λ t. rw h))
        (λ h. unmoved g s (S3 O o) (ThumbUp P) d e (λ t. rw h) refl)
    turns_S3_marked FunctionDown d y e = as_late g s (S3 O o) FunctionDown d e (λ t. refl)
    turns_S3_marked Tick d y e = unmoved g s (S3 O o) Tick d e (λ t. refl) refl

    turns_S3 : (i : Input) → Turns o (turnings g s (S3 O o) i) (decided g s (S3 O o) i)
    turns_S3 i = go (eqb s.solo 1) refl
      where
        go : (b : Bool) → eqb s.solo 1 ≡ b
            → Turns o (turns_in g s (if b then some (later o (B s)) orelse none) (S3 O o) i) (decided g s (S3 O o) i)
        go true h = turns_S3_marked i (later o (B s)) h (rw h)
        go false h = turns_S3_unmarked i (rw h)

  module _ (r : InRange s) (M : Key) (m : Stamp) (O : Thumb) (o : Stamp) where
    abbrev in_S4 : Input → Type 0
    in_S4 i = Turns o (turnings g s (S4 M m O o) i) (decided g s (S4 M m O o) i)

    turns_S4 : (i : Input) → in_S4 i
    turns_S4 (CharacterDown N) =
        by_stamp g s (S4 M m O o) (CharacterDown N) _ refl (later o (lag m o)) (plain M leaving S5 O (at 0) N (at 0))
        (λ t f b _. rw (takes_thumb_before (lag m o) o t f b))
        (λ t f b. rw (takes_thumb_from (lag m o) o t b))
        (leave_another _ _ refl)
    turns_S4 (CharacterUp N) =
        by_cases (same_key N M)
        (λ h. by_stamp g s (S4 M m O o) (CharacterUp N) _ refl (later o short_overlap_time) (plain M leaving S3 O (at 0))
        (λ t f b d. rw (h, short_before_J s r (lag m o) o t f b d))
        (λ t f b. rw (h, not_short_from s.j (lag m o) o t b))
        (leave_another _ _ refl))
        (λ h. unmoved g s (S4 M m O o) (CharacterUp N) _ refl (λ t. rw h) refl)
    turns_S4 (ThumbDown P) =
        by_cases (same_thumb P O)
        (λ h. unmoved g s (S4 M m O o) (ThumbDown P) _ refl (λ t. rw h) refl)
        (λ h. as_late g s (S4 M m O o) (ThumbDown P) _ refl (λ t. rw h))
    turns_S4 (ThumbUp P) =
        by_cases (same_thumb P O)
        (λ h. as_late g s (S4 M m O o) (ThumbUp P) _ refl (λ t. rw h))
        (λ h. unmoved g s (S4 M m O o) (ThumbUp P) _ refl (λ t. rw h) refl)
    turns_S4 FunctionDown = as_late g s (S4 M m O o) FunctionDown _ refl (λ t. refl)
    turns_S4 Tick = unmoved g s (S4 M m O o) Tick _ refl (λ t. refl) refl

  module _ (r : InRange s) (O : Thumb) (o : Stamp) (M : Key) (m : Stamp) where
    abbrev in_S5 : Input → Type 0
    in_S5 i = Turns m (turnings g s (S5 O o M m) i) (decided g s (S5 O o M m) i)

    turns_S5 : (i : Input) → in_S5 i
    turns_S5 (CharacterDown N) = as_late g s (S5 O o M m) (CharacterDown N) _ refl (λ t. refl)
    turns_S5 (CharacterUp N) =
        by_cases (same_key N M)
        (λ h. as_late g s (S5 O o M m) (CharacterUp N) _ refl (λ t. rw h))
        (λ h. unmoved g s (S5 O o M m) (CharacterUp N) _ refl (λ t. rw h) refl)
    turns_S5 (ThumbDown P) =
        by_cases (same_thumb P O)
        (λ h. unmoved g s (S5 O o M m) (ThumbDown P) _ refl (λ t. rw h) refl)
        (λ h. by_stamp g s (S5 O o M m) (ThumbDown P) _ refl (later m (lag o m + 1)) (mark s O leaving S4 M (at 0) P (at 0))
        (λ t f b _. rw (h, takes_character_before (lag o m) m t b))
        (λ t f b. rw (h, takes_character_from (lag o m) m t b))
        (leave_another _ _ refl))
    turns_S5 (ThumbUp P) =
        by_cases (same_thumb P O)
        (λ h. by_stamp g s (S5 O o M m) (ThumbUp P) _ refl (later m short_overlap_time) (nothing leaving S6 O (at 0) M (at 0) (at 0))
        (λ t f b d. rw (h, short_before_L s r (lag o m) m t f b d))
        (λ t f b. rw (h, not_short_from s.l (lag o m) m t b))
        (leave_another _ _ refl))
        (λ h. unmoved g s (S5 O o M m) (ThumbUp P) _ refl (λ t. rw h) refl)
    turns_S5 FunctionDown = as_late g s (S5 O o M m) FunctionDown _ refl (λ t. refl)
    turns_S5 Tick = unmoved g s (S5 O o M m) Tick _ refl (λ t. refl) refl

  module _ (O : Thumb) (o : Stamp) (M : Key) (m r : Stamp) where
    abbrev S6_rests : Resting
    S6_rests = S6 O o M m r

    -- M with O is not what the line "late" commits
    chord_not_late : (y : Resting) → chord M O leaving y ≢ (mark s O ++ plain M) leaving y
    unfolding mark
    chord_not_late y = go (eqb s.solo 1) refl
      where
        go : (b : Bool) → eqb s.solo 1 ≡ b → chord M O leaving y ≢ (mark s O ++ plain M) leaving y
        go true h = commit_another _ _ (rw h)
        go false h = commit_another _ _ (rw h)

    turns_S6 : (i : Input) → Turns r (turnings g s S6_rests i) (decided g s S6_rests i)
    turns_S6 (CharacterDown N) =
        by_deadline g s S6_rests (CharacterDown N) _ refl (chord M O leaving S2 N (at 0)) (λ t. refl) (chord_not_late (S2 N (at 0)))
    turns_S6 (CharacterUp N) =
        either (same_key N M)
        (λ h. by_deadline g s S6_rests (CharacterUp N) _ refl (chord M O leaving S1) (λ t. rw h) (chord_not_late S1))
        (λ h. unmoved g s S6_rests (CharacterUp N) _ refl (λ t. rw h) refl)
    turns_S6 (ThumbDown P) =
        by_deadline g s S6_rests (ThumbDown P) _ refl (chord M O leaving S3 P (at 0)) (λ t. refl) (chord_not_late (S3 P (at 0)))
    turns_S6 (ThumbUp P) =
        unmoved g s S6_rests (ThumbUp P) _ refl (λ t. refl) refl
    turns_S6 FunctionDown = as_late g s S6_rests FunctionDown _ refl (λ t. refl)
    turns_S6 Tick = unmoved g s S6_rests Tick _ refl (λ t. refl) refl

  module _ (l : Good g) (M : Key) (m : Stamp) (K : Key) (k : Stamp) where
    abbrev S7_rests : Resting
    S7_rests = S7 M m K k

    turns_S7 : (i : Input) → Turns k (turnings g s S7_rests i) (decided g s S7_rests i)
    turns_S7 (CharacterDown N) =
        either (is_pair g.pairs K N)
        (λ h. by_stamp g s S7_rests (CharacterDown N) _ refl (parts_before m k) (plain M leaving S7 K (at 0) N (at 0))
        (λ t f b _. rw (parted_before (lag m k) k t b, h))
        (λ t f b. rw (stays_from (lag m k) k t b))
        (leave_another _ _ refl))
        (λ h. by_stamp g s S7_rests (CharacterDown N) _ refl (parts_before m k) ((plain M ++ plain K) leaving S2 N (at 0))
        (λ t f b _. rw (parted_before (lag m k) k t b, h))
        (λ t f b. rw (stays_from (lag m k) k t b))
        (commit_another _ _ refl))
    turns_S7 (CharacterUp N) =
        by_cases (same_key N M)
        (λ h. by_stamp g s S7_rests (CharacterUp N) _ refl (short_before g.n m k) (nothing leaving S8 M (at 0) K (at 0) (at 0))
        (λ t f b d. rw (h, short_pair_before g l (lag m k) k t f b d))
        (λ t f b. rw (h, not_short_pair_from g l (lag m k) k t b))
        (leave_another _ _ refl))
        (λ h. by_cases (same_key N K)
        (λ j. as_late g s S7_rests (CharacterUp N) _ refl (λ t. rw (h, j)))
        (λ j. unmoved g s S7_rests (CharacterUp N) _ refl (λ t. rw (h, j)) refl))
    turns_S7 (ThumbDown P) =
        by_stamp g s S7_rests (ThumbDown P) _ refl (parts_before m k) (plain M leaving S4 K (at 0) P (at 0))
        (λ t f b _. rw (parted_before (lag m k) k t b))
        (λ t f b. rw (stays_from (lag m k) k t b))
        (leave_another _ _ refl)
    turns_S7 (ThumbUp P) =
        unmoved g s S7_rests (ThumbUp P) _ refl (λ t. refl) refl
    turns_S7 FunctionDown = as_late g s S7_rests FunctionDown _ refl (λ t. refl)
    turns_S7 Tick = unmoved g s S7_rests Tick _ refl (λ t. refl) refl

  module _ (r : InRange s) (M : Key) (m : Stamp) (K : Key) (k r-up : Stamp) where
    abbrev S8_rests : Resting
    S8_rests = S8 M m K k r-up

    abbrev d_S8 : Stamp
    d_S8 = later r-up (GN g.n (lag k r-up))

    -- a third key, and the deadline comes first: nothing is parted by it but what is parted already
    late_first : (i : Input) (d : Stamp) (p : Done) → deadline g s S8_rests ≡ some d → d.0 ≤ (parts_before m k).0
        → ((t : Stamp) → t.0 < (parts_before m k).0 → decision (act g s t S8_rests i) ≡ p)
        → p ≢ overdue g s S8_rests i → Turns r-up (d ∷ []) (decided g s S8_rests i)
    late_first i d p e h before differ =
        turns_once r-up (decided g s S8_rests i) d p (overdue g s S8_rests i)
        (λ t _ b. let v : t.0 < (parts_before m k).0 = omega arith in in_time g s S8_rests i d e t b ∙ before t v)
        (λ t _ b. is_late g s S8_rests i d e t b)
        differ

    parted_anyway : (i : Input) (d : Stamp) → deadline g s S8_rests ≡ some d → d.0 ≤ (parts_before m k).0
        → ((t : Stamp) → t.0 < (parts_before m k).0 → decision (act g s t S8_rests i) ≡ overdue g s S8_rests i)
        → Turns r-up [] (decided g s S8_rests i)
    parted_anyway i d e h before =
        same_always r-up (decided g s S8_rests i) (overdue g s S8_rests i)
        (λ t _. either (leb d.0 t.0) (λ b. is_late g s S8_rests i d e t (leb-true d.0 t.0 b))
        (λ b.
        let c : t.0 < d.0 = leb-false d.0 t.0 b in
        let v : t.0 < (parts_before m k).0 = omega arith in
        in_time g s S8_rests i d e t c ∙ before t v))

    turns_S8 : (i : Input) → Turns r-up (turnings g s S8_rests i) (decided g s S8_rests i)
    turns_S8 (CharacterDown N) = third_letter (is_pair g.pairs K N) refl
      where
        third_letter : (b : Bool) → is_pair g.pairs K N ≡ b
            → Turns r-up (at_and_late (parts_before m k) (some d_S8) (if b then d_S8 ∷ [] orelse [])) (decided g s S8_rests (CharacterDown N))
        third_letter true h =
            by_both g s S8_rests (CharacterDown N) d_S8 refl (parts_before m k) (plain M leaving S7 K (at 0) N (at 0))
            (together g M K leaving S2 N (at 0)) (d_S8 ∷ [])
            (λ t b. rw (parted_before (lag m k) k t b, h))
            (λ t b. rw (stays_from (lag m k) k t b))
            (leave_another _ _ refl) (commit_another _ _ refl)
            (λ j. late_first (CharacterDown N) d_S8 (plain M leaving S7 K (at 0) N (at 0)) refl j
            (λ t b. rw (parted_before (lag m k) k t b, h)) (leave_another _ _ refl))
        third_letter false h =
            by_both g s S8_rests (CharacterDown N) d_S8 refl (parts_before m k) ((plain M ++ plain K) leaving S2 N (at 0))
            (together g M K leaving S2 N (at 0)) []
            (λ t b. rw (parted_before (lag m k) k t b, h))
            (λ t b. rw (stays_from (lag m k) k t b))
            (commit_another _ _ refl) (commit_another _ _ refl)
            (λ j. parted_anyway (CharacterDown N) d_S8 refl j (λ t b. rw (parted_before (lag m k) k t b, h)))
    turns_S8 (CharacterUp N) =
        by_cases (same_key N K)
        (λ h. by_stamp g s S8_rests (CharacterUp N) _ refl (share_before s.l k r-up) (together g M K leaving S1)
        (λ t f b d. rw (h, not_short_of_before s r (lag k r-up) k t b))
        (λ t f b. rw (h, short_of_from s r (lag k r-up) k t b))
        (commit_another _ _ refl))
        (λ h. unmoved g s S8_rests (CharacterUp N) _ refl (λ t. rw h) refl)
    turns_S8 (ThumbDown P) =
        by_both g s S8_rests (ThumbDown P) _ refl (parts_before m k) (plain M leaving S4 K (at 0) P (at 0))
        (together g M K leaving S3 P (at 0)) _
        (λ t b. rw (parted_before (lag m k) k t b))
        (λ t b. rw (stays_from (lag m k) k t b))
        (leave_another _ _ refl) (commit_another _ _ refl)
        (λ h. late_first (ThumbDown P) _ (plain M leaving S4 K (at 0) P (at 0)) refl h (λ t b. rw (parted_before (lag m k) k t b))
        (leave_another _ _ refl))
    turns_S8 (ThumbUp P) =
        unmoved g s S8_rests (ThumbUp P) _ refl (λ t. refl) refl
    turns_S8 FunctionDown = by_deadline g s S8_rests FunctionDown _ refl (together g M K leaving S1) (λ t. refl) (commit_another _ _ refl)
    turns_S8 Tick =
        unmoved g s S8_rests Tick _ refl (λ t. refl) refl

pub true_turnings : TrueTurnings
true_turnings g good s in-r S1 i = turns_S1 g s i
true_turnings g good s in-r (S2 M m) i = turns_S2 g s M m i
true_turnings g good s in-r (S3 O o) i = turns_S3 g s O o i
true_turnings g good s in-r (S4 M m O o) i = turns_S4 g s (range_bounds s in-r) M m O o i
true_turnings g good s in-r (S5 O o M m) i = turns_S5 g s (range_bounds s in-r) O o M m i
true_turnings g good s in-r (S6 O o M m r) i = turns_S6 g s O o M m r i
true_turnings g good s in-r (S7 M m K k) i = turns_S7 g s (good_bounds g good) M m K k i
true_turnings g good s in-r (S8 M m K k r) i = turns_S8 g s (range_bounds s in-r) M m K k r i
