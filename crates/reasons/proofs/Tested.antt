-- What a line compares decides, before the deadline: state by state, event by event.
use Prim.Native.Nat.{ℕ}
use mathlib.Core.Bool.{Bool, true, false, true≢false}
use mathlib.Core.List.{[], ◌++◌}
use mathlib.Core.Logic.{◌≢◌}
use mathlib.Core.Path.{◌≡◌, refl, sym, ap, ◌∙◌}
use Rattle.rules.specs.Pairs.{Lent, is_pair, same_key}
use Rattle.rules.specs.States.{at, lag}
use Rattle.rules.specs.OneEvent.{Done, ◌leaving◌, nothing, plain, chord, together, mark, same_thumb, act}
use Rattle.rules.specs.OneEvent.{second_character_takes_thumb, second_thumb_takes_character, short_overlap, pair_stays}
use Rattle.rules.specs.OneEvent.{short_pair, short_of}
use Rattle.rules.specs.declared.Stamp.{Stamp}
use Rattle.rules.specs.declared.Settings.{Settings}
use Rattle.rules.specs.declared.Resting.{Resting}
use Rattle.rules.specs.declared.Resting.TheVariants.{S1, S2, S3, S4, S5, S6, S7, S8}
use Rattle.rules.specs.declared.Input.{Input}
use Rattle.rules.specs.declared.Input.TheVariants.{CharacterDown, CharacterUp, ThumbDown, ThumbUp, FunctionDown, Tick}
use Rattle.choice.proofs.Choices.{either}
use Rattle.reasons.specs.Turning.{decision}
use Rattle.reasons.specs.Reason.{comes_out, compared}
use Rattle.reasons.specs.ReasonFacts.{TrueTestStatement}
use Rattle.reasons.proofs.Items.{when_in_time}
use Rattle.reasons.proofs.Sides.{leave_another, commit_another}

-- a decision by a test that is made at each stamp
record By (decides : Stamp → Done) (test : Stamp → Bool) : Type 0 where
  same : (t u : Stamp) → test t ≡ test u → decides t ≡ decides u
  other : (t u : Stamp) → test t ≡ true → test u ≡ false → decides t ≢ decides u

untested : {f : Stamp → Done} {c : Stamp → Bool} (p : Done) → ((t : Stamp) → f t ≡ p) → ((t : Stamp) → c t ≡ true) → By f c
untested p h k = record { same = λ t u _. h t ∙ sym (h u); other = λ t u _ e. absurd (true≢false (sym (k u) ∙ e)) }

tested : {f : Stamp → Done} {c : Stamp → Bool} (test : Stamp → Bool) (p q : Done) → ((t : Stamp) → c t ≡ test t)
    → ((t : Stamp) → test t ≡ true → f t ≡ p) → ((t : Stamp) → test t ≡ false → f t ≡ q) → p ≢ q → By f c
tested {f} {c} test p q is yes_way no_way differ =
    record {
      same = λ t u e. go (test t) (test u) refl refl (sym (is t) ∙ e ∙ is u);
      other = λ t u e k i. differ (sym (yes_way t (sym (is t) ∙ e)) ∙ i ∙ no_way u (sym (is u) ∙ k));
    }
  where
    go : {t u : Stamp} (b d : Bool) → test t ≡ b → test u ≡ d → b ≡ d → f t ≡ f u
    go {t} {u} true true h k e = yes_way t h ∙ sym (yes_way u k)
    go true false h k e = absurd (true≢false e)
    go false true h k e = absurd (true≢false (sym e))
    go {t} {u} false false h k e = no_way t h ∙ sym (no_way u k)

-- of what is lent the test reads N and T_s
short_reads : (g : Lent) (a b : ℕ) → short_pair (record { pairs = []; t_s = g.t_s; n = g.n }) a b ≡ short_pair g a b
unfolding short_pair
short_reads g a b = refl

module _ (g : Lent) (s : Settings) where
  abbrev ByTest : Resting → Input → Type 0
  ByTest x i = By (λ t. decision (act g s t x i)) (λ t. comes_out (compared g s t x i))

  in_S1 : (i : Input) → ByTest S1 i
  in_S1 (CharacterDown N) = untested (nothing leaving S2 N (at 0)) (λ t. refl) (λ t. refl)
  in_S1 (CharacterUp N) = untested (nothing leaving S1) (λ t. refl) (λ t. refl)
  in_S1 (ThumbDown P) = untested (nothing leaving S3 P (at 0)) (λ t. refl) (λ t. refl)
  in_S1 (ThumbUp P) = untested (nothing leaving S1) (λ t. refl) (λ t. refl)
  in_S1 FunctionDown = untested (nothing leaving S1) (λ t. refl) (λ t. refl)
  in_S1 Tick = untested (nothing leaving S1) (λ t. refl) (λ t. refl)

  in_S2 : (M : _) (m : Stamp) (i : Input) → ByTest (S2 M m) i
  in_S2 M m (CharacterDown N) =
      either (is_pair g.pairs M N) (λ h. untested (nothing leaving S7 M (at 0) N (at 0)) (λ t. rw h) (λ t. refl))
      (λ h. untested (plain M leaving S2 N (at 0)) (λ t. rw h) (λ t. refl))
  in_S2 M m (CharacterUp N) =
      either (same_key N M) (λ h. untested (plain M leaving S1) (λ t. rw h) (λ t. refl))
      (λ h. untested (nothing leaving S2 M (at 0)) (λ t. rw h) (λ t. refl))
  in_S2 M m (ThumbDown P) = untested (nothing leaving S4 M (at 0) P (at 0)) (λ t. refl) (λ t. refl)
  in_S2 M m (ThumbUp P) = untested (nothing leaving S2 M (at 0)) (λ t. refl) (λ t. refl)
  in_S2 M m FunctionDown = untested (plain M leaving S1) (λ t. refl) (λ t. refl)
  in_S2 M m Tick = untested (nothing leaving S2 M (at 0)) (λ t. refl) (λ t. refl)

  in_S3 : (O : _) (o : Stamp) (i : Input) → ByTest (S3 O o) i
  in_S3 O o (CharacterDown N) = untested (nothing leaving S5 O (at 0) N (at 0)) (λ t. refl) (λ t. refl)
  in_S3 O o (CharacterUp N) = untested (nothing leaving S3 O (at 0)) (λ t. refl) (λ t. refl)
  in_S3 O o (ThumbDown P) =
      either (same_thumb P O) (λ h. untested (nothing leaving S3 O (at 0)) (λ t. rw h) (λ t. refl))
      (λ h. untested (mark s O leaving S3 P (at 0)) (λ t. rw h) (λ t. refl))
  in_S3 O o (ThumbUp P) =
      either (same_thumb P O) (λ h. untested (mark s O leaving S1) (λ t. rw h) (λ t. refl))
      (λ h. untested (nothing leaving S3 O (at 0)) (λ t. rw h) (λ t. refl))
  in_S3 O o FunctionDown = untested (mark s O leaving S1) (λ t. refl) (λ t. refl)
  in_S3 O o Tick = untested (nothing leaving S3 O (at 0)) (λ t. refl) (λ t. refl)

  in_S4 : (M : _) (m : Stamp) (O : _) (o : Stamp) (i : Input) → ByTest (S4 M m O o) i
  in_S4 M m O o (CharacterDown N) =
      tested (λ t. second_character_takes_thumb (lag m o) (lag o t)) (plain M leaving S5 O (at 0) N (at 0)) (chord M O leaving S2 N (at 0))
      (λ t. refl) (λ t e. rw e) (λ t e. rw e) (leave_another _ _ refl)
  in_S4 M m O o (CharacterUp N) =
      either (same_key N M)
      (λ h. tested (λ t. short_overlap s.j (lag m o) (lag o t)) (plain M leaving S3 O (at 0)) (chord M O leaving S1)
      (λ t. rw h) (λ t e. rw (h, e)) (λ t e. rw (h, e)) (leave_another _ _ refl))
      (λ h. untested (nothing leaving S4 M (at 0) O (at 0)) (λ t. rw h) (λ t. rw h))
  in_S4 M m O o (ThumbDown P) =
      either (same_thumb P O) (λ h. untested (nothing leaving S4 M (at 0) O (at 0)) (λ t. rw h) (λ t. refl))
      (λ h. untested (chord M O leaving S3 P (at 0)) (λ t. rw h) (λ t. refl))
  in_S4 M m O o (ThumbUp P) =
      either (same_thumb P O) (λ h. untested (chord M O leaving S1) (λ t. rw h) (λ t. refl))
      (λ h. untested (nothing leaving S4 M (at 0) O (at 0)) (λ t. rw h) (λ t. refl))
  in_S4 M m O o FunctionDown = untested (chord M O leaving S1) (λ t. refl) (λ t. refl)
  in_S4 M m O o Tick = untested (nothing leaving S4 M (at 0) O (at 0)) (λ t. refl) (λ t. refl)

  in_S5 : (O : _) (o : Stamp) (M : _) (m : Stamp) (i : Input) → ByTest (S5 O o M m) i
  in_S5 O o M m (CharacterDown N) = untested (chord M O leaving S2 N (at 0)) (λ t. refl) (λ t. refl)
  in_S5 O o M m (CharacterUp N) =
      either (same_key N M) (λ h. untested (chord M O leaving S1) (λ t. rw h) (λ t. refl))
      (λ h. untested (nothing leaving S5 O (at 0) M (at 0)) (λ t. rw h) (λ t. refl))
  in_S5 O o M m (ThumbDown P) =
      either (same_thumb P O) (λ h. untested (nothing leaving S5 O (at 0) M (at 0)) (λ t. rw h) (λ t. rw h))
      (λ h. tested (λ t. second_thumb_takes_character (lag o m) (lag m t)) (mark s O leaving S4 M (at 0) P (at 0))
      (chord M O leaving S3 P (at 0))
      (λ t. rw h) (λ t e. rw (h, e)) (λ t e. rw (h, e)) (leave_another _ _ refl))
  in_S5 O o M m (ThumbUp P) =
      either (same_thumb P O)
      (λ h. tested (λ t. short_overlap s.l (lag o m) (lag m t)) (nothing leaving S6 O (at 0) M (at 0) (at 0)) (chord M O leaving S1)
      (λ t. rw h) (λ t e. rw (h, e)) (λ t e. rw (h, e)) (leave_another _ _ refl))
      (λ h. untested (nothing leaving S5 O (at 0) M (at 0)) (λ t. rw h) (λ t. rw h))
  in_S5 O o M m FunctionDown = untested (chord M O leaving S1) (λ t. refl) (λ t. refl)
  in_S5 O o M m Tick = untested (nothing leaving S5 O (at 0) M (at 0)) (λ t. refl) (λ t. refl)

  in_S6 : (O : _) (o : Stamp) (M : _) (m r : Stamp) (i : Input) → ByTest (S6 O o M m r) i
  in_S6 O o M m r (CharacterDown N) = untested (chord M O leaving S2 N (at 0)) (λ t. refl) (λ t. refl)
  in_S6 O o M m r (CharacterUp N) =
      either (same_key N M) (λ h. untested (chord M O leaving S1) (λ t. rw h) (λ t. refl))
      (λ h. untested (nothing leaving S6 O (at 0) M (at 0) (at 0)) (λ t. rw h) (λ t. refl))
  in_S6 O o M m r (ThumbDown P) = untested (chord M O leaving S3 P (at 0)) (λ t. refl) (λ t. refl)
  in_S6 O o M m r (ThumbUp P) = untested (nothing leaving S6 O (at 0) M (at 0) (at 0)) (λ t. refl) (λ t. refl)
  in_S6 O o M m r FunctionDown = untested ((mark s O ++ plain M) leaving S1) (λ t. refl) (λ t. refl)
  in_S6 O o M m r Tick = untested (nothing leaving S6 O (at 0) M (at 0) (at 0)) (λ t. refl) (λ t. refl)

  in_S7 : (M : _) (m : Stamp) (K : _) (k : Stamp) (i : Input) → ByTest (S7 M m K k) i
  in_S7 M m K k (CharacterDown N) =
      either (is_pair g.pairs K N)
      (λ h. tested (λ t. pair_stays (lag m k) (lag k t)) (together g M K leaving S2 N (at 0)) (plain M leaving S7 K (at 0) N (at 0))
      (λ t. refl) (λ t e. rw (h, e)) (λ t e. rw (h, e)) (leave_another _ _ refl))
      (λ h. tested (λ t. pair_stays (lag m k) (lag k t)) (together g M K leaving S2 N (at 0)) ((plain M ++ plain K) leaving S2 N (at 0))
      (λ t. refl) (λ t e. rw (h, e)) (λ t e. rw (h, e)) (commit_another _ _ refl))
  in_S7 M m K k (CharacterUp N) =
      either (same_key N M)
      (λ h. tested (λ t. short_pair g (lag m k) (lag k t)) (nothing leaving S8 M (at 0) K (at 0) (at 0)) (together g M K leaving S1)
      (λ t. rw h (short_reads g (lag m k) (lag k t))) (λ t e. rw (h, e)) (λ t e. rw (h, e)) (leave_another _ _ refl))
      (λ h. either (same_key N K) (λ j. untested (together g M K leaving S1) (λ t. rw (h, j)) (λ t. rw h))
      (λ j. untested (nothing leaving S7 M (at 0) K (at 0)) (λ t. rw (h, j)) (λ t. rw h)))
  in_S7 M m K k (ThumbDown P) =
      tested (λ t. pair_stays (lag m k) (lag k t)) (together g M K leaving S3 P (at 0)) (plain M leaving S4 K (at 0) P (at 0))
      (λ t. refl) (λ t e. rw e) (λ t e. rw e) (leave_another _ _ refl)
  in_S7 M m K k (ThumbUp P) = untested (nothing leaving S7 M (at 0) K (at 0)) (λ t. refl) (λ t. refl)
  in_S7 M m K k FunctionDown = untested (together g M K leaving S1) (λ t. refl) (λ t. refl)
  in_S7 M m K k Tick = untested (nothing leaving S7 M (at 0) K (at 0)) (λ t. refl) (λ t. refl)

  in_S8 : (M : _) (m : Stamp) (K : _) (k r : Stamp) (i : Input) → ByTest (S8 M m K k r) i
  in_S8 M m K k r (CharacterDown N) =
      either (is_pair g.pairs K N)
      (λ h. tested (λ t. pair_stays (lag m k) (lag k t)) (together g M K leaving S2 N (at 0)) (plain M leaving S7 K (at 0) N (at 0))
      (λ t. refl) (λ t e. rw (h, e)) (λ t e. rw (h, e)) (leave_another _ _ refl))
      (λ h. tested (λ t. pair_stays (lag m k) (lag k t)) (together g M K leaving S2 N (at 0)) ((plain M ++ plain K) leaving S2 N (at 0))
      (λ t. refl) (λ t e. rw (h, e)) (λ t e. rw (h, e)) (commit_another _ _ refl))
  in_S8 M m K k r (CharacterUp N) =
      either (same_key N K)
      (λ h. tested (λ t. short_of s.l (lag k r) (lag k t)) ((plain M ++ plain K) leaving S1) (together g M K leaving S1)
      (λ t. rw h) (λ t e. rw (h, e)) (λ t e. rw (h, e)) (commit_another _ _ refl))
      (λ h. untested (nothing leaving S8 M (at 0) K (at 0) (at 0)) (λ t. rw h) (λ t. rw h))
  in_S8 M m K k r (ThumbDown P) =
      tested (λ t. pair_stays (lag m k) (lag k t)) (together g M K leaving S3 P (at 0)) (plain M leaving S4 K (at 0) P (at 0))
      (λ t. refl) (λ t e. rw e) (λ t e. rw e) (leave_another _ _ refl)
  in_S8 M m K k r (ThumbUp P) = untested (nothing leaving S8 M (at 0) K (at 0) (at 0)) (λ t. refl) (λ t. refl)
  in_S8 M m K k r FunctionDown = untested (together g M K leaving S1) (λ t. refl) (λ t. refl)
  in_S8 M m K k r Tick = untested (nothing leaving S8 M (at 0) K (at 0) (at 0)) (λ t. refl) (λ t. refl)

  by_its_test : (x : Resting) (i : Input) → ByTest x i
  by_its_test S1 i = in_S1 i
  by_its_test (S2 M m) i = in_S2 M m i
  by_its_test (S3 O o) i = in_S3 O o i
  by_its_test (S4 M m O o) i = in_S4 M m O o i
  by_its_test (S5 O o M m) i = in_S5 O o M m i
  by_its_test (S6 O o M m r) i = in_S6 O o M m r i
  by_its_test (S7 M m K k) i = in_S7 M m K k i
  by_its_test (S8 M m K k r) i = in_S8 M m K k r i

pub true_test : TrueTestStatement
true_test g s x i t u in-t in-u =
    let b = by_its_test g s x i in
    let at-t = ap decision (when_in_time g s t x i in-t) in
    let at-u = ap decision (when_in_time g s u x i in-u) in
    record {
      same_test = λ e. at-t ∙ b.same t u e ∙ sym at-u;
      other_test = λ e f j. b.other t u e f (sym at-t ∙ j ∙ at-u);
    }
