-- Late lines: each leads to S1, which commits nothing and is never due. So one line is enough, and what an event does behind it is
-- what it does in S1. And which states do not ask what is lent.
use Prim.Native.Nat.{ℕ, zero, suc, ◌≤◌}
use native.Mathlib.Omega.{arith}
use mathlib.Core.Bool.{false, true≢false}
use mathlib.Core.List.{[], append-nil}
use mathlib.Core.Path.{◌≡◌, refl}
use lib.ListN.{length}
use Rattle.choice.specs.Choice.{if◌then◌orelse◌}
use Rattle.rules.specs.Pairs.{Lent}
use Rattle.rules.specs.States.{deadline}
use Rattle.rules.specs.OneEvent.{Done, ◌leaving◌, nothing, late, act, due_by, and_then, settle_in, settle}
use Rattle.rules.specs.Sequences.{waiting}
use Rattle.rules.specs.StepFacts.{LateOnce, asks_lent, is_character_down, ListNotRead}
use Rattle.rules.specs.declared.Stamp.{Stamp}
use Rattle.rules.specs.declared.Key.{Key}
use Rattle.rules.specs.declared.Settings.{Settings}
use Rattle.rules.specs.declared.Resting.{Resting}
use Rattle.rules.specs.declared.Resting.TheVariants.{S1, S2, S3, S4, S5, S6, S7, S8}
use Rattle.rules.specs.declared.Input.{Input}
use Rattle.rules.specs.declared.Input.TheVariants.{CharacterDown, CharacterUp, ThumbDown, ThumbUp, FunctionDown, Tick}
use Rattle.choice.proofs.Choices.{by_test}

pub late_leaves_S1 : (g : Lent) (s : Settings) (y : Resting) → (late g s y).resting ≡ S1
late_leaves_S1 g s S1 = refl
late_leaves_S1 g s (S2 M m) = refl
late_leaves_S1 g s (S3 O o) = refl
late_leaves_S1 g s (S4 M m O o) = refl
late_leaves_S1 g s (S5 O o M m) = refl
late_leaves_S1 g s (S6 O o M m r) = refl
late_leaves_S1 g s (S7 M m K k) = refl
late_leaves_S1 g s (S8 M m K k r) = refl

-- no event commits anything in S1
pub S1_commits_nothing : (g : Lent) (s : Settings) (now : Stamp) (i : Input) → (act g s now S1 i).items ≡ []
S1_commits_nothing g s now (CharacterDown N) = refl
S1_commits_nothing g s now (CharacterUp N) = refl
S1_commits_nothing g s now (ThumbDown P) = refl
S1_commits_nothing g s now (ThumbUp P) = refl
S1_commits_nothing g s now FunctionDown = refl
S1_commits_nothing g s now Tick = refl

-- and one letter at most waits afterwards
pub S1_leaves_one : (g : Lent) (s : Settings) (now : Stamp) (i : Input) → length (waiting (act g s now S1 i).resting) ≤ 1
S1_leaves_one g s now (CharacterDown N) = omega arith
S1_leaves_one g s now (CharacterUp N) = omega arith
S1_leaves_one g s now (ThumbDown P) = omega arith
S1_leaves_one g s now (ThumbUp P) = omega arith
S1_leaves_one g s now FunctionDown = omega arith
S1_leaves_one g s now Tick = omega arith

-- what is late, then the event: the items of the late line, and the state that the event makes of S1
pub late_and_event : (g : Lent) (s : Settings) (now : Stamp) (y : Resting) (i : Input)
    → and_then (late g s y) (λ z. act g s now z i) ≡ ((late g s y).items leaving (act g s now S1 i).resting)
late_and_event g s now y i = rw (late_leaves_S1 g s y, S1_commits_nothing g s now i, append-nil)

settle_S1 : (n : ℕ) (g : Lent) (s : Settings) (now : Stamp) → settle_in n g s now S1 ≡ (nothing leaving S1)
unfolding settle_in
settle_S1 zero g s now = refl
settle_S1 (suc n) g s now = refl

late_then : (n : ℕ) (g : Lent) (s : Settings) (now : Stamp) (y : Resting) → and_then (late g s y) (settle_in n g s now) ≡ late g s y
late_then n g s now y = rw (late_leaves_S1, settle_S1, append-nil, ← (late_leaves_S1 g s y))

settles_once : (n : ℕ) (g : Lent) (s : Settings) (now : Stamp) (y : Resting)
    → settle_in (suc n) g s now y ≡ (if due_by now (deadline g s y) then late g s y orelse (nothing leaving y))
unfolding settle_in
settles_once n g s now y = rw (late_then n g s now y)

pub settle_once : (g : Lent) (s : Settings) (now : Stamp) (y : Resting)
    → settle g s now y ≡ (if due_by now (deadline g s y) then late g s y orelse (nothing leaving y))
unfolding settle
settle_once = settles_once 1

pub late_once : (g : Lent) (s : Settings) (now : Stamp) (y : Resting) → LateOnce g s now y
late_once g s now y =
    record {
      late_rests = λ t. rw (late_leaves_S1 g s y);
      once = λ n. settles_once n g s now y;
      none_left =
          rw (settle_once g s now y)
          (by_test (λ (d : Done). due_by now (deadline g s d.resting) ≡ false) (due_by now (deadline g s y))
          (λ _. rw (late_leaves_S1 g s y)) (λ h. h));
    }

module _ (g h : Lent) (s : Settings) (now : Stamp) where
  same_act : (x : Resting) (i : Input) → asks_lent x ≡ false → act g s now x i ≡ act h s now x i
  same_act S1 i e = refl
  same_act (S2 M m) i e = absurd (true≢false e)
  same_act (S3 O o) i e = refl
  same_act (S4 M m O o) i e = refl
  same_act (S5 O o M m) i e = refl
  same_act (S6 O o M m r) i e = refl
  same_act (S7 M m K k) i e = absurd (true≢false e)
  same_act (S8 M m K k r) i e = absurd (true≢false e)

  same_deadline : (x : Resting) → asks_lent x ≡ false → deadline g s x ≡ deadline h s x
  same_deadline S1 e = refl
  same_deadline (S2 M m) e = absurd (true≢false e)
  same_deadline (S3 O o) e = refl
  same_deadline (S4 M m O o) e = refl
  same_deadline (S5 O o M m) e = refl
  same_deadline (S6 O o M m r) e = refl
  same_deadline (S7 M m K k) e = absurd (true≢false e)
  same_deadline (S8 M m K k r) e = absurd (true≢false e)

  same_late : (x : Resting) → asks_lent x ≡ false → late g s x ≡ late h s x
  same_late S1 e = refl
  same_late (S2 M m) e = absurd (true≢false e)
  same_late (S3 O o) e = refl
  same_late (S4 M m O o) e = refl
  same_late (S5 O o M m) e = refl
  same_late (S6 O o M m r) e = refl
  same_late (S7 M m K k) e = absurd (true≢false e)
  same_late (S8 M m K k r) e = absurd (true≢false e)

  same_act_in_S2 : (M : Key) (m : Stamp) (i : Input) → is_character_down i ≡ false → act g s now (S2 M m) i ≡ act h s now (S2 M m) i
  same_act_in_S2 M m (CharacterDown N) e = absurd (true≢false e)
  same_act_in_S2 M m (CharacterUp N) e = refl
  same_act_in_S2 M m (ThumbDown P) e = refl
  same_act_in_S2 M m (ThumbUp P) e = refl
  same_act_in_S2 M m FunctionDown e = refl
  same_act_in_S2 M m Tick e = refl

  pub list_not_read : ListNotRead g h s now
  list_not_read =
      record {
        same_act = same_act;
        same_deadline = same_deadline;
        same_late = same_late;
        same_act_in_S2 = same_act_in_S2;
        same_late_in_S2 = λ M m. refl;
      }
