-- Looking forward and deciding gives what the rules commit, and what they leave waiting, over events as they act.
use Prim.Native.Nat.{ℕ, zero, suc, ◌+◌, ◌*◌, ◌<◌}
use native.Mathlib.Omega.{arith}
use mathlib.Core.Bool.{true, false}
use mathlib.Core.List.{List, [], ◌∷◌, ◌++◌, append_assoc}
use mathlib.Core.Option.{Option, none, some}
use mathlib.Core.Path.{◌≡◌, refl, sym, ap, ◌∙◌}
use lib.Dec.{eqb, ltb, leb}
use lib.ListN.{length}
use Rattle.choice.specs.Choice.{if◌then◌orelse◌}
use Rattle.rules.specs.Pairs.{Lent, pair_of, in_some_pair, alone as alone_wait}
use Rattle.rules.specs.States.{lag, deadline}
use Rattle.rules.specs.OneEvent.{Done, ◌leaving◌, nothing, same_key, same_thumb, second_character_takes_thumb, second_thumb_takes_character}
use Rattle.rules.specs.OneEvent.{short_overlap, mark as rule_mark, late as late_line, act, due_by, settle_in, settle, and_then, one_event}
use Rattle.rules.specs.Sequences.{waiting}
use Rattle.rules.specs.declared.Stamp.{Stamp}
use Rattle.rules.specs.declared.Key.{Key}
use Rattle.rules.specs.declared.Thumb.{Thumb}
use Rattle.rules.specs.declared.Thumb.TheVariants.{Left, Right as RightThumb}
use Rattle.rules.specs.declared.Settings.{Settings}
use Rattle.rules.specs.declared.Item.{Item}
use Rattle.rules.specs.declared.Event.{Event}
use Rattle.rules.specs.declared.Resting.{Resting}
use Rattle.rules.specs.declared.Resting.TheVariants.{S1, S2, S3, S4, S5, S6, S7, S8}
use Rattle.rules.specs.declared.Input.{Input}
use Rattle.rules.specs.declared.Input.TheVariants.{CharacterDown, CharacterUp, ThumbDown, ThumbUp, FunctionDown, Tick}
use Rattle.choice.proofs.Choices.{either}
use Rattle.rules.proofs.Late.{settle_once}
use Rattle.opinions.specs.Opinion.{matters, late, ahead, short, Set, free, thumb, given, Decision, over, on, after, which}
use Rattle.opinions.specs.Opinion.{released, letter_first, from_letter_first, thumb_first, from_thumb_first, letter_alone}
use Rattle.opinions.specs.Opinion.{from_letter, thumb_alone, decide, Told, told, tell, follow, from}

-- what acts: an input and its stamp
pub record Stroke : Type 0 where
  pub input : Input
  pub stamp : Stamp

abbrev pub stroke : Input → Stamp → Stroke
stroke i now = record { input = i; stamp = now }

-- and the event that it is
abbrev pub key : ℕ → Key
key n = record { 0 = n }

abbrev pub number : Thumb → Key
number Left = key 0
number RightThumb = key 1

abbrev pub event : ℕ → Key → Stamp → Event
event kind k now = record { kind = kind; key = k; stamp = now }

abbrev pub kind_of : Input → ℕ
kind_of (CharacterDown N) = 1
kind_of (CharacterUp N) = 2
kind_of (ThumbDown P) = 3
kind_of (ThumbUp P) = 4
kind_of FunctionDown = 5
kind_of Tick = 6

abbrev pub key_of : Input → Key
key_of (CharacterDown N) = N
key_of (CharacterUp N) = N
key_of (ThumbDown P) = number P
key_of (ThumbUp P) = number P
key_of FunctionDown = key 0
key_of Tick = key 0

abbrev pub event_of : Input → Stamp → Event
event_of i now = event (kind_of i) (key_of i) now

abbrev pub events : List Stroke → List Event
events [] = []
events (e ∷ es) = event_of e.input e.stamp ∷ events es

which_is : (P : Thumb) (now : Stamp) (k : ℕ) → which (event k (number P) now) ≡ P
which_is Left now k = refl
which_is RightThumb now k = refl

same_is : (P O : Thumb) → eqb (number P).0 (number O).0 ≡ same_thumb P O
unfolding same_thumb
same_is Left Left = refl
same_is Left RightThumb = refl
same_is RightThumb Left = refl
same_is RightThumb RightThumb = refl

late_is : (due : Option Stamp) (e : Event) → late due e ≡ due_by e.stamp due
late_is none e = refl
late_is (some d) e = refl

-- how many decisions are left at most
abbrev size : Set → List Event → ℕ
size free es = 2 * length es
size (thumb O) es = 2 * length es + 1
size (given O) es = 2 * length es + 1

-- what is lent: no pairs
module _ (t_s percent : ℕ) where
  abbrev pub g : Lent
  g = record { pairs = []; t_s = t_s; n = percent }

  -- the rules over what acts
  abbrev pub going : Done → (Resting → Told) → Told
  going d f = tell d.items (f d.resting)

  unfoldable pub run : Settings → Resting → List Stroke → Told
  run s x [] = told [] (waiting x)
  run s x (e ∷ es) = going (one_event g s e.stamp x e.input) (λ y. run s y es)

  -- what is told goes on as the rules do from a place with at most a thumb set
  pub record Free (s : Settings) (i : List Item) (es : List Event) (t : Told) : Type 0 where
    pub left : List Stroke
    pub are : es ≡ events left
    pub goes : t ≡ tell i (run s S1 left)

  pub record Thumbed (s : Settings) (i : List Item) (O : Event) (es : List Event) (t : Told) : Type 0 where
    pub left : List Stroke
    pub P : Thumb
    pub o : Stamp
    pub is : O ≡ event 3 (number P) o
    pub are : es ≡ events left
    pub goes : t ≡ tell i (run s (S3 P o) left)

  pub record Given (s : Settings) (i : List Item) (O : Event) (es : List Event) (t : Told) : Type 0 where
    pub left : List Stroke
    pub P : Thumb
    pub o : Stamp
    pub N : Key
    pub n : Stamp
    pub is : O ≡ event 3 (number P) o
    pub are : es ≡ event 1 N n ∷ events left
    pub goes : t ≡ tell i (run s (S5 P o N n) left)

  abbrev GoesOn : Settings → List Item → Set → List Event → Told → Type 0
  GoesOn s i free es t = Free s i es t
  GoesOn s i (thumb O) es t = Thumbed s i O es t
  GoesOn s i (given O) es t = Given s i O es t

  -- a decision is right of what the rules tell, and leaves less than n decisions
  abbrev Right : Settings → ℕ → Decision → Told → Type 0
  Right s n (over i w) t = t ≡ told i w
  Right s n (on i h es) t = (size h es < n) × GoesOn s i h es t

  goes_on_after : (s : Settings) (i j : List Item) (h : Set) (es : List Event) (t : Told) → GoesOn s j h es t
      → GoesOn s (i ++ j) h es (tell i t)
  goes_on_after s i j free es t r = record { left = r.left; are = r.are; goes = rw (r.goes, append_assoc) }
  goes_on_after s i j (thumb O) es t r =
      record { left = r.left; P = r.P; o = r.o; is = r.is; are = r.are; goes = rw (r.goes, append_assoc) }
  goes_on_after s i j (given O) es t r =
      record { left = r.left; P = r.P; o = r.o; N = r.N; n = r.n; is = r.is; are = r.are; goes = rw (r.goes, append_assoc) }

  right_after : (s : Settings) (n : ℕ) (i : List Item) (v : Decision) (t : Told) → Right s n v t → Right s n (after i v) (tell i t)
  right_after s n i (over j w) t r = rw r
  right_after s n i (on j h es) t r = (r.0, goes_on_after s i j h es t r.1)

  -- what is late leaves S1, and then the event acts there
  settled : (s : Settings) (x : Resting) (e : Stroke) (es : List Stroke)
      → going (and_then (late_line g s x) (λ y. act g s e.stamp y e.input)) (λ y. run s y es)
      ≡ tell (late_line g s x).items (run s S1 (e ∷ es))
  unfolding run one_event settle settle_in
  settled s S1 e es = rw append_assoc
  settled s (S2 M m) e es = rw append_assoc
  settled s (S3 O o) e es = rw append_assoc
  settled s (S4 M m O o) e es = rw append_assoc
  settled s (S5 O o M m) e es = rw append_assoc
  settled s (S6 O o M m r) e es = rw append_assoc
  settled s (S7 M m K k) e es = rw append_assoc
  settled s (S8 M m K k r) e es = rw append_assoc

  -- To look forward from a state, and decide by what is met, is to run the rules from it.
  module _ (s : Settings) (n : ℕ) (x : Resting) (M O : Option Event) (f : List Event → Decision) where
    -- an event in time decides, or does nothing
    data Meeting (i : Input) (now : Stamp) (es : List Stroke) : Type 0 where
      decides : matters M O (event_of i now) ≡ true
          → Right s n (f (event_of i now ∷ events es)) (going (act g s now x i) (λ y. run s y es)) → Meeting i now es
      passes : matters M O (event_of i now) ≡ false → act g s now x i ≡ nothing leaving x → Meeting i now es

    abbrev Lates : ℕ → Type 0
    Lates N =
        (i : Input) (now : Stamp) (es : List Stroke) → 2 * length (events es) + 3 < N → late (deadline g s x) (event_of i now) ≡ true
        → Right s n (f (event_of i now ∷ events es)) (tell (late_line g s x).items (run s S1 (stroke i now ∷ es)))

    abbrev Meets : ℕ → Type 0
    Meets N =
        (i : Input) (now : Stamp) (es : List Stroke) → 2 * length (events es) + 3 < N → late (deadline g s x) (event_of i now) ≡ false
        → Meeting i now es

    met : (i : Input) (now : Stamp) (es : List Stroke) → Meeting i now es
        → Right s n (f (ahead M O (deadline g s x) (events es))) (run s x es)
        → Right s n (f (if matters M O (event_of i now) then event_of i now ∷ events es orelse ahead M O (deadline g s x) (events es)))
        (going (act g s now x i) (λ y. run s y es))
    met i now es (decides e r) h = rw e r
    met i now es (passes e a) h = rw (e, a) h

    looks : (N : ℕ) → Right s n (f []) (told [] (waiting x)) → Lates N → Meets N
        → (es : List Stroke) → 2 * length (events es) + 1 < N → Right s n (f (ahead M O (deadline g s x) (events es))) (run s x es)
    unfolding ahead run one_event
    looks N ends lates meets [] l = ends
    looks N ends lates meets (e ∷ es) l =
        either (late (deadline g s x) (event_of e.input e.stamp))
        (λ q.
        rw (settle_once g s e.stamp x, ← (late_is (deadline g s x) (event_of e.input e.stamp)), q, settled s x e es)
        (lates e.input e.stamp es (omega arith) q))
        (λ q.
        rw (settle_once g s e.stamp x, ← (late_is (deadline g s x) (event_of e.input e.stamp)), q)
        (met e.input e.stamp es (meets e.input e.stamp es (omega arith) q) (looks N ends lates meets es (omega arith))))

  module _ (s : Settings) (n : ℕ) where
    -- nothing set, and on from this event
    freed : {i : List Item} (e : Stroke) (es : List Stroke) {t : Told} → 2 * length (events es) + 3 < n
        → t ≡ tell i (run s S1 (e ∷ es)) → Right s n (on i free (events (e ∷ es))) t
    freed {i} e es l r = (omega arith, record { left = e ∷ es; are = refl; goes = r })

    -- a thumb is set, and on behind this event
    stays_set : {i : List Item} (O : Thumb) (o : Stamp) (es : List Stroke) {t : Told} → 2 * length (events es) + 1 < n
        → t ≡ tell i (run s (S3 O o) es) → Right s n (on i (thumb (event 3 (number O) o)) (events es)) t
    stays_set {i} O o es l r = (l, record { left = es; P = O; o = o; is = refl; are = refl; goes = r })

    -- a thumb is given to the letter that this event presses
    given_on : {i : List Item} (O : Thumb) (o : Stamp) (N : Key) (now : Stamp) (es : List Stroke) {t : Told}
        → 2 * length (events es) + 3 < n → t ≡ tell i (run s (S5 O o N now) es)
        → Right s n (on i (given (event 3 (number O) o)) (event 1 N now ∷ events es)) t
    given_on {i} O o N now es l r = (omega arith, record { left = es; P = O; o = o; N = N; n = now; is = refl; are = refl; goes = r })

    module _ (O : Thumb) (o : Stamp) (M : Key) (m r : Stamp) where
      abbrev R_decides : List Event → Decision
      R_decides = released s (event 3 (number O) o) (event 1 M m) (deadline g s (S6 O o M m r))

      released_lates : Lates s n (S6 O o M m r) (some (event 1 M m)) none R_decides n
      unfolding rule_mark
      released_lates i now es l q = rw (q, which_is) (freed (stroke i now) es l refl)

      released_meets : Meets s n (S6 O o M m r) (some (event 1 M m)) none R_decides n
      unfolding matters run one_event settle settle_in same_key rule_mark
      released_meets (CharacterDown N) now es l q = decides refl (rw (q, which_is) (freed (stroke (CharacterDown N) now) es l refl))
      released_meets (CharacterUp N) now es l q =
          either (eqb N.0 M.0)
          (λ e. decides (rw e) (rw (q, which_is, e) (freed (stroke (CharacterUp N) now) es l refl))) (λ e. passes (rw e) (rw e))
      released_meets (ThumbDown P) now es l q = decides refl (rw (q, which_is) (freed (stroke (ThumbDown P) now) es l refl))
      released_meets (ThumbUp P) now es l q = passes refl refl
      released_meets FunctionDown now es l q = decides refl (rw (q, which_is) (freed (stroke FunctionDown now) es l refl))
      released_meets Tick now es l q = passes refl refl

      released_right : (es : List Stroke) → 2 * length (events es) + 1 < n
          → Right s n (R_decides (ahead (some (event 1 M m)) none (deadline g s (S6 O o M m r)) (events es))) (run s (S6 O o M m r) es)
      released_right = looks s n (S6 O o M m r) (some (event 1 M m)) none R_decides n refl released_lates released_meets

    module _ (M : Key) (m : Stamp) (O : Thumb) (o : Stamp) where
      abbrev L_decides : List Event → Decision
      L_decides = letter_first s (event 1 M m) (event 3 (number O) o) (deadline g s (S4 M m O o))

      letter_first_lates : Lates s n (S4 M m O o) (some (event 1 M m)) (some (event 3 (number O) o)) L_decides n
      letter_first_lates i now es l q = rw (q, which_is) (freed (stroke i now) es l refl)

      letter_first_meets : Meets s n (S4 M m O o) (some (event 1 M m)) (some (event 3 (number O) o)) L_decides n
      unfolding matters short run one_event settle settle_in same_key second_character_takes_thumb short_overlap
      letter_first_meets (CharacterDown N) now es l q =
          either (ltb (lag o now) (lag m o))
          (λ e. decides refl (rw (q, e) (given_on O o N now es l refl)))
          (λ e. decides refl (rw (q, e, which_is) (freed (stroke (CharacterDown N) now) es l refl)))
      letter_first_meets (CharacterUp N) now es l q =
          either (eqb N.0 M.0)
          (λ e. either (short s.j (lag m o) (lag o now))
          (λ h. decides (rw e) (rw (q, e, h) (stays_set O o es (omega arith) refl)))
          (λ h. decides (rw e) (rw (q, e, h, which_is) (freed (stroke (CharacterUp N) now) es l refl))))
          (λ e. passes (rw e) (rw e))
      letter_first_meets (ThumbDown P) now es l q =
          either (same_thumb P O) (λ e. passes (rw (same_is, e)) (rw e))
          (λ e. decides (rw (same_is, e)) (rw (q, e, which_is) (freed (stroke (ThumbDown P) now) es l refl)))
      letter_first_meets (ThumbUp P) now es l q =
          either (same_thumb P O)
          (λ e. decides (rw (same_is, e)) (rw (q, e, which_is) (freed (stroke (ThumbUp P) now) es l refl)))
          (λ e. passes (rw (same_is, e)) (rw e))
      letter_first_meets FunctionDown now es l q = decides refl (rw (q, which_is) (freed (stroke FunctionDown now) es l refl))
      letter_first_meets Tick now es l q = passes refl refl

      letter_first_right : (es : List Stroke) → 2 * length (events es) + 1 < n
          → Right s n (from_letter_first s (event 1 M m) (event 3 (number O) o) (events es)) (run s (S4 M m O o) es)
      letter_first_right =
          looks s n (S4 M m O o) (some (event 1 M m)) (some (event 3 (number O) o)) L_decides n refl letter_first_lates letter_first_meets

    module _ (O : Thumb) (o : Stamp) (M : Key) (m : Stamp) where
      abbrev T_decides : List Event → Decision
      T_decides = thumb_first s (event 3 (number O) o) (event 1 M m) (deadline g s (S5 O o M m))

      thumb_first_lates : Lates s n (S5 O o M m) (some (event 1 M m)) (some (event 3 (number O) o)) T_decides n
      thumb_first_lates i now es l q = rw (q, which_is) (freed (stroke i now) es l refl)

      thumb_first_meets : Meets s n (S5 O o M m) (some (event 1 M m)) (some (event 3 (number O) o)) T_decides n
      unfolding matters short run one_event settle settle_in same_key second_thumb_takes_character short_overlap rule_mark
      thumb_first_meets (CharacterDown N) now es l q = decides refl (rw (q, which_is) (freed (stroke (CharacterDown N) now) es l refl))
      thumb_first_meets (CharacterUp N) now es l q =
          either (eqb N.0 M.0)
          (λ e. decides (rw e) (rw (q, e, which_is) (freed (stroke (CharacterUp N) now) es l refl))) (λ e. passes (rw e) (rw e))
      thumb_first_meets (ThumbDown P) now es l q =
          either (same_thumb P O) (λ e. passes (rw (same_is, e)) (rw e))
          (λ e. either (leb (lag m now) (lag o m))
          (λ h. decides (rw (same_is, e)) (rw (q, e, h, which_is)
          (right_after s n (rule_mark s O) (from_letter_first s (event 1 M m) (event 3 (number P) now) (events es))
          (run s (S4 M m P now) es) (letter_first_right M m P now es (omega arith)))))
          (λ h. decides (rw (same_is, e)) (rw (q, e, h, which_is) (freed (stroke (ThumbDown P) now) es l refl))))
      thumb_first_meets (ThumbUp P) now es l q =
          either (same_thumb P O)
          (λ e. either (short s.l (lag o m) (lag m now))
          (λ h. decides (rw (same_is, e)) (rw (q, e, h) (released_right O o M m now es (omega arith))))
          (λ h. decides (rw (same_is, e)) (rw (q, e, h, which_is) (freed (stroke (ThumbUp P) now) es l refl))))
          (λ e. passes (rw (same_is, e)) (rw e))
      thumb_first_meets FunctionDown now es l q = decides refl (rw (q, which_is) (freed (stroke FunctionDown now) es l refl))
      thumb_first_meets Tick now es l q = passes refl refl

      thumb_first_right : (es : List Stroke) → 2 * length (events es) + 1 < n
          → Right s n (from_thumb_first s (event 3 (number O) o) (event 1 M m) (events es)) (run s (S5 O o M m) es)
      thumb_first_right =
          looks s n (S5 O o M m) (some (event 1 M m)) (some (event 3 (number O) o)) T_decides n refl thumb_first_lates thumb_first_meets

    module _ (M : Key) (m : Stamp) where
      abbrev A_decides : List Event → Decision
      A_decides = letter_alone s (event 1 M m) (deadline g s (S2 M m))

      letter_alone_lates : Lates s n (S2 M m) (some (event 1 M m)) none A_decides n
      letter_alone_lates i now es l q = rw q (freed (stroke i now) es l refl)

      letter_alone_meets : Meets s n (S2 M m) (some (event 1 M m)) none A_decides n
      unfolding matters run one_event settle settle_in same_key pair_of
      letter_alone_meets (CharacterDown N) now es l q = decides refl (rw q (freed (stroke (CharacterDown N) now) es l refl))
      letter_alone_meets (CharacterUp N) now es l q =
          either (eqb N.0 M.0)
          (λ e. decides (rw e) (rw (q, e) (freed (stroke (CharacterUp N) now) es l refl))) (λ e. passes (rw e) (rw e))
      letter_alone_meets (ThumbDown P) now es l q = decides refl (rw q (letter_first_right M m P now es (omega arith)))
      letter_alone_meets (ThumbUp P) now es l q = passes refl refl
      letter_alone_meets FunctionDown now es l q = decides refl (rw q (freed (stroke FunctionDown now) es l refl))
      letter_alone_meets Tick now es l q = passes refl refl

      letter_alone_right : (es : List Stroke) → 2 * length (events es) + 1 < n
          → Right s n (from_letter s (event 1 M m) (events es)) (run s (S2 M m) es)
      unfolding alone_wait in_some_pair
      letter_alone_right = looks s n (S2 M m) (some (event 1 M m)) none A_decides n refl letter_alone_lates letter_alone_meets

    module _ (O : Thumb) (o : Stamp) where
      abbrev O_decides : List Event → Decision
      O_decides = thumb_alone s (event 3 (number O) o) (deadline g s (S3 O o))

      -- nothing set any more, and on from this event, which may be met by the next decision
      thumb_ends : {i : List Item} (e : Stroke) (es : List Stroke) {t : Told} → 2 * length (events es) + 3 < suc n
          → t ≡ tell i (run s S1 (e ∷ es)) → Right s n (on i free (events (e ∷ es))) t
      thumb_ends {i} e es l r = (omega arith, record { left = e ∷ es; are = refl; goes = r })

      thumb_alone_lates : Lates s n (S3 O o) none (some (event 3 (number O) o)) O_decides (suc n)
      unfolding rule_mark
      thumb_alone_lates i now es l q = rw (q, which_is) (thumb_ends (stroke i now) es l refl)

      thumb_alone_meets : Meets s n (S3 O o) none (some (event 3 (number O) o)) O_decides (suc n)
      unfolding matters run one_event settle settle_in rule_mark
      thumb_alone_meets (CharacterDown N) now es l q = decides refl (rw q (thumb_first_right O o N now es (omega arith)))
      thumb_alone_meets (CharacterUp N) now es l q = passes refl refl
      thumb_alone_meets (ThumbDown P) now es l q =
          either (same_thumb P O) (λ e. passes (rw (same_is, e)) (rw e))
          (λ e. decides (rw (same_is, e)) (rw (q, e, which_is) (thumb_ends (stroke (ThumbDown P) now) es l refl)))
      thumb_alone_meets (ThumbUp P) now es l q =
          either (same_thumb P O)
          (λ e. decides (rw (same_is, e)) (rw (q, e, which_is) (thumb_ends (stroke (ThumbUp P) now) es l refl)))
          (λ e. passes (rw (same_is, e)) (rw e))
      thumb_alone_meets FunctionDown now es l q = decides refl (rw (q, which_is) (thumb_ends (stroke FunctionDown now) es l refl))
      thumb_alone_meets Tick now es l q = passes refl refl

      thumb_right : (es : List Stroke) → 2 * length (events es) + 1 < suc n
          → Right s n (decide s (thumb (event 3 (number O) o)) (events es)) (run s (S3 O o) es)
      thumb_right = looks s n (S3 O o) none (some (event 3 (number O) o)) O_decides (suc n) refl thumb_alone_lates thumb_alone_meets

    -- nothing set: a letter, a thumb, or one event further
    free_meets : (i : Input) (now : Stamp) (es : List Stroke) → 2 * length (events es) + 1 < n
        → Right s n (decide s free (event_of i now ∷ events es)) (run s S1 (stroke i now ∷ es))
    unfolding run one_event settle settle_in
    free_meets (CharacterDown N) now es l = letter_alone_right N now es l
    free_meets (CharacterUp N) now es l = (omega arith, record { left = es; are = refl; goes = refl })
    free_meets (ThumbDown P) now es l = stays_set P now es l refl
    free_meets (ThumbUp P) now es l = (omega arith, record { left = es; are = refl; goes = refl })
    free_meets FunctionDown now es l = (omega arith, record { left = es; are = refl; goes = refl })
    free_meets Tick now es l = (omega arith, record { left = es; are = refl; goes = refl })

    free_right : (es : List Stroke) → 2 * length (events es) < suc n → Right s n (decide s free (events es)) (run s S1 es)
    unfolding run
    free_right [] l = refl
    free_right (e ∷ es) l = free_meets e.input e.stamp es (omega arith)

  abbrev Follows : Settings → ℕ → Type 0
  Follows s n = (i : List Item) (h : Set) (es : List Event) (t : Told) → size h es < n → GoesOn s i h es t → t ≡ tell i (from s n h es)

  follows_decision : (s : Settings) (n : ℕ) → Follows s n → (i : List Item) (v : Decision) (t : Told) → Right s n v t
      → tell i t ≡ tell i (follow (from s n) v)
  follows_decision s n f i (over j w) t r = rw r
  follows_decision s n f i (on j h es) t r = ap (tell i) (f j h es t r.0 r.1)

  follows : (s : Settings) (n : ℕ) → Follows s n
  unfolding from
  follows s zero i h es t l r = absurd (omega arith)
  follows s (suc n) i free es t l r =
      let k : 2 * length (events r.left) < suc n = rw r.are at l in
      r.goes
      ∙ rw r.are
      (follows_decision s n (follows s n) i (decide s free (events r.left)) (run s S1 r.left) (free_right s n r.left k))
  follows s (suc n) i (thumb O) es t l r =
      let k : 2 * length (events r.left) + 1 < suc n = rw r.are at l in
      r.goes
      ∙ rw (r.are, r.is)
      (follows_decision s n (follows s n) i (decide s (thumb (event 3 (number r.P) r.o)) (events r.left))
      (run s (S3 r.P r.o) r.left) (thumb_right s n r.P r.o r.left k))
  follows s (suc n) i (given O) es t l r =
      let k : 2 * length (event 1 r.N r.n ∷ events r.left) + 1 < suc n = rw r.are at l in
      r.goes
      ∙ rw (r.are, r.is)
      (follows_decision s n (follows s n) i (from_thumb_first s (event 3 (number r.P) r.o) (event 1 r.N r.n) (events r.left))
      (run s (S5 r.P r.o r.N r.n) r.left) (thumb_first_right s n r.P r.o r.N r.n r.left (omega arith)))

  -- from the first place, with two decisions for each event, and one
  pub agrees : (s : Settings) (es : List Stroke) → from s (suc (2 * length (events es))) free (events es) ≡ run s S1 es
  agrees s es =
      sym
      (follows s (suc (2 * length (events es))) [] free (events es) (run s S1 es) (omega arith)
      (record { left = es; are = refl; goes = refl }))
