-- The clock moved: every rule looks at stamps only by their differences and their order, and neither changes.
use Prim.Native.Nat.{ℕ, zero, suc, ◌+◌, ◌-◌, ◌≤◌, ◌<◌}
use native.Mathlib.Omega.{arith}
use mathlib.Core.Bool.{false, ◌&&◌}
use mathlib.Core.List.{List, [], ◌∷◌, ◌++◌, append_assoc, append-nil}
use mathlib.Core.Option.{Option, none, some}
use mathlib.Core.Path.{◌≡◌, refl, sym, ◌∙◌, ap, ap₂}
use lib.Dec.{ltb, leb, eqb}
use lib.ListN.{length}
use borrow.Author.Tests.{ltb-true, ltb-false, lt-ltb, le-ltb, leb-true, leb-false, le-leb, lt-leb}
use Rattle.choice.specs.Choice.{if◌then◌orelse◌}
use Rattle.rules.specs.Numbers.{largest_stamp, B, FJ}
use Rattle.rules.specs.Pairs.{Lent, is_pair, lent_good, GN, alone}
use Rattle.rules.specs.States.{at, lag, later, deadline, fresh, keys_below, stamps_by, in_order, pair_lent, well_formed}
use Rattle.rules.specs.OneEvent.{Done, ◌leaving◌, same_thumb, same_key, second_character_takes_thumb, second_thumb_takes_character}
use Rattle.rules.specs.OneEvent.{short_overlap, pair_stays, short_pair, short_of, late, third, third_thumb}
use Rattle.rules.specs.OneEvent.{act, due_by, and_then, settle_in, settle, one_event}
use Rattle.rules.specs.ZeroDelay.{shown}
use Rattle.rules.specs.GivenBack.{input, acts_as, held_after, Verdict, refused, is_new, judge_input}
use Rattle.rules.specs.GivenBack.{judge, Answer, refusal, acceptance, answer, step_with, step}
use Rattle.rules.specs.Sequences.{after, along, accepted_in, waiting}
use Rattle.rules.specs.Distance.{distance_to, asking_with, asking}
use Rattle.rules.specs.MovedClock.{moved_event, moved_events, moved_resting, moved_machine, moved_state, Stays}
use Rattle.rules.specs.MovedClock.{AllStay, told, told_in, ClockMovedStatement, moved_answer, MachineMovedStatement}
use Rattle.rules.specs.declared.Stamp.{Stamp}
use Rattle.rules.specs.declared.Key.{Key}
use Rattle.rules.specs.declared.Thumb.{Thumb}
use Rattle.rules.specs.declared.Settings.{Settings}
use Rattle.rules.specs.declared.Resting.{Resting}
use Rattle.rules.specs.declared.Resting.TheVariants.{S1, S2, S3, S4, S5, S6, S7, S8}
use Rattle.rules.specs.declared.Machine.{Machine}
use Rattle.rules.specs.declared.Event.{Event}
use Rattle.rules.specs.declared.Input.{Input}
use Rattle.rules.specs.declared.Input.TheVariants.{CharacterDown, CharacterUp, ThumbDown, ThumbUp, FunctionDown, Tick}
use Rattle.choice.proofs.Choices.{two_ways, either}
use Rattle.rules.proofs.Signed.{difference}
use Rattle.rules.proofs.Steps.{judge_cases}

-- Numbers.

-- a test that comes out the same
same_ltb : (a b c d : ℕ) → (a < b → c < d) → (b ≤ a → d ≤ c) → ltb c d ≡ ltb a b
same_ltb a b c d f g =
    either (ltb a b) (λ t. lt-ltb c d (f (ltb-true a b t)) ∙ sym t) (λ t. le-ltb c d (g (ltb-false a b t)) ∙ sym t)

same_leb : (a b c d : ℕ) → (a ≤ b → c ≤ d) → (b < a → d < c) → leb c d ≡ leb a b
same_leb a b c d f g =
    either (leb a b) (λ t. le-leb c d (f (leb-true a b t)) ∙ sym t) (λ t. lt-leb c d (g (leb-false a b t)) ∙ sym t)

ltb_moved : (k a b : ℕ) → ltb (a + k) (b + k) ≡ ltb a b
ltb_moved k a b = same_ltb a b (a + k) (b + k) (λ h. omega arith) (λ h. omega arith)

leb_moved : (k a b : ℕ) → leb (a + k) (b + k) ≡ leb a b
leb_moved k a b = same_leb a b (a + k) (b + k) (λ h. omega arith) (λ h. omega arith)

-- the test of refusal 4, and that of a machine's last stamp
above_moved : (k : ℕ) (t : Stamp) → Stays k t → ltb largest_stamp (t.0 + k) ≡ ltb largest_stamp t.0
above_moved k t stays = same_ltb largest_stamp t.0 largest_stamp (t.0 + k) (λ h. omega arith) stays

not_above_moved : (k : ℕ) (t : Stamp) → Stays k t → leb (t.0 + k) largest_stamp ≡ leb t.0 largest_stamp
not_above_moved k t stays = same_leb t.0 largest_stamp (t.0 + k) largest_stamp stays (λ h. omega arith)

module _ (g : Lent) (k : ℕ) where
  lag_moved : (a b : Stamp) → lag (later a k) (later b k) ≡ lag a b
  lag_moved a b = omega arith

  -- What rests.

  abbrev moved_deadline : Option Stamp → Option Stamp
  moved_deadline none = none
  moved_deadline (some d) = some (later d k)

  later_moved : (a : Stamp) (x : ℕ) → some (later (later a k) x) ≡ moved_deadline (some (later a x))
  later_moved a x = ap (λ (n : ℕ). some (at n)) (omega arith)

  deadline_moved : (s : Settings) (y : Resting) → deadline g s (moved_resting k y) ≡ moved_deadline (deadline g s y)
  deadline_moved s S1 = refl
  deadline_moved s (S2 M m) = later_moved m (alone g s M)
  deadline_moved s (S3 O o) =
      two_ways (λ (c d : Option Stamp). c ≡ moved_deadline d) {t = eqb s.solo 1} refl (later_moved o (B s)) refl
  deadline_moved s (S4 M m O o) = rw (lag_moved m o) (later_moved o (FJ s (lag m o)))
  deadline_moved s (S5 O o M m) = rw (lag_moved o m) (later_moved m _)
  deadline_moved s (S6 O o M m r) = rw (lag_moved m r) (later_moved r (lag m r))
  deadline_moved s (S7 M m K j) = later_moved j g.t_s
  deadline_moved s (S8 M m K j r) = rw (lag_moved j r) (later_moved r (GN g.n (lag j r)))

  due_moved : (now : Stamp) (d : Option Stamp) → due_by (later now k) (moved_deadline d) ≡ due_by now d
  due_moved now none = refl
  due_moved now (some d) = leb_moved k d.0 now.0

  distance_moved : (now : Stamp) (d : Option Stamp) → distance_to (later now k) (moved_deadline d) ≡ distance_to now d
  distance_moved now none = refl
  distance_moved now (some d) =
      let less : d.0 + k - (now.0 + k) ≡ d.0 - now.0 = omega arith in
      let over : now.0 + k - suc (d.0 + k) ≡ now.0 - suc d.0 = omega arith in
      ap some (difference (d.0 + k) (now.0 + k) ∙ rw (ltb_moved k d.0 now.0, less, over) (sym (difference d.0 now.0)))

  shown_moved : (y : Resting) → shown (moved_resting k y) ≡ shown y
  shown_moved S1 = refl
  shown_moved (S2 M m) = refl
  shown_moved (S3 O o) = refl
  shown_moved (S4 M m O o) = refl
  shown_moved (S5 O o M m) = refl
  shown_moved (S6 O o M m r) = refl
  shown_moved (S7 M m K j) = refl
  shown_moved (S8 M m K j r) = refl

  keys_moved : (y : Resting) → keys_below (moved_resting k y) ≡ keys_below y
  keys_moved S1 = refl
  keys_moved (S2 M m) = refl
  keys_moved (S3 O o) = refl
  keys_moved (S4 M m O o) = refl
  keys_moved (S5 O o M m) = refl
  keys_moved (S6 O o M m r) = refl
  keys_moved (S7 M m K j) = refl
  keys_moved (S8 M m K j r) = refl

  stamps_moved : (t : Stamp) (y : Resting) → stamps_by (later t k) (moved_resting k y) ≡ stamps_by t y
  stamps_moved t S1 = refl
  stamps_moved t (S2 M m) = leb_moved k m.0 t.0
  stamps_moved t (S3 O o) = leb_moved k o.0 t.0
  stamps_moved t (S4 M m O o) = ap₂ ◌&&◌ (leb_moved k m.0 t.0) (leb_moved k o.0 t.0)
  stamps_moved t (S5 O o M m) = ap₂ ◌&&◌ (leb_moved k o.0 t.0) (leb_moved k m.0 t.0)
  stamps_moved t (S6 O o M m r) =
      ap₂ ◌&&◌ (ap₂ ◌&&◌ (leb_moved k o.0 t.0) (leb_moved k m.0 t.0)) (leb_moved k r.0 t.0)
  stamps_moved t (S7 M m K j) = ap₂ ◌&&◌ (leb_moved k m.0 t.0) (leb_moved k j.0 t.0)
  stamps_moved t (S8 M m K j r) =
      ap₂ ◌&&◌ (ap₂ ◌&&◌ (leb_moved k m.0 t.0) (leb_moved k j.0 t.0)) (leb_moved k r.0 t.0)

  order_moved : (y : Resting) → in_order (moved_resting k y) ≡ in_order y
  order_moved S1 = refl
  order_moved (S2 M m) = refl
  order_moved (S3 O o) = refl
  order_moved (S4 M m O o) = leb_moved k m.0 o.0
  order_moved (S5 O o M m) = leb_moved k o.0 m.0
  order_moved (S6 O o M m r) = ap₂ ◌&&◌ (leb_moved k o.0 m.0) (leb_moved k m.0 r.0)
  order_moved (S7 M m K j) = leb_moved k m.0 j.0
  order_moved (S8 M m K j r) = ap₂ ◌&&◌ (leb_moved k m.0 j.0) (leb_moved k j.0 r.0)

  pair_moved : (y : Resting) → pair_lent g (moved_resting k y) ≡ pair_lent g y
  pair_moved S1 = refl
  pair_moved (S2 M m) = refl
  pair_moved (S3 O o) = refl
  pair_moved (S4 M m O o) = refl
  pair_moved (S5 O o M m) = refl
  pair_moved (S6 O o M m r) = refl
  pair_moved (S7 M m K j) = refl
  pair_moved (S8 M m K j r) = refl

  -- What a rule does.

  abbrev moved_done : Done → Done
  moved_done d = d.items leaving moved_resting k d.resting

  -- what it does at moved stamps is what it did, moved
  abbrev Moves : Done → Done → Type 0
  Moves d e = d ≡ moved_done e

  late_moved : (s : Settings) (y : Resting) → late g s (moved_resting k y) ≡ moved_done (late g s y)
  late_moved s S1 = refl
  late_moved s (S2 M m) = refl
  late_moved s (S3 O o) = refl
  late_moved s (S4 M m O o) = refl
  late_moved s (S5 O o M m) = refl
  late_moved s (S6 O o M m r) = refl
  late_moved s (S7 M m K j) = refl
  late_moved s (S8 M m K j r) = refl

  third_moved : (now : Stamp) (M : Key) (m : Stamp) (K : Key) (j : Stamp) (N : Key)
      → third g (later now k) M (later m k) K (later j k) N ≡ moved_done (third g now M m K j N)
  third_moved now M m K j N =
      two_ways Moves (ap₂ pair_stays (lag_moved m j) (lag_moved j now)) refl (two_ways Moves {t = is_pair g.pairs K N} refl refl refl)

  third_thumb_moved : (now : Stamp) (M : Key) (m : Stamp) (K : Key) (j : Stamp) (P : Thumb)
      → third_thumb g (later now k) M (later m k) K (later j k) P ≡ moved_done (third_thumb g now M m K j P)
  third_thumb_moved now M m K j P = two_ways Moves (ap₂ pair_stays (lag_moved m j) (lag_moved j now)) refl refl

  act_moved : (s : Settings) (now : Stamp) (y : Resting) (i : Input)
      → act g s (later now k) (moved_resting k y) i ≡ moved_done (act g s now y i)
  act_moved s now S1 (CharacterDown N) = refl
  act_moved s now S1 (CharacterUp N) = refl
  act_moved s now S1 (ThumbDown P) = refl
  act_moved s now S1 (ThumbUp P) = refl
  act_moved s now S1 FunctionDown = refl
  act_moved s now S1 Tick = refl
  act_moved s now (S2 M m) (CharacterDown N) = two_ways Moves {t = is_pair g.pairs M N} refl refl refl
  act_moved s now (S2 M m) (CharacterUp N) = two_ways Moves {t = same_key N M} refl refl refl
  act_moved s now (S2 M m) (ThumbDown P) = refl
  act_moved s now (S2 M m) (ThumbUp P) = refl
  act_moved s now (S2 M m) FunctionDown = refl
  act_moved s now (S2 M m) Tick = refl
  act_moved s now (S3 O o) (CharacterDown N) = refl
  act_moved s now (S3 O o) (CharacterUp N) = refl
  act_moved s now (S3 O o) (ThumbDown P) = two_ways Moves {t = same_thumb P O} refl refl refl
  act_moved s now (S3 O o) (ThumbUp P) = two_ways Moves {t = same_thumb P O} refl refl refl
  act_moved s now (S3 O o) FunctionDown = refl
  act_moved s now (S3 O o) Tick = refl
  act_moved s now (S4 M m O o) (CharacterDown N) =
      two_ways Moves (ap₂ second_character_takes_thumb (lag_moved m o) (lag_moved o now)) refl refl
  act_moved s now (S4 M m O o) (CharacterUp N) =
      two_ways Moves {t = same_key N M} refl
      (two_ways Moves (ap₂ (short_overlap s.j) (lag_moved m o) (lag_moved o now)) refl refl)
      refl
  act_moved s now (S4 M m O o) (ThumbDown P) = two_ways Moves {t = same_thumb P O} refl refl refl
  act_moved s now (S4 M m O o) (ThumbUp P) = two_ways Moves {t = same_thumb P O} refl refl refl
  act_moved s now (S4 M m O o) FunctionDown = refl
  act_moved s now (S4 M m O o) Tick = refl
  act_moved s now (S5 O o M m) (CharacterDown N) = refl
  act_moved s now (S5 O o M m) (CharacterUp N) = two_ways Moves {t = same_key N M} refl refl refl
  act_moved s now (S5 O o M m) (ThumbDown P) =
      two_ways Moves {t = same_thumb P O} refl refl
      (two_ways Moves (ap₂ second_thumb_takes_character (lag_moved o m) (lag_moved m now)) refl refl)
  act_moved s now (S5 O o M m) (ThumbUp P) =
      two_ways Moves {t = same_thumb P O} refl
      (two_ways Moves (ap₂ (short_overlap s.l) (lag_moved o m) (lag_moved m now)) refl refl)
      refl
  act_moved s now (S5 O o M m) FunctionDown = refl
  act_moved s now (S5 O o M m) Tick = refl
  act_moved s now (S6 O o M m r) (CharacterDown N) = refl
  act_moved s now (S6 O o M m r) (CharacterUp N) = two_ways Moves {t = same_key N M} refl refl refl
  act_moved s now (S6 O o M m r) (ThumbDown P) = refl
  act_moved s now (S6 O o M m r) (ThumbUp P) = refl
  act_moved s now (S6 O o M m r) FunctionDown = refl
  act_moved s now (S6 O o M m r) Tick = refl
  act_moved s now (S7 M m K j) (CharacterDown N) = third_moved now M m K j N
  act_moved s now (S7 M m K j) (CharacterUp N) =
      two_ways Moves {t = same_key N M} refl
      (two_ways Moves (ap₂ (short_pair g) (lag_moved m j) (lag_moved j now)) refl refl)
      (two_ways Moves {t = same_key N K} refl refl refl)
  act_moved s now (S7 M m K j) (ThumbDown P) = third_thumb_moved now M m K j P
  act_moved s now (S7 M m K j) (ThumbUp P) = refl
  act_moved s now (S7 M m K j) FunctionDown = refl
  act_moved s now (S7 M m K j) Tick = refl
  act_moved s now (S8 M m K j r) (CharacterDown N) = third_moved now M m K j N
  act_moved s now (S8 M m K j r) (CharacterUp N) =
      two_ways Moves {t = same_key N K} refl
      (two_ways Moves (ap₂ (short_of s.l) (lag_moved j r) (lag_moved j now)) refl refl)
      refl
  act_moved s now (S8 M m K j r) (ThumbDown P) = third_thumb_moved now M m K j P
  act_moved s now (S8 M m K j r) (ThumbUp P) = refl
  act_moved s now (S8 M m K j r) FunctionDown = refl
  act_moved s now (S8 M m K j r) Tick = refl

  -- one rule after the other
  and_then_moved : (d : Done) (f h : Resting → Done) → ((y : Resting) → f (moved_resting k y) ≡ moved_done (h y))
      → and_then (moved_done d) f ≡ moved_done (and_then d h)
  and_then_moved d f h e = ap (λ (c : Done). (d.items ++ c.items) leaving c.resting) (e d.resting)

  settle_in_moved : (n : ℕ) (s : Settings) (now : Stamp) (y : Resting)
      → settle_in n g s (later now k) (moved_resting k y) ≡ moved_done (settle_in n g s now y)
  unfolding settle_in
  settle_in_moved zero s now y = refl
  settle_in_moved (suc n) s now y =
      two_ways Moves (ap (due_by (later now k)) (deadline_moved s y) ∙ due_moved now (deadline g s y))
      (ap (λ (d : Done). and_then d (settle_in n g s (later now k))) (late_moved s y)
      ∙ and_then_moved (late g s y) (settle_in n g s (later now k)) (settle_in n g s now) (settle_in_moved n s now))
      refl

  one_event_moved : (s : Settings) (now : Stamp) (y : Resting) (i : Input)
      → one_event g s (later now k) (moved_resting k y) i ≡ moved_done (one_event g s now y i)
  unfolding one_event settle
  one_event_moved s now y i =
      ap (λ (d : Done). and_then d (λ z. act g s (later now k) z i)) (settle_in_moved 2 s now y)
      ∙ and_then_moved (settle g s now y) (λ z. act g s (later now k) z i) (λ z. act g s now z i) (λ z. act_moved s now z i)

  -- One event.

  -- a machine whose last stamp is not moved with it
  abbrev moved_but : Stamp → Machine → Machine
  moved_but l m = record { settings = m.settings; resting = moved_resting k m.resting; last = l; held = m.held }

  formed_moved : (m : Machine) → Stays k m.last → well_formed g (moved_machine k m) ≡ well_formed g m
  unfolding well_formed
  formed_moved m stays =
      rw (
        keys_moved m.resting,
        stamps_moved m.last m.resting,
        order_moved m.resting,
        pair_moved m.resting,
        not_above_moved k m.last stays,
      )

  acceptance_moved : (m : Machine) (l t : Stamp) (h : ℕ) (d : Done)
      → acceptance (moved_but l m) (later t k) h (moved_done d) ≡ moved_answer k (acceptance m t h d)
  acceptance_moved m l t h d = rw (shown_moved m.resting, shown_moved d.resting)

  -- Two machines answer alike: both refuse, or both accept.
  data Alike (m n : Machine) : Answer → Answer → Type 0 where
    both_refused : {j : ℕ} → eqb j 0 ≡ false → Alike m n (refusal m j) (refusal n j)
    both_accepted : {r : Answer} → r.number ≡ 0 → Stays k r.machine.last → Alike m n r (moved_answer k r)

  -- They do, if both are well formed or neither is, and if both find the event too old or neither does.
  module _ (m : Machine) (l : Stamp) (e : Event) (stays : Stays k e.stamp)
      (formed : well_formed g (moved_but l m) ≡ well_formed g m)
      (order : ltb (e.stamp.0 + k) l.0 ≡ ltb e.stamp.0 m.last.0) where
    judge_moved : judge g (moved_but l m) (moved_event k e) ≡ judge g m e
    unfolding judge is_new
    judge_moved = rw formed (ap (λ (v : Verdict). if well_formed g m then v orelse refused 2) (go (input e.kind e.key)))
      where
        go : (i : Option Input) → judge_input (moved_but l m) (moved_event k e) i ≡ judge_input m e i
        go none = refl
        go (some i) = rw (above_moved k e.stamp stays, order)

    step_alike : Alike m (moved_but l m) (step g m e) (step g (moved_but l m) (moved_event k e))
    unfolding step step_with
    step_alike =
        either (lent_good g)
        (λ good. rw (good, judge_moved)
        (judge_cases (λ (v : Verdict). Alike m (moved_but l m) (answer g m e.stamp v) (answer g (moved_but l m) (later e.stamp k) v))
        g m e good
        (λ j z. both_refused z)
        (λ i a.
        let x = acts_as m.held i in
        let d = one_event g m.settings e.stamp m.resting x in
        rw (one_event_moved m.settings e.stamp m.resting x, acceptance_moved m l e.stamp (held_after m.held x) d)
        (both_accepted refl stays))))
        (λ bad. rw bad (both_refused refl))

  machine_alike : (m : Machine) → Stays k m.last → (e : Event) → Stays k e.stamp
      → Alike m (moved_machine k m) (step g m e) (step g (moved_machine k m) (moved_event k e))
  machine_alike m h e stays =
      step_alike m (later m.last k) e stays (formed_moved m h) (ltb_moved k e.stamp.0 m.last.0)

  alike_moved : (m : Machine) {a b : Answer} → Alike m (moved_machine k m) a b → b ≡ moved_answer k a
  alike_moved m (both_refused z) = refl
  alike_moved m (both_accepted z h) = refl

  machine_asking : (m : Machine) → Stays k m.last → (now : Stamp) → Stays k now
      → asking g (moved_machine k m) (later now k) ≡ asking g m now
  unfolding asking asking_with
  machine_asking m h now stays =
      rw (
        formed_moved m h,
        above_moved k now stays,
        ltb_moved k now.0 m.last.0,
        deadline_moved m.settings m.resting,
        distance_moved now (deadline g m.settings m.resting),
      )

  -- Sequences.

  -- the states before and after the move, by what was accepted until then
  pub data StatesMoved (s : Settings) : List Event → Machine → Machine → Type 0 where
    both_fresh : StatesMoved s [] (fresh s) (fresh s)
    every_stamp : {e : Event} {more : List Event} {m : Machine} → Stays k m.last → StatesMoved s (e ∷ more) m (moved_machine k m)

  module _ (s : Settings) where
    alike : {done : List Event} {m n : Machine} → StatesMoved s done m n → (e : Event) → Stays k e.stamp
        → Alike m n (step g m e) (step g n (moved_event k e))
    alike both_fresh e stays =
        step_alike (fresh s) (at 0) e stays refl (rw (le-ltb (e.stamp.0 + k) 0 (omega arith), le-ltb e.stamp.0 0 (omega arith)))
    alike (every_stamp {m = m} h) e stays = machine_alike m h e stays

    alike_told : {m n : Machine} {a b : Answer} → Alike m n a b → told b ≡ told a
    alike_told (both_refused z) = refl
    alike_told (both_accepted z h) = refl

    alike_states : {done : List Event} {m n : Machine} {a b : Answer} (e : Event) → StatesMoved s done m n → Alike m n a b
        → StatesMoved s (done ++ accepted_in m e a) a.machine b.machine
    alike_states e c (both_refused z) = rw (z, append-nil) c
    alike_states e both_fresh (both_accepted z h) = rw z (every_stamp h)
    alike_states e (every_stamp c) (both_accepted z h) = every_stamp h

    -- one event: it tells the same, and the states after it compare as those before it
    pub next_moved : {done : List Event} {m n : Machine} → StatesMoved s done m n → (e : Event) → Stays k e.stamp
        → (told (step g n (moved_event k e)) ≡ told (step g m e))
        × StatesMoved s (done ++ accepted_in m e (step g m e)) (step g m e).machine (step g n (moved_event k e)).machine
    next_moved c e stays = let a = alike c e stays in (alike_told a, alike_states e c a)

    run_moved : {done : List Event} {m n : Machine} → StatesMoved s done m n → (es : List Event) → AllStay k es
        → (along g told_in n (moved_events k es) ≡ along g told_in m es)
        × StatesMoved s (done ++ along g accepted_in m es) (after g m es) (after g n (moved_events k es))
    run_moved {done} {m} {n} c [] h = (refl, rw append-nil c)
    run_moved {done} {m} {n} c (e ∷ es) h =
        let one = next_moved c e h.0 in
        let more =
        run_moved
        {done = done ++ accepted_in m e (step g m e)}
        {m = (step g m e).machine}
        {n = (step g n (moved_event k e)).machine}
        one.1
        es
        h.1
        in
        (ap₂ ◌∷◌ one.0 more.0, rw append_assoc at more.1)

    states_equal : {done : List Event} {m n : Machine} → StatesMoved s done m n → n ≡ moved_state k done m
    states_equal both_fresh = refl
    states_equal (every_stamp h) = refl

    asking_alike : {done : List Event} {m n : Machine} → StatesMoved s done m n → (now : Stamp) → Stays k now
        → asking g n (later now k) ≡ asking g m now
    unfolding asking asking_with
    asking_alike both_fresh now stays =
        rw (above_moved k now stays, le-ltb (now.0 + k) 0 (omega arith), le-ltb now.0 0 (omega arith))
    asking_alike (every_stamp {m = m} h) now stays = machine_asking m h now stays

    -- as many characters wait
    pub waiting_moved : {done : List Event} {m n : Machine} → StatesMoved s done m n
        → length (waiting n.resting) ≡ length (waiting m.resting)
    waiting_moved both_fresh = refl
    waiting_moved (every_stamp {m = m} h) = by m.resting
      where
        by : (y : Resting) → length (waiting (moved_resting k y)) ≡ length (waiting y)
        by S1 = refl
        by (S2 M m) = refl
        by (S3 O o) = refl
        by (S4 M m O o) = refl
        by (S5 O o M m) = refl
        by (S6 O o M m r) = refl
        by (S7 M m K j) = refl
        by (S8 M m K j r) = refl

pub clock_moved : ClockMovedStatement
clock_moved g k s es stay =
    let run = run_moved g k s both_fresh es stay in
    record { same_answers = run.0; states_moved = states_equal g k s run.1; same_distance = asking_alike g k s run.1 }

pub machine_moved : MachineMovedStatement
machine_moved g k m h =
    record { step_moved = λ e stays. alike_moved g k m (machine_alike g k m h e stays); asking_moved = machine_asking g k m h }
