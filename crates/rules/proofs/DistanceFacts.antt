-- What a host leans on when it asks for the distance.
use Prim.Native.Nat.{ℕ, zero, suc, ◌+◌, ◌-◌, ◌≤◌, ◌<◌}
use native.Mathlib.Omega.{arith}
use mathlib.Core.Bool.{Bool, true, false, cond}
use mathlib.Core.List.{List, [], ◌∷◌, ◌++◌, cons≢nil}
use mathlib.Core.Logic.{◌≢◌}
use mathlib.Core.Option.{Option, none, some}
use mathlib.Core.Path.{◌≡◌, refl, sym, ◌∙◌, ap, subst}
use lib.Dec.{ltb, leb, eqb}
use lib.IntN.{ℤ, pos, negsuc, sub_ℕ, ◌+ℤ◌, neg_ℤ, neg_ℤ-+ℤ, +ℤ_assoc, pos-ne-negsuc}
use borrow.Author.Tests.{eq-eqb, ltb-true, ltb-false, le-ltb, leb-true, le-leb, lt-leb}
use Rattle.rules.specs.Numbers.{largest_stamp}
use Rattle.rules.specs.Pairs.{Lent, lent_good}
use Rattle.rules.specs.States.{later, deadline, well_formed}
use Rattle.rules.specs.OneEvent.{◌leaving◌, nothing, mark, late, due_by, settle}
use Rattle.rules.specs.ZeroDelay.{shown, sent}
use Rattle.choice.specs.Choice.{if◌then◌orelse◌}
use Rattle.rules.specs.GivenBack.{input, is_new, refused, accepted, judge, Answer, refusal, acceptance, answer, step_with, step}
use Rattle.rules.specs.Demand3.{tick}
use Rattle.rules.specs.Distance.{distance, distance_to, Asking, not_answered, asking_with, asking}
use Rattle.rules.specs.DistanceFacts.{IsDue, DueOrOverdue, less, only_last, late_line, TickIsTime, DistanceFacts, SameRefusals}
use Rattle.rules.specs.declared.Stamp.{Stamp}
use Rattle.rules.specs.declared.Settings.{Settings}
use Rattle.rules.specs.declared.Resting.{Resting}
use Rattle.rules.specs.declared.Resting.TheVariants.{S1, S2, S3, S4, S5, S6, S7, S8}
use Rattle.rules.specs.declared.Machine.{Machine}
use Rattle.rules.specs.declared.Face.TheVariants.{Plain}
use Rattle.rules.specs.declared.Item.{Item}
use Rattle.rules.specs.declared.Item.TheVariants.{Character}
use Rattle.rules.specs.declared.Input.TheVariants.{Tick}
use Rattle.choice.proofs.Choices.{both_ways, by_test, either}
use Rattle.rules.proofs.Signed.{pos_injective, difference}
use Rattle.rules.proofs.Steps.{step_accepted}
use Rattle.rules.proofs.Ticks.{settle_due, settle_not_due, one_tick}

-- Signed numbers.

due_pos : (k : ℕ) → IsDue (pos k) → k ≡ 0
due_pos zero h = refl
due_pos (suc k) h = absurd h

due_at_most : (a b : ℕ) → IsDue (sub_ℕ a b) → a ≤ b
due_at_most a b = go (ltb a b) refl
  where
    go : (t : Bool) → ltb a b ≡ t → IsDue (cond t (negsuc (b - suc a)) (pos (a - b))) → a ≤ b
    go true e h = let lt = ltb-true a b e in omega arith
    go false e h = let z = due_pos (a - b) h in omega arith

at_most_due : (a b : ℕ) → a ≤ b → IsDue (sub_ℕ a b)
at_most_due a b le = go (ltb a b) refl
  where
    go : (t : Bool) → ltb a b ≡ t → IsDue (cond t (negsuc (b - suc a)) (pos (a - b)))
    go true e = tt
    go false e =
        let ge = ltb-false a b e in
        let z : a - b ≡ 0 = omega arith in
        rw z tt

-- n milliseconds are left
left_over : (a b n : ℕ) → sub_ℕ a b ≡ pos n → a ≡ b + n
left_over a b n = go (ltb a b) refl
  where
    go : (t : Bool) → ltb a b ≡ t → cond t (negsuc (b - suc a)) (pos (a - b)) ≡ pos n → a ≡ b + n
    go true e h = absurd (pos-ne-negsuc n (b - suc a) (sym h))
    go false e h =
        let ge = ltb-false a b e in
        let same : a - b ≡ n = pos_injective (a - b) n h in
        omega arith

none_is_not_some : {X : Type 0} {x : X} → none ≡ some x → ⊥
none_is_not_some e =
    let z : ◌≡◌ {A = ℕ} 0 1 = cc in
    omega arith

some_injective : {X : Type 0} {x y : X} → some x ≡ some y → x ≡ y
some_injective e = cc

-- What an answer says of the machine and the stamp.
record Answers (g : Lent) (m : Machine) (now : Stamp) : Type 0 where
  good : lent_good g ≡ true
  formed : well_formed g m ≡ true
  not_above : now.0 ≤ largest_stamp
  not_before : m.last.0 ≤ now.0

answers : (g : Lent) (m : Machine) (now : Stamp) → (asking g m now).number ≡ 0 → Answers g m now
unfolding asking asking_with
answers g m now =
    by_test (λ (a : Asking). a.number ≡ 0 → Answers g m now) (lent_good g)
    (λ good. by_test (λ (a : Asking). a.number ≡ 0 → Answers g m now) (well_formed g m)
    (λ w. by_test (λ (a : Asking). a.number ≡ 0 → Answers g m now) (ltb largest_stamp now.0) (λ _ z. absurd (omega arith))
    (λ low. by_test (λ (a : Asking). a.number ≡ 0 → Answers g m now) (ltb now.0 m.last.0) (λ _ z. absurd (omega arith))
    (λ late z. record { good = good; formed = w; not_above = ltb-false _ _ low; not_before = ltb-false _ _ late })))
    (λ _ z. absurd (omega arith)))
    (λ _ z. absurd (omega arith))

-- by the four tests: asking and a tick make the same ones, in the same order
same_tests : (g : Lent) (m : Machine) (now : Stamp) (d : Option ℤ) (good formed above before : Bool)
    → (if good then
    (if formed then
    (if above then not_answered 4 orelse if before then not_answered 5 orelse record { number = 0; distance = d })
    orelse not_answered 2)
    orelse not_answered 12).number
    ≡ (if good then
    answer g m now
    (if formed then (if above then refused 4 orelse if before then refused 5 orelse accepted Tick) orelse refused 2)
    orelse refusal m 12).number
same_tests g m now d false formed above before = refl
same_tests g m now d true false above before = refl
same_tests g m now d true true true before = refl
same_tests g m now d true true false true = refl
same_tests g m now d true true false false = refl

pub same_refusals : (g : Lent) (m : Machine) (now : Stamp) → SameRefusals g m now
unfolding asking asking_with step step_with judge is_new input
same_refusals g m now =
    same_tests g m now (distance_to now (deadline g m.settings m.resting)) (lent_good g) (well_formed g m)
    (ltb largest_stamp now.0) (ltb now.0 m.last.0)

-- a tick that is accepted
accepts : (g : Lent) (m : Machine) (t : Stamp) → (step g m (tick t)).number ≡ 0 → Answers g m t
accepts g m t h = answers g m t (same_refusals g m t ∙ h)

module _ (g : Lent) (m : Machine) (now : Stamp) (a : Answers g m now) where
  answer_is : asking g m now ≡ record { number = 0; distance = distance_to now (deadline g m.settings m.resting) }
  unfolding asking asking_with
  answer_is = rw (a.good, a.formed, le-ltb largest_stamp now.0 a.not_above, le-ltb now.0 m.last.0 a.not_before)

  -- a tick settles
  tick_settles : step g m (tick now) ≡ acceptance m now m.held (settle g m.settings now m.resting)
  unfolding input is_new
  tick_settles =
      step_accepted g m (tick now) Tick a.good a.formed refl a.not_above a.not_before refl
      ∙ ap (acceptance m now m.held) (one_tick g m.settings now m.resting)

-- a late line whose deadline is there commits something
late_commits : (g : Lent) (s : Settings) (y : Resting) (d : Stamp) → deadline g s y ≡ some d → (late g s y).items ≢ []
unfolding mark
late_commits g s S1 d e = absurd (none_is_not_some e)
late_commits g s (S2 M m) d e = cons≢nil
late_commits g s (S3 O o) d e =
    by_test (λ (t : Option Stamp). t ≡ some d → mark s O ≢ []) (eqb s.solo 1)
    (λ t _. rw t cons≢nil)
    (λ _ f. absurd (none_is_not_some f))
    e
late_commits g s (S4 M m O o) d e = cons≢nil
late_commits g s (S5 O o M m) d e = cons≢nil
late_commits g s (S6 O o M m r) d e =
    both_ways (λ (l : List Item). l ++ (Character M Plain ∷ []) ≢ []) (eqb s.solo 1) cons≢nil cons≢nil
late_commits g s (S7 M m K k) d e = cons≢nil
late_commits g s (S8 M m K k r) d e = cons≢nil

-- what is shown already is not sent again
sent_same : (p : List ℕ) → sent p p ≡ []
unfolding sent
sent_same [] = refl
sent_same (c ∷ p) = rw (eq-eqb c c refl) (sent_same p)

-- there is a deadline, at or before now
record Passed (g : Lent) (m : Machine) (now : Stamp) : Type 0 where
  at : Stamp
  is_deadline : deadline g m.settings m.resting ≡ some at
  passed : due_by now (deadline g m.settings m.resting) ≡ true

-- d milliseconds later, d less
distance_later : (now : Stamp) (d : ℕ) (o : Option Stamp) → distance_to (later now d) o ≡ less d (distance_to now o)
distance_later now d none = refl
distance_later now d (some e) =
    ap some
    (ap (λ (z : ℤ). pos e.0 +ℤ z) (neg_ℤ-+ℤ (pos now.0) (pos d))
    ∙ sym (+ℤ_assoc (pos e.0) (neg_ℤ (pos now.0)) (neg_ℤ (pos d))))

module _ (g : Lent) (m : Machine) (now : Stamp) (a : Answers g m now) where
  -- the answer by the state's deadline
  asked : (o : Option Stamp) → deadline g m.settings m.resting ≡ o → (asking g m now).distance ≡ distance_to now o
  asked o e = ap (λ (r : Asking). r.distance) (answer_is g m now a) ∙ ap (distance_to now) e

  items_settled : (step g m (tick now)).items ≡ (settle g m.settings now m.resting).items
  items_settled = ap (λ (r : Answer). r.items) (tick_settles g m now a)

  tick_late : due_by now (deadline g m.settings m.resting) ≡ true
      → step g m (tick now) ≡ acceptance m now m.held (late g m.settings m.resting)
  tick_late h = tick_settles g m now a ∙ ap (acceptance m now m.held) (settle_due g m.settings now m.resting h)

  tick_idle : due_by now (deadline g m.settings m.resting) ≡ false
      → step g m (tick now) ≡ acceptance m now m.held (nothing leaving m.resting)
  tick_idle h = tick_settles g m now a ∙ ap (acceptance m now m.held) (settle_not_due g m.settings now m.resting h)

  tick_only_last : due_by now (deadline g m.settings m.resting) ≡ false → step g m (tick now) ≡ only_last m now
  tick_only_last h = tick_idle h ∙ rw (sent_same (shown m.resting))

  idle_commits_nothing : due_by now (deadline g m.settings m.resting) ≡ false → (step g m (tick now)).items ≡ []
  idle_commits_nothing h = ap (λ (r : Answer). r.items) (tick_idle h)

  -- an answer of 0 or below is a deadline at or before now
  due_deadline : DueOrOverdue (asking g m now).distance → Passed g m now
  due_deadline over = go (deadline g m.settings m.resting) refl
    where
      go : (o : Option Stamp) → deadline g m.settings m.resting ≡ o → Passed g m now
      go none e = absurd (none_is_not_some (sym (asked none e) ∙ over.is_answer))
      go (some d) e =
          let same : over.distance ≡ sub_ℕ d.0 now.0 =
          some_injective (sym over.is_answer ∙ asked (some d) e) ∙ difference d.0 now.0 in
          let le = due_at_most d.0 now.0 (subst IsDue same over.is_due) in
          record { at = d; is_deadline = e; passed = ap (due_by now) e ∙ le-leb d.0 now.0 le }

  due_is_late : DueOrOverdue (asking g m now).distance → step g m (tick now) ≡ late_line g m now
  due_is_late over = tick_late (due_deadline over).passed

  due_commits : DueOrOverdue (asking g m now).distance → (step g m (tick now)).items ≢ []
  due_commits over none_left =
      let d = due_deadline over in
      late_commits g m.settings m.resting d.at d.is_deadline
      (sym (ap (λ (r : Answer). r.items) (due_is_late over)) ∙ none_left)

  commits_due : (step g m (tick now)).items ≢ [] → DueOrOverdue (asking g m now).distance
  commits_due some_left = go (deadline g m.settings m.resting) refl
    where
      by : (d : Stamp) → deadline g m.settings m.resting ≡ some d → (t : Bool) → leb d.0 now.0 ≡ t
          → DueOrOverdue (asking g m now).distance
      by d e true h =
          record {
            distance = distance now d;
            is_answer = asked (some d) e;
            is_due = subst IsDue (sym (difference d.0 now.0)) (at_most_due d.0 now.0 (leb-true _ _ h));
          }
      by d e false h = absurd (some_left (idle_commits_nothing (ap (due_by now) e ∙ h)))

      go : (o : Option Stamp) → deadline g m.settings m.resting ≡ o → DueOrOverdue (asking g m now).distance
      go none e = absurd (some_left (idle_commits_nothing (ap (due_by now) e)))
      go (some d) e = by d e (leb d.0 now.0) refl

  -- later, with no event between
  answers_later : (d : ℕ) → now.0 + d ≤ largest_stamp → Answers g m (later now d)
  answers_later d h =
      let before = a.not_before in
      record { good = a.good; formed = a.formed; not_above = h; not_before = omega arith }

  later_is_less : (d : ℕ) → now.0 + d ≤ largest_stamp
      → asking g m (later now d) ≡ record { number = 0; distance = less d (asking g m now).distance }
  later_is_less d h =
      answer_is g m (later now d) (answers_later d h)
      ∙ ap (λ (z : Option ℤ). record { number = 0; distance = z })
      (distance_later now d (deadline g m.settings m.resting) ∙ ap (less d) (sym (asked _ refl)))

  -- n milliseconds are left
  deadline_in : (n : ℕ) → (asking g m now).distance ≡ some (pos n) → deadline g m.settings m.resting ≡ some (later now n)
  deadline_in n h = go (deadline g m.settings m.resting) refl
    where
      go : (o : Option Stamp) → deadline g m.settings m.resting ≡ o → o ≡ some (later now n)
      go none e = absurd (none_is_not_some (sym (asked none e) ∙ h))
      go (some d) e =
          let is : d.0 ≡ now.0 + n =
          left_over d.0 now.0 n (sym (difference d.0 now.0) ∙ some_injective (sym (asked (some d) e) ∙ h)) in
          ap (λ (k : ℕ). some (record { 0 = k })) is

  -- no deadline
  deadline_none : (asking g m now).distance ≡ none → deadline g m.settings m.resting ≡ none
  deadline_none h = go (deadline g m.settings m.resting) refl
    where
      go : (o : Option Stamp) → deadline g m.settings m.resting ≡ o → o ≡ none
      go none e = refl
      go (some d) e = absurd (none_is_not_some (sym h ∙ asked (some d) e))

module _ (g : Lent) (m : Machine) (now : Stamp) (a : Answers g m now) where
  early_tick : (n : ℕ) → (asking g m now).distance ≡ some (pos n) → (t : Stamp) → t.0 < now.0 + n → (step g m (tick t)).number ≡ 0
      → step g m (tick t) ≡ only_last m t
  early_tick n h t lt taken =
      tick_only_last g m t (accepts g m t taken)
      (ap (due_by t) (deadline_in g m now a n h) ∙ lt-leb (now.0 + n) t.0 lt)

  tick_on_time : (n : ℕ) → (asking g m now).distance ≡ some (pos n) → now.0 + n ≤ largest_stamp
      → step g m (tick (later now n)) ≡ late_line g m (later now n)
  tick_on_time n h low =
      tick_late g m (later now n) (answers_later g m now a n low)
      (ap (due_by (later now n)) (deadline_in g m now a n h) ∙ le-leb (now.0 + n) (now.0 + n) (omega arith))

  never_due : (asking g m now).distance ≡ none → (t : Stamp) → (step g m (tick t)).number ≡ 0 → step g m (tick t) ≡ only_last m t
  never_due h t taken = tick_only_last g m t (accepts g m t taken) (ap (due_by t) (deadline_none g m now a h))

pub tick_is_time : (g : Lent) (m : Machine) (t : Stamp) → TickIsTime g m t
tick_is_time g m t taken =
    let a = accepts g m t taken in
    either (due_by t (deadline g m.settings m.resting)) (λ d. rw d (tick_late g m t a d)) (λ f. rw f (tick_only_last g m t a f))

pub distance_facts : (g : Lent) (m : Machine) (now : Stamp) → (asking g m now).number ≡ 0 → DistanceFacts g m now
distance_facts g m now answered =
    let a = answers g m now answered in
    record {
      due_commits = due_commits g m now a;
      commits_due = commits_due g m now a;
      due_is_late = due_is_late g m now a;
      later_is_less = later_is_less g m now a;
      early_tick = early_tick g m now a;
      tick_on_time = tick_on_time g m now a;
      never_due = never_due g m now a;
    }
