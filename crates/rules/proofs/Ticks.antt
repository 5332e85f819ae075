-- Ticks do not matter: a sequence closed by a tick does what its key events do by themselves.
use Prim.Native.Nat.{ℕ, ◌≤◌}
use native.Mathlib.Nat.{le_trans}
use mathlib.Core.Bool.{Bool, true, false, true≢false}
use mathlib.Core.List.{List, [], ◌∷◌, ◌++◌, append_assoc, append-nil}
use mathlib.Core.Option.{Option, none, some}
use mathlib.Core.Path.{◌≡◌, refl, sym, ◌∙◌, ap}
use lib.Dec.{eqb}
use borrow.Author.Tests.{leb-true, le-leb, eq-eqb}
use Rattle.choice.specs.Choice.{if◌then◌orelse◌}
use Rattle.rules.specs.Numbers.{within}
use Rattle.rules.specs.Pairs.{Lent}
use Rattle.rules.specs.States.{deadline}
use Rattle.rules.specs.OneEvent.{Done, ◌leaving◌, nothing, late, act, due_by, settle, and_then, one_event}
use Rattle.rules.specs.GivenBack.{input, acts_as, held_after, Answer, step}
use Rattle.rules.specs.Sequences.{after, along, items_in, key_event_in}
use Rattle.rules.specs.Demand3.{tick, with_event}
use Rattle.rules.specs.declared.Stamp.{Stamp}
use Rattle.rules.specs.declared.Settings.{Settings}
use Rattle.rules.specs.declared.Resting.{Resting}
use Rattle.rules.specs.declared.Resting.TheVariants.{S1, S2, S3, S4, S5, S6, S7, S8}
use Rattle.rules.specs.declared.Machine.{Machine}
use Rattle.rules.specs.declared.Item.{Item}
use Rattle.rules.specs.declared.Event.{Event}
use Rattle.rules.specs.declared.Input.{Input}
use Rattle.rules.specs.declared.Input.TheVariants.{CharacterDown, CharacterUp, ThumbDown, ThumbUp, FunctionDown, Tick}
use Rattle.choice.proofs.Choices.{by_test}
use Rattle.rules.proofs.Steps.{is_key_input, Accepted, taken, step_cases}
use Rattle.rules.proofs.Late.{late_leaves_S1, settle_once}

-- items in front of what is done
abbrev pub after_items : List Item → Done → Done
after_items l d = (l ++ d.items) leaving d.resting

and_then_assoc : (d : Done) (f h : Resting → Done) → and_then (and_then d f) h ≡ and_then d (λ y. and_then (f y) h)
and_then_assoc d f h =
    let e = f d.resting in
    ap (λ (l : List Item). l leaving (h e.resting).resting) (append_assoc d.items e.items (h e.resting).items)

-- Settling.

-- a late line leaves a state that is never due
late_is_settled : (g : Lent) (s : Settings) (now : Stamp) (y : Resting)
    → settle g s now (late g s y).resting ≡ (nothing leaving (late g s y).resting)
late_is_settled g s now y = settle_once g s now (late g s y).resting ∙ rw (late_leaves_S1 g s y)

due_later : (u v : Stamp) → u.0 ≤ v.0 → (d : Option Stamp) → due_by u d ≡ true → due_by v d ≡ true
due_later u v le none h = h
due_later u v le (some d) h = le-leb d.0 v.0 (le_trans (leb-true d.0 u.0 h) le)

pub settle_due : (g : Lent) (s : Settings) (now : Stamp) (y : Resting) → due_by now (deadline g s y) ≡ true
    → settle g s now y ≡ late g s y
settle_due g s now y h = settle_once g s now y ∙ rw h

pub settle_not_due : (g : Lent) (s : Settings) (now : Stamp) (y : Resting) → due_by now (deadline g s y) ≡ false
    → settle g s now y ≡ (nothing leaving y)
settle_not_due g s now y h = settle_once g s now y ∙ rw h

-- to settle sooner changes nothing
settle_sooner : (g : Lent) (s : Settings) (u v : Stamp) → u.0 ≤ v.0 → (y : Resting)
    → and_then (settle g s u y) (settle g s v) ≡ settle g s v y
settle_sooner g s u v le y = go (due_by u (deadline g s y)) refl
  where
    go : (t : Bool) → due_by u (deadline g s y) ≡ t → and_then (settle g s u y) (settle g s v) ≡ settle g s v y
    go true h =
        ap (λ (d : Done). and_then d (settle g s v)) (settle_due g s u y h)
        ∙ ap (after_items (late g s y).items) (late_is_settled g s v y)
        ∙ ap (λ (l : List Item). l leaving (late g s y).resting) (append-nil (late g s y).items)
        ∙ sym (settle_due g s v y (due_later u v le (deadline g s y) h))
    go false h = ap (λ (d : Done). and_then d (settle g s v)) (settle_not_due g s u y h)

-- Key events by themselves, up to a closing stamp t.

-- the stamp of the first of them, or t
abbrev first_stamp : List Event → Stamp → Stamp
first_stamp [] t = t
first_stamp (e ∷ ks) t = e.stamp

-- what an event's input does, with the keys of h held, and the held set after it
abbrev act_as : Lent → Settings → Stamp → ℕ → Resting → Option Input → Done
act_as g s now h y none = nothing leaving y
act_as g s now h y (some i) = act g s now y (acts_as h i)

abbrev held_by : ℕ → Option Input → ℕ
held_by h none = h
held_by h (some i) = held_after h (acts_as h i)

-- from a state that is settled up to the first stamp
abbrev onward : Lent → Settings → Stamp → ℕ → Resting → List Event → Done
onward g s t h y [] = nothing leaving y
onward g s t h y (e ∷ ks) =
    and_then (act_as g s e.stamp h y (input e.kind e.key))
    (λ z. and_then (settle g s (first_stamp ks t) z) (λ v. onward g s t (held_by h (input e.kind e.key)) v ks))

abbrev keyed : Lent → Settings → Stamp → ℕ → List Event → Resting → Done
keyed g s t h ks y = and_then (settle g s (first_stamp ks t) y) (λ v. onward g s t h v ks)

-- the held set after them
abbrev pub held_over : ℕ → List Event → ℕ
held_over h [] = h
held_over h (e ∷ ks) = held_over (held_by h (input e.kind e.key)) ks

-- settling sooner changes nothing of it
keyed_sooner : (g : Lent) (s : Settings) (t u : Stamp) (h : ℕ) (ks : List Event) (y : Resting) → u.0 ≤ (first_stamp ks t).0
    → and_then (settle g s u y) (keyed g s t h ks) ≡ keyed g s t h ks y
keyed_sooner g s t u h ks y le =
    sym (and_then_assoc (settle g s u y) (settle g s (first_stamp ks t)) (λ v. onward g s t h v ks))
    ∙ ap (λ (d : Done). and_then d (λ v. onward g s t h v ks)) (settle_sooner g s u (first_stamp ks t) le y)

act_tick : (g : Lent) (s : Settings) (now : Stamp) (y : Resting) → act g s now y Tick ≡ (nothing leaving y)
act_tick g s now S1 = refl
act_tick g s now (S2 M m) = refl
act_tick g s now (S3 O o) = refl
act_tick g s now (S4 M m O o) = refl
act_tick g s now (S5 O o M m) = refl
act_tick g s now (S6 O o M m r) = refl
act_tick g s now (S7 M m K k) = refl
act_tick g s now (S8 M m K k r) = refl

pub one_tick : (g : Lent) (s : Settings) (now : Stamp) (y : Resting) → one_event g s now y Tick ≡ settle g s now y
unfolding one_event
one_tick g s now y =
    ap (after_items (settle g s now y).items) (act_tick g s now (settle g s now y).resting)
    ∙ ap (λ (l : List Item). l leaving (settle g s now y).resting) (append-nil (settle g s now y).items)

only_tick : (i : Input) → is_key_input i ≡ false → i ≡ Tick
only_tick (CharacterDown k) h = absurd (true≢false h)
only_tick (CharacterUp k) h = absurd (true≢false h)
only_tick (ThumbDown P) h = absurd (true≢false h)
only_tick (ThumbUp P) h = absurd (true≢false h)
only_tick FunctionDown h = absurd (true≢false h)
only_tick Tick h = refl

tick_input : (t : Stamp) (i : Input) → input (tick t).kind (tick t).key ≡ some i → i ≡ Tick
unfolding input
tick_input t i h = cc

-- a refused event's number is not 0
pub not_0 : {Q : Type 0} (n : ℕ) → eqb n 0 ≡ false → n ≡ 0 → Q
not_0 n z h = absurd (true≢false (sym (eq-eqb n 0 h) ∙ z))

-- A sequence closed by a tick: its items and the state that it leaves.
abbrev closed : Lent → Machine → List Event → Stamp → Done
closed g m es t = along g items_in m (with_event es (tick t)) leaving (after g m (with_event es (tick t))).resting

-- no key event of a sequence, nor its closing tick, comes before the machine's last stamp
starts_after : (g : Lent) (m : Machine) (es : List Event) (t : Stamp) → (step g (after g m es) (tick t)).number ≡ 0
    → m.last.0 ≤ (first_stamp (along g key_event_in m es) t).0
starts_after g m [] t =
    step_cases (λ (r : Answer). r.number ≡ 0 → m.last.0 ≤ t.0) g m (tick t) (λ n z h. not_0 n z h) (λ i a _. a.not_before)
starts_after g m (e ∷ es) t =
    step_cases
    (λ (r : Answer).
    (step g (after g r.machine es) (tick t)).number ≡ 0
    → m.last.0 ≤ (first_stamp (key_event_in m e r ++ along g key_event_in r.machine es) t).0)
    g
    m
    e
    (λ n z h. rw z (starts_after g m es t h))
    (λ i a h.
    by_test (λ (l : List Event). m.last.0 ≤ (first_stamp (l ++ along g key_event_in (taken g m e (acts_as m.held i)).machine es) t).0)
    (within 1 5 e.kind)
    (λ _. a.not_before)
    (λ _. le_trans a.not_before (starts_after g (taken g m e (acts_as m.held i)).machine es t h)))

-- an accepted key event acts, and the rest follows
key_event_first : (g : Lent) (s : Settings) (t : Stamp) (h : ℕ) (e : Event) (i : Input) (ks : List Event) (y : Resting)
    → input e.kind e.key ≡ some i
    → and_then (one_event g s e.stamp y (acts_as h i)) (keyed g s t (held_after h (acts_as h i)) ks) ≡ keyed g s t h (e ∷ ks) y
unfolding one_event
key_event_first g s t h e i ks y is =
    and_then_assoc (settle g s e.stamp y) (λ v. act g s e.stamp v (acts_as h i)) (keyed g s t (held_after h (acts_as h i)) ks)
    ∙ ap
    (λ (o : Option Input). and_then (settle g s e.stamp y) (λ v. and_then (act_as g s e.stamp h v o) (keyed g s t (held_by h o) ks)))
    (sym is)

-- What a sequence closed by an accepted tick does is what its key events do.
pub closes : (g : Lent) (m : Machine) (es : List Event) (t : Stamp) → (step g (after g m es) (tick t)).number ≡ 0
    → closed g m es t ≡ keyed g m.settings t m.held (along g key_event_in m es) m.resting
closes g m [] t =
    step_cases
    (λ (r : Answer). r.number ≡ 0 → ((r.items ++ []) leaving r.machine.resting) ≡ keyed g m.settings t m.held [] m.resting)
    g
    m
    (tick t)
    (λ n z h. not_0 n z h)
    (λ i a _. ap (λ (d : Done). (d.items ++ []) leaving d.resting)
    (ap (λ (j : Input). one_event g m.settings t m.resting (acts_as m.held j)) (tick_input t i a.is_input)
    ∙ one_tick g m.settings t m.resting))
closes g m (e ∷ es) t =
    step_cases
    (λ (r : Answer).
    (step g (after g r.machine es) (tick t)).number ≡ 0
    → after_items r.items (closed g r.machine es t)
    ≡ keyed g m.settings t m.held (key_event_in m e r ++ along g key_event_in r.machine es) m.resting)
    g
    m
    e
    (λ n z h. rw z (closes g m es t h))
    (λ i a h. accepted_closes i a (closes g (next i) es t h) (starts_after g (next i) es t h))
  where
    next : Input → Machine
    next i = (taken g m e (acts_as m.held i)).machine

    accepted_closes : (i : Input) → Accepted g m e i
        → closed g (next i) es t ≡ keyed g m.settings t (next i).held (along g key_event_in (next i) es) (next i).resting
        → e.stamp.0 ≤ (first_stamp (along g key_event_in (next i) es) t).0
        → after_items (one_event g m.settings e.stamp m.resting (acts_as m.held i)).items (closed g (next i) es t)
        ≡ keyed g m.settings t m.held ((if within 1 5 e.kind then (e ∷ []) orelse []) ++ along g key_event_in (next i) es)
        m.resting
    accepted_closes i a more le =
        let d = one_event g m.settings e.stamp m.resting (acts_as m.held i) in
        let ks = along g key_event_in (next i) es in
        ap (after_items d.items) more
        ∙ by_test
        (λ (l : List Event).
        and_then d (keyed g m.settings t (next i).held ks) ≡ keyed g m.settings t m.held (l ++ ks) m.resting)
        (within 1 5 e.kind)
        (λ _. key_event_first g m.settings t m.held e i ks m.resting a.is_input)
        (λ no_key.
        ap (λ (j : Input). and_then (one_event g m.settings e.stamp m.resting (acts_as m.held j))
        (keyed g m.settings t (held_after m.held (acts_as m.held j)) ks))
        (only_tick i (sym a.key_event ∙ no_key))
        ∙ ap (λ (f : Done). and_then f (keyed g m.settings t m.held ks)) (one_tick g m.settings e.stamp m.resting)
        ∙ keyed_sooner g m.settings t e.stamp m.held ks m.resting le)

-- The held set that it leaves is that of its key events.
pub held_closes : (g : Lent) (m : Machine) (es : List Event) (t : Stamp)
    → (after g m (with_event es (tick t))).held ≡ held_over m.held (along g key_event_in m es)
held_closes g m [] t =
    step_cases (λ (r : Answer). r.machine.held ≡ m.held) g m (tick t) (λ n z. refl)
    (λ i a. ap (λ (j : Input). held_after m.held (acts_as m.held j)) (tick_input t i a.is_input))
held_closes g m (e ∷ es) t =
    step_cases
    (λ (r : Answer).
    (after g r.machine (with_event es (tick t))).held ≡ held_over m.held (key_event_in m e r ++ along g key_event_in r.machine es))
    g
    m
    e
    (λ n z. rw z (held_closes g m es t))
    (λ i a.
    let next = (taken g m e (acts_as m.held i)).machine in
    let ks = along g key_event_in next es in
    held_closes g next es t
    ∙ by_test (λ (l : List Event). held_over next.held ks ≡ held_over m.held (l ++ ks)) (within 1 5 e.kind)
    (λ _. ap (λ (o : Option Input). held_over (held_by m.held o) ks) (sym a.is_input))
    (λ no_key. ap (λ (j : Input). held_over (held_after m.held (acts_as m.held j)) ks) (only_tick i (sym a.key_event ∙ no_key))))
