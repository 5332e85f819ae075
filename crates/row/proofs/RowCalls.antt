-- Calls at a row are, for each keyboard, calls at its own machine alone; so isolation, and what is proved of one machine's calls for its
-- own events.
use Prim.Native.Nat.{ℕ}
use native.Mathlib.Omega.{arith}
use mathlib.Core.Bool.{Bool, true, false}
use mathlib.Core.List.{List, [], ◌∷◌, ◌++◌, map}
use mathlib.Core.Option.{some}
use mathlib.Core.Path.{◌≡◌, refl, sym, ap, subst, ◌∙◌}
use lib.Dec.{eqb}
use lib.ListN.{get_elem?}
use Rattle.choice.specs.Choice.{if◌then◌orelse◌}
use Rattle.rules.specs.Pairs.{Lent}
use Rattle.rules.specs.States.{later, opening, opened}
use Rattle.std.specs.Prelude.{Result, Ok, Err}
use Rattle.rules.specs.GivenBack.{Answer, refusal, step}
use Rattle.rules.specs.Distance.{asking}
use Rattle.rules.specs.Sequences.{along, state, accepted_events}
use Rattle.rules.specs.MovedClock.{told_in}
use Rattle.rules.specs.MovedClock as clock
use Rattle.rules.specs.declared.Stamp.{Stamp}
use Rattle.rules.specs.declared.Settings.{Settings}
use Rattle.rules.specs.declared.Machine.{Machine}
use Rattle.rules.specs.declared.Item.{Item}
use Rattle.rules.specs.declared.Event.{Event}
use Rattle.rules.proofs.LastAccepted.{last_accepted}
use Rattle.rules.proofs.MovedClock.{clock_moved}
use Rattle.rules.specs.Items.{listed}
use Rattle.preview.specs.Views.{packed_sendings}
use Rattle.rules.specs.declared.Few.{Few}
use Rattle.rules.specs.declared.Few.TheVariants.{None, One, Two}
use Rattle.rules.specs.Refusal.{number_of}
use Rattle.rules.specs.declared.Refusal.{Refusal}
use Rattle.rules.specs.declared.Refusal.TheVariants.{SettingsOutOfRange, NotWellFormed, KeyNotAllowed, AboveLargest, BeforeLast, Cut, WrongRecord, NoRoom, TooLong, OnNoFace, TooManyHeld, ListNotGood, NoKeyboard, ListInOpinion}
use Rattle.rules.proofs.Refusals.{refusals}
use Rattle.deadlines.specs.Views.{asked}
use Rattle.engine.specs.Views.{Gives}
use Rattle.engine.specs.Calls.{Given, Calls, machine_after, last_machine, OfTheCode}
use Rattle.engine.specs.Calls as one
use Rattle.engine.proofs.Calls.{of_the_code}
use Rattle.row.specs.Row.{RowAnswer}
use Rattle.row.specs.Views.{Tells, TellsAt, told_number}
use Rattle.row.specs.RowFacts.{Found}
use Rattle.row.specs.RowRuns.{RowEvent, row_step, events_of}
use Rattle.row.specs.RowCalls.{Called, CallsAt, RowCalls, no_more, call, no_call, handed, own_answer}
use Rattle.row.specs.RowCalls.{answer_in, answers_of, standing, machines_of, last_of, machine_of, machines_after}
use Rattle.row.specs.RowCalls.{Distance, AsksAt, told_of, RowHandedOn, OwnCalls, IsolatedCalls, OfTheRowStatement, ClockMovedAtStatement, RowOfTheCode}
use Rattle.row.specs.declared.Told.{Told}
use Rattle.row.proofs.Found.{step_here, asking_here}
use Rattle.row.proofs.RowRuns.{step_own, found_own, found_other}

-- Answers have one form, so calls with the same events from the same machine are answered the same.

abbrev pub packed_items : List Item → Few Item
packed_items [] = None
packed_items (i ∷ []) = One i
packed_items (i ∷ (j ∷ l)) = Two i j

packed_listed : (i : Few Item) → packed_items (listed i) ≡ i
packed_listed None = refl
packed_listed (One i) = refl
packed_listed (Two i j) = refl

-- the refusal of a number
abbrev pub numbered : ℕ → Refusal
numbered n =
    if eqb n 1 then SettingsOutOfRange orelse
    if eqb n 2 then NotWellFormed orelse
    if eqb n 3 then KeyNotAllowed orelse
    if eqb n 4 then AboveLargest orelse
    if eqb n 5 then BeforeLast orelse
    if eqb n 6 then Cut orelse
    if eqb n 7 then WrongRecord orelse
    if eqb n 8 then NoRoom orelse
    if eqb n 9 then TooLong orelse
    if eqb n 10 then OnNoFace orelse
    if eqb n 11 then TooManyHeld orelse
    if eqb n 12 then ListNotGood orelse
    if eqb n 13 then NoKeyboard orelse ListInOpinion

abbrev pub packed_told : clock.Told → Result Told Refusal
packed_told t =
    if eqb t.number 0 then Ok (record { items = packed_items t.items; sendings = packed_sendings t.sendings }) orelse Err (numbered t.number)

abbrev form_in : Machine → Event → Answer → List Given
form_in m e a = own_answer (packed_told (clock.told a)) a.machine ∷ []

refused_one : (m : Machine) (e : Refusal) → Err e ≡ own_answer (packed_told (clock.told (refusal m (number_of e)))) m
refused_one m SettingsOutOfRange = refl
refused_one m NotWellFormed = refl
refused_one m KeyNotAllowed = refl
refused_one m AboveLargest = refl
refused_one m BeforeLast = refl
refused_one m Cut = refl
refused_one m WrongRecord = refl
refused_one m NoRoom = refl
refused_one m TooLong = refl
refused_one m OnNoFace = refl
refused_one m TooManyHeld = refl
refused_one m ListNotGood = refl
refused_one m NoKeyboard = refl
refused_one m ListInOpinion = refl

gives_one : {m : Machine} (r : Given) {a : Answer} → Gives m r a → r ≡ own_answer (packed_told (clock.told a)) a.machine
gives_one (Ok r) {a} h =
    let items_are : listed r.items ≡ a.items = ap (λ (z : Answer). z.items) h.answer in
    let machine_is : r.machine ≡ a.machine = ap (λ (z : Answer). z.machine) h.answer in
    let number_is : 0 ≡ a.number = ap (λ (z : Answer). z.number) h.answer in
    rw (← number_is, ← items_are, packed_listed r.items, ← h.packed, ← machine_is)
gives_one {m} (Err e) h = refused_one m e ∙ ap (λ (z : Answer). own_answer (packed_told (clock.told z)) z.machine) h.answer

-- the number of a refusal is not 0
not_0 : (e : Refusal) → ¬ (number_of e ≡ 0)
not_0 SettingsOutOfRange h = omega arith
not_0 NotWellFormed h = omega arith
not_0 KeyNotAllowed h = omega arith
not_0 AboveLargest h = omega arith
not_0 BeforeLast h = omega arith
not_0 Cut h = omega arith
not_0 WrongRecord h = omega arith
not_0 NoRoom h = omega arith
not_0 TooLong h = omega arith
not_0 OnNoFace h = omega arith
not_0 TooManyHeld h = omega arith
not_0 ListNotGood h = omega arith
not_0 NoKeyboard h = omega arith
not_0 ListInOpinion h = omega arith

module _ (g : Lent) where
  calls_form : {m : Machine} {es : List Event} {rs : List Given} → Calls g m es rs → rs ≡ along g form_in m es
  calls_form one.no_more = refl
  calls_form (one.call {m = m} {e = e} {r = r} {es = es} h c) =
      ap (λ (l : List Given). r ∷ l) (calls_form c)
      ∙ ap (λ (a : Answer). r ∷ along g form_in a.machine es) h.answer
      ∙ ap (λ (z : Given). z ∷ along g form_in (step g m e).machine es) (gives_one r h)

  told_own : (t : Result Told Refusal) (m : Machine) → told_of (own_answer t m) ≡ t
  told_own (Ok t) m = refl
  told_own (Err e) m = refl

  told_along : (m : Machine) (es : List Event) → map told_of (along g form_in m es) ≡ map packed_told (along g told_in m es)
  told_along m [] = refl
  told_along m (e ∷ es) =
      let t = packed_told (clock.told (step g m e)) in
      ap (λ (z : Result Told Refusal). z ∷ map told_of (along g form_in (step g m e).machine es)) (told_own t (step g m e).machine)
      ∙ ap (λ (l : List (Result Told Refusal)). t ∷ l) (told_along (step g m e).machine es)

-- the machine that is found at a place is the one that stands there
one_found : {row : List Machine} {k : ℕ} {m n : Machine} → Found row k m → Found row k n → m ≡ n
one_found {row} {k} {m} {n} p q = let same : some m ≡ some n = sym p.stands ∙ q.stands in cc

same_answer : {a b : Answer} → a.number ≡ b.number → a.items ≡ b.items → a.sendings ≡ b.sendings → a.machine ≡ b.machine → a ≡ b
same_answer n i q m = rw (n, i, q, m)

module _ (g : Lent) (k : ℕ) where
  -- it is found after every call
  found_on : (row : List Machine) (x : RowEvent) (m : Machine) → Found row k m → (n : Machine) × Found (row_step g row x).row k n
  found_on row x m f = go (eqb x.board k) refl
    where
      go : (t : Bool) → eqb x.board k ≡ t → (n : Machine) × Found (row_step g row x).row k n
      go true own = ((step g m x.event).machine, found_own g k row x m f own)
      go false other = (m, found_other g k row x m f other)

  -- the machine that is left is that of `engine::step`
  left_own : (row : List Machine) (x : RowEvent) (c : Called) (m after : Machine) → Found row k m → CallsAt g row x c
      → Found c.row k after → eqb x.board k ≡ true → after ≡ (step g m x.event).machine
  left_own row x c m after f h left own =
      one_found left (subst (λ (l : List Machine). Found l k (step g m x.event).machine) (sym h.1) (found_own g k row x m f own))

  -- what it has of a call at it is what `engine::step` gives
  gives_own : (row : List Machine) (x : RowEvent) (c : Called) (m after : Machine) → Found row k m → CallsAt g row x c
      → Found c.row k after → eqb x.board k ≡ true → Gives m (own_answer c.told after) (step g m x.event)
  gives_own row x c m after f h left own =
      by_told c.told (subst (λ (a : RowAnswer). TellsAt c.told a) (step_own g k row x m f own) h.0)
    where
      on : after ≡ (step g m x.event).machine
      on = left_own row x c m after f h left own

      by_told : (r : Result Told Refusal) → Tells r (step g m x.event).number (step g m x.event).items (step g m x.event).sendings
          → Gives m (own_answer r after) (step g m x.event)
      by_told (Ok r) t = record { answer = same_answer t.number_is t.items_are t.sendings_are on; packed = t.packed }
      by_told (Err e) t =
          let as_given : (step g m x.event).machine ≡ m
          = ((refusals g m x.event).refused (λ z. not_0 e (t.number_is ∙ z))).machine_as_given in
          record { answer = same_answer t.number_is t.items_are t.sendings_are (sym as_given); packed = t.packed }

  own_at : (m : Machine) (xs : List RowEvent) (cs : List Called) → RowCalls g k m xs cs → Calls g m (events_of k xs) (answers_of k xs cs)
  own_at m _ _ no_more = one.no_more
  own_at m _ _ (call {after = after} {row = row} {x = x} {c = c} {xs = xs} {cs = cs} f h left more) =
      go (eqb x.board k) refl (own_at after xs cs more)
    where
      go : (t : Bool) → eqb x.board k ≡ t → Calls g after (events_of k xs) (answers_of k xs cs)
          → Calls g m ((if t then (x.event ∷ []) orelse []) ++ events_of k xs)
          ((if t then answer_in c (get_elem? c.row k) orelse []) ++ answers_of k xs cs)
      go true own rest =
          let gives = gives_own row x c m after f h left own in
          let same : after ≡ machine_after m (own_answer c.told after)
          = left_own row x c m after f h left own ∙ sym (ap (λ (a : Answer). a.machine) gives.answer) in
          rw left.stands (one.call gives (subst (λ (n : Machine). Calls g n (events_of k xs) (answers_of k xs cs)) same rest))
      go false other rest =
          let as_before = subst (λ (l : List Machine). Found l k m) (sym h.1) (found_other g k row x m f other) in
          subst (λ (n : Machine). Calls g n (events_of k xs) (answers_of k xs cs)) (one_found left as_before) rest

  -- what stands in the row behind each call is the machine after it
  machines_at : (m : Machine) (xs : List RowEvent) (cs : List Called) → RowCalls g k m xs cs
      → machines_of k xs cs ≡ machines_after m (answers_of k xs cs)
  machines_at m _ _ no_more = refl
  machines_at m _ _ (call {after = after} {row = row} {x = x} {c = c} {xs = xs} {cs = cs} f h left more) =
      go (eqb x.board k) refl (machines_at after xs cs more)
    where
      go : (t : Bool) → eqb x.board k ≡ t → machines_of k xs cs ≡ machines_after after (answers_of k xs cs)
          → (if t then standing (get_elem? c.row k) orelse []) ++ machines_of k xs cs
          ≡ machines_after m ((if t then answer_in c (get_elem? c.row k) orelse []) ++ answers_of k xs cs)
      go true own rest =
          let gives = gives_own row x c m after f h left own in
          let same : after ≡ machine_after m (own_answer c.told after)
          = left_own row x c m after f h left own ∙ sym (ap (λ (a : Answer). a.machine) gives.answer) in
          rw left.stands (ap (λ (l : List Machine). after ∷ l) rest
          ∙ ap (λ (n : Machine). n ∷ machines_after n (answers_of k xs cs)) same)
      go false other rest =
          let as_before = subst (λ (l : List Machine). Found l k m) (sym h.1) (found_other g k row x m f other) in
          rest ∙ ap (λ (n : Machine). machines_after n (answers_of k xs cs)) (one_found left as_before)

own_calls : OwnCalls
own_calls g k m xs cs c = record { calls = own_at g k m xs cs c; machines = machines_at g k m xs cs c }

last_after : (m : Machine) (rs : List Given) → last_of m (machines_after m rs) ≡ last_machine m rs
last_after m [] = refl
last_after m (r ∷ rs) = last_after (machine_after m r) rs

-- so the machine that its last call left in the row is the one after it
left_is : (g : Lent) (k : ℕ) (m : Machine) (xs : List RowEvent) (cs : List Called) → RowCalls g k m xs cs
    → machine_of k m xs cs ≡ last_machine m (answers_of k xs cs)
left_is g k m xs cs c = ap (λ (l : List Machine). last_of m l) (machines_at g k m xs cs c) ∙ last_after m (answers_of k xs cs)

row_handed_on : RowHandedOn
row_handed_on g k row m _ _ no_call f = no_more
row_handed_on g k row m _ _ (handed {x = x} {c = c} {xs = xs} {cs = cs} h more) f =
    let (n, there) = found_on g k row x m f in
    let left : Found c.row k n = subst (λ (l : List Machine). Found l k n) (sym h.1) there in
    call f h left (row_handed_on g k c.row n xs cs more left)

-- asked, a keyboard answers as its machine alone
asked_own : {g : Lent} {k : ℕ} {m : Machine} {now : Stamp} {r : Distance} → AsksAt g k m now r → asked r ≡ asking g m now
asked_own {g} {k} {m} {now} a = a.asks ∙ asking_here a.row k g now m a.found

isolated_calls : IsolatedCalls
isolated_calls g k j m xs ys cs ds c d same =
    let answers : answers_of k xs cs ≡ answers_of j ys ds
    = calls_form g (own_at g k m xs cs c) ∙ ap (λ (es : List Event). along g form_in m es) same
    ∙ sym (calls_form g (own_at g j m ys ds d)) in
    let machines : machines_of k xs cs ≡ machines_of j ys ds
    = machines_at g k m xs cs c ∙ ap (λ (rs : List Given). machines_after m rs) answers ∙ sym (machines_at g j m ys ds d) in
    record {
      same_answers = answers;
      same_machines = machines;
      same_asked = λ now r o a b. asked_own a ∙ ap (λ (l : List Machine). asking g (last_of m l) now) machines ∙ sym (asked_own b);
    }

module _ (g : Lent) (k : ℕ) (s : Settings) (m : Machine) (xs : List RowEvent) (cs : List Called) (is_opened : opened (Ok m) ≡ opening s)
    (c : RowCalls g k m xs cs) where
  code : OfTheCode g s m (events_of k xs) (answers_of k xs cs)
  code = of_the_code g (record { machine_opened = is_opened; calls = own_at g k m xs cs c })

  left : machine_of k m xs cs ≡ state g s (events_of k xs)
  left = left_is g k m xs cs c ∙ code.same_machine

  told_are : map told_of (answers_of k xs cs) ≡ map packed_told (clock.all_told g s (events_of k xs))
  told_are =
      let begun = of_the_code g {s = s} {m = m} {es = []} {rs = []} (record { machine_opened = is_opened; calls = one.no_more }) in
      ap (map told_of) (calls_form g (own_at g k m xs cs c)) ∙ told_along g m (events_of k xs)
      ∙ ap (λ (z : Machine). map packed_told (along g told_in z (events_of k xs))) begun.same_machine

of_the_row : OfTheRowStatement
of_the_row g k s m xs cs is_opened c =
    let run = code g k s m xs cs is_opened c in
    let stands = left g k s m xs cs is_opened c in
    record {
      of_the_code = run;
      left_in_row = stands;
      same_asked = λ now r a. asked_own a ∙ ap (λ (z : Machine). asking g z now) stands;
      own_last_stamp = λ good row e t f tells.
          let at : told_number t ≡ (step g (state g s (events_of k xs)) e).number
          = tells.number_is ∙ ap (λ (a : RowAnswer). a.number) (step_here row k g e (machine_of k m xs cs) f)
          ∙ ap (λ (z : Machine). (step g z e).number) stands in
          rw at ((last_accepted g good s run.settings_in_range (events_of k xs)).gives_5 e);
    }

clock_moved_at : ClockMovedAtStatement
clock_moved_at g d k j s m xs ys cs ds is_opened c c' moved stay =
    let before = left g k s m xs cs is_opened c in
    let later_on = left g j s m ys ds is_opened c' in
    let both = clock_moved g d s (events_of k xs) stay in
    let accepted = accepted_events g s (events_of k xs) in
    record {
      same_told = told_are g j s m ys ds is_opened c' ∙ ap (λ (es : List Event). map packed_told (clock.all_told g s es)) moved
          ∙ ap (map packed_told) both.same_answers ∙ sym (told_are g k s m xs cs is_opened c);
      machine_moved = later_on ∙ ap (λ (es : List Event). state g s es) moved ∙ both.states_moved
          ∙ ap (λ (z : Machine). clock.moved_state d accepted z) (sym before);
      same_asked = λ now stays r o a b.
          asked_own b ∙ ap (λ (z : Machine). asking g z (later now d)) (later_on
          ∙ ap (λ (es : List Event). state g s es) moved)
          ∙ both.same_distance now stays ∙ ap (λ (z : Machine). asking g z now) (sym before) ∙ sym (asked_own a);
    }

pub row_of_the_code : RowOfTheCode
row_of_the_code =
    record {
      row_handed_on = row_handed_on;
      own_calls = own_calls;
      isolated_calls = isolated_calls;
      of_the_row = of_the_row;
      clock_moved_at = clock_moved_at;
    }
