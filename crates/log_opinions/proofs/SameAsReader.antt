-- The second opinion on a log answers as the reader does, given enough room.
use Prim.Native.Nat.{ℕ, ◌+◌, ◌*◌, ◌≤◌, ◌<◌}
use native.Mathlib.Omega.{arith}
use borrow.Author.Tests.{le-leb, lt-leb, leb-true, leb-false, eqb-true, eqb-false}
use mathlib.Core.Bool.{true, false, not, true≢false, and-eq-true_iff}
use mathlib.Core.List.{List, [], ◌∷◌, ◌++◌, append_assoc, append-nil, foldl, cons-ne-nil}
use mathlib.Core.Logic.{◌↔◌, ◌≢◌}
use mathlib.Core.Option.{Option, none, some}
use mathlib.Core.Path.{◌≡◌, refl, sym, ap, ◌∙◌, subst}
use lib.Dec.{eqb, leb, ltb}
use lib.ListN.{length, length-append}
use Rattle.rules.specs.Numbers.{largest_stamp, in_range}
use Rattle.rules.specs.Pairs.{Pair, Lent, lent_good, no_pairs}
use Rattle.rules.specs.States.{fresh as fresh_machine, opening}
use Rattle.rules.specs.ZeroDelay.{signs}
use Rattle.rules.specs.GivenBack.{step, step_with}
use Rattle.rules.specs.Sequences.{items_in, waiting, after, along, state, items}
use Rattle.rules.specs.declared.Settings.{Settings}
use Rattle.rules.specs.declared.Machine.{Machine}
use Rattle.rules.specs.declared.Event.{Event}
use Rattle.choice.proofs.Choices.{both_ways, by_test, either}
use Rattle.rules.proofs.Screen.{signs_append}
use Rattle.keylog.specs.Records.{tag, is_settings, settings, is_event, event, is_list, list}
use Rattle.keylog.specs.Reader.{Desk, closed, opened, running, RecordEffect, by_event, record_effect, Reading, fresh, refuse}
use Rattle.keylog.specs.Reader.{by_effect, unless_refused}
use Rattle.keylog.specs.Reader.{read_record, cut_behind, is_cut, at_end, read, number_of, waiting_of}
use Rattle.keylog.specs.Reader as reader
use Rattle.keylog.specs.LogRecords.{records_of, tail_of}
use Rattle.keylog.proofs.Lent.{no_pairs_good, step_is}
use Rattle.keylog.proofs.Reading.{at_desk, read_records}
use Rattle.keylog.proofs.RecordRefusals.{record_refusals}
use Rattle.keylog.proofs.Room.{enough_room}
use Rattle.opinions.specs.Earlier.{allowed, last_stamp, too_many, number_after, accepted}
use Rattle.opinions.specs.Opinion.{told, opinion}
use Rattle.opinions.proofs.Back.{Knows, knows_fresh, number_is, knows_step}
use Rattle.opinions.proofs.SameAsRules.{same_as_rules}
use Rattle.log_opinions.specs.OfLog.{Found, ends, and_event, found_at_end, find, Opined, refused, on_told, on_found}
use Rattle.log_opinions.specs.OfLog.{unless_pairs, behind, on_records, on_log, opined, answer_of}
use Rattle.log_opinions.specs.SameAsReader.{as_read, BeginWithPairs, WithPairs, LendsPairs, SameAsReaderStatement}

-- what reading leaves behind the words ws, at a machine m, beside what is found
record Ends (g : Lent) (m : Machine) (ws : List ℕ) (f : Found) (y : Reading) : Type 0 where
  words : y.words ≡ ws ++ signs (along g items_in m f.events)
  waits : waiting_of y.desk ≡ length (waiting (after g m f.events).resting)
  offset : y.offset ≡ f.offset
  number : number_of y.refusal ≡ f.number

-- a desk that does to the first of some records what an event does at a machine
abbrev First : Desk → Lent → Machine → List (List ℕ) → Type 0
First d g m [] = Unit {0}
First d g m (r ∷ rs) = record_effect d r ≡ by_event g m r

record Ready (d : Desk) (g : Lent) (m : Machine) (rs : List (List ℕ)) : Type 0 where
  cuts : (p : List ℕ) → is_cut d p ≡ cut_behind p
  waits : waiting_of d ≡ length (waiting m.resting)
  first : First d g m rs

running_ready : (g : Lent) (m : Machine) (rs : List (List ℕ)) → Ready (running g m) g m rs
unfolding record_effect
running_ready g m [] = record { cuts = λ p. refl; waits = refl; first = tt }
running_ready g m (r ∷ rs) = record { cuts = λ p. refl; waits = refl; first = refl }

-- no more records
at_the_end : (cut : List ℕ) (d : Desk) (g : Lent) (m : Machine) (ws : List ℕ) (at : ℕ) → Ready d g m []
    → Ends g m ws (found_at_end at cut) (at_end (record { state = at_desk d ws at; pending = cut }))
at_the_end [] d g m ws at t = rw (t.cuts []) (record { words = sym (append-nil ws); waits = t.waits; offset = refl; number = refl })
at_the_end (b ∷ cut) d g m ws at t =
    rw (t.cuts (b ∷ cut)) (record { words = sym (append-nil ws); waits = t.waits; offset = refl; number = refl })

module _ (room : ℕ) (cut : List ℕ) where
  -- the rest of a log's records, and its end
  abbrev reads : Reading → List (List ℕ) → Reading
  reads x rs = at_end (record { state = foldl (read_record room) x rs; pending = cut })

  stopped : (x : Reading) (n : ℕ) (rs : List (List ℕ)) → reads (refuse x n) rs ≡ refuse x n
  stopped x n [] = refl
  stopped x n (r ∷ rs) = ap (λ (y : Reading). reads y rs) (record_refusals.after room (refuse x n) n r refl) ∙ stopped x n rs

  module _ (g : Lent) (good : lent_good g ≡ true) where
    module _ (d : Desk) (m : Machine) (ws : List ℕ) (at : ℕ) (r : List ℕ) (does : record_effect d r ≡ by_event g m r) where
      no_event : is_event r ≡ false → read_record room (at_desk d ws at) r ≡ refuse (at_desk d ws at) 7
      unfolding read_record
      no_event e = rw (does, e)

      event_refused : is_event r ≡ true → (n : ℕ) → (step g m (event r)).number ≡ n → eqb n 0 ≡ false
          → read_record room (at_desk d ws at) r ≡ refuse (at_desk d ws at) n
      unfolding read_record
      event_refused e n q z = rw (does, e, ← step_is g good m (event r), q, z)

      event_taken : is_event r ≡ true → (step g m (event r)).number ≡ 0
          → length ws + length (signs (step g m (event r)).items) ≤ room
          → read_record room (at_desk d ws at) r
          ≡ at_desk (running g (step g m (event r)).machine) (ws ++ signs (step g m (event r)).items) (at + length r)
      unfolding read_record
      event_taken e q fits = rw (does, e, ← step_is g good m (event r), q, le-leb _ _ fits)

    abbrev Claim : Desk → Machine → List ℕ → ℕ → List (List ℕ) → Found → Type 0
    Claim d m ws at rs f =
        length ws + length (signs (along g items_in m f.events)) ≤ room → Ends g m ws f (reads (at_desk d ws at) rs)

    -- a record that is refused ends it all
    stops : (d : Desk) (m : Machine) (ws : List ℕ) (at : ℕ) (r : List ℕ) (rs : List (List ℕ)) → Ready d g m (r ∷ rs)
        → (n : ℕ) → read_record room (at_desk d ws at) r ≡ refuse (at_desk d ws at) n → Claim d m ws at (r ∷ rs) (ends n at)
    stops d m ws at r rs t n q fit =
        subst (Ends g m ws (ends n at)) (sym (ap (λ (y : Reading). reads y rs) q ∙ stopped (at_desk d ws at) n rs))
        (record { words = sym (append-nil ws); waits = t.waits; offset = refl; number = refl })

    finds : (d : Desk) (m : Machine) (before : List Event) (ws : List ℕ) (at : ℕ) (rs : List (List ℕ)) → Knows g m before
        → Ready d g m rs → Claim d m ws at rs (find before at rs cut)
    unfolding find
    finds d m before ws at [] w t = λ fit. at_the_end cut d g m ws at t
    finds d m before ws at (r ∷ rs) w t =
        let e = event r in
        let same : (step g m e).number ≡ number_after before e = number_is g good m before w e in
        by_test (Claim d m ws at (r ∷ rs)) (is_event r)
        (λ ev. by_test (Claim d m ws at (r ∷ rs)) (eqb (number_after before e) 0)
        (λ z fit.
        let is_0 : number_after before e ≡ 0 = eqb-true _ _ z in
        let next = (step g m e).machine in
        let new = signs (step g m e).items in
        let f = find (e ∷ before) (at + length r) rs cut in
        let all : signs (along g items_in m (e ∷ f.events)) ≡ new ++ signs (along g items_in next f.events) =
        signs_append (step g m e).items (along g items_in next f.events) in
        let whole : length ws + length (new ++ signs (along g items_in next f.events)) ≤ room = rw all at fit in
        let more = finds (running g next) next (e ∷ before) (ws ++ new) (at + length r) rs (knows_step g good m before w e is_0)
        (running_ready g next rs)
        (omega (arith, length-append new (signs (along g items_in next f.events)), length-append ws new)) in
        let here = event_taken d m ws at r t.first ev (same ∙ is_0)
        (omega (arith, length-append new (signs (along g items_in next f.events)))) in
        subst (Ends g m ws (and_event e f)) (sym (ap (λ (y : Reading). reads y rs) here))
        (record { words = more.words ∙ rw (all, append_assoc); waits = more.waits; offset = more.offset; number = more.number }))
        (λ z. stops d m ws at r rs t (number_after before e) (event_refused d m ws at r t.first ev (number_after before e) same z)))
        (λ ev. stops d m ws at r rs t 7 (no_event d m ws at r t.first ev))

-- Of what is found: all of it is accepted, and neither 8 nor 14 ends it.
abbrev Ordinary : ℕ → Type 0
Ordinary n = (n ≢ 8) × (n ≢ 14)

ordinary : (n : ℕ) → eqb n 8 ≡ false → eqb n 14 ≡ false → Ordinary n
ordinary n a b = (eqb-false n 8 a, eqb-false n 14 b)

ordinary_number : (before : List Event) (e : Event) → Ordinary (number_after before e)
unfolding number_after
ordinary_number before e =
    both_ways Ordinary (not (allowed e)) (ordinary 3 refl refl)
    (both_ways Ordinary (ltb largest_stamp e.stamp.0) (ordinary 4 refl refl)
    (both_ways Ordinary (ltb e.stamp.0 (last_stamp before)) (ordinary 5 refl refl)
    (both_ways Ordinary (too_many before e) (ordinary 11 refl refl) (ordinary 0 refl refl))))

module _ (cut : List ℕ) where
  found_accepted : (before : List Event) (at : ℕ) (rs : List (List ℕ))
      → accepted before (find before at rs cut).events ≡ (find before at rs cut).events
  unfolding find accepted
  found_accepted before at [] = none_found cut
    where
      none_found : (c : List ℕ) → accepted before (found_at_end at c).events ≡ (found_at_end at c).events
      none_found [] = refl
      none_found (b ∷ c) = refl
  found_accepted before at (r ∷ rs) =
      let Same : Found → Type 0 = λ f. accepted before f.events ≡ f.events in
      both_ways Same (is_event r)
      (by_test Same (eqb (number_after before (event r)) 0)
      (λ z. rw z (ap (λ (l : List Event). event r ∷ l) (found_accepted (event r ∷ before) (at + length r) rs)))
      (λ _. refl))
      refl

  found_ordinary : (before : List Event) (at : ℕ) (rs : List (List ℕ)) → Ordinary (find before at rs cut).number
  unfolding find
  found_ordinary before at [] = none_found cut
    where
      none_found : (c : List ℕ) → Ordinary (found_at_end at c).number
      none_found [] = ordinary 0 refl refl
      none_found (b ∷ c) = ordinary 6 refl refl
  found_ordinary before at (r ∷ rs) =
      let Good : Found → Type 0 = λ f. Ordinary f.number in
      both_ways Good (is_event r)
      (both_ways Good (eqb (number_after before (event r)) 0) (found_ordinary (event r ∷ before) (at + length r) rs)
      (ordinary_number before (event r)))
      (ordinary 7 refl refl)

-- Without pairs: the answer on what is found is the reader's.
module _ (room : ℕ) (cut : List ℕ) (t n : ℕ) (good : lent_good (record { pairs = []; t_s = t; n = n }) ≡ true) where
  abbrev g : Lent
  g = record { pairs = []; t_s = t; n = n }

  module _ (s : Settings) (range : in_range s ≡ true) (d : Desk) (at : ℕ) (rs : List (List ℕ)) where
    abbrev f : Found
    f = find [] at rs cut

    is_told : opinion s f.events ≡ told (items g s f.events) (waiting (state g s f.events).resting)
    is_told =
        let same = same_as_rules t n good s range f.events in
        ap (opinion s) (sym (found_accepted cut [] at rs) ∙ same.same_events) ∙ same.same_told

    answers : Ready d g (fresh_machine s) rs → length (on_found s f).words ≤ room
        → as_read (reads room cut (at_desk d [] at) rs) ≡ on_found s f
    answers ready fit =
        let fits : length (signs (items g s f.events)) ≤ room = rw is_told at fit in
        let e = finds room cut g good d (fresh_machine s) [] [] at rs (knows_fresh g s range) ready (omega arith) in
        (λ i. record { number = e.number i; words = e.words i; offset = e.offset i; waiting = e.waits i })
        ∙ ap (on_told f) (sym is_told)

-- An answer o on records and what is cut behind them: the reader's, where there is room for its words; or there are pairs.
data Compared (rs : List (List ℕ)) (cut : List ℕ) (o : Opined) : Type 0 where
  as_reader : (¬ BeginWithPairs rs) → Ordinary o.number
      → ((room : ℕ) → length o.words ≤ room → as_read (reads room cut fresh rs) ≡ o) → Compared rs cut o
  with_pairs : BeginWithPairs rs → o ≡ refused 14 8 → Compared rs cut o

-- nothing but a number
refused_first : (r : List ℕ) (rs : List (List ℕ)) (cut : List ℕ) (n : ℕ) → Ordinary n → (¬ BeginWithPairs (r ∷ rs))
    → ((room : ℕ) → read_record room fresh r ≡ refuse fresh n) → Compared (r ∷ rs) cut (refused n 0)
refused_first r rs cut n o never q =
    as_reader never o (λ room fit. ap as_read (ap (λ (y : Reading). reads room cut y rs) (q room) ∙ stopped room cut fresh n rs))

not_settings : (r : List ℕ) (rs : List (List ℕ)) → is_settings r ≡ false → ¬ BeginWithPairs (r ∷ rs)
not_settings r [] e p = p
not_settings r (q ∷ rs) e p = true≢false (sym p.0 ∙ e)

not_in_range : (r : List ℕ) (rs : List (List ℕ)) → in_range (settings r) ≡ false → ¬ BeginWithPairs (r ∷ rs)
not_in_range r [] e p = p
not_in_range r (q ∷ rs) e p = true≢false (sym p.1 ∙ e)

settings_length : (r : List ℕ) → is_settings r ≡ true → length r ≡ 8
unfolding is_settings
settings_length r e = eqb-true (length r) 8 ((and-eq-true_iff (eqb (tag r) 1) (eqb (length r) 8)).0 e).1

-- behind settings in range
module _ (r : List ℕ) (cut : List ℕ) (is-first : is_settings r ≡ true) (range : in_range (settings r) ≡ true) where
  abbrev s : Settings
  s = settings r

  abbrev m : Machine
  m = fresh_machine s

  opens : (room : ℕ) → read_record room fresh r ≡ at_desk (opened m) [] (length r)
  unfolding read_record record_effect opening
  opens room =
      let size : 0 + length r ≡ length r = omega arith in
      rw (is-first, range, le-leb 0 room (omega arith), size)

  behind_opened : (room : ℕ) (rs : List (List ℕ)) → reads room cut fresh (r ∷ rs) ≡ reads room cut (at_desk (opened m) [] (length r)) rs
  behind_opened room rs = ap (λ (y : Reading). reads room cut y rs) (opens room)

  -- events at once
  events_behind : (rs : List (List ℕ)) → (¬ BeginWithPairs (r ∷ rs)) → Ready (opened m) no_pairs m rs
      → Compared (r ∷ rs) cut (on_found s (find [] (length r) rs cut))
  events_behind rs never t =
      as_reader never (found_ordinary cut [] (length r) rs)
      (λ room fit. ap as_read (behind_opened room rs) ∙ answers room cut 50 1 no_pairs_good s range (opened m) (length r) rs t fit)

  module _ (q : List ℕ) (rs : List (List ℕ)) where
    no_list : is_list q ≡ false → Compared (r ∷ (q ∷ rs)) cut (on_found s (find [] (length r) (q ∷ rs) cut))
    unfolding record_effect
    no_list e =
        events_behind (q ∷ rs) (λ p. true≢false (sym p.2 ∙ e)) (record { cuts = λ p. refl; waits = refl; first = rw e })

    module _ (is-second : is_list q ≡ true) where
      refuses : lent_good (list q) ≡ false → (room : ℕ)
          → read_record room (at_desk (opened m) [] (length r)) q ≡ refuse (at_desk (opened m) [] (length r)) 12
      unfolding read_record record_effect
      refuses e room = rw (is-second, e)

      bad_list : lent_good (list q) ≡ false → Compared (r ∷ (q ∷ rs)) cut (refused 12 (length r))
      bad_list e =
          as_reader (λ p. true≢false (sym p.3 ∙ e)) (ordinary 12 refl refl)
          (λ room fit.
          ap as_read (behind_opened room (q ∷ rs) ∙ ap (λ (y : Reading). reads room cut y rs) (refuses e room)
          ∙ stopped room cut (at_desk (opened m) [] (length r)) 12 rs))

      module _ (good : lent_good (list q) ≡ true) where
        abbrev answer : Opined
        answer = on_found s (find [] (length r + length q) rs cut)

        lends : (room : ℕ) → read_record room (at_desk (opened m) [] (length r)) q ≡ at_desk (running (list q) m) [] (length r + length q)
        unfolding read_record record_effect
        lends room = rw (is-second, good, le-leb 0 room (omega arith))

        -- a list of no pairs
        empty_list : (list q).pairs ≡ [] → (room : ℕ) → length answer.words ≤ room
            → as_read (reads room cut (at_desk (running (list q) m) [] (length r + length q)) rs) ≡ answer
        empty_list e room fit =
            let h : Lent = record { pairs = []; t_s = (list q).t_s; n = (list q).n } in
            let same : list q ≡ h = λ i. record { pairs = e i; t_s = (list q).t_s; n = (list q).n } in
            subst (λ (k : Lent). as_read (reads room cut (at_desk (running k m) [] (length r + length q)) rs) ≡ answer) (sym same)
            (answers room cut (list q).t_s (list q).n (ap lent_good (sym same) ∙ good) s range (running h m) (length r + length q) rs
            (running_ready h m rs) fit)

        by_pairs : (ps : List Pair) → (list q).pairs ≡ ps → Compared (r ∷ (q ∷ rs)) cut (unless_pairs ps (length r) answer)
        by_pairs [] e =
            as_reader (λ p. p.4 e) (found_ordinary cut [] (length r + length q) rs)
            (λ room fit.
            ap as_read (behind_opened room (q ∷ rs) ∙ ap (λ (y : Reading). reads room cut y rs) (lends room)) ∙ empty_list e room fit)
        by_pairs (p ∷ ps) e =
            with_pairs (is-first, range, is-second, good, λ z. cons-ne-nil p ps (sym e ∙ z)) (rw (settings_length r is-first))

  behind_compared : (rs : List (List ℕ)) → Compared (r ∷ rs) cut (behind s (length r) rs cut)
  behind_compared [] = events_behind [] (λ p. p) (record { cuts = λ p. refl; waits = refl; first = tt })
  behind_compared (q ∷ rs) =
      by_test (Compared (r ∷ (q ∷ rs)) cut) (is_list q)
      (λ l.
      by_test (Compared (r ∷ (q ∷ rs)) cut) (lent_good (list q)) (λ good. by_pairs q rs l good (list q).pairs refl) (bad_list q rs l))
      (no_list q rs)

first_not_settings : (r : List ℕ) → is_settings r ≡ false → (room : ℕ) → read_record room fresh r ≡ refuse fresh 7
unfolding read_record record_effect
first_not_settings r e room = rw e

first_out_of_range : (r : List ℕ) → is_settings r ≡ true → in_range (settings r) ≡ false → (room : ℕ)
    → read_record room fresh r ≡ refuse fresh 1
unfolding read_record record_effect opening
first_out_of_range r e f room = rw (e, f)

compared : (rs : List (List ℕ)) (cut : List ℕ) → Compared rs cut (on_records rs cut)
compared [] cut = as_reader (λ p. p) (ordinary 6 refl refl) (λ room fit. refl)
compared (r ∷ rs) cut =
    by_test (Compared (r ∷ rs) cut) (is_settings r)
    (λ e. by_test (Compared (r ∷ rs) cut) (in_range (settings r))
    (λ range. behind_compared r cut e range rs)
    (λ f. refused_first r rs cut 1 (ordinary 1 refl refl) (not_in_range r rs f) (first_out_of_range r e f)))
    (λ e. refused_first r rs cut 7 (ordinary 7 refl refl) (not_settings r rs e) (first_not_settings r e))

-- What the reader lends: the pairs of its desk.
abbrev pairs_of : Desk → List Pair
pairs_of closed = []
pairs_of (opened m) = []
pairs_of (running g m) = g.pairs

lends_some : (d : Desk) → pairs_of d ≢ [] → LendsPairs d
lends_some closed h = absurd (h refl)
lends_some (opened m) h = absurd (h refl)
lends_some (running g m) h = h

lends_none : (d : Desk) → pairs_of d ≡ [] → ¬ LendsPairs d
lends_none closed e h = h
lends_none (opened m) e h = h
lends_none (running g m) e h = h e

-- a desk that lends these pairs, to whatever machine, and goes on doing so
abbrev Lending : List Pair → Desk → Type 0
Lending ps closed = ⊥
Lending ps (opened m) = ⊥
Lending ps (running g m) = g.pairs ≡ ps

lending_pairs : (ps : List Pair) (d : Desk) → Lending ps d → pairs_of d ≡ ps
lending_pairs ps closed h = elim h [ ]
lending_pairs ps (opened m) h = elim h [ ]
lending_pairs ps (running g m) h = h

abbrev LeadsTo : List Pair → RecordEffect → Type 0
LeadsTo ps (reader.refused n) = Unit {0}
LeadsTo ps (reader.accepted d ws) = Lending ps d

event_lends : (g : Lent) (m : Machine) (r : List ℕ) → LeadsTo g.pairs (by_event g m r)
event_lends g m r =
    both_ways (LeadsTo g.pairs) (is_event r)
    (both_ways (LeadsTo g.pairs) (eqb (step_with g m (event r)).number 0) refl tt) tt

module _ (room : ℕ) (cut : List ℕ) (ps : List Pair) where
  abbrev Lends : Reading → Type 0
  Lends x = Lending ps x.desk

  judge_lends : (x : Reading) (r : List ℕ) (f : RecordEffect) → Lends x → LeadsTo ps f → Lends (by_effect room x r f)
  judge_lends x r (reader.refused n) h k = h
  judge_lends x r (reader.accepted d ws) h k = both_ways Lends (leb (length x.words + length ws) room) k h

  unless_lends : (x next : Reading) (o : Option ℕ) → Lends x → Lends next → Lends (unless_refused x o next)
  unless_lends x next none h k = k
  unless_lends x next (some n) h k = h

  effect_lends : (d : Desk) (r : List ℕ) → Lending ps d → LeadsTo ps (record_effect d r)
  unfolding record_effect
  effect_lends closed r h = elim h [ ]
  effect_lends (opened m) r h = elim h [ ]
  effect_lends (running g m) r h = subst (λ (qs : List Pair). LeadsTo qs (by_event g m r)) h (event_lends g m r)

  record_lends : (x : Reading) (r : List ℕ) → Lends x → Lends (read_record room x r)
  unfolding read_record
  record_lends x r h =
      unless_lends x _ x.refusal h (judge_lends x r (record_effect x.desk r) h (effect_lends x.desk r h))

  fold_lends : (x : Reading) (rs : List (List ℕ)) → Lends x → Lends (foldl (read_record room) x rs)
  fold_lends x [] h = h
  fold_lends x (r ∷ rs) h = fold_lends (read_record room x r) rs (record_lends x r h)

  end_lends : (x : Reading) → Lends x → Lends (at_end (record { state = x; pending = cut }))
  end_lends x h = unless_lends x _ x.refusal h (both_ways Lends (is_cut x.desk cut) h h)

  reads_lends : (x : Reading) (rs : List (List ℕ)) → Lends x → pairs_of (reads room cut x rs).desk ≡ ps
  reads_lends x rs h =
      let y = foldl (read_record room) x rs in
      lending_pairs ps (reads room cut x rs).desk (end_lends y (fold_lends x rs h))

abbrev lent_in : Reading → List Pair
lent_in y = pairs_of y.desk

-- An event straight behind the settings: no pairs are lent from there on.
module _ (room : ℕ) (cut : List ℕ) (m : Machine) (at : ℕ) (q : List ℕ) (rs : List (List ℕ)) where
  abbrev at_opened : Reading
  at_opened = at_desk (opened m) [] at

  none_by : (f : RecordEffect) → LeadsTo [] f → lent_in (reads room cut (by_effect room at_opened q f) rs) ≡ []
  none_by (reader.refused n) h = ap lent_in (stopped room cut at_opened n rs)
  none_by (reader.accepted d ws) h =
      both_ways (λ (y : Reading). lent_in (reads room cut y rs) ≡ []) (leb (0 + length ws) room)
      (reads_lends room cut [] (at_desk d ws (at + length q)) rs h)
      (ap lent_in (stopped room cut at_opened 8 rs))

  as_event : is_list q ≡ false → read_record room at_opened q ≡ by_effect room at_opened q (by_event no_pairs m q)
  unfolding read_record record_effect
  as_event e = rw e

  none_lent : is_list q ≡ false → lent_in (reads room cut at_opened (q ∷ rs)) ≡ []
  none_lent e =
      ap (λ (y : Reading). lent_in (reads room cut y rs)) (as_event e) ∙ none_by (by_event no_pairs m q) (event_lends no_pairs m q)

-- what is lent beside how the records begin
module _ (room : ℕ) (cut : List ℕ) where
  abbrev last : List (List ℕ) → Reading
  last rs = reads room cut fresh rs

  abbrev Agree : List (List ℕ) → Type 0
  Agree rs = BeginWithPairs rs ↔ LendsPairs (last rs).desk

  agree_on_none : (rs : List (List ℕ)) → (¬ BeginWithPairs rs) → lent_in (last rs) ≡ [] → Agree rs
  agree_on_none rs never e = (λ p. absurd (never p), λ l. absurd (lends_none (last rs).desk e l))

  agree_on_some : (rs : List (List ℕ)) → BeginWithPairs rs → lent_in (last rs) ≢ [] → Agree rs
  agree_on_some rs p h = (λ _. lends_some (last rs).desk h, λ _. p)

  first_refused : (r : List ℕ) (rs : List (List ℕ)) (n : ℕ) → (¬ BeginWithPairs (r ∷ rs)) → read_record room fresh r ≡ refuse fresh n
      → Agree (r ∷ rs)
  first_refused r rs n never e =
      agree_on_none (r ∷ rs) never
      (ap lent_in (ap (λ (y : Reading). reads room cut y rs) e ∙ stopped room cut fresh n rs))

  module _ (r : List ℕ) (is-first : is_settings r ≡ true) (range : in_range (settings r) ≡ true) where
    abbrev fresh_one : Machine
    fresh_one = fresh_machine (settings r)

    abbrev begun : Reading
    begun = at_desk (opened fresh_one) [] (length r)

    begins : (rs : List (List ℕ)) → reads room cut fresh (r ∷ rs) ≡ reads room cut begun rs
    begins = behind_opened r cut is-first range room

    alone : lent_in (reads room cut begun []) ≡ []
    alone = both_ways (λ (y : Reading). lent_in y ≡ []) (is_cut (opened fresh_one) cut) refl refl

    module _ (q : List ℕ) (rs : List (List ℕ)) where
      -- a list
      agree_bad : is_list q ≡ true → lent_good (list q) ≡ false → Agree (r ∷ (q ∷ rs))
      agree_bad l e =
          agree_on_none (r ∷ (q ∷ rs)) (λ p. true≢false (sym p.3 ∙ e))
          (ap lent_in (begins (q ∷ rs) ∙ ap (λ (y : Reading). reads room cut y rs) (refuses r cut is-first range q rs l e room)
          ∙ stopped room cut begun 12 rs))

      agree_good : is_list q ≡ true → lent_good (list q) ≡ true → Agree (r ∷ (q ∷ rs))
      agree_good l good = by (list q).pairs refl
        where
          is_lent : lent_in (reads room cut fresh (r ∷ (q ∷ rs))) ≡ (list q).pairs
          is_lent =
              ap lent_in (begins (q ∷ rs) ∙ ap (λ (y : Reading). reads room cut y rs) (lends r cut is-first range q rs l good room))
              ∙ reads_lends room cut (list q).pairs (at_desk (running (list q) fresh_one) [] (length r + length q)) rs refl

          by : (ps : List Pair) → (list q).pairs ≡ ps → Agree (r ∷ (q ∷ rs))
          by [] e = agree_on_none (r ∷ (q ∷ rs)) (λ p. p.4 e) (is_lent ∙ e)
          by (p ∷ ps) e =
              let some_pairs : (list q).pairs ≢ [] = λ z. cons-ne-nil p ps (sym e ∙ z) in
              agree_on_some (r ∷ (q ∷ rs)) (is-first, range, l, good, some_pairs) (λ z. some_pairs (sym is_lent ∙ z))

    agree_behind : (rs : List (List ℕ)) → Agree (r ∷ rs)
    agree_behind [] = agree_on_none (r ∷ []) (λ p. p) (ap lent_in (begins []) ∙ alone)
    agree_behind (q ∷ rs) =
        either (is_list q)
        (λ l. either (lent_good (list q)) (agree_good q rs l) (agree_bad q rs l))
        (λ l. agree_on_none (r ∷ (q ∷ rs)) (λ p. true≢false (sym p.2 ∙ l))
        (ap lent_in (begins (q ∷ rs)) ∙ none_lent room cut fresh_one (length r) q rs l))

  agree : (rs : List (List ℕ)) → Agree rs
  agree [] = agree_on_none [] (λ p. p) refl
  agree (r ∷ rs) =
      either (is_settings r)
      (λ e. either (in_range (settings r)) (λ range. agree_behind r e range rs)
      (λ f. first_refused r rs 1 (not_in_range r rs f) (first_out_of_range r e f room)))
      (λ e. first_refused r rs 7 (not_settings r rs e) (first_not_settings r e room))

with_pairs_lent : (room : ℕ) (log : List ℕ) → WithPairs log ↔ LendsPairs (read room log).desk
with_pairs_lent room log = rw (read_records room log) (agree room (tail_of log) (records_of log))

-- The answer with a run of some room.
module _ (room : ℕ) (log : List ℕ) where
  -- what is compared is the reader's
  reader_is : read room log ≡ reads room (tail_of log) fresh (records_of log)
  reader_is = read_records room log

  fits : length (on_log log).words ≤ room → opined room log ≡ on_log log
  unfolding opined
  fits h = rw (le-leb _ _ h)

  does_not_fit : room < length (on_log log).words → opined room log ≡ refused 8 0
  unfolding opined
  does_not_fit h = rw (lt-leb (length (on_log log).words) room h)

log_compared : (log : List ℕ) → Compared (records_of log) (tail_of log) (on_log log)
unfolding on_log
log_compared log = compared (records_of log) (tail_of log)

same : (room : ℕ) (log : List ℕ) → (¬ WithPairs log) → length (on_log log).words ≤ room → opined room log ≡ as_read (read room log)
same room log never h = go (log_compared log)
  where
    go : Compared (records_of log) (tail_of log) (on_log log) → opined room log ≡ as_read (read room log)
    go (as_reader _ _ q) = fits room log h ∙ sym (ap as_read (reader_is room log) ∙ q room h)
    go (with_pairs p _) = absurd (never p)

pairs_refused : (room : ℕ) (log : List ℕ) → WithPairs log → opined room log ≡ refused 14 8
pairs_refused room log p = go (log_compared log)
  where
    go : Compared (records_of log) (tail_of log) (on_log log) → opined room log ≡ refused 14 8
    go (as_reader never _ _) = absurd (never p)
    go (with_pairs _ q) =
        let none : length (on_log log).words ≡ 0 = ap (λ (o : Opined). length o.words) q in
        fits room log (omega arith) ∙ q

-- a number that is 8 or 14 is not that of an answer with room
by_room : (room : ℕ) (log : List ℕ) {X : Type 0} → (opined room log ≡ on_log log → X)
    → (room < length (on_log log).words → opined room log ≡ refused 8 0 → X) → X
by_room room log yes_way no_way =
    either (leb (length (on_log log).words) room)
    (λ e. yes_way (fits room log (leb-true _ _ e)))
    (λ e. let h = leb-false (length (on_log log).words) room e in no_way h (does_not_fit room log h))

number : {o p : Opined} → o ≡ p → o.number ≡ p.number
number q = ap (λ (o : Opined). o.number) q

means_pairs_14 : (room : ℕ) (log : List ℕ) → (opined room log).number ≡ 14 → WithPairs log
means_pairs_14 room log h =
    by_room room log (λ q. go (log_compared log) (sym (number q) ∙ h)) (λ _ q. absurd (eqb-false 8 14 refl (sym (number q) ∙ h)))
  where
    go : Compared (records_of log) (tail_of log) (on_log log) → (on_log log).number ≡ 14 → WithPairs log
    go (as_reader _ o _) k = absurd (o.1 k)
    go (with_pairs p _) k = p

means_no_room_8 : (room : ℕ) (log : List ℕ) → (opined room log).number ≡ 8 → room < length (on_log log).words
means_no_room_8 room log h = by_room room log (λ q. absurd (go (log_compared log) (sym (number q) ∙ h))) (λ less _. less)
  where
    go : Compared (records_of log) (tail_of log) (on_log log) → (on_log log).number ≢ 8
    go (as_reader _ o _) k = o.0 k
    go (with_pairs _ q) k = eqb-false 14 8 refl (sym (number q) ∙ k)

words_length : (log : List ℕ) → 13 * length (on_log log).words ≤ 2 * length log
words_length log = go (log_compared log)
  where
    go : Compared (records_of log) (tail_of log) (on_log log) → 13 * length (on_log log).words ≤ 2 * length log
    go (as_reader _ _ q) =
        let room = length (on_log log).words + 2 * length log in
        let e : length (read room log).words ≡ length (on_log log).words =
        ap (λ (o : Opined). length o.words) (ap as_read (reader_is room log) ∙ q room (omega arith)) in
        omega (arith, e, (enough_room room log (omega arith)).words)
    go (with_pairs _ q) =
        let none : length (on_log log).words ≡ 0 = ap (λ (o : Opined). length o.words) q in omega arith

pub same_as_reader : SameAsReaderStatement
same_as_reader room log =
    record {
      with_pairs = with_pairs_lent room log;
      same = same room log;
      same_answer = λ never h. ap answer_of (same room log never h);
      words_length = words_length log;
      pairs_refused = pairs_refused room log;
      gives_14 = (means_pairs_14 room log, λ p. number (pairs_refused room log p));
      gives_8 = (means_no_room_8 room log, λ h. number (does_not_fit room log h));
      refused_8 = λ h. does_not_fit room log (means_no_room_8 room log h);
    }
