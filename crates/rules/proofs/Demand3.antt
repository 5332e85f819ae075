-- Demand 3, proved: the five sentences of specs/Demand3.antt about every sequence of events from a fresh state.
use Prim.Native.Nat.{ℕ, suc, ◌+◌, ◌≤◌}
use native.Mathlib.Omega.{arith}
use mathlib.Core.Bool.{true}
use mathlib.Core.List.{List, [], ◌∷◌, ◌++◌}
use mathlib.Core.Path.{◌≡◌, refl, sym, ◌∙◌, ap, subst}
use lib.ListN.{length}
use Rattle.rules.specs.Numbers.{in_range}
use Rattle.rules.specs.Pairs.{Lent, lent_good, longest}
use Rattle.rules.specs.States.{fresh}
use Rattle.rules.specs.OneEvent.{Done}
use Rattle.rules.specs.ZeroDelay.{backspace}
use Rattle.rules.specs.GivenBack.{Answer, step}
use Rattle.rules.specs.Sequences.{after, Press, keys_of, characters, waiting, typed, state, presses, items, Committed, line}
use Rattle.rules.specs.Demand3.{Demand3Statement, KeysInOrder, with_event, CommittedInTime, tick}
use Rattle.rules.specs.Demand3.{TicksDoNotMatter, ScreenIsLine, NoBackspaceTakesCommitted}
use Rattle.rules.specs.declared.Stamp.{Stamp}
use Rattle.rules.specs.declared.Settings.{Settings}
use Rattle.rules.specs.declared.Machine.{Machine}
use Rattle.rules.specs.declared.Event.{Event}
use Rattle.rules.proofs.Held.{empty_formed}
use Rattle.rules.proofs.Steps.{step_cases}
use Rattle.rules.proofs.Bounds.{waits, bounds}
use Rattle.rules.proofs.Presses.{Ran, runs, waiting_not_older, old_is_given}
use Rattle.rules.proofs.Screen.{run_shows, step_harmless}
use Rattle.rules.proofs.Ticks.{not_0, held_over, closes, held_closes}

same_machine : {m n : Machine} → m.settings ≡ n.settings → m.resting ≡ n.resting → m.last ≡ n.last → m.held ≡ n.held → m ≡ n
same_machine p q r h = λ i. record { settings = p i; resting = q i; last = r i; held = h i }

-- an accepted event's stamp is the last accepted one
last_is_accepted : (g : Lent) (m : Machine) (upto : List Event) (e : Event) → (step g (after g m upto) e).number ≡ 0
    → (after g m (with_event upto e)).last ≡ e.stamp
last_is_accepted g m [] e =
    step_cases (λ (r : Answer). r.number ≡ 0 → r.machine.last ≡ e.stamp) g m e (λ n z h. not_0 n z h) (λ i a _. refl)
last_is_accepted g m (d ∷ upto) e = last_is_accepted g (step g m d).machine upto e

-- and what is lent with it is good
lent_is_good : (g : Lent) (m : Machine) (e : Event) → (step g m e).number ≡ 0 → lent_good g ≡ true
lent_is_good g m e =
    step_cases (λ (r : Answer). r.number ≡ 0 → lent_good g ≡ true) g m e (λ n z h. not_0 n z h) (λ i a _. a.was_good)

length_keys_of : (ps : List Press) → length (keys_of ps) ≡ length ps
length_keys_of [] = refl
length_keys_of (p ∷ ps) = ap suc (length_keys_of ps)

module _ (g : Lent) (s : Settings) (r : in_range s ≡ true) where
  pub ran : (es : List Event) → Ran g s (waits g s) (λ good. bounds g good s r) (fresh s) es
  ran es =
      runs g s (waits g s) (λ good. bounds g good s r) (fresh s) es
      (record { same_settings = refl; not_above = omega arith; formed = empty_formed; sound = tt })

  settings_stay : (es : List Event) → (state g s es).settings ≡ s
  settings_stay es = (ran es).next.same_settings

  keys_in_order : (es : List Event) → KeysInOrder g s es
  keys_in_order es =
      let a = (ran es).answered in
      record { answered = a.given; presses_are = a.joined; keys_are = a.answers }

  -- a press that lies the longest wait or more before the last accepted stamp
  committed_by_last : lent_good g ≡ true → (es : List Event) (before behind : List Press) (p : Press)
      → presses g s es ≡ before ++ (p ∷ behind) → p.stamp.0 + longest g s ≤ (state g s es).last.0 → Committed g s es before
  committed_by_last good es before behind p e old =
      let all = ran es in
      let given = all.answered.given in
      let more =
      old_is_given (longest g s) (state g s es).last.0 given (waiting (state g s es).resting) before behind p
      (sym e ∙ all.answered.joined)
      (waiting_not_older (bounds g good s r) (state g s es).last.0 (state g s es).resting all.next.sound)
      old in
      let same : length given ≡ length (characters (items g s es)) = sym (length_keys_of given) ∙ ap length all.answered.answers in
      omega arith

  committed_in_time : (es : List Event) → CommittedInTime g s es
  committed_in_time es upto rest e _ accepted before behind p h old =
      committed_by_last (lent_is_good g (state g s upto) e accepted) (with_event upto e) before behind p h
      (subst (λ (t : Stamp). p.stamp.0 + longest g s ≤ t.0) (sym (last_is_accepted g (fresh s) upto e accepted)) old)

  ticks_do_not_matter : (es : List Event) → TicksDoNotMatter g s es
  ticks_do_not_matter es other t same a b =
      let both = (rw same at (closes g (fresh s) es t a)) ∙ sym (closes g (fresh s) other t b) in
      record {
        same_items = ap (λ (d : Done). d.items) both;
        same_state =
            same_machine (settings_stay (with_event es (tick t)) ∙ sym (settings_stay (with_event other (tick t))))
            (ap (λ (d : Done). d.resting) both)
            (last_is_accepted g (fresh s) es (tick t) a ∙ sym (last_is_accepted g (fresh s) other (tick t) b))
            (held_closes g (fresh s) es t ∙ ap (held_over 0) same ∙ sym (held_closes g (fresh s) other t));
      }

screen_is_line : (g : Lent) (s : Settings) (es : List Event) → ScreenIsLine g s es
screen_is_line g s es = run_shows g [] (fresh s) es

no_backspace_takes_committed : (g : Lent) (s : Settings) (es : List Event) → NoBackspaceTakesCommitted g s es
no_backspace_takes_committed g s es upto rest e _ sent-before sent-behind h =
    let harmless = step_harmless g (line g s upto) (state g s upto) e sent-before sent-behind h in
    record {
      line_stays = record {
        rest = harmless.line_stays.rest;
        joined =
            ap (λ (l : List ℕ). typed l (sent-before ++ (backspace ∷ []))) (screen_is_line g s upto)
            ∙ harmless.line_stays.joined;
      };
      no_sign_before = harmless.no_sign_before;
    }

pub demand_3 : Demand3Statement
demand_3 g s r es =
    record {
      keys_in_order = keys_in_order g s r es;
      committed_in_time = committed_in_time g s r es;
      ticks_do_not_matter = ticks_do_not_matter g s r es;
      screen_is_line = screen_is_line g s es;
      no_backspace_takes_committed = no_backspace_takes_committed g s es;
    }
