-- What an event's stamp is compared with: along a sequence the last stamp is that of the last accepted event.
use mathlib.Core.Bool.{true, false, true≢false}
use mathlib.Core.List.{List, [], ◌∷◌, ◌++◌, append_assoc, append-nil}
use mathlib.Core.Path.{◌≡◌, refl, sym, ◌∙◌}
use Rattle.rules.specs.Pairs.{Lent}
use Rattle.rules.specs.States.{fresh}
use Rattle.rules.specs.GivenBack.{Answer, step}
use Rattle.rules.specs.Sequences.{after, along, accepted_in, state}
use Rattle.rules.specs.MovedClock.{last_stamp, LastAcceptedStatement}
use Rattle.rules.specs.declared.Settings.{Settings}
use Rattle.rules.specs.declared.Machine.{Machine}
use Rattle.rules.specs.declared.Event.{Event}
use Rattle.rules.proofs.Refusals.{refusals}
use Rattle.rules.proofs.Steps.{step_cases}
use Rattle.rules.proofs.Formed.{sequence_facts}

last_of : (done : List Event) (e : Event) → last_stamp (done ++ (e ∷ [])) ≡ e.stamp
last_of [] e = refl
last_of (a ∷ []) e = refl
last_of (a ∷ (b ∷ done)) e = last_of (b ∷ done) e

not_empty : (done : List Event) (e : Event) → ¬ (done ++ (e ∷ []) ≡ [])
not_empty [] e h = let z : true ≡ false = cc in true≢false z
not_empty (a ∷ done) e h = let z : true ≡ false = cc in true≢false z

module _ (g : Lent) (s : Settings) where
  -- the machine, by what was accepted until then
  data Counts : List Event → Machine → Type 0 where
    nothing_yet : Counts [] (fresh s)
    behind : (done : List Event) (e : Event) {m : Machine} → m.last ≡ e.stamp → Counts (done ++ (e ∷ [])) m

  counts_on : {done : List Event} {m : Machine} → Counts done m → (e : Event)
      → Counts (done ++ accepted_in m e (step g m e)) (step g m e).machine
  counts_on {done} {m} c e =
      step_cases (λ (r : Answer). Counts (done ++ accepted_in m e r) r.machine) g m e (λ n z. rw (z, append-nil) c)
      (λ i a. behind done e refl)

  counts_along : {done : List Event} {m : Machine} → Counts done m → (es : List Event)
      → Counts (done ++ along g accepted_in m es) (after g m es)
  counts_along {done} {m} c [] = rw append-nil c
  counts_along {done} {m} c (e ∷ es) =
      let more = counts_along {done = done ++ accepted_in m e (step g m e)} {m = (step g m e).machine} (counts_on c e) es in
      rw append_assoc at more

  is_fresh : {done : List Event} {m : Machine} → Counts done m → done ≡ [] → m ≡ fresh s
  is_fresh nothing_yet h = refl
  is_fresh (behind done e z) h = absurd (not_empty done e h)

  last_counted : {done : List Event} {m : Machine} → Counts done m → m.last ≡ last_stamp done
  last_counted nothing_yet = refl
  last_counted (behind done e z) = z ∙ sym (last_of done e)

pub last_accepted : LastAcceptedStatement
last_accepted g good s r es =
    let c = counts_along g s nothing_yet es in
    let formed = (sequence_facts g s r es).stays_well_formed in
    let last = last_counted g s c in
    record {
      still_fresh = is_fresh g s c;
      last_is = last;
      gives_5 = λ e.
          let five = (refusals g (state g s es) e).gives_5 in (
            λ n. let h = five.0 n in (h.2, h.3, rw last at h.4),
            λ h. five.1 ((λ w. true≢false (sym good ∙ w)), (λ w. true≢false (sym formed ∙ w)), h.0, h.1, rw (← last) at h.2),
          );
    }
