-- An event leaves every machine as well formed as it was. Demand 3's walk over states and events carries it: with bounds above
-- the largest stamp, all that it asks of a state is that it is well formed. So every state that a sequence leaves is well formed,
-- and none of its events is refused 2.
use Prim.Native.Nat.{ℕ, ◌+◌, ◌≤◌, ◌<◌}
use native.Mathlib.Omega.{arith}
use mathlib.Core.Bool.{Bool, true, true≢false, ◌&&◌, and-eq-true_iff}
use mathlib.Core.List.{List, [], ◌∷◌}
use mathlib.Core.Path.{◌≡◌, refl, sym, ◌∙◌}
use borrow.Author.Tests.{ltb-true, leb-true, le-leb}
use Rattle.rules.specs.Numbers.{largest_stamp, in_range, FJ}
use Rattle.rules.specs.Pairs.{Lent, lent_good, GN}
use Rattle.rules.specs.Held.{held_formed}
use Rattle.rules.specs.States.{at, fresh, is_key, at_or_before, keys_below, stamps_by, in_order, pair_lent, well_formed}
use Rattle.rules.specs.OneEvent.{one_event}
use Rattle.rules.specs.GivenBack.{acts_as, held_after, Answer, step}
use Rattle.rules.specs.Sequences.{after, state}
use Rattle.rules.specs.StepFacts.{StaysFormed}
use Rattle.rules.specs.SequenceFacts.{SequenceFactsStatement}
use Rattle.rules.specs.declared.Stamp.{Stamp}
use Rattle.rules.specs.declared.Settings.{Settings}
use Rattle.rules.specs.declared.Resting.{Resting}
use Rattle.rules.specs.declared.Resting.TheVariants.{S1, S2, S3, S4, S5, S6, S7, S8}
use Rattle.rules.specs.declared.Machine.{Machine}
use Rattle.rules.specs.declared.Event.{Event}
use Rattle.rules.specs.declared.Input.{Input}
use Rattle.rules.proofs.Held.{formed_test, empty_formed}
use Rattle.rules.proofs.Tests.{range_bounds, good_bounds}
use Rattle.rules.proofs.Bounds.{FJ_mono, GN_mono, Limits, Bounds, waits, bounds}
use Rattle.rules.proofs.Refusals.{refusals}
use Rattle.rules.proofs.Steps.{Accepted, taken, step_cases}
use Rattle.rules.proofs.Kept.{Sound, one_event_keeps}
use Rattle.rules.proofs.Presses.{Tested, sound_tests}

both : (a b : Bool) → (a && b) ≡ true → (a ≡ true) × (b ≡ true)
both a b = (and-eq-true_iff a b).0

-- the tests of well-formedness; that of the held set is `machine_formed`
record Formed (g : Lent) (m : Machine) : Type 0 where
  range : in_range m.settings ≡ true
  not_above : m.last.0 ≤ largest_stamp
  resting : Tested g m.last m.resting

formed : (g : Lent) (m : Machine) → well_formed g m ≡ true → Formed g m
unfolding well_formed
formed g m h =
    let r = in_range m.settings in
    let k = keys_below m.resting in
    let s = stamps_by m.last m.resting in
    let l = at_or_before m.last (at largest_stamp) in
    let o = in_order m.resting in
    let rkslo-h-p = both (r && k && s && l && o && held_formed m.held) (pair_lent g m.resting) h in
    let rksl-o = both (r && k && s && l) o (both (r && k && s && l && o) (held_formed m.held) rkslo-h-p.0).0 in
    let rks-l = both (r && k && s) l rksl-o.0 in
    let rk-s = both (r && k) s rks-l.0 in
    let r-k = both r k rk-s.0 in
    record {
      range = r-k.0;
      not_above = leb-true _ _ rks-l.1;
      resting = record { keys = r-k.1; stamps = rk-s.1; order = rksl-o.1; pair = rkslo-h-p.1 };
    }

-- no stamp lies further from another than the largest
sound_by : (g : Lent) (q : Limits) → largest_stamp < q.x → q.x ≤ q.w → largest_stamp < q.t
    → (last : Stamp) (y : Resting) → last.0 ≤ largest_stamp → Tested g last y → Sound g q last.0 y
sound_by g q x w t last S1 low f = tt
sound_by g q x w t last (S2 M m) low f = (ltb-true _ _ f.keys, leb-true _ _ f.stamps, omega arith)
sound_by g q x w t last (S3 O o) low f = leb-true _ _ f.stamps
sound_by g q x w t last (S4 M m O o) low f =
    let b : o.0 ≤ last.0 = leb-true _ _ (both (at_or_before m last) _ f.stamps).1 in
    (ltb-true _ _ f.keys, leb-true _ _ f.order, b, omega arith, omega arith)
sound_by g q x w t last (S5 O o M m) low f =
    (ltb-true _ _ f.keys, leb-true _ _ f.order, leb-true _ _ (both (at_or_before o last) _ f.stamps).1, omega arith)
sound_by g q x w t last (S6 O o M m r) low f =
    let b : r.0 ≤ last.0 = leb-true _ _ (both (at_or_before o last && at_or_before m last) _ f.stamps).1 in
    let c = both (at_or_before o m) (at_or_before m r) f.order in
    (ltb-true _ _ f.keys, leb-true _ _ c.0, leb-true _ _ c.1, b, omega arith, omega arith)
sound_by g q x w t last (S7 M m K k) low f =
    let n = both (is_key M) (is_key K) f.keys in
    let b : k.0 ≤ last.0 = leb-true _ _ (both (at_or_before m last) _ f.stamps).1 in
    (ltb-true _ _ n.0, ltb-true _ _ n.1, leb-true _ _ f.order, b, omega arith, omega arith, f.pair)
sound_by g q x w t last (S8 M m K k r) low f =
    let n = both (is_key M) (is_key K) f.keys in
    let b : r.0 ≤ last.0 = leb-true _ _ (both (at_or_before m last && at_or_before k last) _ f.stamps).1 in
    let c = both (at_or_before m k) (at_or_before k r) f.order in
    let d : k.0 ≤ r.0 = leb-true _ _ c.1 in
    (ltb-true _ _ n.0, ltb-true _ _ n.1, leb-true _ _ c.0, d, b, omega arith, omega arith, omega arith, f.pair)

-- limits above the largest stamp
module _ (g : Lent) (s : Settings) where
  abbrev x : ℕ
  x = (waits g s).x + (1 + largest_stamp)

  abbrev t : ℕ
  t = g.t_s + (1 + largest_stamp)

  abbrev far : Limits
  far = record { x = x; w = x + (x + FJ s x) + (t + GN g.n t); t = t; p = GN g.n t }

  wide : lent_good g ≡ true → in_range s ≡ true → Bounds g s far
  wide good r =
      let b = bounds g good s r in
      record {
        positive = omega arith;
        wait_S2 = λ M. omega (arith, b.wait_S2 M);
        wait_S5 = λ a. omega (arith, b.wait_S5 a);
        wait_S4 = λ a le. omega (arith, FJ_mono s (range_bounds s r) a x le);
        wait_S6 = omega arith;
        t_positive = omega arith;
        wait_S7 = omega arith;
        wait_S8 = λ a le. GN_mono g (good_bounds g good) a t le;
        with_pair = λ M K pair. omega arith;
      }

accepted_formed : (g : Lent) (m : Machine) (e : Event) (i : Input) → Accepted g m e i
    → well_formed g (taken g m e (acts_as m.held i)).machine ≡ true
unfolding well_formed
accepted_formed g m e i a =
    let s = m.settings in
    let f = formed g m a.was_well_formed in
    let sound = sound_by g (far g s) (omega arith) (omega arith) (omega arith) m.last m.resting f.not_above f.resting in
    let j = acts_as m.held i in
    let b = wide g s a.was_good f.range in
    let kept = one_event_keeps g s (far g s) b m.last e.stamp m.resting j a.not_before sound a.key_below in
    let t = sound_tests g (far g s) e.stamp (one_event g s e.stamp m.resting j).resting kept.sound in
    rw (
      f.range,
      t.keys,
      t.stamps,
      le-leb e.stamp.0 largest_stamp a.not_above,
      t.order,
      formed_test (held_after m.held j) a.stays_formed,
    ) t.pair

pub stays_formed : (g : Lent) (m : Machine) (e : Event) → StaysFormed g m e
stays_formed g m e =
    step_cases (λ (r : Answer). well_formed g r.machine ≡ well_formed g m) g m e (λ _ _. refl)
    (λ i a. accepted_formed g m e i a ∙ sym a.was_well_formed)

after_formed : (g : Lent) (m : Machine) (es : List Event) → well_formed g (after g m es) ≡ well_formed g m
after_formed g m [] = refl
after_formed g m (e ∷ es) = after_formed g (step g m e).machine es ∙ stays_formed g m e

fresh_formed : (g : Lent) (s : Settings) → in_range s ≡ true → well_formed g (fresh s) ≡ true
unfolding well_formed
fresh_formed g s r = rw (r, formed_test 0 empty_formed)

pub sequence_facts : SequenceFactsStatement
sequence_facts g s r es =
    let formed : well_formed g (state g s es) ≡ true = after_formed g (fresh s) es ∙ fresh_formed g s r in
    record {
      stays_well_formed = formed;
      never_refused_2 = λ e two. true≢false (sym formed ∙ ((refusals g (state g s es) e).gives_2.0 two).1);
    }
