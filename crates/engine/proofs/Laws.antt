-- Laws of a step that its functions lean on.
use mathlib.Core.Path.{◌≡◌, sym, ap, ◌∙◌}
use mathlib.Core.Bool.{Bool, true, false}
use Prim.Native.Nat.{ℕ}
use native.Mathlib.Omega.{arith}
use Rattle.rules.specs.Pairs.{Lent}
use Rattle.rules.specs.States.{well_formed}
use Rattle.rules.specs.OneEvent.{Done, ◌leaving◌, late, in_S1, act, due_by}
use Rattle.rules.specs.GivenBack.{Verdict, refused, accepted, judge}
use Rattle.rules.specs.declared.Stamp.{Stamp}
use Rattle.rules.specs.declared.Settings.{Settings}
use Rattle.rules.specs.declared.Resting.{Resting}
use Rattle.rules.specs.declared.Machine.{Machine}
use Rattle.rules.specs.declared.Event.{Event}
use Rattle.rules.specs.declared.Input.{Input}
use Rattle.choice.proofs.Choices.{by_test}
use Rattle.rules.proofs.Late.{late_and_event}
use Rattle.deadlines.specs.Capped.{deadline_at_most}
use Rattle.engine.specs.FormNotAsked.{one_event_at_most}

-- an event at a state that is due: the items are the late ones
module _ (g : Lent) (s : Settings) (now : Stamp) (x : Resting) (i : Input) where
  pub late_first : due_by now (deadline_at_most g s x) ≡ true
      → one_event_at_most g s now x i ≡ ((late g s x).items leaving (in_S1 now i).resting)
  unfolding one_event_at_most
  late_first e = rw e (late_and_event g s now x i)

  pub not_late : due_by now (deadline_at_most g s x) ≡ false → one_event_at_most g s now x i ≡ act g s now x i
  unfolding one_event_at_most
  not_late e = rw e

  -- by the test t, an event whose late line d was done before it, and one that only acts
  module _ {t : Bool} (is : t ≡ due_by now (deadline_at_most g s x)) where
    pub when_due : (d r : Done) → t ≡ true → d ≡ late g s x → r ≡ (d.items leaving (in_S1 now i).resting)
        → r ≡ one_event_at_most g s now x i
    when_due d r e f h = h ∙ ap (λ (y : Done). y.items leaving (in_S1 now i).resting) f ∙ sym (late_first (sym is ∙ e))

    pub when_not_due : (r : Done) → t ≡ false → r ≡ act g s now x i → r ≡ one_event_at_most g s now x i
    when_not_due r e f = f ∙ sym (not_late (sym is ∙ e))

refused_not_accepted : (n : ℕ) (i : Input) → refused n ≡ accepted i → ⊥
refused_not_accepted n i e = let z : ◌≡◌ {A = ℕ} 0 1 = cc in omega arith

-- only a machine that is well formed accepts
pub accepts_well_formed : (g : Lent) (m : Machine) (e : Event) {i : Input} → accepted i ≡ judge g m e → well_formed g m ≡ true
unfolding judge
accepts_well_formed g m e {i} h =
    by_test (λ (v : Verdict). accepted i ≡ v → well_formed g m ≡ true) (well_formed g m)
    (λ w _. w)
    (λ _ f. absurd (refused_not_accepted 2 i (sym f)))
    h
