-- The checks of an event one after the other, as `judge_event` makes them.
use Rattle.std.proofs.Common.{ℕ, ◌≡◌, Bool, true, false, ltb, arith}
use Rattle.std.proofs.lemmas.Bool.Decides.{nat_tests}
use Rattle.std.specs.Ordering.{nat_cmp, is_ge, is_gt}
use Rattle.rules.specs.GivenBack.{refused, judge_stamp}
use Rattle.rules.specs.Refusal.{kind_number}
use Rattle.rules.specs.declared.Kind.{Kind}
use Rattle.rules.specs.declared.Machine.{Machine}
use Rattle.rules.specs.declared.Event.{Event}
use Rattle.states.specs.Meant.{meant}
use Rattle.engine.specs.Views.{keys_of}
use Rattle.engine.specs.FormNotAsked.{judge_event}
use Rattle.engine.proofs.Allowed.{is_allowed, not_allowed, no_kind}

below_unless_ge : (x y : ℕ) {t : Bool} → t ≡ is_ge (nat_cmp x y) → t ≡ false → ltb x y ≡ true
below_unless_ge x y e h = grind (arith, nat_tests)

not_below_if_ge : (x y : ℕ) {t : Bool} → t ≡ is_ge (nat_cmp x y) → t ≡ true → ltb x y ≡ false
not_below_if_ge x y e h = grind (arith, nat_tests)

pub gt_is : (x y : ℕ) → is_gt (nat_cmp x y) ≡ ltb y x
gt_is x y = grind (arith, nat_tests)

module _ (m : Machine) (e : Event) where
  -- a number of no kind
  pub of_no_kind : ((kind : Kind) → ¬ (e.kind ≡ kind_number kind)) → refused 3 ≡ judge_event m e
  unfolding judge_event
  of_no_kind h = rw (no_kind e.key e.kind h)

  module _ (kind : Kind) (is : e.kind ≡ kind_number kind) {keys : ℕ} (as_many : keys ≡ keys_of (kind_number kind)) {t : Bool}
      (test : t ≡ is_ge (nat_cmp e.key.0 keys)) where
    pub of_no_key : t ≡ true → refused 3 ≡ judge_event m e
    unfolding judge_event
    of_no_key h = rw (not_allowed e.key kind is (rw (← as_many) (not_below_if_ge e.key.0 keys test h)))

    pub of_a_key : t ≡ false → judge_stamp m e (meant kind e.key) ≡ judge_event m e
    unfolding judge_event
    of_a_key h = rw (is_allowed e.key kind is (rw (← as_many) (below_unless_ge e.key.0 keys test h)))
