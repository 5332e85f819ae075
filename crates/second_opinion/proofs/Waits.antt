-- The waits in code are the definitions', at settings and stamps in range.
use Rattle.std.proofs.Common.{◌≡◌, ℕ, ◌+◌, ◌≤◌, min, true, arith, ap, ◌∙◌}
use Rattle.std.proofs.Math.Option.{some}
use native.Mathlib.Nat.{min-le_left}
use Rattle.rules.specs.Numbers.{largest_stamp, in_range, A, B, FJ, FL}
use Rattle.rules.specs.declared.Settings.{Settings}
use Rattle.rules.specs.declared.Stamp.{Stamp}
use Rattle.rules.specs.declared.Event.{Event}
use Rattle.rules.proofs.Tests.{range_bounds}
use Rattle.waits.specs.Capped.{largest_number, later_at_most, lag_at_most}
use Rattle.waits.proofs.Bounds.{Held, later_fits, lag_fits, A_bound, B_bound, FJ_bound, FL_bound}
use Rattle.opinions.specs.Opinion.{gap, due_after}
use Rattle.second_opinion.specs.declared.places.Heard.{Heard}

pub due_fits : (e : Event) (x : ℕ) (d : Stamp) → e.stamp.0 + x ≤ largest_number → d ≡ later_at_most e.stamp x → some d ≡ due_after e x
due_fits e x d h q = ap (λ (t : Stamp). some t) (q ∙ later_fits e.stamp x h)

held : (s : Settings) → in_range s ≡ true → Held s
held s r = let b = range_bounds s r in record { t = omega arith; j = omega arith; l = omega arith }

pub gap_within : (d e : Heard) → gap d.event e.event ≤ largest_stamp
gap_within d e = omega (arith, e.in_range)

module _ (s : Settings) (r : in_range s ≡ true) (e : Heard) where
  pub A_within : e.event.stamp.0 + A s ≤ largest_number
  A_within = omega (arith, e.in_range, A_bound s (held s r))

  pub B_within : e.event.stamp.0 + B s ≤ largest_number
  B_within = omega (arith, e.in_range, B_bound s (held s r))

  -- a lag x that counts as it is
  module _ (x : ℕ) (k : x ≤ largest_stamp) where
    pub FJ_is : FJ s (lag_at_most x) ≡ FJ s x
    FJ_is = ap (FJ s) (lag_fits x k)

    pub FL_is : FL s (lag_at_most x) ≡ FL s x
    FL_is = ap (FL s) (lag_fits x k)

    pub FJ_within : e.event.stamp.0 + FJ s (lag_at_most x) ≤ largest_number
    FJ_within = omega (arith, e.in_range, FJ_is, FJ_bound s (held s r) k)

    pub FL_within : e.event.stamp.0 + FL s (lag_at_most x) ≤ largest_number
    FL_within = omega (arith, e.in_range, FL_is, FL_bound s (held s r) k)

-- the shorter of a gap and B
pub shorter_within : (g b : ℕ) → g ≤ largest_stamp → min g b ≤ largest_stamp
shorter_within g b h = omega (arith, min-le_left g b)
