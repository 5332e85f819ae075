-- A wait is over: by products, as `is_due` asks, and by the deadline, as it is told.
use mathlib.Core.Bool.{Bool, true, false}
use mathlib.Core.Path.{◌≡◌, refl, sym, ◌∙◌}
use Prim.Native.Nat.{ℕ, ◌-◌, ◌≤◌, ◌<◌, max}
use native.Mathlib.Nat.{le-max_left, le-max_right, max-le}
use native.Mathlib.Omega.{arith}
use lib.Dec.{ltb}
use borrow.Author.Tests.{ltb-true, ltb-false, lt-ltb, le-ltb}
use Rattle.choice.specs.Choice.{if◌then◌orelse◌}
use Rattle.rules.specs.Numbers.{A, B, FJ, FL}
use Rattle.rules.specs.Pairs.{Lent, in_some_pair, GN, P, alone}
use Rattle.rules.specs.States.{at_or_before}
use Rattle.rules.specs.declared.Stamp.{Stamp}
use Rattle.rules.specs.declared.Key.{Key}
use Rattle.rules.specs.declared.Settings.{Settings}
use Rattle.waits.specs.Capped.{largest_number, since_at_most, later_at_most, lag_at_most}
use Rattle.waits.proofs.Bounds.{Held, B_bound, FJ_bound, FL_bound, GN_bound, lag_bound}
use Rattle.waits.proofs.Below.{over_since}
use Rattle.deadlines.proofs.Formed.{LentHeld, alone_fits}

module _ (s : Settings) (held : Held s) (a now : Stamp) (holds : a.0 ≤ largest_number)
    (y : ℕ) (since : y ≡ since_at_most a now) (r : Bool) where
  pub over_alone : (g : Lent) → LentHeld g → (M : Key) → r ≡ ltb (alone g s M) y → r ≡ at_or_before (later_at_most a (alone g s M)) now
  over_alone g lent-held M e = e ∙ rw since (over_since a now (alone g s M) holds (omega (arith, alone_fits g lent-held s held M)))

  pub over_B : r ≡ ltb (B s) y → r ≡ at_or_before (later_at_most a (B s)) now
  over_B e = e ∙ rw since (over_since a now (B s) holds (omega (arith, B_bound s held)))

  module _ (x : ℕ) where
    pub over_FJ : r ≡ ltb (FJ s (lag_at_most x)) y → r ≡ at_or_before (later_at_most a (FJ s (lag_at_most x))) now
    over_FJ e = e ∙ rw since (over_since a now (FJ s (lag_at_most x)) holds (omega (arith, FJ_bound s held (lag_bound x))))

    pub over_FL : r ≡ ltb (FL s (lag_at_most x)) y → r ≡ at_or_before (later_at_most a (FL s (lag_at_most x))) now
    over_FL e = e ∙ rw since (over_since a now (FL s (lag_at_most x)) holds (omega (arith, FL_bound s held (lag_bound x))))

pub over_GN : (a now : Stamp) → a.0 ≤ largest_number → (y : ℕ) → y ≡ since_at_most a now → (r : Bool) (n x : ℕ) → n < 256
    → r ≡ ltb (GN n (lag_at_most x)) y
    → r ≡ at_or_before (later_at_most a (GN n (lag_at_most x))) now
over_GN a now holds y since r n x h e =
    e ∙ rw since (over_since a now (GN n (lag_at_most x)) holds (omega (arith, GN_bound (lag_bound x) h)))

-- the ways through `due_in_s2`
module _ (g : Lent) (s : Settings) (M : Key) (y : ℕ) where
  pub not_yet : ltb (A s) y ≡ false → false ≡ ltb (alone g s M) y
  unfolding alone
  not_yet e = go (in_some_pair g.pairs M)
    where
      go : (t : Bool) → false ≡ ltb (if t then max (A s) (P g) orelse A s) y
      go true = sym (le-ltb _ y (omega (arith, ltb-false (A s) y e, le-max_left (A s) (P g))))
      go false = sym e

  pub in_a_pair : in_some_pair g.pairs M ≡ true → ltb (A s) y ≡ true → ltb (GN g.n g.t_s) y ≡ ltb (alone g s M) y
  unfolding alone P
  in_a_pair i e = rw i (go (ltb (GN g.n g.t_s) y) refl)
    where
      go : (t : Bool) → ltb (GN g.n g.t_s) y ≡ t → t ≡ ltb (max (A s) (GN g.n g.t_s)) y
      go true h =
          let a : A s ≤ y - 1 = omega (arith, ltb-true (A s) y e) in
          let p : GN g.n g.t_s ≤ y - 1 = omega (arith, ltb-true (GN g.n g.t_s) y h) in
          sym (lt-ltb _ y (omega (arith, max-le a p, ltb-true (A s) y e)))
      go false h = sym (le-ltb _ y (omega (arith, ltb-false (GN g.n g.t_s) y h, le-max_right (A s) (GN g.n g.t_s))))

  pub in_no_pair : in_some_pair g.pairs M ≡ false → ltb (A s) y ≡ true → true ≡ ltb (alone g s M) y
  unfolding alone
  in_no_pair i e = rw i (sym e)
