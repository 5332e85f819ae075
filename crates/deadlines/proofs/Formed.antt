-- In a machine that is well formed every sum and every lag fits, so its deadline is document 01's, and its distance from a
-- stamp that is accepted is document 02's.
use mathlib.Core.Path.{◌≡◌, refl, ap, sym, subst, ◌∙◌}
use mathlib.Core.Bool.{Bool, true, false, ◌&&◌, and-eq-true_iff}
use mathlib.Core.Option.{Option, none, some}
use Prim.Native.Nat.{ℕ, ◌+◌, ◌≤◌, ◌<◌, min}
use native.Mathlib.Nat.{min-le_left, max-le}
use native.Mathlib.Omega.{arith}
use lib.Dec.{ltb, eqb}
use lib.IntN.{ℤ}
use borrow.Author.Tests.{leb-true, ltb-false}
use Rattle.choice.specs.Choice.{if◌then◌orelse◌}
use Rattle.rules.specs.Numbers.{largest_stamp, in_range, B, FJ, FL}
use Rattle.rules.specs.Pairs.{Lent, in_some_pair, GN, P, alone}
use Rattle.rules.specs.Held.{held_formed}
use Rattle.rules.specs.States.{at, lag, at_or_before, later, deadline, keys_below, stamps_by, in_order, pair_lent, well_formed}
use Rattle.rules.specs.Distance.{distance_to, Asking, not_answered, at_stamp, asking_with}
use Rattle.rules.specs.declared.Stamp.{Stamp}
use Rattle.rules.specs.declared.Key.{Key}
use Rattle.rules.specs.declared.Settings.{Settings}
use Rattle.rules.specs.declared.Resting.{Resting}
use Rattle.rules.specs.declared.Resting.TheVariants.{S1, S2, S3, S4, S5, S6, S7, S8}
use Rattle.rules.specs.declared.Machine.{Machine}
use Rattle.choice.proofs.Choices.{both_ways}
use Rattle.rules.proofs.Tests.{range_bounds}
use Rattle.waits.proofs.Bounds.{Held, later_fits, lag_fits, A_bound, B_bound, FJ_bound, FL_bound, P_bound, GN_bound}
use Rattle.waits.specs.Capped.{largest_signed, later_at_most}
use Rattle.waits.proofs.Distances.{distance_fits}
use Rattle.deadlines.specs.Capped.{deadline_at_most, distance_to_at_most}

-- settings in range are numbers of two bytes and of one
in_range_held : (s : Settings) → in_range s ≡ true → Held s
in_range_held s e = let r = range_bounds s e in record { t = omega arith; j = omega arith; l = omega arith }

-- the second of two tests that passed
second : (a b : Bool) → (a && b) ≡ true → b ≡ true
second a b e = ((and-eq-true_iff a b).0 e).1

-- a deadline, if there is one, that a signed number holds
abbrev Holds : Option Stamp → Type 0
Holds none = Unit {0}
Holds (some d) = d.0 ≤ largest_signed

-- what is answered is document 01's deadline, and a signed number holds it
record Fits (g : Lent) (s : Settings) (x : Resting) : Type 0 where
  same : deadline_at_most g s x ≡ deadline g s x
  held : Holds (deadline g s x)

sum_fits : (a : Stamp) (x : ℕ) → a.0 + x ≤ largest_signed → later_at_most a x ≡ later a x
sum_fits a x h = later_fits a x (omega arith)

-- T_s and N are numbers of two bytes and of one
pub record LentHeld (g : Lent) : Type 0 where
  pub t_s : g.t_s < 65_536
  pub n : g.n < 256

P_fits : (g : Lent) → LentHeld g → P g ≤ 6_553_755
unfolding P
P_fits g h = P_bound h.t_s h.n

pub alone_fits : (g : Lent) → LentHeld g → (s : Settings) → Held s → (M : Key) → alone g s M ≤ 6_553_755
unfolding alone
alone_fits g h s held M =
    both_ways (λ (n : ℕ). n ≤ 6_553_755) (in_some_pair g.pairs M) (max-le (A_bound s held) (P_fits g h)) (A_bound s held)

module _ (g : Lent) (lent-held : LentHeld g) (s : Settings) (held : Held s) (last : Stamp) (top : last.0 ≤ largest_stamp) where
  at_most : (a : Stamp) → at_or_before a last ≡ true → a.0 ≤ largest_stamp
  at_most a e = omega (arith, leb-true a.0 last.0 e)

  by_state : (x : Resting) → stamps_by last x ≡ true → Fits g s x
  by_state S1 e = record { same = refl; held = tt }
  by_state (S2 M m) e =
      let h : m.0 + alone g s M ≤ largest_signed = omega (arith, at_most m e, alone_fits g lent-held s held M) in
      record { same = rw (sum_fits m (alone g s M) h); held = h }
  by_state (S3 O o) e =
      let h : o.0 + B s ≤ largest_signed = omega (arith, at_most o e, B_bound s held) in
      record { same = rw (sum_fits o (B s) h); held = both_ways Holds (eqb s.solo 1) h tt }
  by_state (S4 M m O o) e =
      let k : o.0 ≤ largest_stamp = at_most o (second (at_or_before m last) (at_or_before o last) e) in
      let x : lag m o ≤ largest_stamp = omega arith in
      let h : o.0 + FJ s (lag m o) ≤ largest_signed = omega (arith, FJ_bound s held x) in
      record { same = rw (lag_fits (lag m o) x, sum_fits o (FJ s (lag m o)) h); held = h }
  by_state (S5 O o M m) e =
      let k : m.0 ≤ largest_stamp = at_most m (second (at_or_before o last) (at_or_before m last) e) in
      let y = min (lag o m) (B s) in
      let x : min (lag o m) (B s) ≤ largest_stamp = omega (arith, min-le_left (lag o m) (B s)) in
      let h : m.0 + FL s (min (lag o m) (B s)) ≤ largest_signed = omega (arith, FL_bound s held x) in
      record { same = rw (lag_fits (min (lag o m) (B s)) x, sum_fits m (FL s (min (lag o m) (B s))) h); held = h }
  by_state (S6 O o M m r) e =
      let k : r.0 ≤ largest_stamp = at_most r (second (at_or_before o last && at_or_before m last) (at_or_before r last) e) in
      let h : r.0 + lag m r ≤ largest_signed = omega arith in
      record { same = rw (sum_fits r (lag m r) h); held = h }
  by_state (S7 M m K k) e =
      let b : k.0 ≤ largest_stamp = at_most k (second (at_or_before m last) (at_or_before k last) e) in
      let h : k.0 + g.t_s ≤ largest_signed = omega arith in
      record { same = rw (sum_fits k g.t_s h); held = h }
  by_state (S8 M m K k r) e =
      let b : r.0 ≤ largest_stamp = at_most r (second (at_or_before m last && at_or_before k last) (at_or_before r last) e) in
      let x : lag k r ≤ largest_stamp = omega arith in
      let h : r.0 + GN g.n (lag k r) ≤ largest_signed = omega (arith, GN_bound x lent-held.n) in
      record { same = rw (lag_fits (lag k r) x, sum_fits r (GN g.n (lag k r)) h); held = h }

well_formed_fits : (g : Lent) → LentHeld g → (x : Machine) → well_formed g x ≡ true → Fits g x.settings x.resting
unfolding well_formed
well_formed_fits g lent-held x e =
    let R = in_range x.settings in
    let K = keys_below x.resting in
    let S = stamps_by x.last x.resting in
    let L = at_or_before x.last (at largest_stamp) in
    let O = in_order x.resting in
    let H = held_formed x.held in
    let all = (and-eq-true_iff (R && K && S && L && O && H) (pair_lent g x.resting)).0 e in
    let rkslo = (and-eq-true_iff (R && K && S && L && O) H).0 all.0 in
    let rksl = (and-eq-true_iff (R && K && S && L) O).0 rkslo.0 in
    let rks = (and-eq-true_iff (R && K && S) L).0 rksl.0 in
    let rk = (and-eq-true_iff (R && K) S).0 rks.0 in
    by_state g lent-held x.settings
    (in_range_held x.settings ((and-eq-true_iff R K).0 rk.0).0)
    x.last
    (leb-true x.last.0 largest_stamp rks.1)
    x.resting
    rk.1

pub well_formed_deadline : (g : Lent) → LentHeld g → (x : Machine) → well_formed g x ≡ true
    → deadline_at_most g x.settings x.resting ≡ deadline g x.settings x.resting
well_formed_deadline g h x e = (well_formed_fits g h x e).same

same_distance : (now : Stamp) → now.0 ≤ largest_stamp → (d : Option Stamp) → Holds d → distance_to now d ≡ distance_to_at_most now d
same_distance now low none h = refl
same_distance now low (some d) h = ap some (sym (distance_fits now d (omega arith) h))

-- distances that agree within the largest stamp are answered alike
same_answer : (last now : Stamp) {a b : Option ℤ} → (now.0 ≤ largest_stamp → a ≡ b) → at_stamp last now a ≡ at_stamp last now b
same_answer last now {a} {b} same = go (ltb largest_stamp now.0) refl
  where
    accepted : Option ℤ → Asking
    accepted d = if ltb now.0 last.0 then not_answered 5 orelse record { number = 0; distance = d }

    go : (t : Bool) → ltb largest_stamp now.0 ≡ t
        → (if t then not_answered 4 orelse accepted a) ≡ (if t then not_answered 4 orelse accepted b)
    go true e = refl
    go false e = ap accepted (same (ltb-false _ _ e))

-- what a machine that is well formed answers, with its deadline as the code has it
pub well_formed_asking : (g : Lent) → LentHeld g → (x : Machine) (now : Stamp) (d : Option Stamp) → well_formed g x ≡ true
    → d ≡ deadline_at_most g x.settings x.resting
    → asking_with g x now ≡ at_stamp x.last now (distance_to_at_most now d)
unfolding asking_with
well_formed_asking g lent-held x now d e f =
    let fit = well_formed_fits g lent-held x e in
    let same = f ∙ fit.same in
    let held : Holds d = subst Holds (sym same) fit.held in
    rw (e, ← same) (same_answer x.last now (λ low. same_distance now low d held))
