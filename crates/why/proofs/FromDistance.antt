-- The deadline that the distance tells, asked where the state began, is the state's.
use Prim.Native.Nat.{ℕ, ◌+◌, ◌-◌, ◌≤◌}
use native.Mathlib.Nat.{min-le_right}
use native.Mathlib.Omega.{arith}
use mathlib.Core.Bool.{Bool, true, false, ◌&&◌, and-eq-true_iff}
use mathlib.Core.Option.{Option, none, some}
use mathlib.Core.Path.{◌≡◌, refl, ap, subst, ◌∙◌}
use lib.Dec.{eqb}
use Rattle.choice.specs.Choice.{if◌then◌orelse◌}
use lib.IntN.{pos}
use borrow.Author.Tests.{leb-true, le-leb, le-ltb}
use Rattle.rules.specs.Numbers.{largest_stamp, in_range, B}
use Rattle.rules.specs.Held.{held_formed}
use Rattle.rules.specs.Pairs.{Lent}
use Rattle.rules.specs.States.{at, later, deadline, keys_below, at_or_before, stamps_by, in_order, pair_lent, well_formed}
use Rattle.rules.specs.Distance.{distance, distance_to, Asking, asking_with}
use Rattle.rules.specs.declared.Stamp.{Stamp}
use Rattle.rules.specs.declared.Settings.{Settings}
use Rattle.rules.specs.declared.Resting.{Resting}
use Rattle.rules.specs.declared.Resting.TheVariants.{S1, S2, S3, S4, S5, S6, S7, S8}
use Rattle.rules.specs.declared.Machine.{Machine}
use Rattle.choice.proofs.Choices.{both_ways}
use Rattle.rules.proofs.Signed.{difference}
use Rattle.rules.proofs.Tests.{good_bounds}
use Rattle.waits.specs.Capped.{largest_number, later_at_most}
use Rattle.waits.proofs.Bounds.{later_fits}
use Rattle.deadlines.specs.Capped.{deadline_at_most}
use Rattle.deadlines.proofs.Formed.{LentHeld, well_formed_deadline}
use Rattle.reasons.specs.Turning.{since}
use Rattle.reasons.proofs.AtMachine.{formed}
use Rattle.why.specs.FromDistance.{begun, stamp_if, stamp_asked, deadline_asked, DeadlineTold}

pub asked_there : (g : Lent) (m b : Machine) (a : Asking) (r : Option Stamp) → b ≡ begun m → a ≡ asking_with g b b.last
    → r ≡ stamp_asked b.last a → r ≡ deadline_asked g m
asked_there g m b a r at_start answer told =
    told ∙ ap (stamp_asked b.last) answer ∙ ap (λ (y : Machine). stamp_asked y.last (asking_with g y y.last)) at_start

-- Stamps in order are all at or before the last of them.

first_of : (a b : Bool) → a && b ≡ true → a ≡ true
first_of a b h = ((and-eq-true_iff a b).0 h).0

second_of : (a b : Bool) → a && b ≡ true → b ≡ true
second_of a b h = ((and-eq-true_iff a b).0 h).1

itself : (a : Stamp) → at_or_before a a ≡ true
itself a = le-leb a.0 a.0 (omega arith)

over_both : (a b c : Stamp) → at_or_before a b && at_or_before b c ≡ true → at_or_before a c ≡ true
over_both a b c h =
    let x = leb-true a.0 b.0 (first_of (at_or_before a b) (at_or_before b c) h) in
    let y = leb-true b.0 c.0 (second_of (at_or_before a b) (at_or_before b c) h) in
    le-leb a.0 c.0 (omega arith)

own_stamps : (x : Resting) → in_order x ≡ true → stamps_by (since x) x ≡ true
own_stamps S1 h = refl
own_stamps (S2 M m) h = itself m
own_stamps (S3 O o) h = itself o
own_stamps (S4 M m O o) h = rw (h, itself o)
own_stamps (S5 O o M m) h = rw (h, itself m)
own_stamps (S6 O o M m r) h = rw (over_both o m r h, second_of (at_or_before o m) (at_or_before m r) h, itself r)
own_stamps (S7 M m K k) h = rw (h, itself k)
own_stamps (S8 M m K k r) h = rw (over_both m k r h, second_of (at_or_before m k) (at_or_before k r) h, itself r)

-- A stamp that is not before another, and that a number can hold.
abbrev Behind : Stamp → Option Stamp → Type 0
Behind a none = Unit {0}
Behind a (some d) = (a.0 ≤ d.0) × (d.0 ≤ largest_number)

told_back : (a : Stamp) (d : Option Stamp) → Behind a d → stamp_if a (distance_to a d) ≡ d
told_back a none h = refl
told_back a (some d) h =
    let apart : distance a d ≡ pos (d.0 - a.0) = difference d.0 a.0 ∙ rw (le-ltb d.0 a.0 h.0) in
    let sum : a.0 + (d.0 - a.0) ≡ d.0 = omega (arith, h.0) in
    ap (λ z. stamp_if a (some z)) apart
    ∙ ap some (later_fits a (d.0 - a.0) (omega (arith, sum, h.1)) ∙ ap at sum)

abbrev Bounded : Option Stamp → Type 0
Bounded none = Unit {0}
Bounded (some d) = d.0 ≤ largest_number

sum_bounded : (a : Stamp) (x : ℕ) → (later_at_most a x).0 ≤ largest_number
unfolding later_at_most
sum_bounded a x = min-le_right (a.0 + x) largest_number

bounded : (g : Lent) (s : Settings) (x : Resting) → Bounded (deadline_at_most g s x)
bounded g s S1 = tt
bounded g s (S2 M m) = sum_bounded m _
bounded g s (S3 O o) = both_ways Bounded (eqb s.solo 1) (sum_bounded o (B s)) tt
bounded g s (S4 M m O o) = sum_bounded o _
bounded g s (S5 O o M m) = sum_bounded m _
bounded g s (S6 O o M m r) = sum_bounded r _
bounded g s (S7 M m K k) = sum_bounded k _
bounded g s (S8 M m K k r) = sum_bounded r _

behind : (g : Lent) (s : Settings) (x : Resting) → Bounded (deadline g s x) → Behind (since x) (deadline g s x)
behind g s S1 h = tt
behind g s (S2 M m) h = (omega arith, h)
behind g s (S3 O o) h = go (eqb s.solo 1) h
  where
    go : (b : Bool) → Bounded (if b then some (later o (B s)) orelse none) → Behind o (if b then some (later o (B s)) orelse none)
    go true h = (omega arith, h)
    go false h = tt
behind g s (S4 M m O o) h = (omega arith, h)
behind g s (S5 O o M m) h = (omega arith, h)
behind g s (S6 O o M m r) h = (omega arith, h)
behind g s (S7 M m K k) h = (omega arith, h)
behind g s (S8 M m K k r) h = (omega arith, h)

-- a machine that is well formed was so when its state began
begun_formed : (g : Lent) (m : Machine) → well_formed g m ≡ true → well_formed g (begun m) ≡ true
unfolding well_formed
begun_formed g m w =
    let y = m.resting in
    let R = in_range m.settings in
    let K = keys_below y in
    let S = stamps_by m.last y in
    let L = at_or_before m.last (at largest_stamp) in
    let O = in_order y in
    let H = held_formed m.held in
    let P = pair_lent g y in
    let rksloh = first_of (R && K && S && L && O && H) P w in
    let rkslo = first_of (R && K && S && L && O) H rksloh in
    let rks = first_of (R && K && S) L (first_of (R && K && S && L) O rkslo) in
    let rk = first_of (R && K) S rks in
    let order = second_of (R && K && S && L) O rkslo in
    let f = formed g m w in
    let low : at_or_before (since y) (at largest_stamp) ≡ true = le-leb (since y).0 largest_stamp (omega (arith, f.since_last, f.low)) in
    rw (
      first_of R K rk,
      second_of R K rk,
      own_stamps y order,
      low,
      order,
      second_of (R && K && S && L && O) H rksloh,
      second_of (R && K && S && L && O && H) P w,
    )

-- and answers there
answers : (g : Lent) (m : Machine) → well_formed g m ≡ true
    → asking_with g (begun m) (since m.resting)
    ≡ record { number = 0; distance = distance_to (since m.resting) (deadline g m.settings m.resting) }
unfolding asking_with
answers g m w =
    let a = since m.resting in
    let f = formed g m w in
    rw (
      begun_formed g m w,
      le-ltb largest_stamp a.0 (omega (arith, f.since_last, f.low)),
      le-ltb a.0 a.0 (omega arith),
    )

pub deadline_told : DeadlineTold
deadline_told g good m w =
    let b = good_bounds g good in
    let held : LentHeld g = record { t_s = omega (arith, b.T_s_bounds.1); n = omega (arith, b.N_bounds.1) } in
    let d = deadline g m.settings m.resting in
    let fits = subst Bounded (well_formed_deadline g held m w) (bounded g m.settings m.resting) in
    ap (stamp_asked (since m.resting)) (answers g m w)
    ∙ told_back (since m.resting) d (behind g m.settings m.resting fits)
