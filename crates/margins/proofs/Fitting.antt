-- In a machine that is well formed no sum of the code is capped.
use Prim.Native.Nat.{ℕ, ◌+◌, ◌-◌, ◌*◌, ◌/◌, ◌≤◌, ◌<◌}
use native.Mathlib.Nat.{div-le_self}
use native.Mathlib.Omega.{arith}
use mathlib.Core.Bool.{true, ◌&&◌, and-eq-true_iff}
use mathlib.Core.List.{List}
use mathlib.Core.Option.{Option}
use mathlib.Core.Path.{◌≡◌, refl, ap, ◌∙◌}
use borrow.Author.Tests.{leb-true}
use Rattle.rules.specs.Numbers.{largest_stamp, settings_of, up}
use Rattle.rules.specs.States.{at, lag, later, deadline, at_or_before, stamps_by}
use Rattle.rules.specs.declared.Stamp.{Stamp}
use Rattle.rules.specs.declared.Settings.{Settings}
use Rattle.rules.specs.declared.Resting.{Resting}
use Rattle.rules.specs.declared.Resting.TheVariants.{S1, S2, S3, S4, S5, S6, S7, S8}
use Rattle.rules.specs.declared.Input.{Input}
use Rattle.rules.specs.declared.Input.TheVariants.{CharacterDown, CharacterUp, ThumbDown, ThumbUp, FunctionDown, Tick}
use Rattle.rules.proofs.Tests.{good_bounds}
use Rattle.pairs.specs.Lent.{lent}
use Rattle.pairs.specs.declared.Times.{Times}
use Rattle.waits.specs.Capped.{later_at_most}
use Rattle.waits.proofs.Bounds.{later_fits, lag_fits, FJ_bound}
use Rattle.reasons.specs.Turning.{since, turns_in_S4, turns_in_S5, turns_in_S7, turns_in_S8, turns_in}
use Rattle.reasons.specs.Turning.{nearer_before, parts_before, short_before, share_before}
use Rattle.reasons.proofs.AtMachine.{formed}
use Rattle.margins.specs.Capped.{parts_at_most, short_at_most, share_at_most, turns_at_most}
use Rattle.margins.specs.Fitting.{TurnsFit, ComparedByTimes}
use Rattle.margins.proofs.Laws.{by_N}

-- a stamp within the largest, and a lag to it
module _ (m k : Stamp) (top : k.0 ≤ largest_stamp) where
  nearer_fits : later_at_most k (lag m k) ≡ later k (lag m k)
  nearer_fits = later_fits k (lag m k) (omega arith)

  brief_fits : later_at_most k 400 ≡ later k 400
  brief_fits = later_fits k 400 (omega arith)

  parts_fit : parts_at_most m k ≡ parts_before m k
  parts_fit =
      ap (λ a. later_at_most a 1) nearer_fits ∙ later_fits (later k (lag m k)) 1 (omega arith) ∙ ap at (omega arith)

  short_fits : (n : ℕ) → n < 256 → short_at_most n m k ≡ short_before n m k
  short_fits n h =
      let x : lag m k ≤ largest_stamp = omega arith in
      let b = FJ_bound (settings_of 0 n 0 0) (record { t = omega arith; j = h; l = omega arith }) x in
      let c : up (lag m k * n) (100 - n) ≤ largest_stamp * 255 + 100 = rw (by_N n (lag m k)) at b in
      ap (λ y. later_at_most k (up (y * n) (100 - n))) (lag_fits (lag m k) x)
      ∙ later_fits k (up (lag m k * n) (100 - n)) (omega arith)

-- here the lag is from k to r, a later stamp
share_fits : (l : ℕ) (k r : Stamp) → k.0 ≤ largest_stamp → r.0 ≤ largest_stamp → share_at_most l k r ≡ share_before l k r
share_fits l k r top-k top-r =
    let x : lag k r ≤ largest_stamp = omega arith in
    let q : (100 * lag k r) / l ≤ 100 * lag k r = div-le_self (100 * lag k r) l in
    let whole = later_fits k ((100 * lag k r) / l) (omega arith) in
    ap (λ y. later_at_most (later_at_most k ((100 * y) / l)) 1) (lag_fits (lag k r) x)
    ∙ ap (λ a. later_at_most a 1) whole
    ∙ later_fits (later k ((100 * lag k r) / l)) 1 (omega arith)
    ∙ ap at (omega arith)

module _ (l : List ℕ) (t : Times) (n : t.n < 256) (s : Settings) (d : Option Stamp) (last : Stamp) (low : last.0 ≤ largest_stamp) where
  fits : (x : Resting) (i : Input) → stamps_by last x ≡ true → (since x).0 ≤ last.0
      → turns_at_most (lent l t) s d x i ≡ turns_in (lent l t) s d x i
  fits S1 i h b = refl
  fits (S2 M m) i h b = refl
  fits (S3 O o) i h b = refl
  fits (S4 M m O o) i h b =
      ap (λ v. turns_in_S4 d v (later_at_most o 400) M O i) (nearer_fits m o (omega arith))
      ∙ ap (λ w. turns_in_S4 d (nearer_before m o) w M O i) (brief_fits m o (omega arith))
  fits (S5 O o M m) i h b =
      ap (λ v. turns_in_S5 d v (later_at_most m 400) O M i) (parts_fit o m (omega arith))
      ∙ ap (λ w. turns_in_S5 d (parts_before o m) w O M i) (brief_fits o m (omega arith))
  fits (S6 O o M m r) i h b = refl
  fits (S7 M m K k) i h b =
      ap (λ v. turns_in_S7 d v (short_at_most t.n m k) M K i) (parts_fit m k (omega arith))
      ∙ ap (λ w. turns_in_S7 d (parts_before m k) w M K i) (short_fits m k (omega arith) t.n n)
  fits (S8 M m K k r) i h b =
      let two = ((and-eq-true_iff (at_or_before m last && at_or_before k last) (at_or_before r last)).0 h).0 in
      let k-last : k.0 ≤ last.0 = leb-true k.0 last.0 ((and-eq-true_iff (at_or_before m last) (at_or_before k last)).0 two).1 in
      ap (λ v. turns_in_S8 (lent l t).pairs d v (share_at_most s.l k r) K i) (parts_fit m k (omega arith))
      ∙ ap (λ w. turns_in_S8 (lent l t).pairs d (parts_before m k) w K i) (share_fits s.l k r (omega arith) (omega arith))

pub turns_fit : TurnsFit
turns_fit l t good m w i =
    let f = formed (lent l t) m w in
    let b = good_bounds (lent l t) good in
    let d = deadline (lent l t) m.settings m.resting in
    fits l t (omega (arith, b.N_bounds.1)) m.settings d m.last f.low m.resting i f.stamps f.since_last

pub compared_by_times : ComparedByTimes
compared_by_times l t s at S1 i = refl
compared_by_times l t s at (S2 M m) i = refl
compared_by_times l t s at (S3 O o) i = refl
compared_by_times l t s at (S4 M m O o) i = refl
compared_by_times l t s at (S5 O o M m) i = refl
compared_by_times l t s at (S6 O o M m r) i = refl
compared_by_times l t s at (S7 M m K k) (CharacterDown N) = refl
compared_by_times l t s at (S7 M m K k) (CharacterUp N) = refl
compared_by_times l t s at (S7 M m K k) (ThumbDown P) = refl
compared_by_times l t s at (S7 M m K k) (ThumbUp P) = refl
compared_by_times l t s at (S7 M m K k) FunctionDown = refl
compared_by_times l t s at (S7 M m K k) Tick = refl
compared_by_times l t s at (S8 M m K k r) i = refl
