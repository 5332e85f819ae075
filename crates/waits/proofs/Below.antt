-- Whether a wait is below a number, by products; and when a wait from a stamp on is over.
use mathlib.Core.Bool.{Bool, true, false}
use mathlib.Core.Path.{◌≡◌, refl, sym}
use Prim.Native.Nat.{ℕ, zero, suc, ◌+◌, ◌-◌, ◌*◌, ◌/◌, ◌≤◌, ◌<◌, min}
use native.Mathlib.Nat.{div-zero, div-lt_iff_lt-mul, add-mul, one-mul, mul-one, mul-le-mul_left, mul-le-mul, lt_of_not-le}
use native.Mathlib.Nat.{min-eq_left, min-eq_right, min-le_left, min-le_right, le-min}
use native.Mathlib.Decide.{dec_le}
use native.Mathlib.Omega.{arith}
use lib.Dec.{ltb, leb}
use borrow.Author.Tests.{lt-ltb, le-ltb, le-leb, lt-leb, leb-true, leb-false, ltb-true, ltb-false}
use Rattle.choice.specs.Choice.{if◌then◌orelse◌}
use Rattle.rules.specs.Numbers.{largest_stamp, up}
use Rattle.rules.specs.declared.Stamp.{Stamp}
use Rattle.waits.specs.Capped.{largest_number, since_at_most, later_at_most}

-- a quotient that is rounded up is below k + 1 where the number is at most k divisors
up_below : (n d k : ℕ) → 0 < d → n ≤ k * d → up n d < k + 1
unfolding up
up_below n d k h i = (div-lt_iff_lt-mul h).1 (omega (arith, add-mul k 1 d, one-mul d))

up_above : (n d k : ℕ) → 0 < d → k * d < n → k + 1 ≤ up n d
unfolding up
up_above n d k h i = go (dec_le (k + 1) ((n + (d - 1)) / d))
  where
    go : Dec (k + 1 ≤ (n + (d - 1)) / d) → k + 1 ≤ (n + (d - 1)) / d
    go (yes j) = j
    go (no j) = absurd (omega (arith, (div-lt_iff_lt-mul h).0 (lt_of_not-le j), add-mul k 1 d, one-mul d))

pub below_by_0 : (n d y : ℕ) → (y ≡ 0 → ⊥) → d ≡ 0 → true ≡ ltb (up n d) y
unfolding up
below_by_0 n d zero h e = absurd (h (omega arith))
below_by_0 n d (suc y) h e = sym (lt-ltb ((n + (d - 1)) / d) (suc y) (rw (e, div-zero (n + (0 - 1))) (omega arith)))

positive : (k : ℕ) → (k ≡ 0 → ⊥) → 0 < k
positive zero f = absurd (f (omega arith))
positive (suc k) f = omega arith

module _ (n d y : ℕ) (some : y ≡ 0 → ⊥) (by : d ≡ 0 → ⊥) where
  pub below_at_once : n ≤ y - 1 → true ≡ ltb (up n d) y
  below_at_once h =
      let p : 0 < d = positive d by in
      let q : 0 < y = positive y some in
      let r : n ≤ (y - 1) * d = omega (arith, mul-le-mul_left (y - 1) p, mul-one (y - 1)) in
      sym (lt-ltb (up n d) y (omega (arith, up_below n d (y - 1) p r)))

  pub below_by_products : leb n ((y - 1) * d) ≡ ltb (up n d) y
  below_by_products = go (leb n ((y - 1) * d)) refl
    where
      go : (t : Bool) → leb n ((y - 1) * d) ≡ t → t ≡ ltb (up n d) y
      go true e = sym (lt-ltb (up n d) y (omega (arith, up_below n d (y - 1) (positive d by) (leb-true n _ e), positive y some)))
      go false e = sym (le-ltb (up n d) y (omega (arith, up_above n d (y - 1) (positive d by) (leb-false n _ e), positive y some)))

-- a wait from a stamp on is over where it is below the time since then
pub over_since : (a now : Stamp) (x : ℕ) → a.0 ≤ largest_number → x < largest_number
    → ltb x (since_at_most a now) ≡ leb (later_at_most a x).0 now.0
unfolding since_at_most later_at_most
over_since a now x h i = go (dec_le largest_number now.0)
  where
    sum : ℕ
    sum = a.0 + x

    within : now.0 < largest_number → (t : Bool) → ltb x (now.0 + 1 - a.0) ≡ t → t ≡ leb (min (a.0 + x) largest_number) now.0
    within j true e =
        let k : a.0 + x ≤ now.0 = omega (arith, ltb-true x _ e) in
        sym (le-leb _ now.0 (omega (arith, min-le_left (a.0 + x) largest_number)))
    within j false e =
        let k : now.0 < a.0 + x = omega (arith, ltb-false x _ e) in
        sym (lt-leb _ now.0 (le-min k j))

    go : Dec (largest_number ≤ now.0)
        → ltb x (if ltb now.0 largest_number then now.0 + 1 - a.0 orelse largest_number) ≡ leb (min (a.0 + x) largest_number) now.0
    go (yes j) =
        rw (le-ltb now.0 largest_number j, lt-ltb x largest_number i)
        (sym (le-leb _ now.0 (omega (arith, min-le_right (a.0 + x) largest_number))))
    go (no j) = rw (lt-ltb now.0 largest_number (lt_of_not-le j)) (within (lt_of_not-le j) _ refl)

-- what `share_below` multiplies
pub most_product : {n most d : ℕ} → n ≤ largest_stamp * 255 → most < n → d < 256 → most * d ≤ largest_stamp * 255 * 255
most_product {n} {most} {d} h i j =
    let a : most ≤ largest_stamp * 255 = omega arith in
    let b : d ≤ 255 = omega arith in
    mul-le-mul a b

-- the smaller of two, by the test of `thumb_first_wait_below`
pub second_smaller : (x b : ℕ) → ltb b x ≡ true → min x b ≡ b
second_smaller x b e = min-eq_right (omega (arith, ltb-true b x e))

pub first_smaller : (x b : ℕ) → ltb b x ≡ false → min x b ≡ x
first_smaller x b e = min-eq_left (ltb-false b x e)
