-- Bounds of sums and waits, and where the bounds of `Capped` are not met.
use mathlib.Core.Path.{◌≡◌, ap, sym, ◌∙◌}
use mathlib.Core.Bool.{◌&&◌, and-true}
use Prim.Native.Nat.{ℕ, zero, suc, ◌+◌, ◌-◌, ◌*◌, ◌/◌, ◌≤◌, ◌<◌, ◌^◌, max}
use native.Mathlib.Nat.{mul-le-mul, div-le_self, min-le_right, min-eq_left, min-eq_right, max-le, zero-mul, suc-mul, lt_of_not-le, le_of_lt}
use native.Mathlib.Omega.{arith}
use native.Mathlib.Decide.{dec_le}
use lib.Dec.{ltb, lit≤}
use borrow.Author.Tests.{lt-ltb}
use Rattle.rules.specs.Numbers.{largest_stamp, up, A, B, FJ, FL, D, X, W}
use Rattle.rules.specs.Pairs.{GN}
use Rattle.rules.specs.States.{at, later}
use Rattle.rules.specs.declared.Stamp.{Stamp}
use Rattle.rules.specs.declared.Settings.{Settings}
use Rattle.waits.specs.Capped.{largest_number, later_at_most, lag_at_most}

-- a sum within the largest number is the sum
pub later_fits : (a : Stamp) (x : ℕ) → a.0 + x ≤ largest_number → later_at_most a x ≡ later a x
unfolding later_at_most
later_fits a x h = ap at (min-eq_left h)

-- a lag up to the largest stamp is itself
pub lag_fits : (x : ℕ) → x ≤ largest_stamp → lag_at_most x ≡ x
unfolding lag_at_most
lag_fits x h = min-eq_left h

pub lag_full : (x : ℕ) → largest_stamp ≤ x → lag_at_most x ≡ largest_stamp
unfolding lag_at_most
lag_full x h = min-eq_right h

-- what the waits multiply: at most the largest stamp by a byte
pub product : {x n : ℕ} → x ≤ largest_stamp → n < 256 → x * n ≤ largest_stamp * 255
product {x} {n} h k = let k' : n ≤ 255 = omega arith in mul-le-mul h k'

pub lag_bound : (x : ℕ) → lag_at_most x ≤ largest_stamp
unfolding lag_at_most
lag_bound x = min-le_right _ _

up_bound : (n d : ℕ) → up n d ≤ n + d
unfolding up
up_bound n d = let h : (n + (d - 1)) / d ≤ n + (d - 1) = div-le_self _ _ in omega arith

-- the wait of one key alone, for any T and percentage
alone_bound : {t p : ℕ} → t < 65536 → p < 256 → up (t * (100 - p)) p ≤ 6_553_755
alone_bound {t} {p} h k =
    let t' : t ≤ 65535 = omega arith in
    let p' : 100 - p ≤ 100 = omega arith in
    omega (arith, up_bound (t * (100 - p)) p, mul-le-mul t' p')

-- the wait of two keys, for any lag up to a bound and any percentage
together_bound : {x most p : ℕ} → x ≤ most → p < 256 → up (x * p) (100 - p) ≤ most * 255 + 100
together_bound {x} {most} {p} h k =
    let p' : p ≤ 255 = omega arith in
    omega (arith, up_bound (x * p) (100 - p), mul-le-mul h p')

-- a machine's T, J and L are numbers of two bytes and of one
pub record Held (s : Settings) : Type 0 where
  pub t : s.t < 65536
  pub j : s.j < 256
  pub l : s.l < 256

-- the waits of two letters, for any T_s, lag and N
pub P_bound : {ts n : ℕ} → ts < 65536 → n < 256 → GN n ts ≤ 6_553_755
unfolding GN
P_bound h k = alone_bound h k

pub GN_bound : {x n : ℕ} → x ≤ largest_stamp → n < 256 → GN n x ≤ largest_stamp * 100 + 256
unfolding GN
GN_bound {x} {n} h k =
    let rest : 100 - n ≤ 100 = omega arith in
    omega (arith, up_bound (x * (100 - n)) n, mul-le-mul h rest)

module _ (s : Settings) (held : Held s) where
  pub A_bound : A s ≤ 6_553_755
  unfolding A
  A_bound = alone_bound held.t held.j

  pub B_bound : B s ≤ 6_553_755
  unfolding B
  B_bound = alone_bound held.t held.l

  pub FJ_bound : {x most : ℕ} → x ≤ most → FJ s x ≤ most * 255 + 100
  unfolding FJ
  FJ_bound h = together_bound h held.j

  pub FL_bound : {x most : ℕ} → x ≤ most → FL s x ≤ most * 255 + 100
  unfolding FL
  FL_bound h = together_bound h held.l

  pub X_bound : X s ≤ 1_671_207_625
  unfolding X D
  X_bound = let a : A s ≤ 1_671_207_625 = omega (arith, A_bound) in max-le a (FL_bound B_bound)

-- two long gaps decide alike whether an overlap of two bytes is in its share
long_gaps : (p x y b : ℕ) → b < 65_536 → 6_553_600 ≤ x → 6_553_600 ≤ y → ltb (100 * b) (p * (x + b)) ≡ ltb (100 * b) (p * (y + b))
long_gaps zero x y b h i j = rw (zero-mul (x + b), zero-mul (y + b))
long_gaps (suc p) x y b h i j =
    lt-ltb (100 * b) (suc p * (x + b)) (omega (arith, suc-mul p (x + b))) ∙
    sym (lt-ltb (100 * b) (suc p * (y + b)) (omega (arith, suc-mul p (y + b))))

in_share : (p a b : ℕ) → b < 65_536 → Dec (a ≤ largest_stamp)
    → ltb (100 * b) (p * (lag_at_most a + b)) ≡ ltb (100 * b) (p * (a + b))
in_share p a b h (yes i) = rw (lag_fits a i)
in_share p a b h (no i) =
    let j : largest_stamp < a = lt_of_not-le i in
    rw (lag_full a (le_of_lt j)) (long_gaps p largest_stamp a b h (lit≤ tt) (omega arith))

-- a gap at the bound decides as every longer one
pub short_pair_at_most : (ts p a b : ℕ) → ts < 65_536 → b < ts
    → ltb (100 * b) (p * (lag_at_most a + b)) ≡ (ltb (100 * b) (p * (a + b)) && ltb b ts)
short_pair_at_most ts p a b two h =
    in_share p a b (omega arith) (dec_le a largest_stamp) ∙ sym (rw (lt-ltb b ts h) (and-true (ltb (100 * b) (p * (a + b)))))

-- what the test of an overlap multiplies
pub overlap_product : {p x b : ℕ} → p < 256 → x ≤ largest_stamp → b < 65_536 → p * (x + b) ≤ 255 * (largest_stamp + 65_536)
overlap_product {p} {x} {b} h i j =
    let p' : p ≤ 255 = omega arith in
    let x' : x + b ≤ largest_stamp + 65_536 = omega arith in
    mul-le-mul p' x'

-- D and W from their parts: no bound is met
pub D_at_most : (s : Settings) (b : ℕ) → Held s → b ≡ B s → FL s (lag_at_most b) ≡ D s
unfolding D
D_at_most s b held e =
    let h : b ≤ largest_stamp = omega (arith, B_bound s held, e) in
    ap (FL s) (lag_fits b h ∙ e)

pub W_at_most : (s : Settings) (x y z : ℕ) → Held s → x ≡ X s → y ≡ FJ s (lag_at_most x) → z ≡ max x y → x + z ≡ W s
unfolding W
W_at_most s x y z held e f g =
    let h : x ≤ largest_stamp = omega (arith, X_bound s held, e) in rw (g, f, lag_fits x h, e)

pub W_bound : (s : Settings) → Held s → W s < 2 ^ 64
unfolding W
W_bound s held =
    let x : X s ≤ 426_157_944_475 = omega (arith, X_bound s held) in
    omega (arith, max-le x (FJ_bound s held (X_bound s held)))
