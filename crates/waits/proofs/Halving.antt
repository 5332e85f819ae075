-- Laws of a quotient by a divisor that is moved up by k bits and back down, one bit a turn.
use mathlib.Core.Path.{◌≡◌, sym, ap, ◌∙◌}
use Prim.Native.Nat.{ℕ, zero, suc, ◌+◌, ◌-◌, ◌*◌, ◌/◌, ◌%◌, ◌^◌, ◌≤◌, ◌<◌}
use native.Mathlib.Nat.{two-pow-succ, mul-one, mul-add, add-mul, mul-le-mul, mul-le-mul_left, mul-le-mul_right}
use native.Mathlib.Nat.{div-eq_of_lt-le, lt_of_not-le}
use native.Mathlib.Decide.{dec_le}
use native.Mathlib.Omega.{arith}
use lib.Pow.{pow_pos, pow_mono, pow-add, shl_exact}
use lib.Count.{count_leading_zeros, leading_top}
use Rattle.waits.specs.Turns.{Above}

-- Of a total, q times a divisor moved up by k bits are taken, and the rest is smaller.
pub record Left (total d step k q rest : ℕ) : Type 0 where
  pub moved : step ≡ d * 2 ^ k
  pub parts : q * step + rest ≡ total
  pub small : rest < step

-- one bit down
record Down (total d step k q rest : ℕ) : Type 0 where
  half : step / 2 ≡ d * 2 ^ (k - 1)
  twice : step ≡ step / 2 + step / 2
  parts : (q + q) * (step / 2) + rest ≡ total

down : (total d step k q rest : ℕ) → Left total d step k q rest → 0 < k → Down total d step k q rest
down total d step zero q rest l h = absurd (omega arith)
down total d step (suc k) q rest l h =
    let e : step ≡ d * 2 ^ k + d * 2 ^ k = l.moved ∙ rw (two-pow-succ k) (mul-add d (2 ^ k) (2 ^ k)) in
    let t : step ≡ step / 2 + step / 2 = omega arith in
    let p : q * (step / 2 + step / 2) ≡ q * (step / 2) + q * (step / 2) = mul-add q (step / 2) (step / 2) in
    let r : q * step + rest ≡ total = l.parts in
    let s : q * (step / 2 + step / 2) + rest ≡ total = rw t at r in
    let z : suc k - 1 ≡ k = omega arith in
    record { half = rw z (omega arith); twice = t; parts = omega (arith, p, add-mul q q (step / 2)) }

module _ (total d step k q rest : ℕ) (l : Left total d step k q rest) (more : 0 < k) where
  -- the new bit is 0
  pub keeps : rest < step / 2 → Left total d (step / 2) (k - 1) (q + q) rest
  keeps h = let w = down total d step k q rest l more in record { moved = w.half; parts = w.parts; small = h }

  -- the new bit is 1
  pub takes : step / 2 ≤ rest → Left total d (step / 2) (k - 1) (q + q + 1) (rest - step / 2)
  takes h =
      let w = down total d step k q rest l more in
      let s : rest < step = l.small in
      record {
        moved = w.half;
        parts = omega (arith, add-mul (q + q) 1 (step / 2), w.parts);
        small = omega (arith, w.twice);
      }

  -- what is taken so far is no more than the total
  pub within : 0 < d → q + q ≤ total
  within h =
      let w = down total d step k q rest l more in
      let p : 1 ≤ d * 2 ^ (k - 1) = mul-le-mul {n₁ = 1} {m₁ = 1} h (pow_pos (k - 1)) in
      let one : 1 ≤ step / 2 = omega (arith, w.half) in
      omega (arith, w.parts, mul-le-mul_left (q + q) one, mul-one (q + q))

-- moved down all the way
pub ends : (total d step k q rest : ℕ) → Left total d step k q rest → k ≤ 0 → q ≡ total / d
ends total d step zero q rest l h =
    let e : step ≡ d = l.moved ∙ omega (arith, mul-one d) in
    let p : q * d + rest ≡ total = rw e at l.parts in
    let s : rest < d = rw e at l.small in
    sym (div-eq_of_lt-le d (omega arith) (omega (arith, add-mul q 1 d)))
ends total d step (suc k) q rest l h = absurd (omega arith)

-- a divisor below 256, moved up so far, is not cut off
pub exact : (total d k : ℕ) → Above total d k → d < 256 → (d * 2 ^ k) % 18_446_744_073_709_551_616 ≡ d * 2 ^ k
exact total d k a h =
    let b : 8 + k ≤ 64 = omega (arith, a.few) in
    shl_exact 8 k 64 (omega arith) b

-- The divisor is moved up by as many bits as the total is longer, and one more: above the total.
module _ (total d : ℕ) (some : 0 < d) (longer : d ≤ total) (low : total < 281_474_976_710_656) where
  -- the highest bits of the two
  by_tops : (i j : ℕ) → count_leading_zeros 64 d + suc i ≡ 64 → count_leading_zeros 64 total + suc j ≡ 64
      → 2 ^ i ≤ d → d < 2 ^ suc i → 2 ^ j ≤ total → total < 2 ^ suc j
      → (count_leading_zeros 64 total ≤ count_leading_zeros 64 d + 1) × Above total d (count_leading_zeros 64 d + 1 - count_leading_zeros 64 total)
  by_tops i j e f di di' tj tj' =
      let ij : i ≤ j = no_longer (dec_le (suc j) i) in
      let k : count_leading_zeros 64 d + 1 - count_leading_zeros 64 total ≡ suc j - i = omega arith in
      let j48 : suc j ≤ 48 = short (dec_le 48 j) in
      let q : suc j ≡ i + (suc j - i) = omega arith in
      let p : 2 ^ suc j ≡ 2 ^ i * 2 ^ (suc j - i) = ap (λ n. 2 ^ n) q ∙ pow-add 2 i (suc j - i) in
      let a : 2 ^ i * 2 ^ (suc j - i) ≤ d * 2 ^ (suc j - i) = mul-le-mul_right (2 ^ (suc j - i)) di in
      (omega arith, rw k record { few = omega arith; above = omega arith })
    where
      no_longer : Dec (suc j ≤ i) → i ≤ j
      no_longer (yes h) = absurd (omega (arith, pow_mono h))
      no_longer (no h) = omega (arith, lt_of_not-le h)

      short : Dec (48 ≤ j) → suc j ≤ 48
      short (yes h) = absurd (omega (arith, pow_mono h))
      short (no h) = lt_of_not-le h

  pub lies_above : (count_leading_zeros 64 total ≤ count_leading_zeros 64 d + 1) × Above total d (count_leading_zeros 64 d + 1 - count_leading_zeros 64 total)
  lies_above =
      let (i, e, di, di') = leading_top 64 d some (omega arith) in
      let (j, f, tj, tj') = leading_top 64 total (omega arith) (omega arith) in
      by_tops i j e f di di' tj tj'
