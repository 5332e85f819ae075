-- The digits that `io::decimal` makes of a number below 10^20 are its `decimal`.
use Prim.Native.Nat.{ℕ, zero, suc, ◌+◌, ◌-◌, ◌/◌, ◌^◌, ◌≤◌, ◌<◌}
use native.Mathlib.Nat.{pow-suc, one-le-pow}
use native.Mathlib.Omega.{arith}
use borrow.Author.Tests.{lt-ltb, le-ltb}
use mathlib.Core.Path.{◌≡◌, refl, ap, ◌∙◌}
use mathlib.Core.List.{List}
use lib.Dec.{ltb}
use lib.ListN.{length, length-append}
use Rattle.choice.proofs.Choices.{both_ways}
use Rattle.filled.specs.Filled.{Stored}
use Rattle.text.specs.Puts.{Puts}
use Rattle.io.specs.Digits.{last_digits, IsDigitCount}
use Rattle.status_line.specs.Decimal.{places, decimal}

pred : (j : ℕ) → suc j - 1 ≡ j
pred j = omega arith

one_less : (j n : ℕ) → 10 ^ (suc (suc j) - 1) ≤ n → 10 ^ suc j ≤ n
one_less j n h = rw (pred (suc j)) at h

at_least_10 : (j : ℕ) → 10 ≤ 10 ^ suc j
at_least_10 j = omega (arith, pow-suc 10 j, one-le-pow j 10 (omega arith))

-- the fewest digits, one or more, of a number that has at most `more` behind the first
fewest : (more n k : ℕ) → n < 10 ^ suc more → IsDigitCount 10 1 n k → k ≡ places more n
fewest more n zero h (least, below, above) = absurd (omega arith)
fewest zero n (suc zero) h (least, below, above) = refl
fewest (suc more) n (suc zero) h (least, below, above) = rw (lt-ltb n 10 below)
fewest zero n (suc (suc j)) h (least, below, above) =
    let a : 10 ^ suc j ≤ n = one_less j n (above (omega arith)) in
    absurd (omega (arith, at_least_10 j))
fewest (suc more) n (suc (suc j)) h (least, below, above) =
    let a : 10 ^ suc j ≤ n = one_less j n (above (omega arith)) in
    let few : n / 10 < 10 ^ suc more = omega (arith, pow-suc 10 (suc more)) in
    let rest : n / 10 < 10 ^ suc j = omega (arith, pow-suc 10 (suc j)) in
    let full : 10 ^ j ≤ n / 10 = omega (arith, pow-suc 10 j) in
    rw (le-ltb n 10 (omega (arith, at_least_10 j))) (ap suc (fewest more (n / 10) (suc j) few (omega arith, rest, λ _. rw (pred j) full)))

length_digits : (b k n : ℕ) → length (last_digits b k n) ≡ k
length_digits b zero n = refl
length_digits b (suc k) n = rw (length-append, length_digits b k (n / b)) (omega arith)

places_few : (more n : ℕ) → places more n ≤ 1 + more
places_few zero n = omega arith
places_few (suc more) n = both_ways (λ (k : ℕ). k ≤ 1 + suc more) (ltb n 10) (omega arith) (omega (arith, places_few more (n / 10)))

pub decimal_short : (n : ℕ) → length (decimal n) ≤ 20
unfolding decimal
decimal_short n = rw (length_digits 10 (places 19 n) n) (places_few 19 n)

pub decimal_digits : (n k : ℕ) (bytes : List ℕ)
    → n < 100_000_000_000_000_000_000 → IsDigitCount 10 1 n k → bytes ≡ last_digits 10 k n → bytes ≡ decimal n
unfolding decimal
decimal_digits n k bytes h f e = e ∙ ap (λ (j : ℕ). last_digits 10 j n) (fewest 19 n k h f)

-- 20 bytes are room for every number
pub number_stored : (n at : ℕ) (run : List ℕ) (r : ℕ) (after : List ℕ)
    → at + 20 ≤ length run → Puts at (decimal n) run r after → Stored at (decimal n) run r after
number_stored n at run r after h p = p.fits (omega (arith, decimal_short n))
