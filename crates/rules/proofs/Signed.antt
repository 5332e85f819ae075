-- Differences of signed numbers.
use Prim.Native.Nat.{ℕ, zero, suc}
use native.Mathlib.Nat.{add-zero, sub-zero}
use native.Mathlib.Omega.{arith}
use mathlib.Core.Path.{◌≡◌, refl}
use lib.IntN.{pos, sub_ℕ, ◌-ℤ◌}
use borrow.Author.Tests.{le-ltb}

pub pos_injective : (m n : ℕ) → pos m ≡ pos n → m ≡ n
pos_injective m n e = cc

-- a difference, by which of the two is the larger
pub difference : (a b : ℕ) → pos a -ℤ pos b ≡ sub_ℕ a b
difference a zero = rw (add-zero, le-ltb a 0 (omega arith), sub-zero)
difference a (suc b) = refl
