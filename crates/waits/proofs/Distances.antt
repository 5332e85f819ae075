-- Stamps as signed numbers, and that a difference of two always fits.
use mathlib.Core.Path.{◌≡◌, refl, ap, subst, sym}
use mathlib.Core.Bool.{Bool, true, false, cond}
use Prim.Native.Nat.{ℕ, suc, ◌-◌, ◌≤◌, min}
use native.Mathlib.Nat.{min-le_right, min-eq_left}
use native.Mathlib.Omega.{arith}
use lib.Dec.{ltb}
use lib.IntN.{ℤ, pos, negsuc, sub_ℕ, ◌-ℤ◌}
use mir.Syntax.{w64}
use mir.Val.{SFits, to_z, of_z}
use mir.ValLaws.{to_z-of_z}
use Rattle.rules.specs.Distance.{distance}
use Rattle.rules.specs.declared.Stamp.{Stamp}
use Rattle.rules.proofs.Signed.{difference}
use Rattle.waits.specs.Capped.{largest_signed, signed_at_most, distance_at_most}

pub signed_fits : (a : Stamp) → a.0 ≤ largest_signed → signed_at_most a ≡ pos a.0
unfolding signed_at_most
signed_fits a h = ap pos (min-eq_left h)

pub signed_holds : (a : Stamp) → SFits w64 (signed_at_most a)
unfolding signed_at_most
signed_holds a = record { sfits = omega (arith, min-le_right a.0 largest_signed) }

difference_holds : (m n : ℕ) → m ≤ largest_signed → n ≤ largest_signed → SFits w64 (sub_ℕ m n)
difference_holds m n h k = go (ltb m n) refl
  where
    go : (t : Bool) → ltb m n ≡ t → SFits w64 (cond t (negsuc (n - suc m)) (pos (m - n)))
    go true e = record { sfits = omega arith }
    go false e = record { sfits = omega arith }

pub distance_holds : (now to : Stamp) → SFits w64 (distance_at_most now to)
unfolding signed_at_most
distance_holds now to =
    let a = min to.0 largest_signed in
    let b = min now.0 largest_signed in
    subst (SFits w64) (sym (difference a b))
    (difference_holds a b (min-le_right to.0 largest_signed) (min-le_right now.0 largest_signed))

-- the same of two numbers that are read back from their bits
pub bits_apart : {x y : ℤ} (now to : Stamp) → x ≡ signed_at_most to → y ≡ signed_at_most now
    → to_z w64 (of_z w64 x) -ℤ to_z w64 (of_z w64 y) ≡ distance_at_most now to
bits_apart now to e f = rw (e, f, to_z-of_z w64 _ (signed_holds to), to_z-of_z w64 _ (signed_holds now))

-- stamps within the bound: the distance is document 02's
pub distance_fits : (now to : Stamp) → now.0 ≤ largest_signed → to.0 ≤ largest_signed → distance_at_most now to ≡ distance now to
distance_fits now to h k = rw (signed_fits now h, signed_fits to k)
