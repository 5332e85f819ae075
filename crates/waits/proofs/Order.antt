-- What the derived order of stamps, lags and keys says in the words of the definitions.
use Prim.Native.Nat.{ℕ, ◌≤◌, ◌<◌, min, max}
use native.Mathlib.Nat.{min-eq_left, min-eq_right, max-eq_left, max-eq_right, le_of_lt}
use native.Mathlib.Omega.{arith}
use mathlib.Core.Bool.{Bool, true, false, cond}
use mathlib.Core.Path.{◌≡◌, refl, sym, ◌∙◌}
use lib.Dec.{ltb, leb}
use borrow.Author.Tests.{ltb-true, ltb-false}
use Rattle.std.proofs.lemmas.Bool.Decides.{nat_tests}
use Rattle.rules.specs.declared.Lag.{Lag}
use Rattle.std.specs.Ordering.{ord_max, ord_min, nat_cmp, is_lt, is_le}

pub lt_is : (x y : ℕ) → is_lt (nat_cmp x y) ≡ ltb x y
lt_is x y = grind (arith, nat_tests)

pub le_is : (x y : ℕ) → is_le (nat_cmp x y) ≡ leb x y
le_is x y = grind (arith, nat_tests)

-- what a test `a < b` tells of the numbers
pub below_from : {x y : ℕ} → is_lt (nat_cmp x y) ≡ true → x < y
below_from {x} {y} e = ltb-true _ _ (sym (lt_is x y) ∙ e)

pub not_below_from : {x y : ℕ} → is_lt (nat_cmp x y) ≡ false → y ≤ x
not_below_from {x} {y} e = ltb-false _ _ (sym (lt_is x y) ∙ e)

-- the longer of two lags, and the shorter
pub longer_is : (x y : Lag) → (ord_max (λ a b. nat_cmp a.0 b.0) x y).0 ≡ max x.0 y.0
longer_is x y = by_cases (is_lt (nat_cmp y.0 x.0)) refl
  where
    by_cases : (t : Bool) → is_lt (nat_cmp y.0 x.0) ≡ t → (cond t x y).0 ≡ max x.0 y.0
    by_cases true e = sym (max-eq_left (le_of_lt (below_from e)))
    by_cases false e = sym (max-eq_right (not_below_from e))

pub shorter_is : (x y : Lag) → (ord_min (λ a b. nat_cmp a.0 b.0) x y).0 ≡ min x.0 y.0
shorter_is x y = by_cases (is_lt (nat_cmp y.0 x.0)) refl
  where
    by_cases : (t : Bool) → is_lt (nat_cmp y.0 x.0) ≡ t → (cond t y x).0 ≡ min x.0 y.0
    by_cases true e = sym (min-eq_right (le_of_lt (below_from e)))
    by_cases false e = sym (min-eq_left (not_below_from e))
