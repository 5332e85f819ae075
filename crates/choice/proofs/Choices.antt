-- What holds of both sides of a choice holds of the choice.
use mathlib.Core.Bool.{Bool, true, false}
use mathlib.Core.Path.{◌≡◌, refl}
use Rattle.choice.specs.Choice.{if◌then◌orelse◌}

pub both_ways : {X : Type 0} (P : X → Type 0) (t : Bool) {a b : X} → P a → P b → P (if t then a orelse b)
both_ways P true pa pb = pa
both_ways P false pa pb = pb

-- the same with the test's outcome at hand
pub by_test : {X : Type 0} (P : X → Type 0) (t : Bool) {a b : X} → (t ≡ true → P a) → (t ≡ false → P b) → P (if t then a orelse b)
by_test P true f g = f refl
by_test P false f g = g refl

-- of two choices whose tests come out the same
pub two_ways : {X Y : Type 0} (R : X → Y → Type 0) {t u : Bool} → t ≡ u → {a b : X} {c d : Y} → R a c → R b d
    → R (if t then a orelse b) (if u then c orelse d)
two_ways R {t} {u} e {a} {b} {c} {d} f g = rw e (go u)
  where
    go : (v : Bool) → R (if v then a orelse b) (if v then c orelse d)
    go true = f
    go false = g

-- by the outcome of a test, whatever is to be shown
pub either : {P : Type 0} (t : Bool) → (t ≡ true → P) → (t ≡ false → P) → P
either true f g = f refl
either false f g = g refl
