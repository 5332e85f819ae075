-- Two products compared as two digits each.
use Prim.Native.Nat.{ℕ, ◌+◌, ◌*◌, ◌/◌, ◌%◌, ◌≤◌, ◌<◌}
use native.Mathlib.Nat.{mul-add, mul_assoc, mul-le-mul, div-add-mod'}
use native.Mathlib.Omega.{arith}
use mathlib.Core.Bool.{Bool, true, false}
use mathlib.Core.Path.{◌≡◌, refl, sym, ◌∙◌, ap}
use lib.Dec.{ltb}
use borrow.Author.Tests.{ltb-true, ltb-false, lt-ltb, le-ltb}
use Rattle.rules.specs.OneEvent.{short_of}
use Rattle.waits.specs.Digits.{digit}

-- p x, from the digits of x
in_digits : (p x : ℕ) → p * x ≡ p * (x / digit) * digit + p * (x % digit)
in_digits p x =
    ap (λ (n : ℕ). p * n) (sym (div-add-mod' x digit)) ∙
    mul-add p (x / digit * digit) (x % digit) ∙
    ap (λ (n : ℕ). n + p * (x % digit)) (sym (mul_assoc p (x / digit) digit))

pub upper_digit : (p x : ℕ) → p * (x / digit) + p * (x % digit) / digit ≡ (p * x) / digit
upper_digit p x = omega (arith, in_digits p x)

pub lower_digit : (p x : ℕ) → (p * (x % digit)) % digit ≡ (p * x) % digit
lower_digit p x = omega (arith, in_digits p x)

-- what the product of a digit holds
pub digit_product : {p x : ℕ} → p < 256 → x < digit → p * x ≤ 255 * 4_294_967_295
digit_product {p} {x} h k =
    let p' : p ≤ 255 = omega arith in
    let x' : x ≤ 4_294_967_295 = omega arith in
    mul-le-mul p' x'

-- the ways through `short_of`
module _ (p b c : ℕ) {u v : ℕ} (b_upper : u ≡ (100 * b) / digit) (c-upper : v ≡ (p * c) / digit) where
  pub by_lower : {l m : ℕ} → u ≡ v → l ≡ (100 * b) % digit → m ≡ (p * c) % digit → ltb l m ≡ short_of p b c
  unfolding short_of
  by_lower {l} {m} e b_lower c-lower = go (ltb l m) refl
    where
      go : (t : Bool) → ltb l m ≡ t → t ≡ ltb (100 * b) (p * c)
      go true h = let d = ltb-true l m h in sym (lt-ltb (100 * b) (p * c) (omega arith))
      go false h = let d = ltb-false l m h in sym (le-ltb (100 * b) (p * c) (omega arith))

  pub by_upper : (u ≡ v → ⊥) → ltb u v ≡ short_of p b c
  unfolding short_of
  by_upper e = go (ltb u v) refl
    where
      go : (t : Bool) → ltb u v ≡ t → t ≡ ltb (100 * b) (p * c)
      go true h = let d = ltb-true u v h in sym (lt-ltb (100 * b) (p * c) (omega arith))
      go false h = let d = ltb-false u v h in sym (le-ltb (100 * b) (p * c) (omega arith))
