-- Laws of reading a number digit by digit, as the loop does it.
use Prim.Native.Nat.{ℕ, ◌+◌, ◌≤◌, ◌<◌}
use native.Mathlib.Numerals.{add-one}
use native.Mathlib.Omega.{arith}
use borrow.Author.Tests.{leb-true}
use mathlib.Core.Bool.{Bool, true, false, ◌&&◌, false≢true}
use mathlib.Core.Path.{◌≡◌, refl, sym, ◌∙◌}
use mathlib.Core.List.{List, [], ◌∷◌}
use lib.Dec.{leb}
use lib.ListN.{length, drop, get_or, drop_of_length-le}
use lib.Seq.{drop-cons}
use Rattle.decimals.specs.Decimals.{is_digit, extended, and_then, extended_by, parsed}
use Rattle.std.proofs.Common.{Option, Some, None}
use Rattle.decimals.specs.Decimals.{Value, Not, number_of}

both_first : (p q : Bool) → p && q ≡ true → p ≡ true
both_first true q e = refl
both_first false q e = absurd (false≢true e)

-- no digit is below '0'
pub digit_from : (b : ℕ) (t : Bool) → t ≡ is_digit b → t ≡ true → 48 ≤ b
unfolding is_digit
digit_from b t tested is = leb-true 48 b (both_first (leb 48 b) (leb b 57) (sym tested ∙ is))

pub none_read : (bytes : List ℕ) → length bytes ≡ 0 → Not ≡ parsed bytes
unfolding parsed
none_read [] h = refl
none_read (b ∷ bytes) h = absurd (omega arith)

-- so far: the number that the bytes passed make
pub record Read (bytes : List ℕ) (n i : ℕ) : Type 0 where
  pub inside : i ≤ length bytes
  pub left : parsed bytes ≡ extended_by n (drop i bytes)

pub begun : (bytes : List ℕ) → (length bytes ≡ 0 → ⊥) → Read bytes 0 0
unfolding parsed
begun [] h = absurd (h refl)
begun (b ∷ bytes) h = record { inside = omega arith; left = refl }

module _ (bytes : List ℕ) (n i : ℕ) (so_far : Read bytes n i) where
  pub ended : length bytes ≤ i → Value n ≡ parsed bytes
  unfolding extended_by
  ended h = sym (rw (drop_of_length-le bytes h) at so_far.left)

  module _ (more : i < length bytes) (r : Option ℕ) (extends : number_of r ≡ extended n (get_or bytes i 0)) where
    one_more : parsed bytes ≡ and_then (number_of r) (λ next. extended_by next (drop (i + 1) bytes))
    unfolding extended_by
    one_more = so_far.left ∙ rw (extends, add-one i, drop-cons bytes i 0 more)

    pub stops : r ≡ None → Not ≡ parsed bytes
    stops e = sym (rw e at one_more)

    pub goes_on : (next : ℕ) → r ≡ Some next → Read bytes next (i + 1)
    goes_on next e = record { inside = omega arith; left = rw e at one_more }

-- the steps of reading
pub ruleset reading = (none_read, begun, stops, goes_on, ended)
