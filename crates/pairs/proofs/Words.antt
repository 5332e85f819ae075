-- Every pair that is accepted can be lent as a number.
use Prim.Native.Nat.{ℕ, ◌+◌, ◌*◌, ◌/◌, ◌%◌, ◌≤◌, ◌<◌}
use native.Mathlib.Omega.{arith}
use mathlib.Core.Bool.{Bool, true, not, ◌&&◌, and-eq-true_iff}
use mathlib.Core.Path.{◌≡◌}
use borrow.Author.Tests.{ltb-true, leb-true}
use lib.Dec.{ltb, leb}
use Rattle.rules.specs.Numbers.{within}
use Rattle.rules.specs.Pairs.{Pair, same_key, is_pair_character, pair_good}
use Rattle.pairs.specs.Lent.{pair_in}
use Rattle.pairs.specs.LentFacts.{word, CanBeLent}

-- what the second, the third and the last of four tests say
module _ (s t u v : Bool) (e : (s && t && u && v) ≡ true) where
  second_of : t ≡ true
  second_of = ((and-eq-true_iff s t).0 ((and-eq-true_iff (s && t) u).0 ((and-eq-true_iff (s && t && u) v).0 e).0).0).1

  third_of : u ≡ true
  third_of = ((and-eq-true_iff (s && t) u).0 ((and-eq-true_iff (s && t && u) v).0 e).0).1

  last_of : v ≡ true
  last_of = ((and-eq-true_iff (s && t && u) v).0 e).1

module _ (p : Pair) (e : pair_good p ≡ true) where
  first_below : p.first.0 < 31
  unfolding pair_good
  first_below = ltb-true _ _ (second_of (not (same_key p.first p.second)) (ltb p.first.0 31) (ltb p.second.0 31) _ e)

  second_below : p.second.0 < 31
  unfolding pair_good
  second_below = ltb-true _ _ (third_of (not (same_key p.first p.second)) (ltb p.first.0 31) (ltb p.second.0 31) _ e)

  is_character : is_pair_character p.character ≡ true
  unfolding pair_good
  is_character = last_of (not (same_key p.first p.second)) (ltb p.first.0 31) (ltb p.second.0 31) _ e

character_below : (c : ℕ) → is_pair_character c ≡ true → c ≤ 0xFFFF
unfolding is_pair_character
character_below c e =
    leb-true c 0xFFFF
    ((and-eq-true_iff (leb 0x20 c) (leb c 0xFFFF)).0 ((and-eq-true_iff (within 0x20 0xFFFF c) (not (within 0xD800 0xDFFF c))).0 e).0).1

module _ (f s c : ℕ) (f-below : f < 31) (s-below : s < 31) (c_below : c ≤ 0xFFFF) where
  small : f * 16_777_216 + s * 65_536 + c < 4_294_967_296
  small = omega arith

  on_top : (f * 16_777_216 + s * 65_536 + c) / 16_777_216 % 256 ≡ f
  on_top = omega arith

  between : (f * 16_777_216 + s * 65_536 + c) / 65_536 % 256 ≡ s
  between = omega arith

  at_the_end : (f * 16_777_216 + s * 65_536 + c) % 65_536 ≡ c
  at_the_end = omega arith

module _ (p : Pair) (e : pair_good p ≡ true) where
  c_below : p.character ≤ 0xFFFF
  c_below = character_below p.character (is_character p e)

  fits : word p < 4_294_967_296
  fits = small p.first.0 p.second.0 p.character (first_below p e) (second_below p e) c_below

  read_back : pair_in (word p) ≡ p
  read_back =
      rw (
        on_top p.first.0 p.second.0 p.character (first_below p e) (second_below p e) c_below,
        between p.first.0 p.second.0 p.character (first_below p e) (second_below p e) c_below,
        at_the_end p.first.0 p.second.0 p.character (first_below p e) (second_below p e) c_below,
      )

pub can_be_lent : (p : Pair) → CanBeLent p
can_be_lent p = record { fits = fits p; read_back = read_back p }
