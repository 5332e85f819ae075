-- How 01's tests of gaps come out before and from a stamp on.
use Prim.Native.Nat.{ℕ, ◌+◌, ◌-◌, ◌*◌, ◌/◌, ◌≤◌, ◌<◌, min}
use native.Mathlib.Nat.{div-lt_iff_lt-mul, add-mul, one-mul, mul-add, mul_comm, min-le_left, lt_of_not-le}
use native.Mathlib.Decide.{dec_le}
use native.Mathlib.Omega.{arith}
use mathlib.Core.Bool.{Bool, true, false, ◌&&◌}
use mathlib.Core.Path.{◌≡◌, refl, ap, ◌∙◌}
use lib.Dec.{ltb}
use borrow.Author.Tests.{lt-ltb, le-ltb, le-leb, lt-leb}
use Rattle.rules.specs.Numbers.{up, B, FJ, FL}
use Rattle.rules.specs.Pairs.{Lent}
use Rattle.rules.specs.States.{lag}
use Rattle.rules.specs.OneEvent.{second_character_takes_thumb, second_thumb_takes_character, short_overlap, pair_stays}
use Rattle.rules.specs.OneEvent.{short_pair, short_of}
use Rattle.rules.specs.declared.Stamp.{Stamp}
use Rattle.rules.specs.declared.Settings.{Settings}
use Rattle.rules.proofs.Tests.{InRange, Good}
use Rattle.rules.proofs.Bounds.{FL_mono}

-- below a quotient that is rounded up; and not
below_up : (n d b : ℕ) → 0 < d → b < up n d → b * d < n
unfolding up
below_up n d b h i = go (dec_le n (b * d))
  where
    go : Dec (n ≤ b * d) → b * d < n
    go (no j) = lt_of_not-le j
    go (yes j) =
        let k : (n + (d - 1)) / d < b + 1 = (div-lt_iff_lt-mul h).1 (omega (arith, add-mul b 1 d, one-mul d)) in
        absurd (omega arith)

from_up : (n d b : ℕ) → 0 < d → up n d ≤ b → n ≤ b * d
unfolding up
from_up n d b h i =
    let k : (n + (d - 1)) / d < b + 1 = omega arith in
    let l : n + (d - 1) < (b + 1) * d = (div-lt_iff_lt-mul h).0 k in
    omega (arith, add-mul b 1 d, one-mul d)

-- 100b is b(100-p) and bp
whole : (p b : ℕ) → p < 100 → 100 * b ≡ b * (100 - p) + b * p
whole p b h =
    let e : b * 100 ≡ b * ((100 - p) + p) = ap (λ n. b * n) (omega arith) in
    mul_comm 100 b ∙ e ∙ mul-add b (100 - p) p

-- 100b < p(a+b) while b is below ap/(100-p), rounded up
pub share_short : (p a b : ℕ) → p < 100 → b < up (a * p) (100 - p) → 100 * b < p * (a + b)
share_short p a b h i =
    omega (arith, below_up (a * p) (100 - p) b (omega arith) i, whole p b h, mul-add p a b, mul_comm p a, mul_comm p b)

pub share_not_short : (p a b : ℕ) → p < 100 → up (a * p) (100 - p) ≤ b → p * (a + b) ≤ 100 * b
share_not_short p a b h i =
    omega (arith, from_up (a * p) (100 - p) b (omega arith) i, whole p b h, mul-add p a b, mul_comm p a, mul_comm p b)

and_false : (t : Bool) → t && false ≡ false
and_false true = refl
and_false false = refl

-- S4, a second character
pub takes_thumb_before : (a : ℕ) (o t : Stamp) → o.0 ≤ t.0 → t.0 < o.0 + a → second_character_takes_thumb a (lag o t) ≡ true
unfolding second_character_takes_thumb
takes_thumb_before a o t h i = lt-ltb (lag o t) a (omega arith)

pub takes_thumb_from : (a : ℕ) (o t : Stamp) → o.0 + a ≤ t.0 → second_character_takes_thumb a (lag o t) ≡ false
unfolding second_character_takes_thumb
takes_thumb_from a o t h = le-ltb (lag o t) a (omega arith)

-- S5, another thumb
pub takes_character_before : (a : ℕ) (m t : Stamp) → t.0 < m.0 + (a + 1) → second_thumb_takes_character a (lag m t) ≡ true
unfolding second_thumb_takes_character
takes_character_before a m t h = le-leb (lag m t) a (omega arith)

pub takes_character_from : (a : ℕ) (m t : Stamp) → m.0 + (a + 1) ≤ t.0 → second_thumb_takes_character a (lag m t) ≡ false
unfolding second_thumb_takes_character
takes_character_from a m t h = lt-leb (lag m t) a (omega arith)

-- S7 and S8, a third key
pub parted_before : (a : ℕ) (k t : Stamp) → t.0 < k.0 + (a + 1) → pair_stays a (lag k t) ≡ false
unfolding pair_stays
parted_before a k t h = le-ltb a (lag k t) (omega arith)

pub stays_from : (a : ℕ) (k t : Stamp) → k.0 + (a + 1) ≤ t.0 → pair_stays a (lag k t) ≡ true
unfolding pair_stays
stays_from a k t h = lt-ltb a (lag k t) (omega arith)

-- S4, M up, and S5, O up: a stamp x and a time b from it
both_short : (p a b : ℕ) → 100 * b < p * (a + b) → b < 400 → short_overlap p a b ≡ true
unfolding short_overlap
both_short p a b h i = rw (lt-ltb (100 * b) (p * (a + b)) h, lt-ltb b 400 i)

pub not_short_from : (p a : ℕ) (o t : Stamp) → o.0 + 400 ≤ t.0 → short_overlap p a (lag o t) ≡ false
unfolding short_overlap
not_short_from p a o t h = rw (le-ltb (lag o t) 400 (omega arith)) (and_false (ltb (100 * lag o t) (p * (a + lag o t))))

pub short_before_J : (s : Settings) → InRange s → (a : ℕ) (o t : Stamp) → o.0 ≤ t.0 → t.0 < o.0 + 400 → t.0 < o.0 + FJ s a
    → short_overlap s.j a (lag o t) ≡ true
unfolding FJ
short_before_J s r a o t from h i =
    both_short s.j a (lag o t) (share_short s.j a (lag o t) (omega arith) (omega arith)) (omega arith)

share_short_L : (s : Settings) → InRange s → (a b : ℕ) → b < FL s a → 100 * b < s.l * (a + b)
unfolding FL
share_short_L s r a b h = share_short s.l a b (omega arith) h

pub short_before_L : (s : Settings) → InRange s → (a : ℕ) (m t : Stamp) → m.0 ≤ t.0 → t.0 < m.0 + 400
    → t.0 < m.0 + FL s (min a (B s)) → short_overlap s.l a (lag m t) ≡ true
short_before_L s r a m t from h i =
    let j : FL s (min a (B s)) ≤ FL s a = FL_mono s r (min a (B s)) a (min-le_left a (B s)) in
    both_short s.l a (lag m t) (share_short_L s r a (lag m t) (omega arith)) (omega arith)

-- S7, M up
pub short_pair_before : (g : Lent) → Good g → (a : ℕ) (k t : Stamp) → k.0 ≤ t.0 → t.0 < k.0 + up (a * g.n) (100 - g.n)
    → t.0 < k.0 + g.t_s → short_pair g a (lag k t) ≡ true
unfolding short_pair
short_pair_before g r a k t from h i =
    let short = share_short g.n a (lag k t) (omega arith) (omega arith) in
    rw (lt-ltb (100 * lag k t) (g.n * (a + lag k t)) short, lt-ltb (lag k t) g.t_s (omega arith))

pub not_short_pair_from : (g : Lent) → Good g → (a : ℕ) (k t : Stamp) → k.0 + up (a * g.n) (100 - g.n) ≤ t.0
    → short_pair g a (lag k t) ≡ false
unfolding short_pair
not_short_pair_from g r a k t h =
    rw (le-ltb (100 * lag k t) (g.n * (a + lag k t)) (share_not_short g.n a (lag k t) (omega arith) (omega arith)))

-- S8, K up: the overlap b
pub not_short_of_before : (s : Settings) → InRange s → (b : ℕ) (k t : Stamp) → t.0 < k.0 + ((100 * b) / s.l + 1)
    → short_of s.l b (lag k t) ≡ false
unfolding short_of
not_short_of_before s r b k t h = le-ltb (100 * b) (s.l * lag k t) (go (dec_le (s.l * lag k t) (100 * b)))
  where
    go : Dec (s.l * lag k t ≤ 100 * b) → s.l * lag k t ≤ 100 * b
    go (yes j) = j
    go (no j) =
        let i : (100 * b) / s.l < lag k t =
        (div-lt_iff_lt-mul {k = s.l} (omega arith)).1 (omega (arith, lt_of_not-le j, mul_comm s.l (lag k t))) in
        absurd (omega arith)

pub short_of_from : (s : Settings) → InRange s → (b : ℕ) (k t : Stamp) → k.0 + ((100 * b) / s.l + 1) ≤ t.0
    → short_of s.l b (lag k t) ≡ true
unfolding short_of
short_of_from s r b k t h =
    let i : 100 * b < lag k t * s.l = (div-lt_iff_lt-mul {k = s.l} (omega arith)).0 (omega arith) in
    lt-ltb (100 * b) (s.l * lag k t) (omega (arith, mul_comm s.l (lag k t)))
