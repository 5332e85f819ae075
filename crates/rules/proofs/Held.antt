-- The laws of the held set: what holding and releasing a key do to each key, to the number of ones and to the bits above.
use Prim.Native.Nat.{ℕ, zero, suc, ◌+◌, ◌-◌, ◌/◌, ◌%◌, ◌^◌, ◌≤◌, ◌<◌}
use native.Mathlib.Nat.{div-one, div-div-eq-div-mul, pow-succ', mod-lt, zero-div, sub-add_cancel, add_right_cancel}
use native.Mathlib.Omega.{arith}
use mathlib.Core.Bool.{true, false, ◌&&◌, and-eq-true_iff}
use mathlib.Core.Logic.{◌≢◌}
use mathlib.Core.List.{List, [], ◌∷◌}
use mathlib.Core.Path.{◌≡◌, refl, sym, ◌∙◌, ap, ap₂, subst}
use lib.Count.{ones_in, ones, ones_step}
use lib.Dec.{ltb, leb, eqb}
use lib.ListN.{length, length-append}
use borrow.Author.Tests.{ltb-true, ltb-false, lt-ltb, le-ltb, leb-true, le-leb, eqb-true, eqb-false, eq-eqb}
use Rattle.choice.specs.Choice.{if◌then◌orelse◌}
use Rattle.rules.specs.Numbers.{keys, most_held}
use Rattle.rules.specs.Held.{bit, is_held, held_below, held_keys, hold, release, how_many, held_formed}
use Rattle.rules.specs.HeldFacts.{HeldFacts, CountsKeys, SameKeys, FormedExactly}
use Rattle.rules.specs.OneEvent.{same_key}
use Rattle.rules.specs.declared.Key.{Key}
use Rattle.choice.proofs.Choices.{both_ways, by_test, either}

-- Bits: bit 0, and every other one as a bit of the half.

bit_zero : (h : ℕ) → bit h 0 ≡ h % 2
bit_zero h = ap (λ (x : ℕ). x % 2) (div-one h)

bit_suc : (h k : ℕ) → bit h (suc k) ≡ bit (h / 2) k
bit_suc h k = ap (λ (x : ℕ). x % 2) (ap (λ (x : ℕ). h / x) (pow-succ' 2 k) ∙ sym (div-div-eq-div-mul h 2 (2 ^ k)))

half_add : (h k : ℕ) → (h + 2 ^ suc k) / 2 ≡ h / 2 + 2 ^ k
half_add h k = omega (arith, pow-succ' 2 k)

odd_add : (h k : ℕ) → (h + 2 ^ suc k) % 2 ≡ h % 2
odd_add h k = omega (arith, pow-succ' 2 k)

-- 2 ^ k added to a number whose bit k is 0

add_same : (k h : ℕ) → bit h k ≡ 0 → bit (h + 2 ^ k) k ≡ 1
add_same zero h z = rw (bit_zero (h + 1)) (omega (arith, bit_zero h))
add_same (suc k) h z = rw (bit_suc (h + 2 ^ suc k) k, half_add h k) (add_same k (h / 2) (sym (bit_suc h k) ∙ z))

add_other : (k j h : ℕ) → j ≢ k → bit h k ≡ 0 → bit (h + 2 ^ k) j ≡ bit h j
add_other zero zero h ne z = absurd (ne refl)
add_other zero (suc j) h ne z =
    let same : (h + 1) / 2 ≡ h / 2 = omega (arith, bit_zero h) in
    rw (bit_suc (h + 1) j, same, bit_suc h j)
add_other (suc k) zero h ne z = rw (bit_zero (h + 2 ^ suc k), bit_zero h) (odd_add h k)
add_other (suc k) (suc j) h ne z =
    rw (bit_suc (h + 2 ^ suc k) j, half_add h k, bit_suc h j) (add_other k j (h / 2) (λ e. ne (ap suc e)) (sym (bit_suc h k) ∙ z))

add_count : (d k h : ℕ) → k < d → bit h k ≡ 0 → ones_in d (h + 2 ^ k) ≡ suc (ones_in d h)
unfolding ones_in
add_count zero k h lt z = absurd (omega arith)
add_count (suc d) zero h lt z =
    let same : (h + 1) / 2 ≡ h / 2 = omega (arith, bit_zero h) in
    rw same (omega (arith, bit_zero h))
add_count (suc d) (suc k) h lt z =
    rw (half_add h k, odd_add h k, add_count d k (h / 2) (omega arith) (sym (bit_suc h k) ∙ z)) (omega arith)

pub add_below : (n k h : ℕ) → k < n → h < 2 ^ n → bit h k ≡ 0 → h + 2 ^ k < 2 ^ n
add_below zero k h lt b z = absurd (omega arith)
add_below (suc n) zero h lt b z = omega (arith, pow-succ' 2 n, bit_zero h)
add_below (suc n) (suc k) h lt b z =
    let more = add_below n k (h / 2) (omega arith) (omega (arith, pow-succ' 2 n)) (sym (bit_suc h k) ∙ z) in
    omega (arith, pow-succ' 2 n, pow-succ' 2 k)

-- a number whose bit k is 1: less 2 ^ k, its bit k is 0

pub set_le : (k h : ℕ) → bit h k ≡ 1 → 2 ^ k ≤ h
set_le zero h o = omega (arith, bit_zero h)
set_le (suc k) h o =
    let more = set_le k (h / 2) (sym (bit_suc h k) ∙ o) in
    omega (arith, pow-succ' 2 k)

set_sub : (k h : ℕ) → bit h k ≡ 1 → bit (h - 2 ^ k) k ≡ 0
set_sub zero h o = rw (bit_zero (h - 1)) (omega (arith, bit_zero h))
set_sub (suc k) h o =
    let le = set_le (suc k) h o in
    let half : (h - 2 ^ suc k) / 2 ≡ h / 2 - 2 ^ k = omega (arith, pow-succ' 2 k) in
    rw (bit_suc (h - 2 ^ suc k) k, half) (set_sub k (h / 2) (sym (bit_suc h k) ∙ o))

-- the ones among the d lowest digits are all of a number of d digits: what `u32::count_ones` answers
pub all_ones : (d h : ℕ) → h < 2 ^ d → ones_in d h ≡ ones h
unfolding ones_in ones
all_ones zero zero b = refl
all_ones zero (suc h) b = absurd (omega arith)
all_ones (suc d) h b = rw (all_ones d (h / 2) (omega (arith, pow-succ' 2 d)), ones_step h)

-- Keys.

-- a held key's number, and its bit
pub held_key : (h : ℕ) (k : Key) → is_held h k ≡ true → k.0 < keys
unfolding is_held
held_key h k t = ltb-true _ _ ((and-eq-true_iff (ltb k.0 keys) (eqb (bit h k.0) 1)).0 t).0

pub held_bit : (h : ℕ) (k : Key) → is_held h k ≡ true → bit h k.0 ≡ 1
unfolding is_held
held_bit h k t = eqb-true _ _ ((and-eq-true_iff (ltb k.0 keys) (eqb (bit h k.0) 1)).0 t).1

pub free_bit : (h : ℕ) (k : Key) → k.0 < keys → is_held h k ≡ false → bit h k.0 ≡ 0
unfolding is_held
free_bit h k lt f =
    let not-1 : bit h k.0 ≢ 1 = eqb-false _ _ (rw (lt-ltb k.0 keys lt) at f) in
    let below : bit h k.0 < 2 = mod-lt _ (omega arith) in
    omega arith

bits_alike : (h g : ℕ) (j : Key) → bit h j.0 ≡ bit g j.0 → is_held h j ≡ is_held g j
unfolding is_held
bits_alike h g j e = ap (λ (x : ℕ). ltb j.0 keys && eqb x 1) e

-- Holding a key that is not held adds 2 ^ k, and everything about the two sets follows from that: h is without k, g with it.
record Joined (h g : ℕ) (k : Key) : Type 0 where
  key_below : k.0 < keys
  bit_free : bit h k.0 ≡ 0
  adds : h + 2 ^ k.0 ≡ g

hold_joins : (h : ℕ) (k : Key) → k.0 < keys → is_held h k ≡ false → Joined h (hold h k) k
unfolding hold
hold_joins h k lt f = record { key_below = lt; bit_free = free_bit h k lt f; adds = rw (f, lt-ltb k.0 keys lt) }

release_joins : (h : ℕ) (k : Key) → is_held h k ≡ true → Joined (release h k) h k
unfolding release
release_joins h k t =
    let b = held_bit h k t in
    record { key_below = held_key h k t; bit_free = rw t (set_sub k.0 h b); adds = rw t (sub-add_cancel (set_le k.0 h b)) }

module _ {h g : ℕ} {k : Key} (j : Joined h g k) where
  joined_held : is_held g k ≡ true
  unfolding is_held
  joined_held = rw (lt-ltb k.0 keys j.key_below, ← j.adds) (eq-eqb _ _ (add_same k.0 h j.bit_free))

  joined_free : is_held h k ≡ false
  unfolding is_held
  joined_free = rw (lt-ltb k.0 keys j.key_below, j.bit_free)

  joined_other : (i : Key) → i.0 ≢ k.0 → is_held g i ≡ is_held h i
  joined_other i ne = bits_alike g h i (rw (← j.adds) (add_other k.0 i.0 h ne j.bit_free))

  joined_count : how_many g ≡ suc (how_many h)
  unfolding how_many
  joined_count = let lt = j.key_below in rw (← j.adds) (add_count 32 k.0 h (omega arith) j.bit_free)

  joined_below : h < 2 ^ keys → g < 2 ^ keys
  joined_below b = subst (λ (x : ℕ). x < 2 ^ keys) j.adds (add_below keys k.0 h j.key_below b j.bit_free)

held_already : (h : ℕ) (k : Key) → is_held h k ≡ true → hold h k ≡ h
unfolding hold
held_already h k t = rw t

free_already : (h : ℕ) (k : Key) → is_held h k ≡ false → release h k ≡ h
unfolding release
free_already h k f = rw f

no_key : (h : ℕ) (k : Key) → keys ≤ k.0 → hold h k ≡ h
unfolding hold
no_key h k ge = rw (le-ltb k.0 keys ge) (both_ways (λ (g : ℕ). g ≡ h) (is_held h k) refl refl)

-- a set after holding k is as before, or has k joined to it; after releasing k it is as before, or has k taken from it
hold_ways : (h : ℕ) (k : Key) {P : Type 0} → (hold h k ≡ h → P) → (Joined h (hold h k) k → P) → P
hold_ways h k same more =
    either (is_held h k) (λ t. same (held_already h k t))
    (λ f. either (ltb k.0 keys) (λ b. more (hold_joins h k (ltb-true _ _ b) f)) (λ b. same (no_key h k (ltb-false _ _ b))))

release_ways : (h : ℕ) (k : Key) {P : Type 0} → (release h k ≡ h → P) → (Joined (release h k) h k → P) → P
release_ways h k same less = either (is_held h k) (λ t. less (release_joins h k t)) (λ f. same (free_already h k f))

pub held_facts : (h : ℕ) (k : Key) → HeldFacts h k
held_facts h k =
    record {
      holds = λ lt. either (is_held h k) (λ t. rw (held_already h k t) t) (λ f. joined_held (hold_joins h k lt f));
      frees = either (is_held h k) (λ t. joined_free (release_joins h k t)) (λ f. rw (free_already h k f) f);
      hold_leaves = λ i ne. hold_ways h k (λ e. rw e) (λ j. joined_other j i ne);
      release_leaves = λ i ne. release_ways h k (λ e. rw e) (λ j. sym (joined_other j i ne));
      one_more = λ lt f. joined_count (hold_joins h k lt f);
      one_less = λ t. sym (joined_count (release_joins h k t));
      back = λ lt f.
          let j = hold_joins h k lt f in
          add_right_cancel (2 ^ k.0) ((release_joins (hold h k) k (joined_held j)).adds ∙ sym j.adds);
      held_already = held_already h k;
      free_already = free_already h k;
    }

-- The number of ones is the number of held keys.

-- one digit more
ones_more : (d h : ℕ) → ones_in (suc d) h ≡ ones_in d h + bit h d
unfolding ones_in
ones_more zero h = omega (arith, bit_zero h)
ones_more (suc d) h = rw (ones_more d (h / 2), bit_suc h d) (omega arith)

count_one : (h : ℕ) (k : Key) → k.0 < keys → length (if is_held h k then k ∷ [] orelse []) ≡ bit h k.0
count_one h k lt =
    by_test (λ (l : List Key). length l ≡ bit h k.0) (is_held h k) (λ t. sym (held_bit h k t)) (λ f. sym (free_bit h k lt f))

counts_below : (h n : ℕ) → n ≤ keys → length (held_below h n) ≡ ones_in n h
unfolding ones_in
counts_below h zero le = refl
counts_below h (suc n) le =
    length-append (held_below h n) _ ∙ ap₂ ◌+◌ (counts_below h n (omega arith)) (count_one h (record { 0 = n }) le) ∙ sym (ones_more n h)

pub counts_keys : (h : ℕ) → CountsKeys h
unfolding how_many held_keys
counts_keys h b = all_ones 32 h (omega arith) ∙ sym (all_ones keys h b) ∙ sym (counts_below h keys (omega arith))

-- Below 2 ^ n a number is its n lowest bits.

same_bits : (n h g : ℕ) → h < 2 ^ n → g < 2 ^ n → ((k : ℕ) → k < n → bit h k ≡ bit g k) → h ≡ g
same_bits zero h g b c f = omega arith
same_bits (suc n) h g b c f =
    let low : h % 2 ≡ g % 2 = sym (bit_zero h) ∙ f 0 (omega arith) ∙ bit_zero g in
    let half =
    same_bits n (h / 2) (g / 2) (omega (arith, pow-succ' 2 n)) (omega (arith, pow-succ' 2 n))
    (λ k lt. sym (bit_suc h k) ∙ f (suc k) (omega arith) ∙ bit_suc g k) in
    omega arith

pub same_keys : (h g : ℕ) → SameKeys h g
same_keys h g b c alike =
    same_bits keys h g b c
    (λ n lt.
    let k : Key = record { 0 = n } in
    either (is_held h k) (λ t. held_bit h k t ∙ sym (held_bit g k (sym (alike k) ∙ t)))
    (λ f. free_bit h k lt f ∙ sym (free_bit g k lt (sym (alike k) ∙ f))))

-- Well-formedness: bits 31 and up, and at most 6.

pub record FormedSet (h : ℕ) : Type 0 where
  pub below : h < 2 ^ keys
  pub few : how_many h ≤ most_held

pub set_formed : (h : ℕ) → held_formed h ≡ true → FormedSet h
unfolding held_formed
set_formed h t =
    let both = (and-eq-true_iff (ltb h (2 ^ keys)) (leb (how_many h) most_held)).0 t in
    record { below = ltb-true _ _ both.0; few = leb-true _ _ both.1 }

pub formed_test : (h : ℕ) → FormedSet h → held_formed h ≡ true
unfolding held_formed
formed_test h f = rw (lt-ltb h (2 ^ keys) f.below) (le-leb _ _ f.few)

pub formed_exactly : (h : ℕ) → FormedExactly h
formed_exactly h = (
  (λ t. let f = set_formed h t in (f.below, omega (arith, f.few, counts_keys h f.below))),
  (λ p. formed_test h (record { below = p.0; few = omega (arith, p.1, counts_keys h p.0) })),
)

pub formed_hold : (h : ℕ) (k : Key) → FormedSet h → how_many h ≢ most_held → FormedSet (hold h k)
formed_hold h k f ne =
    hold_ways h k (λ e. rw e f)
    (λ j. record { below = joined_below j f.below; few = omega (arith, f.few, joined_count j) })

pub formed_release : (h : ℕ) (k : Key) → FormedSet h → FormedSet (release h k)
formed_release h k f =
    release_ways h k (λ e. rw e f)
    (λ j. record { below = omega (arith, f.below, j.adds); few = omega (arith, f.few, joined_count j) })

-- the empty set
pub none_held : (k : Key) → is_held 0 k ≡ false
unfolding is_held
none_held k = rw (zero-div (2 ^ k.0)) (either (ltb k.0 keys) (λ t. rw t) (λ f. rw f))

pub empty_formed : FormedSet 0
unfolding how_many ones_in
empty_formed = record { below = omega arith; few = omega arith }

-- every key at once: as a test of the key

same : (j k : Key) → same_key j k ≡ true → j ≡ k
unfolding same_key
same j k t = ap (λ (n : ℕ). record { 0 = n }) (eqb-true _ _ t)

other : (j k : Key) → same_key j k ≡ false → j.0 ≢ k.0
unfolding same_key
other j k f = eqb-false _ _ f

pub held_by_hold : (h : ℕ) (k j : Key) → k.0 < keys → is_held (hold h k) j ≡ (if same_key j k then true orelse is_held h j)
held_by_hold h k j lt =
    either (same_key j k) (λ t. rw t (subst (λ (i : Key). is_held (hold h k) i ≡ true) (sym (same j k t)) ((held_facts h k).holds lt)))
    (λ f. rw f ((held_facts h k).hold_leaves j (other j k f)))

pub held_by_release : (h : ℕ) (k j : Key) → is_held (release h k) j ≡ (if same_key j k then false orelse is_held h j)
held_by_release h k j =
    either (same_key j k) (λ t. rw t (subst (λ (i : Key). is_held (release h k) i ≡ false) (sym (same j k t)) (held_facts h k).frees))
    (λ f. rw f ((held_facts h k).release_leaves j (other j k f)))
