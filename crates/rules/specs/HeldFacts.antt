-- The number of Held.antt is a set of keys: what it holds after key k was put in and after it was taken out, for every key, and how
-- many that are. The proofs are in proofs/Held.antt.
use Rattle.std.specs.Prelude.{ℕ, suc, ◌^◌, ◌≤◌, ◌<◌, true, false, ◌↔◌, ◌≢◌, ◌≡◌, length}
use Rattle.rules.specs.Numbers.{keys, most_held}
use Rattle.rules.specs.Held.{is_held, held_keys, hold, release, how_many, held_formed}
use Rattle.rules.specs.declared.Key.{Key}

-- of every set h and key k
pub record HeldFacts (h : ℕ) (k : Key) : Type 0 where
  pub holds : k.0 < keys → is_held (hold h k) k ≡ true
  pub frees : is_held (release h k) k ≡ false
  -- every other key is as it was
  pub hold_leaves : (i : Key) → i.0 ≢ k.0 → is_held (hold h k) i ≡ is_held h i
  pub release_leaves : (i : Key) → i.0 ≢ k.0 → is_held (release h k) i ≡ is_held h i
  pub one_more : k.0 < keys → is_held h k ≡ false → how_many (hold h k) ≡ suc (how_many h)
  pub one_less : is_held h k ≡ true → suc (how_many (release h k)) ≡ how_many h
  -- released again, a key that was not held leaves the set as it was
  pub back : k.0 < keys → is_held h k ≡ false → release (hold h k) k ≡ h
  -- nothing to do
  pub held_already : is_held h k ≡ true → hold h k ≡ h
  pub free_already : is_held h k ≡ false → release h k ≡ h

-- Of every set with no bit above those of the keys: the number of ones is the number of held keys.
abbrev pub CountsKeys : ℕ → Type 0
CountsKeys h = h < 2 ^ keys → how_many h ≡ length (held_keys h)

-- So a set may be in a well-formed machine exactly when its bits are keys' and at most 6 keys are held.
abbrev pub FormedExactly : ℕ → Type 0
FormedExactly h = held_formed h ≡ true ↔ ((h < 2 ^ keys) × (length (held_keys h) ≤ most_held))

-- Of every two sets with no bit above those of the keys: with the same keys held they are the same number.
abbrev pub SameKeys : ℕ → ℕ → Type 0
SameKeys h g = h < 2 ^ keys → g < 2 ^ keys → ((k : Key) → is_held h k ≡ is_held g k) → h ≡ g
