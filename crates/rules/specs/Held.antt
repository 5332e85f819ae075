-- Document 02, 7/12, "Keys that are held": the set of held character keys is a number, one bit a key. HeldFacts.antt says that
-- it is a set, and that the number of ones in it is the number of held keys.
use Rattle.std.specs.Prelude.{ℕ, zero, suc, ◌+◌, ◌-◌, ◌/◌, ◌%◌, ◌^◌, Bool, ◌&&◌, List, [], ◌∷◌, ◌++◌, ltb, leb, eqb}
use Rattle.std.specs.Int.Count.{ones_in}
use Rattle.choice.specs.Choice.{if◌then◌orelse◌}
use Rattle.rules.specs.Numbers.{keys, most_held}
use Rattle.rules.specs.declared.Key.{Key}

-- bit k of a number
abbrev pub bit : ℕ → ℕ → ℕ
bit h k = h / 2 ^ k % 2

-- Key k is held: bit k of the set h is 1. A number that is no character key's is never held.
unfoldable pub is_held : ℕ → Key → Bool
is_held h k = ltb k.0 keys && eqb (bit h k.0) 1

-- the held keys among those below n, in order
abbrev pub held_below : ℕ → ℕ → List Key
held_below h zero = []
held_below h (suc n) = held_below h n ++ (if is_held h (record { 0 = n }) then record { 0 = n } ∷ [] orelse [])

-- the held keys
unfoldable pub held_keys : ℕ → List Key
held_keys h = held_below h keys

-- the set with key k in it, if k is a character key
unfoldable pub hold : ℕ → Key → ℕ
hold h k = if is_held h k then h orelse if ltb k.0 keys then h + 2 ^ k.0 orelse h

-- the set without key k
unfoldable pub release : ℕ → Key → ℕ
release h k = if is_held h k then h - 2 ^ k.0 orelse h

-- the number of ones in the set, a number of 32 bits
unfoldable pub how_many : ℕ → ℕ
how_many h = ones_in 32 h

-- bits 31 and up are 0, and at most 6 are set
unfoldable pub held_formed : ℕ → Bool
held_formed h = ltb h (2 ^ keys) && leb (how_many h) most_held
