-- Bytes read as UTF-8: the words of all their sequences, or the position of the first damaged one.
use Rattle.std.specs.Prelude.{ℕ, zero, suc, ◌+◌, ◌≤◌, List, [], ◌∷◌, ◌≡◌, leb, length, Result, Ok, Err}
use Rattle.choice.specs.Choice.{if◌then◌orelse◌}
use Rattle.filled.specs.Filled.{filled}
use Rattle.decode.specs.Sequences as sequences
use Rattle.decode.specs.Sequences.{front, Sequence}
use Rattle.decode.specs.declared.DecodeError.{DecodeError}
use Rattle.decode.specs.declared.DecodeError.TheVariants.{Damaged, NoRoom}

-- the words, or the position
pub data Decoding : Type 0 where
  words : List ℕ → Decoding
  damaged : ℕ → Decoding

-- a word, and then what follows it
abbrev pub followed_by : ℕ → Decoding → Decoding
followed_by w (words ws) = words (w ∷ ws)
followed_by w (damaged at) = damaged at

-- a sequence at a position, and then what follows its bytes
abbrev pub beginning : ℕ → Sequence → (ℕ → Decoding) → Decoding
beginning at sequences.Damaged rest = damaged at
beginning at (sequences.Word w more) rest = followed_by w (rest more)

-- The bytes from a position on. So many of them belong to the sequence before, which was read: they are passed over.
unfoldable pub decoded_from : ℕ → ℕ → List ℕ → Decoding
decoded_from at more [] = words []
decoded_from at zero (b ∷ s) = beginning at (front (b ∷ s)) (λ more. decoded_from (at + 1) more s)
decoded_from at (suc more) (b ∷ s) = decoded_from (at + 1) more s

abbrev pub decoded : List ℕ → Decoding
decoded bytes = decoded_from 0 0 bytes

-- how many words, or where the damage is
abbrev pub count_of : Decoding → Result ℕ DecodeError
count_of (words ws) = Ok (length ws)
count_of (damaged at) = Err (Damaged at)

-- What `decode` answers where a run has room for so many words. Damage is found before the room is looked at.
abbrev pub answer_of : ℕ → Decoding → Result ℕ DecodeError
answer_of room (words ws) = if leb (length ws) room then Ok (length ws) orelse Err NoRoom
answer_of room (damaged at) = Err (Damaged at)

-- What the run holds then: the words at its front, and then what it held. With damaged bytes, or words that don't fit, it is as it
-- was.
abbrev pub run_after : List ℕ → Decoding → List ℕ
run_after run (words ws) = if leb (length ws) (length run) then filled ws run orelse run
run_after run (damaged at) = run

-- no damage, and room for the words
abbrev pub Fits : ℕ → Decoding → Type 0
Fits room (words ws) = length ws ≤ room
Fits room (damaged at) = ⊥

-- `decode` of bytes into a run
pub record Decodes (bytes run : List ℕ) (answer : Result ℕ DecodeError) (after : List ℕ) : Type 0 where
  pub answered : answer ≡ answer_of (length run) (decoded bytes)
  pub written : after ≡ run_after run (decoded bytes)
