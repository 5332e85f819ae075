-- The words of some bytes one by one: what the iterator `Words` has left, and what a call of it gives.
use Rattle.std.specs.Prelude.{ℕ, ◌≡◌, [], drop, Option, Some, None, Result, Ok, Err}
use Rattle.decode.specs.declared.DecodeError.{DecodeError}
use Rattle.decode.specs.declared.words.Words.{Words}
use Rattle.decode.specs.Decoding.{Decoding, words, followed_by, decoded_from, count_of}

abbrev pub left : Words → Decoding
left w = decoded_from w.at 0 (drop w.at w.bytes.now)

-- the next word, or the damage that is next; none where no bytes are left
abbrev pub Gives : Words → Option (Result ℕ DecodeError) → Words → Type 0
Gives w None v = left w ≡ words []
Gives w (Some (Ok c)) v = left w ≡ followed_by c (left v)
Gives w (Some (Err e)) v = count_of (left w) ≡ Err e
