-- Examples: RFC 3629, section 7, and bytes with damage, each with what it decodes to.
use Prim.Native.Nat.{ℕ}
use mathlib.Core.List.{List, [], ◌∷◌, map}
use mathlib.Core.Path.{◌≡◌, refl}
use Rattle.decode.specs.Sequences.{continues, within, two, three, four, front}
use Rattle.decode.specs.Decoding.{Decoding, words, damaged, decoded_from, decoded}

record Example : Type 0 where
  bytes : List ℕ
  result : Decoding

infix 3 ◌gives◌
◌gives◌ : List ℕ → Decoding → Example
bytes gives result = record { bytes = bytes; result = result }

examples : List Example
examples =
    -- A, not identical to, alpha, full stop
    ((0x41 ∷ 0xE2 ∷ 0x89 ∷ 0xA2 ∷ 0xCE ∷ 0x91 ∷ 0x2E ∷ []) gives words (0x41 ∷ 0x2262 ∷ 0x391 ∷ 0x2E ∷ []))
    -- hangugeo
    ∷ ((0xED ∷ 0x95 ∷ 0x9C ∷ 0xEA ∷ 0xB5 ∷ 0xAD ∷ 0xEC ∷ 0x96 ∷ 0xB4 ∷ []) gives words (0xD55C ∷ 0xAD6D ∷ 0xC5B4 ∷ []))
    -- nihongo
    ∷ ((0xE6 ∷ 0x97 ∷ 0xA5 ∷ 0xE6 ∷ 0x9C ∷ 0xAC ∷ 0xE8 ∷ 0xAA ∷ 0x9E ∷ []) gives words (0x65E5 ∷ 0x672C ∷ 0x8A9E ∷ []))
    -- a byte order mark, and a character past U+FFFF
    ∷ ((0xEF ∷ 0xBB ∷ 0xBF ∷ 0xF0 ∷ 0xA3 ∷ 0x8E ∷ 0xB4 ∷ []) gives words (0xFEFF ∷ 0 ∷ []))
    -- the ends of the forms and their neighbours
    ∷ ((0x7F ∷ 0xC2 ∷ 0x80 ∷ 0xDF ∷ 0xBF ∷ []) gives words (0x7F ∷ 0x80 ∷ 0x7FF ∷ []))
    ∷ ((0xE0 ∷ 0xA0 ∷ 0x80 ∷ 0xEF ∷ 0xBF ∷ 0xBF ∷ []) gives words (0x800 ∷ 0xFFFF ∷ []))
    ∷ ((0xED ∷ 0x9F ∷ 0xBF ∷ 0xEE ∷ 0x80 ∷ 0x80 ∷ []) gives words (0xD7FF ∷ 0xE000 ∷ []))
    ∷ ((0xF0 ∷ 0x90 ∷ 0x80 ∷ 0x80 ∷ 0xF4 ∷ 0x8F ∷ 0xBF ∷ 0xBF ∷ []) gives words (0 ∷ 0 ∷ []))
    ∷ ([] gives words [])
    -- longer than needed
    ∷ ((0x41 ∷ 0xC1 ∷ 0xBF ∷ []) gives damaged 1)
    ∷ ((0xE0 ∷ 0x9F ∷ 0xBF ∷ []) gives damaged 0)
    ∷ ((0xF0 ∷ 0x8F ∷ 0xBF ∷ 0xBF ∷ []) gives damaged 0)
    -- surrogates, and past U+10FFFF
    ∷ ((0x41 ∷ 0xED ∷ 0xA0 ∷ 0x80 ∷ []) gives damaged 1)
    ∷ ((0xED ∷ 0xBF ∷ 0xBF ∷ []) gives damaged 0)
    ∷ ((0xF4 ∷ 0x90 ∷ 0x80 ∷ 0x80 ∷ []) gives damaged 0)
    -- no first byte
    ∷ ((0xC3 ∷ 0xA9 ∷ 0xA9 ∷ []) gives damaged 2)
    ∷ ((0xFF ∷ []) gives damaged 0)
    -- a byte that is missing, at the end and before it
    ∷ ((0x41 ∷ 0xE3 ∷ 0x81 ∷ []) gives damaged 1)
    ∷ ((0xE3 ∷ 0x81 ∷ 0x41 ∷ []) gives damaged 0)
    ∷ ((0xE3 ∷ 0x41 ∷ 0x81 ∷ []) gives damaged 0)
    ∷ []

all_examples : map (λ e. decoded e.bytes) examples ≡ map (λ e. e.result) examples
unfolding examples ◌gives◌ decoded_from front two three four continues within
all_examples = refl
