-- UTF-8, for the code points that a 16-bit word can hold (RFC 3629, section 3):
--
--   U+0000 to U+007F   0xxxxxxx
--   U+0080 to U+07FF   110xxxxx 10xxxxxx
--   U+0800 to U+FFFF   1110xxxx 10xxxxxx 10xxxxxx
--
-- A byte 10xxxxxx is 128 and six bits of the code point, 110xxxxx is 192 and five, 1110xxxx is 224 and four. The surrogates,
-- U+D800 to U+DFFF, are no characters, and no word of the reader is one; they take the third form like their neighbours.
use Rattle.std.specs.Prelude.{ℕ, ◌+◌, ◌/◌, ◌%◌, List, [], ◌∷◌, ltb}
use Rattle.choice.specs.Choice.{if◌then◌orelse◌}

unfoldable pub utf8 : ℕ → List ℕ
utf8 c =
    if ltb c 128 then (c ∷ []) orelse
    if ltb c 2048 then ((192 + c / 64) ∷ (128 + c % 64) ∷ []) orelse
    ((224 + c / 4096) ∷ (128 + c / 64 % 64) ∷ (128 + c % 64) ∷ [])
