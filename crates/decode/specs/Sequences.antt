-- One sequence of UTF-8 (RFC 3629, section 3), as a 16-bit word:
--
--   U+0000 to U+007F      0xxxxxxx
--   U+0080 to U+07FF      110xxxxx 10xxxxxx
--   U+0800 to U+FFFF      1110xxxx 10xxxxxx 10xxxxxx
--   U+10000 to U+10FFFF   11110xxx 10xxxxxx 10xxxxxx 10xxxxxx
--
-- A sequence is damaged where its first byte begins no form, where a byte 10xxxxxx is missing, and where its code point is
-- outside of its form's range or a surrogate, U+D800 to U+DFFF. So a form that is longer than needed is damaged, and what begins
-- with one of the bytes 80 to C1 or F5 to FF.
use Rattle.std.specs.Prelude.{ℕ, ◌+◌, ◌*◌, ◌/◌, ◌%◌, Bool, not, ◌&&◌, List, eqb, leb, get_or, Option, Some, None}
use Rattle.choice.specs.Choice.{if◌then◌orelse◌}
use Rattle.decode.specs.declared.sequence.Sequence as code

-- what stands at the front of some bytes: damage, or a word and how many bytes follow the first
pub data Sequence : Type 0 where
  Damaged : Sequence
  Word : ℕ → ℕ → Sequence

-- what the answers of the code say
abbrev pub sequence_of : Option code.Sequence → Sequence
sequence_of None = Damaged
sequence_of (Some s) = Word s.word s.more

-- 10xxxxxx
unfoldable pub continues : ℕ → Bool
continues b = eqb (b / 64) 0b10

-- bits of a code point, and the six of such a byte
abbrev pub joined : ℕ → ℕ → ℕ
joined bits b = bits * 64 + b % 64

unfoldable pub within : ℕ → ℕ → ℕ → Bool
within least most c = leb least c && leb c most

abbrev pub surrogate : ℕ → Bool
surrogate c = within 0xD800 0xDFFF c

-- The forms of more than one byte. An answer is the word and how many bytes follow the first.
unfoldable pub two : ℕ → ℕ → Sequence
two a b =
    if continues b && within 0x80 0x7FF (joined (a % 32) b)
    then Word (joined (a % 32) b) 1
    orelse Damaged

unfoldable pub three : ℕ → ℕ → ℕ → Sequence
three a b c =
    if continues b && continues c
    && within 0x800 0xFFFF (joined (joined (a % 16) b) c) && not (surrogate (joined (joined (a % 16) b) c))
    then Word (joined (joined (a % 16) b) c) 2
    orelse Damaged

-- No 16-bit word holds a code point past U+FFFF, and yet it is no damage. It gives the word 0, which is on no face of the layout:
-- so whoever writes the line's log refuses the character, with its place in the line.
unfoldable pub four : ℕ → ℕ → ℕ → ℕ → Sequence
four a b c d =
    if continues b && continues c && continues d && within 0x10000 0x10FFFF (joined (joined (joined (a % 8) b) c) d)
    then Word 0 3
    orelse Damaged

-- the byte at a place; past the end it counts 0, which continues no sequence
abbrev pub byte : ℕ → List ℕ → ℕ
byte at s = get_or s at 0

-- the sequence at the front of some bytes, by its first byte
unfoldable pub front : List ℕ → Sequence
front s =
    if eqb (byte 0 s / 128) 0b0 then Word (byte 0 s) 0 orelse
    if eqb (byte 0 s / 32) 0b110 then two (byte 0 s) (byte 1 s) orelse
    if eqb (byte 0 s / 16) 0b1110 then three (byte 0 s) (byte 1 s) (byte 2 s) orelse
    if eqb (byte 0 s / 8) 0b11110 then four (byte 0 s) (byte 1 s) (byte 2 s) (byte 3 s) orelse
    Damaged
