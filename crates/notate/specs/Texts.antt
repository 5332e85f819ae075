-- The program's buffers.
use Rattle.std.specs.Prelude.{ℕ}

-- room for the text of every log that is read
abbrev pub text_room : ℕ
text_room = 4_194_432
