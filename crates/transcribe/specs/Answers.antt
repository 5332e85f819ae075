-- What the program's functions need.
use Rattle.std.specs.Prelude.{ℕ}

-- the program's buffers, in bytes
abbrev pub text_room : ℕ
text_room = 4194432

abbrev pub log_room : ℕ
log_room = 1048576
