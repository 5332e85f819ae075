-- What include/trabeculon.h promises of the room: 8 bytes, and 65 for each character of the line, always suffice.
use Rattle.std.specs.Prelude.{ℕ, ◌+◌, ◌*◌, ◌≤◌, List, ◌≢◌, length}
use Rattle.rules.specs.declared.Settings.{Settings}
use Rattle.writer.specs.Drills.{writing}

-- the settings take 8 bytes, and a character at most five records of 13
abbrev pub most_bytes : List ℕ → ℕ
most_bytes line = 8 + 65 * length line

-- for all settings and lines, refused ones too: with such a run the writer never answers 8
abbrev pub RoomSuffices : Type 0
RoomSuffices = (s : Settings) (line : List ℕ) (room : ℕ) → most_bytes line ≤ room → (writing s line room).number ≢ 8
