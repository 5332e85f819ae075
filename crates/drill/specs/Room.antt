-- The program lends the writer a run that has room for the log of every text that it reads: it never refuses 8.
use Rattle.std.specs.Prelude.{ℕ, ◌≤◌, List, ◌≡◌, length, Err}
use Rattle.rules.specs.declared.Settings.{Settings}
use Rattle.decode.specs.Decoding.{decoded}
use Rattle.drill.specs.Texts.{Answer, longest_text, line_of, answer_of}
use Rattle.drill.specs.declared.lines.Unwritten.TheVariants.{Refused}

-- 21,845 characters of three bytes fit a text, and the log of each takes at most 65 bytes, that of the settings 8
abbrev pub log_room : ℕ
log_room = 1419933

abbrev pub Not8 : Answer → Type 0
Not8 answer = (position : ℕ) → answer ≡ Err (Refused 8 position) → ⊥

abbrev pub RoomSuffices : Type 0
RoomSuffices =
    (s : Settings) (text : List ℕ) (room : ℕ) → length text ≤ longest_text → log_room ≤ room
    → Not8 (answer_of s room (decoded (line_of text)))
