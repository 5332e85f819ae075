-- Document 02, 2/12: what the program makes of the text that it reads.
use Rattle.std.specs.Prelude.{ℕ, ◌-◌, ◌≤◌, List, ◌≡◌, eqb, length, take, get_or, Result, Ok, Err}
use Rattle.choice.specs.Choice.{if◌then◌orelse◌}
use Rattle.rules.specs.declared.Settings.{Settings}
use Rattle.decode.specs.Decoding.{Decoding, words, damaged, decoded}
use Rattle.writer.specs.declared.Drilled.{Drilled}
use Rattle.writer.specs.Drills.{writing, run_after}
use Rattle.drill.specs.declared.lines.Unwritten.{Unwritten}
use Rattle.drill.specs.declared.lines.Unwritten.TheVariants.{Refused, Damaged}

-- how many bytes the log of a text has, or why it has none
abbrev pub Answer : Type 0
Answer = Result ℕ Unwritten

-- one buffer of 65,536 bytes
abbrev pub longest_text : ℕ
longest_text = 65536

abbrev pub last_byte : List ℕ → ℕ
last_byte text = get_or text (length text - 1) 0

-- one final line end is not part of the line
unfoldable pub line_size : List ℕ → ℕ
line_size text = if eqb (last_byte text) 10 then length text - 1 orelse length text

abbrev pub line_of : List ℕ → List ℕ
line_of text = take (line_size text) text

-- what the writer answers of a line
abbrev pub told : Drilled → Answer
told d = if eqb d.number 0 then Ok d.bytes orelse Err (Refused d.number d.position)

-- a line into a run
pub record Answers (s : Settings) (line run : List ℕ) (answer : Answer) (after : List ℕ) : Type 0 where
  pub answered : answer ≡ told (writing s line (length run))
  pub left : after ≡ run_after s line run

-- damaged UTF-8 is found before anything else, and leaves the run as it was
abbrev pub answer_of : Settings → ℕ → Decoding → Answer
answer_of s room (words line) = told (writing s line room)
answer_of s room (damaged at) = Err (Damaged at)

abbrev pub log_after : Settings → List ℕ → Decoding → List ℕ
log_after s run (words line) = run_after s line run
log_after s run (damaged at) = run

-- a text into a run
pub record Drills (s : Settings) (text run : List ℕ) (answer : Answer) (after : List ℕ) : Type 0 where
  pub answered : answer ≡ answer_of s (length run) (decoded (line_of text))
  pub left : after ≡ log_after s run (decoded (line_of text))

-- the bytes that an answer counts are within a length
abbrev pub Within : ℕ → Answer → Type 0
Within n (Ok k) = k ≤ n
Within n (Err why) = Unit {0}
