-- What the lines that are printed say: of each keyboard its own words and its own number, and of no log that it was too long for the room.
-- The proofs are in proofs/ShownFacts.antt.
use Rattle.std.specs.Prelude.{ℕ, ◌≤◌, ◌<◌, List, [], ◌∷◌, ◌++◌, ◌≢◌, ◌≡◌, length}
use Rattle.std.proofs.Math.Option.{some}
use Rattle.text.specs.Text.{ascii}
use Rattle.status_line.specs.Status.{line_end}
use Rattle.keylog.specs.Reader as reader
use Rattle.keylog.specs.Reader.{Reading, waiting_of}
use Rattle.console_log.specs.ConsoleLog.{stage_of, read}
use Rattle.console_log.specs.OwnLogs.{own_log}
use Rattle.console_log.specs.Examples.{opens, types, one_refused}
use Rattle.console_log.specs.declared.Stage.TheVariants.{Open, Ended}
use Rattle.console_text.specs.Sheet.{first_line, second_line, two_lines, board_lines, console_lines}
use Rattle.console_text.specs.Shows.{longest_log, word_room}

-- 8 is of no log that is read.
abbrev pub Never8 : Type 0
Never8 = (l : List ℕ) → length l ≤ longest_log → (read word_room l).refusal ≢ some 8

-- what the reader answers on the own log of keyboard k
abbrev pub own_reading : List ℕ → ℕ → Reading
own_reading l k = reader.read word_room (own_log k l)

-- The lines of keyboard k.
pub record OwnLines (l : List ℕ) (k : ℕ) : Type 0 where
  -- none, if the log does not name it
  pub not_named : own_log k l ≡ [] → board_lines (read word_room l) k ≡ []
  -- all its records were accepted: its words, and how many characters wait
  pub accepted : stage_of (read word_room l) k ≡ Open
      → board_lines (read word_room l) k ≡ two_lines k (own_reading l k).words 0 (waiting_of (own_reading l k).desk) 0
  -- one was refused: its words before, the number and the offset
  pub refused : (n at : ℕ) → stage_of (read word_room l) k ≡ Ended n at
      → board_lines (read word_room l) k ≡ first_line k (own_reading l k).words ++ second_line k n 0 at

abbrev pub OwnLinesStatement : Type 0
OwnLinesStatement = (l : List ℕ) (k : ℕ) → length l ≤ longest_log → k < 16 → OwnLines l k

-- The text of two logs. さ is E3 81 95.
pub record ShownExamples : Type 0 where
  -- keyboard 0 is refused straight behind its settings, and 3 goes on
  pub two_keyboards : console_lines (read 8 one_refused)
      ≡ ascii "0: " ++ line_end
      ++ ascii "0: refused 3 at 12" ++ line_end
      ++ ascii "3: " ++ (227 ∷ 129 ∷ 149 ∷ []) ++ line_end
      ++ ascii "3: waiting 0" ++ line_end
  -- keyboard 16 ends the whole log
  pub whole_log : console_lines (read 8 (opens 15 ++ types 15 ++ opens 16))
      ≡ ascii "15: " ++ (227 ∷ 129 ∷ 149 ∷ []) ++ line_end
      ++ ascii "15: waiting 0" ++ line_end
      ++ ascii "refused 13 at 46" ++ line_end
