-- Document 02, 10/12: what the program `console` prints for a console's log.
use Rattle.std.specs.Prelude.{ℕ, zero, suc, List, [], ◌++◌, eqb}
use Rattle.choice.specs.Choice.{if◌then◌orelse◌}
use Rattle.row.specs.Row.{most_keyboards}
use Rattle.text.specs.Text.{ascii, text}
use Rattle.keylog.specs.Reader.{number_of}
use Rattle.console_log.specs.ConsoleLog.{Console, stage_of, line_in, waiting_at}
use Rattle.console_log.specs.declared.Stage.{Stage}
use Rattle.console_log.specs.declared.Stage.TheVariants.{Closed, Open, Ended}
use Rattle.status_line.specs.Decimal.{decimal}
use Rattle.status_line.specs.Status.{line_end, status}

-- A keyboard's lines begin with its number and a colon.
unfoldable pub label : ℕ → List ℕ
label k = decimal k ++ ascii ": "

-- its words
unfoldable pub first_line : ℕ → List ℕ → List ℕ
first_line k words = label k ++ text words ++ line_end

-- `waiting N` or `refused N at OFFSET`
unfoldable pub second_line : ℕ → ℕ → ℕ → ℕ → List ℕ
second_line k number waiting offset = label k ++ status number waiting offset ++ line_end

abbrev pub two_lines : ℕ → List ℕ → ℕ → ℕ → ℕ → List ℕ
two_lines k words number waiting offset = first_line k words ++ second_line k number waiting offset

-- a keyboard that the log does not name has no lines
abbrev pub lines_of : ℕ → List ℕ → ℕ → Stage → List ℕ
lines_of k words waiting Closed = []
lines_of k words waiting Open = two_lines k words 0 waiting 0
lines_of k words waiting (Ended number offset) = two_lines k words number waiting offset

abbrev pub board_lines : Console → ℕ → List ℕ
board_lines c k = lines_of k (line_in k c.words) (waiting_at c k) (stage_of c k)

-- the keyboards below a number, in order
abbrev pub lines_below : Console → ℕ → List ℕ
lines_below c zero = []
lines_below c (suc k) = lines_below c k ++ board_lines c k

-- last, if the whole log was refused
unfoldable pub refusal_line : ℕ → ℕ → List ℕ
refusal_line number offset = if eqb number 0 then [] orelse (status number 0 offset ++ line_end)

unfoldable pub console_lines : Console → List ℕ
console_lines c = lines_below c most_keyboards ++ refusal_line (number_of c.refusal) c.offset
