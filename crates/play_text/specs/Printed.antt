-- Document 01, section "Log", and document 02, 5/12: what the program prints for a log.
use Rattle.std.specs.Prelude.{ℕ, List, ◌++◌, length}
use Rattle.text.specs.Text.{text}
use Rattle.status_line.specs.Status.{below}
use Rattle.keylog.specs.Reader.{read, answer_of}
use Rattle.keylog.specs.declared.LogAnswer.{LogAnswer}

-- what follows the line: a line end, the status, a line end
unfoldable pub closing : LogAnswer → List ℕ
closing a = below a.number a.waiting a.offset

-- The line, a line end, the status, a line end. Room for a word for each byte is enough: two words need 13 bytes.
unfoldable pub printed : List ℕ → List ℕ
printed log = text (read (length log) log).words ++ closing (answer_of (read (length log) log))
