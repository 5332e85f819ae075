-- Document 02, 11/12: what the program `opinion` prints for a log, which is what `play` prints: the line, and below it `waiting N` or
-- `refused N at OFFSET`.
use Rattle.std.specs.Prelude.{ℕ, ◌+◌, ◌*◌, List, [], ◌∷◌, ◌++◌}
use Rattle.text.specs.Text.{text}
use Rattle.log_opinions.specs.OfLog.{Opined}
use Rattle.status_line.specs.Status.{below}

unfoldable pub lines : List ℕ → ℕ → ℕ → ℕ → List ℕ
lines words number waiting offset = text words ++ below number waiting offset

abbrev pub opinion_text : Opined → List ℕ
opinion_text x = lines x.words x.number x.waiting x.offset

-- words from two bytes each, the high one first; an odd last byte is none
unfoldable pub unpacked : List ℕ → List ℕ
unpacked [] = []
unpacked (b ∷ []) = []
unpacked (high ∷ low ∷ bytes) = (high * 256 + low) ∷ unpacked bytes
