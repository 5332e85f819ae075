-- What the functions of this crate do.
use Rattle.std.specs.Prelude.{ℕ, ◌≤◌, Bool, ◌&&◌, List, [], ◌∷◌, ◌≡◌, leb, length, Option, None, Some}
use Rattle.choice.specs.Choice.{if◌then◌orelse◌}
use Rattle.rules.specs.Pairs.{no_pairs}
use Rattle.filled.specs.Filled.{filled}
use Rattle.text.specs.Text.{text}
use Rattle.console_log.specs.ConsoleLog as log
use Rattle.console_log.specs.ConsoleLog.{Word, line_in, read}
use Rattle.console_log.specs.Views.{console_of}
use Rattle.console_log.specs.declared.Console.{Console}
use Rattle.console_text.specs.Sheet.{console_lines}

-- the program's buffer, in bytes
abbrev pub longest_log : ℕ
longest_log = 1048576

-- room for the words of every such log: two for each 17 bytes
abbrev pub word_room : ℕ
word_room = 123362

-- Room for the text: three bytes for each word, 98 for what else stands in a keyboard's two lines, 53 for the last line.
abbrev pub text_room : ℕ
text_room = 371707

-- words, and beside each its keyboard
abbrev pub beside : List ℕ → List ℕ → List Word
beside [] words = []
beside (b ∷ boards) [] = []
beside (b ∷ boards) (w ∷ words) = record { board = b; word = w } ∷ beside boards words

-- the words of keyboard k, and the bytes that they take
abbrev pub line : ℕ → List ℕ → List ℕ → List ℕ
line k boards words = line_in k (beside boards words)

abbrev pub size : ℕ → List ℕ → List ℕ → ℕ
size k boards words = length (text (line k boards words))

-- a word, where it is the keyboard's
abbrev pub one_text : ℕ → ℕ → ℕ → List ℕ
one_text k board word = text (line_in k (record { board = board; word = word } ∷ []))

-- what a console says, with its words
abbrev pub told_by : Console → List ℕ → List ℕ → log.Console
told_by c boards words = console_of no_pairs c (beside boards words)

-- `show` reads a log that is not too long where the run has room.
abbrev pub fits : List ℕ → List ℕ → Bool
fits l run = leb (length l) longest_log && leb text_room (length run)

abbrev pub shown : List ℕ → List ℕ
shown l = console_lines (read word_room l)

-- The text stands at the run's front, and the rest is as it was; where nothing was read, the run is as it was.
pub record Shows (l run : List ℕ) (answer : Option ℕ) (after : List ℕ) : Type 0 where
  pub answered : answer ≡ if fits l run then Some (length (shown l)) orelse None
  pub written : after ≡ if fits l run then filled (shown l) run orelse run

-- the text that is answered lies within a length
abbrev pub Within : ℕ → Option ℕ → Type 0
Within n None = Unit {0}
Within n (Some bytes) = bytes ≤ n
