-- What the functions of this crate do.
use Rattle.std.specs.Prelude.{ℕ, ◌≤◌, Bool, ◌&&◌, List, ◌≡◌, leb, length, Option, None, Some}
use Rattle.choice.specs.Choice.{if◌then◌orelse◌}
use Rattle.filled.specs.Filled.{filled}
use Rattle.log_opinions.specs.OfLog.{on_log}
use Rattle.opinion_text.specs.Verdict.{opinion_text}
use Rattle.status_line.specs.declared.Printed.{Printed}

-- the program's buffer, in bytes
abbrev pub longest_log : ℕ
longest_log = 1048576

-- room for the words of every such log: two for each 13 bytes, and two bytes for each
abbrev pub word_room : ℕ
word_room = 161319

abbrev pub packed_room : ℕ
packed_room = 322638

-- Room for the text: three bytes for each word, and 54 for what stands below.
abbrev pub text_room : ℕ
text_room = 484011

-- `show` looks over a log that is not too long where the run has room.
abbrev pub fits : List ℕ → List ℕ → Bool
fits l run = leb (length l) longest_log && leb text_room (length run)

-- the opinion given room for all words: 8 does not come
abbrev pub shown : List ℕ → List ℕ
shown l = opinion_text (on_log l)

-- The text stands at the run's front, and the rest is as it was; where nothing was read, the run is as it was.
pub record Shows (l run : List ℕ) (answer : Option Printed) (after : List ℕ) : Type 0 where
  pub answered : answer ≡ if fits l run
      then Some (record { bytes = length (shown l); number = (on_log l).number; offset = (on_log l).offset }) orelse None
  pub written : after ≡ if fits l run then filled (shown l) run orelse run

-- the text that is answered lies within a length
abbrev pub Within : ℕ → Option Printed → Type 0
Within n None = Unit {0}
Within n (Some p) = p.bytes ≤ n
