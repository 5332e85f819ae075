-- The notation of a log, transcribed, is the log. Of a log that is refused it is what stands before the refused record.
use Rattle.std.specs.Prelude.{ℕ, ◌<◌, List, ◌≡◌}
use Rattle.keylog.specs.Records.{byte}
use Rattle.keylog.specs.Reader.{read}
use Rattle.keylog.specs.RecordRefusals.{Accepts}
use Rattle.notation.specs.Transcribing.{log, transcribed}
use Rattle.notation.specs.Notation.{accepted_front, notated}

-- a list of bytes
abbrev pub Bytes : List ℕ → Type 0
Bytes l = (i : ℕ) → byte i l < 256

-- of every log, and of a log that the reader, with some room for words, accepts
pub record RoundTrip (l : List ℕ) : Type 0 where
  pub front : transcribed (notated l) ≡ log (accepted_front l)
  pub accepted : (room : ℕ) → Accepts (read room l) → transcribed (notated l) ≡ log l

abbrev pub RoundTripStatement : Type 0
RoundTripStatement = (l : List ℕ) → Bytes l → RoundTrip l
