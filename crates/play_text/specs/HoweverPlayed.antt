-- Document 02, 5/12: what the program prints does not depend on how its input was cut into pieces, and is what document 01 says of the
-- whole log; and it never prints 8. The proofs are proofs/Enough.antt (the room), proofs/Sequences.antt and proofs/HoweverPlayed.antt.
use Rattle.std.specs.Prelude.{ℕ, ◌+◌, ◌≤◌, ◌<◌, List, [], ◌∷◌, ◌++◌, ◌≢◌, ◌≡◌, length}
use Rattle.std.proofs.Math.Option.{none, some}
use Rattle.text.specs.Text.{text}
use Rattle.status_line.specs.Status.{below}
use Rattle.keylog.specs.Reader.{read}
use Rattle.keylog.specs.Pieces.{longest_log, Reader, start}
use Rattle.play_text.specs.Printed.{printed}
use Rattle.play_text.specs.Played.{buffer, played, last, shown_from}

-- each piece fits the buffer
abbrev pub Fit : List (List ℕ) → Type 0
Fit [] = Unit {0}
Fit (bytes ∷ ps) = (length bytes ≤ buffer) × Fit ps

abbrev pub joined : List (List ℕ) → List ℕ
joined [] = []
joined (bytes ∷ ps) = bytes ++ joined ps

-- the reader after some pieces
abbrev pub after : Reader → List (List ℕ) → Reader
after r [] = r
after r (bytes ∷ ps) = after (played r bytes).reader ps

pub record HoweverPlayed : Type 0 where
  -- empty pieces included
  pub as_whole : (ps : List (List ℕ)) → Fit ps → length (joined ps) ≤ longest_log → shown_from start ps ≡ printed (joined ps)
  -- the room for words always suffices
  pub never_8 : (ps : List (List ℕ)) → Fit ps → (last (after start ps)).number ≢ 8
  -- after a refusal nothing more comes of the pieces, so that none needs to be read
  pub stops : (r : Reader) (n : ℕ) (ps : List (List ℕ)) → r.told ≡ some n → shown_from r ps ≡ shown_from r []
  -- the piece that takes the log past the longest: the line as far as it came, and 9
  pub past_longest : (ps : List (List ℕ)) (bytes : List ℕ) (more : List (List ℕ)) → Fit ps → (after start ps).told ≡ none
      → longest_log < length (joined ps) + length bytes
      → shown_from start (ps ++ (bytes ∷ more))
      ≡ text (read (length (joined ps)) (joined ps)).words ++ below 9 0 longest_log

-- A reader of which the program has got hold: some pieces that fit the buffer led to it.
pub record Reached (r : Reader) : Type 0 where
  pub pieces : List (List ℕ)
  pub fit : Fit pieces
  pub led : r ≡ after start pieces
