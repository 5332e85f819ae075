-- Document 02, 11/12, for the programs: of a log without pairs `opinion` prints what `play` prints. The proof is proofs/AsPlayed.antt.
use Rattle.std.specs.Prelude.{ℕ, ◌≤◌, List, ◌≡◌, length}
use Rattle.log_opinions.specs.SameAsReader.{WithPairs}
use Rattle.play_text.specs.Printed.{printed}
use Rattle.opinion_text.specs.Shows.{longest_log, shown}

abbrev pub AsPlayed : Type 0
AsPlayed = (l : List ℕ) → (¬ WithPairs l) → length l ≤ longest_log → shown l ≡ printed l
