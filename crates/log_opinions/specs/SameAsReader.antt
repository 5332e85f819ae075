-- Document 02, 11/12, for logs: given enough room the second opinion gives the reader's words, waiting count, number and offset, with held
-- keys and with an empty pair list; with pairs it refuses 14; and exactly when it gives 14 and 8. The proof is proofs/SameAsReader.antt.
use Rattle.std.specs.Prelude.{ℕ, ◌*◌, ◌≤◌, ◌<◌, true, List, [], ◌∷◌, ◌↔◌, ◌≢◌, ◌≡◌, length}
use Rattle.rules.specs.Numbers.{in_range}
use Rattle.rules.specs.Pairs.{lent_good}
use Rattle.keylog.specs.Records.{is_settings, settings, is_list, list}
use Rattle.keylog.specs.LogRecords.{records_of}
use Rattle.keylog.specs.Reader.{Desk, closed, opened, running, Reading, read, number_of, waiting_of}
use Rattle.keylog.specs.Reader as reader
use Rattle.log_opinions.specs.OfLog.{Opined, refused, on_log, opined, answer_of}

-- the reader's answer in the same form
abbrev pub as_read : Reading → Opined
as_read x = record { number = number_of x.refusal; words = x.words; offset = x.offset; waiting = waiting_of x.desk }

-- The records begin with settings in range and then a list that is good and has at least one pair.
abbrev pub BeginWithPairs : List (List ℕ) → Type 0
BeginWithPairs [] = ⊥
BeginWithPairs (r ∷ []) = ⊥
BeginWithPairs (r ∷ (q ∷ rs)) =
    (is_settings r ≡ true) × (in_range (settings r) ≡ true) × (is_list q ≡ true) × (lent_good (list q) ≡ true) × ((list q).pairs ≢ [])

abbrev pub WithPairs : List ℕ → Type 0
WithPairs log = BeginWithPairs (records_of log)

-- the reader's desk lends pairs
abbrev pub LendsPairs : Desk → Type 0
LendsPairs closed = ⊥
LendsPairs (opened m) = ⊥
LendsPairs (running g m) = g.pairs ≢ []

-- of every room and log
pub record SameAsReader (room : ℕ) (log : List ℕ) : Type 0 where
  -- with pairs is where the reader came to lend some
  pub with_pairs : WithPairs log ↔ LendsPairs (read room log).desk
  -- without pairs and with room for its words: the reader's answer, the words themselves too
  pub same : (¬ WithPairs log) → length (on_log log).words ≤ room → opined room log ≡ as_read (read room log)
  pub same_answer : (¬ WithPairs log) → length (on_log log).words ≤ room → answer_of (opined room log) ≡ reader.answer_of (read room log)
  -- 13 bytes of a log give at most two words, so that room for these is enough
  pub words_length : 13 * length (on_log log).words ≤ 2 * length log
  -- with pairs: 14 at the list's record, behind the 8 bytes of the settings, no word, none waiting; whatever comes behind it
  pub pairs_refused : WithPairs log → opined room log ≡ refused 14 8
  pub gives_14 : (opined room log).number ≡ 14 ↔ WithPairs log
  -- 8 exactly where the words don't all fit: at offset 0, none written, none waiting, also where a record is refused
  pub gives_8 : (opined room log).number ≡ 8 ↔ (room < length (on_log log).words)
  pub refused_8 : (opined room log).number ≡ 8 → opined room log ≡ refused 8 0

-- the statement
abbrev pub SameAsReaderStatement : Type 0
SameAsReaderStatement = (room : ℕ) (log : List ℕ) → SameAsReader room log
