-- The answers of `notate`.
use Prim.Native.Nat.{ℕ, ◌≤◌}
use native.Mathlib.Nat.{zero-add}
use native.Mathlib.Omega.{arith}
use borrow.Author.Tests.{le-leb}
use mathlib.Core.List.{List, ◌++◌}
use mathlib.Core.Path.{◌≡◌, ap, ◌∙◌}
use lib.ListN.{length, take}
use Rattle.filled.specs.Filled.{Stored}
use Rattle.keylog.specs.LogRecords.{records_of}
use Rattle.keylog.specs.Reader.{read}
use Rattle.keylog.specs.Runs.{as_it_is, Reads}
use Rattle.keylog.specs.declared.LogAnswer.{LogAnswer}
use Rattle.keylog.proofs.Room.{enough_room}
use Rattle.notation.specs.RoundTrip.{Bytes}
use Rattle.notation.specs.Notation.{texts, refusal_text, notated}
use Rattle.std.specs.Prelude.{Ok}
use Rattle.notator.specs.Adds.{Added}
use Rattle.notator.specs.declared.page.Page.{Page}
use Rattle.notator.specs.Words.{word_room}
use Rattle.notator.specs.Notates.{longest_log, room_for, number_told, offset_told, Notates}
use Rattle.notator.proofs.Adding.{◌and_then◌, as_text}
use Rattle.notator.proofs.OneReading.{SameTold, one_reading}
use Rattle.notator.proofs.Sizes.{room}

-- what the reader says, given the buffer for its words
pub told : (l words : List ℕ) (answer : LogAnswer) (after : List ℕ) → length l ≤ longest_log → word_room ≡ length words
    → Reads as_it_is (length words) l words answer after
    → (answer.number ≡ number_told l) × ((answer.offset ≡ offset_told l) × (answer.offset ≤ length l))
told l words answer after short long reads =
    let same : SameTold (read (length words) l) (read (length l) l) = one_reading (length words) (length l) l (omega arith) (omega arith) in
    let offset : answer.offset ≡ offset_told l = ap (λ (a : LogAnswer). a.offset) reads.answered ∙ same.offset in (
      ap (λ (a : LogAnswer). a.number) reads.answered ∙ same.number,
      (offset, omega (arith, (enough_room (length l) l (omega arith)).offset)),
    )

-- the texts of the records, and what is said of the refused one, on a page that begins at the front of the run
module _ (l run : List ℕ) (bytes : Bytes l) (short : length l ≤ longest_log) (has_room : room_for l ≤ length run)
    (number offset : ℕ) (n_is : number ≡ number_told l) (o_is : offset ≡ offset_told l)
    (p q s : Page) (first : p.at ≡ 0) (lent : p.run.now ≡ run)
    (records : Added (texts (records_of (take offset l))) p q) (refusal : Added (refusal_text number offset) q s) where
  text_is : texts (records_of (take offset l)) ++ refusal_text number offset ≡ notated l
  unfolding notated
  text_is = rw (n_is, o_is)

  all : Added (notated l) p s
  all = as_text text_is (records and_then refusal)

  stored : Stored 0 (notated l) run s.at s.run.now
  stored = rw (first, lent) at (all.adds.fits (rw (first, lent) (omega (arith, room l bytes))))

  pub is_notated : (after : List ℕ) → after ≡ s.run.now
      → Notates l run (Ok (record { bytes = s.at; number = number; offset = offset })) after
  is_notated after e =
      record {
        answered = rw (le-leb (length l) longest_log short, le-leb (room_for l) (length run) has_room, stored.behind, zero-add, n_is, o_is);
        run_holds = rw (le-leb (length l) longest_log short, le-leb (room_for l) (length run) has_room) (e ∙ stored.stored ∙ rw zero-add);
      }

  pub is_within : s.at ≤ length run
  is_within = omega (arith, stored.behind, room l bytes)
