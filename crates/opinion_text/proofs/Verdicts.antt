-- What the functions store, put together from its parts, and the room that it takes.
use Prim.Native.Nat.{ℕ, ◌+◌, ◌*◌, ◌/◌, ◌≤◌, ◌<◌}
use native.Mathlib.Nat.{zero-add}
use native.Mathlib.Omega.{arith}
use borrow.Author.Tests.{le-leb, lt-leb}
use mathlib.Core.Bool.{true, false, and-false}
use mathlib.Core.Path.{◌≡◌, refl, ap, ◌∙◌}
use mathlib.Core.List.{List}
use lib.Dec.{leb}
use lib.ListN.{length, take}
use lib.Seq.{take-append_seam}
use Rattle.filled.specs.Filled.{Stored}
use Rattle.filled.proofs.Filling.{stored_both}
use Rattle.keylog.specs.Runs.{high_first, encoded}
use Rattle.keylog.specs.declared.LogAnswer.{LogAnswer}
use Rattle.keylog.proofs.Encoded.{length_encoded}
use Rattle.text.specs.Puts.{Puts}
use Rattle.text.specs.Text.{text}
use Rattle.log_opinions.specs.OfLog.{on_log, opined, answer_of}
use Rattle.log_opinions.proofs.SameAsReader.{same_as_reader}
use Rattle.second_opinion.specs.Whole.{Gives}
use Rattle.status_line.specs.Status.{below}
use Rattle.status_line.proofs.Statuses.{below_stored}
use Rattle.opinion_text.specs.Verdict.{unpacked, lines}
use Rattle.opinion_text.specs.Shows.{longest_log, word_room, packed_room, text_room, fits, shown, Shows}
use Rattle.std.specs.Prelude.{None, Some}
use Rattle.opinion_text.proofs.Unpacking.{unpacked_back}

pub lines_stored : (words : List ℕ) (number waiting offset : ℕ) (run : List ℕ) (n1 : ℕ) (m1 : List ℕ) (n2 : ℕ) (m2 : List ℕ)
    → n1 + 54 ≤ length m1 → Stored 0 (text words) run n1 m1 → Puts n1 (below number waiting offset) m1 n2 m2
    → Stored 0 (lines words number waiting offset) run n2 m2
unfolding lines
lines_stored words number waiting offset run n1 m1 n2 m2 h s p =
    let t = below_stored number waiting offset n1 m1 n2 m2 h p in
    stored_both 0 (text words) (below number waiting offset) run n1 m1 n2 m2 (omega arith) s t

-- The room for words suffices, so that the opinion is the one given room.
module _ (l : List ℕ) (short : length l ≤ longest_log) where
  few_words : length (on_log l).words ≤ word_room
  few_words = omega (arith, (same_as_reader word_room l).words_length)

  opined_all : opined word_room l ≡ on_log l
  unfolding opined
  opined_all = rw (le-leb (length (on_log l).words) word_room few_words)

  module _ (before : List ℕ) (long : packed_room ≡ length before) (answer : LogAnswer) (after : List ℕ)
      (g : Gives (opined (length before / 2) l) before answer after) where
    room_is : length before / 2 ≡ word_room
    room_is = omega (arith, long)

    is_all : opined (length before / 2) l ≡ on_log l
    is_all = rw room_is opined_all

    answer_is : answer ≡ answer_of (on_log l)
    answer_is = g.answered ∙ ap answer_of is_all

    bytes_are : 2 * answer.words ≡ length (encoded high_first (on_log l).words)
    bytes_are =
        omega (arith, ap (λ (a : LogAnswer). a.words) answer_is, length_encoded high_first 2 (λ w. refl) (on_log l).words)

    pub words_fit : 2 * answer.words ≤ packed_room
    words_fit = omega (arith, ap (λ (a : LogAnswer). a.words) answer_is, few_words)

    words_back : unpacked (take (2 * answer.words) after) ≡ (on_log l).words
    words_back =
        let front : take (2 * answer.words) after ≡ encoded high_first (on_log l).words =
        rw (bytes_are, g.left, is_all) (take-append_seam (encoded high_first (on_log l).words) _) in
        ap unpacked front ∙ unpacked_back (on_log l).words

    lines_are : lines (unpacked (take (2 * answer.words) after)) answer.number answer.waiting answer.offset ≡ shown l
    lines_are = rw (words_back, answer_is)

    pub is_shown : (run : List ℕ) → text_room ≤ length run → (n : ℕ) (out : List ℕ)
        → Stored 0 (lines (unpacked (take (2 * answer.words) after)) answer.number answer.waiting answer.offset) run n out
        → Shows l run (Some (record { bytes = n; number = answer.number; offset = answer.offset })) out
    is_shown run k n out s =
        let e : fits l run ≡ true = rw (le-leb (length l) longest_log short, le-leb text_room (length run) k) in
        let t : Stored 0 (shown l) run n out = rw lines_are at s in
        record { answered = rw (e, t.behind, zero-add, answer_is); written = rw (e, t.stored, zero-add) }

-- The contract of `show`.

pub too_long : (l run : List ℕ) → longest_log < length l → Shows l run None run
too_long l run h =
    let e : leb (length l) longest_log ≡ false = lt-leb (length l) longest_log h in
    record { answered = rw e; written = rw e }

pub no_room : (l run : List ℕ) → length run < text_room → Shows l run None run
no_room l run h =
    let e : fits l run ≡ false = rw (lt-leb text_room (length run) h) (and-false (leb (length l) longest_log)) in
    record { answered = rw e; written = rw e }
