-- What the functions store, put together from its parts, and the room that it takes.
use Prim.Native.Nat.{ℕ, zero, suc, ◌+◌, ◌*◌, ◌≤◌, ◌<◌}
use native.Mathlib.Numerals.{add-one}
use native.Mathlib.Nat.{zero-add}
use native.Mathlib.Omega.{arith}
use borrow.Author.Tests.{eq-eqb, ne_eqb, le-leb, lt-leb, eqb-true}
use mathlib.Core.Bool.{true, false, and-false}
use mathlib.Core.Path.{◌≡◌, refl, sym, ap, ◌∙◌}
use mathlib.Core.List.{List, [], ◌∷◌, ◌++◌}
use lib.Dec.{eqb, leb}
use lib.ListN.{length, take, drop, length-append, length-map}
use lib.Seq.{take-append_seam}
use Rattle.choice.proofs.Choices.{either}
use Rattle.filled.specs.Filled.{filled, Stored}
use Rattle.filled.proofs.Filling.{stored_both}
use Rattle.text.specs.Text.{ascii, text}
use Rattle.text.proofs.Signs.{text_short}
use Rattle.keylog.specs.Reader.{number_of}
use Rattle.console_log.specs.ConsoleLog as log
use Rattle.console_log.specs.ConsoleLog.{Word, line_in, read}
use Rattle.console_log.specs.Views.{room_of, told, boards_of, words_of, Holds}
use Rattle.console_log.specs.declared.Console.{Console}
use Rattle.status_line.specs.Decimal.{decimal}
use Rattle.status_line.specs.Status.{line_end, status}
use Rattle.console_text.specs.Sheet.{label, first_line, second_line, board_lines, lines_below, refusal_line, console_lines}
use Rattle.console_text.specs.Shows.{longest_log, word_room, text_room, beside, line, size, told_by, fits, shown, Shows}
use Rattle.std.specs.Prelude.{None, Some}
use Rattle.rules.specs.Refusal.{number_of as refusal_number}
use Rattle.rules.specs.declared.Refusal.{Refusal}
use Rattle.console_text.proofs.Picking.{stored_none, length_beside}
use Rattle.console_text.proofs.Totals.{total, total_few}

-- Lines.

pub label_stored : (k at : ℕ) (run : List ℕ) (n1 : ℕ) (m1 : List ℕ) (n2 : ℕ) (m2 : List ℕ)
    → at + 22 ≤ length run → Stored at (decimal k) run n1 m1 → Stored n1 (ascii ": ") m1 n2 m2 → Stored at (label k) run n2 m2
unfolding label
label_stored k at run n1 m1 n2 m2 h s t = stored_both at (decimal k) (ascii ": ") run n1 m1 n2 m2 (omega arith) s t

three_stored : (a b c : List ℕ) (at : ℕ) (run : List ℕ) (n1 : ℕ) (m1 : List ℕ) (n2 : ℕ) (m2 : List ℕ) (n3 : ℕ) (m3 : List ℕ)
    → at ≤ length run → Stored at a run n1 m1 → Stored n1 b m1 n2 m2 → Stored n2 c m2 n3 m3 → Stored at (a ++ b ++ c) run n3 m3
three_stored a b c at run n1 m1 n2 m2 n3 m3 h s t u =
    stored_both at (a ++ b) c run n2 m2 n3 m3 h (stored_both at a b run n1 m1 n2 m2 h s t) u

pub first_stored : (k : ℕ) (ws : List ℕ) (at : ℕ) (run : List ℕ) (n1 : ℕ) (m1 : List ℕ) (n2 : ℕ) (m2 : List ℕ) (n3 : ℕ) (m3 : List ℕ)
    → at ≤ length run → Stored at (label k) run n1 m1 → Stored n1 (text ws) m1 n2 m2 → Stored n2 line_end m2 n3 m3
    → Stored at (first_line k ws) run n3 m3
unfolding first_line
first_stored k ws at run n1 m1 n2 m2 n3 m3 h s t u = three_stored (label k) (text ws) line_end at run n1 m1 n2 m2 n3 m3 h s t u

pub second_stored : (k number waiting offset at : ℕ) (run : List ℕ) (n1 : ℕ) (m1 : List ℕ) (n2 : ℕ) (m2 : List ℕ) (n3 : ℕ) (m3 : List ℕ)
    → at ≤ length run → Stored at (label k) run n1 m1 → Stored n1 (status number waiting offset) m1 n2 m2 → Stored n2 line_end m2 n3 m3
    → Stored at (second_line k number waiting offset) run n3 m3
unfolding second_line
second_stored k number waiting offset at run n1 m1 n2 m2 n3 m3 h s t u =
    three_stored (label k) (status number waiting offset) line_end at run n1 m1 n2 m2 n3 m3 h s t u

-- The keyboards, in order.

module _ (c : Console) (boards words : List ℕ) (run : List ℕ) where
  pub record Going (out : List ℕ) (at k : ℕ) : Type 0 where
    pub passed : k ≤ 16
    pub holds : Stored 0 (lines_below (told_by c boards words) k) run at out
    pub within : at ≤ 98 * k + 3 * total k (beside boards words)
    pub long : length out ≡ length run

  pub begun : Going run 0 0
  begun = record { passed = omega arith; holds = stored_none 0 run; within = omega arith; long = refl }

  words_below : length boards ≡ length words → (k : ℕ) → total k (beside boards words) ≤ length words
  words_below same k = omega (arith, total_few k (beside boards words), length_beside boards words same)

  module _ (same : length boards ≡ length words) (fits : 1568 + 3 * length words ≤ length run)
      (out : List ℕ) (at k : ℕ) (g : Going out at k) where
    size_few : size k boards words ≤ 3 * length (line k boards words)
    size_few = text_short (line k boards words)

    pub board_fits : k < 16 → at + 98 + size k boards words ≤ length out
    board_fits h = omega (arith, g.within, g.long, size_few, words_below same (suc k))

    pub one_more : k < 16 → (r : ℕ) (after : List ℕ) → length after ≡ length out
        → Stored at (board_lines (told_by c boards words) k) out r after → r ≤ at + 98 + size k boards words → Going after r (k + 1)
    one_more h r after kept s few =
        record {
          passed = omega arith;
          holds = rw add-one
              (stored_both 0 (lines_below (told_by c boards words) k) (board_lines (told_by c boards words) k) run at out r after
              (omega arith) g.holds s);
          within = rw add-one (omega (arith, g.within, size_few));
          long = kept ∙ g.long;
        }

    pub all_put : 16 ≤ k → Stored 0 (lines_below (told_by c boards words) 16) run at out × (at ≤ 1568 + 3 * length words)
    all_put h =
        let e : k ≡ 16 = omega (arith, g.passed) in
        (rw e at g.holds, omega (arith, g.within, words_below same k))

-- The last line.

pub no_refusal : (offset at : ℕ) (run : List ℕ) → Stored at (refusal_line 0 offset) run at run
unfolding refusal_line
no_refusal offset at run = stored_none at run

pub refusal_stored : (number offset at : ℕ) (run : List ℕ) (n1 : ℕ) (m1 : List ℕ) (n2 : ℕ) (m2 : List ℕ)
    → (number ≡ 0 → ⊥) → at ≤ length run → Stored at (status number 0 offset) run n1 m1 → Stored n1 line_end m1 n2 m2
    → Stored at (refusal_line number offset) run n2 m2
unfolding refusal_line
refusal_stored number offset at run n1 m1 n2 m2 nz h s t =
    rw (ne_eqb number 0 nz) (stored_both at (status number 0 offset) line_end run n1 m1 n2 m2 h s t)

pub not_0 : (e : Refusal) → refusal_number e ≡ 0 → ⊥
not_0 e = grind arith

pub console_stored : (c : Console) (boards words run : List ℕ) (n1 : ℕ) (m1 : List ℕ) (n2 : ℕ) (m2 : List ℕ)
    → Stored 0 (lines_below (told_by c boards words) 16) run n1 m1 → Stored n1 (refusal_line (number_of (told c.refusal)) c.offset) m1 n2 m2
    → Stored 0 (console_lines (told_by c boards words)) run n2 m2
unfolding console_lines
console_stored c boards words run n1 m1 n2 m2 s t =
    stored_both 0 (lines_below (told_by c boards words) 16) (refusal_line (number_of (told c.refusal)) c.offset) run n1 m1 n2 m2
    (omega arith) s t

-- The log.

same_below : (c d : log.Console) → c.row ≡ d.row → c.seats ≡ d.seats → c.words ≡ d.words → (k : ℕ) → lines_below c k ≡ lines_below d k
same_below c d r s w zero = refl
same_below c d r s w (suc k) = rw (same_below c d r s w k, r, s, w)

same_lines : (c d : log.Console) → c.row ≡ d.row → c.seats ≡ d.seats → c.words ≡ d.words
    → number_of c.refusal ≡ number_of d.refusal → c.offset ≡ d.offset → console_lines c ≡ console_lines d
unfolding console_lines
same_lines c d r s w n o = rw (same_below c d r s w 16, n, o)

beside_own : (ws : List Word) → beside (boards_of ws) (words_of ws) ≡ ws
beside_own [] = refl
beside_own (w ∷ ws) = ap (λ (l : List Word). w ∷ l) (beside_own ws)

-- what fills a run and leaves it as long as it was fits
filled_fits : (new run after : List ℕ) → after ≡ filled new run → length after ≡ length run → length new ≤ length run
filled_fits new run after e h =
    let l : length after ≡ length new + length (drop (length new) run) = ap length e ∙ length-append new (drop (length new) run) in
    omega arith

filled_front : (n : ℕ) (new run after : List ℕ) → n ≡ length new → after ≡ filled new run → take n after ≡ new
filled_front n new run after e f = rw (e, f) (take-append_seam new (drop (length new) run))

-- What `put_log` needs of a log that was read: there is room for the words, and their lines are what is shown.
pub record ToldLines (l : List ℕ) (c : Console) (boards words : List ℕ) : Type 0 where
  pub few : c.words ≤ word_room
  pub boards_fit : c.words ≤ length boards
  pub words_fit : c.words ≤ length words
  pub lines : console_lines (told_by c (take c.words boards) (take c.words words)) ≡ shown l

module _ (l boards words : List ℕ) (c : Console) (boards-after words-after : List ℕ)
    (b : word_room ≡ length boards) (w : word_room ≡ length words)
    (kept-boards : length boards-after ≡ length boards) (kept-words : length words-after ≡ length words)
    (h : Holds (read (room_of boards words) l) boards words c boards-after words-after) where
  abbrev ws : List Word
  ws = (read (room_of boards words) l).words

  count_few : c.words ≤ word_room
  count_few =
      omega (
        arith,
        h.counted,
        length-map ws (λ (v : Word). v.board),
        filled_fits (boards_of ws) boards boards-after h.boards_are kept-boards,
      )

  boards_front : take c.words boards-after ≡ boards_of ws
  boards_front =
      filled_front c.words (boards_of ws) boards boards-after (h.counted ∙ sym (length-map ws (λ (v : Word). v.board))) h.boards_are

  words_front : take c.words words-after ≡ words_of ws
  words_front =
      filled_front c.words (words_of ws) words words-after (h.counted ∙ sym (length-map ws (λ (v : Word). v.word))) h.words_are

  room_is : room_of boards words ≡ word_room
  room_is = rw (← b, ← w)

  lines_are : console_lines (told_by c (take c.words boards-after) (take c.words words-after)) ≡ shown l
  lines_are =
      rw (boards_front, words_front)
      (same_lines (told_by c (boards_of ws) (words_of ws)) (read (room_of boards words) l) h.row_is h.seats_are (beside_own ws)
      (ap number_of h.refusal_is) h.offset_is
      ∙ ap (λ (n : ℕ). console_lines (read n l)) room_is)

  pub told_lines : ToldLines l c boards-after words-after
  told_lines =
      record { few = count_few; boards_fit = omega (arith, count_few); words_fit = omega (arith, count_few); lines = lines_are }

-- The contract of `show`.

pub too_long : (l run : List ℕ) → longest_log < length l → Shows l run None run
too_long l run h =
    let e : leb (length l) longest_log ≡ false = lt-leb (length l) longest_log h in
    record { answered = rw e; written = rw e }

pub no_room : (l run : List ℕ) → length run < text_room → Shows l run None run
no_room l run h =
    let e : fits l run ≡ false = rw (lt-leb text_room (length run) h) (and-false (leb (length l) longest_log)) in
    record { answered = rw e; written = rw e }

pub is_shown : (l run : List ℕ) (n : ℕ) (after : List ℕ)
    → length l ≤ longest_log → text_room ≤ length run → Stored 0 (shown l) run n after → Shows l run (Some n) after
is_shown l run n after h k s =
    let e : fits l run ≡ true = rw (le-leb (length l) longest_log h, le-leb text_room (length run) k) in
    record { answered = rw (e, s.behind, zero-add); written = rw (e, s.stored, zero-add) }
