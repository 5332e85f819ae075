-- What the functions on a piece and on the end store, put together from its parts, and the room that it takes.
use Prim.Native.Nat.{ℕ, ◌+◌, ◌-◌, ◌≤◌}
use native.Mathlib.Omega.{arith}
use native.Mathlib.Nat.{zero-add}
use borrow.Author.Tests.{le-leb}
use mathlib.Core.Bool.{Bool, true, false, ◌&&◌, true≢false}
use mathlib.Core.Logic.{◌≢◌}
use mathlib.Core.Path.{◌≡◌, refl, sym, ap, ◌∙◌}
use mathlib.Core.List.{List, [], ◌∷◌}
use mathlib.Core.Option.{Option, none, some}
use lib.ListN.{length, take, drop, length-append, length-drop}
use lib.Seq.{take-append_seam}
use Rattle.filled.specs.Filled.{filled, Stored}
use Rattle.text.specs.Text.{text}
use Rattle.text.specs.Puts.{Puts}
use Rattle.std.proofs.Common.{Some}
use Rattle.text.proofs.Signs.{text_short}
use Rattle.status_line.specs.Status.{below}
use Rattle.status_line.proofs.Statuses.{below_stored}
use Rattle.keylog.specs.Reader.{number_of}
use Rattle.keylog.specs.Runs.{as_it_is, encoded}
use Rattle.keylog.specs.Pieces as pieces
use Rattle.keylog.specs.Pieces.{formed, told_formed, Given, piece, end}
use Rattle.keylog.specs.declared.LogAnswer.{LogAnswer}
use Rattle.keylog.proofs.PieceFacts.{piece_facts}
use Rattle.keylog.proofs.ReaderFormed.{formed_facts}
use Rattle.log_reader.specs.Listed.{room}
use Rattle.log_reader.specs.Views.{reader_of, not_formed, usable, may_come_to, Leaves, Feeds, Ends}
use Rattle.log_reader.specs.declared.reader.Reader.{Reader}
use Rattle.log_reader.specs.declared.reader.Fed.{Fed}
use Rattle.play_text.specs.Printed.{closing}
use Rattle.play_text.specs.Played.{buffer, word_room, text_room, played, brought, last, have_room, fits, Shows, ending, Closes}
use Rattle.play_text.specs.HoweverPlayed.{Reached}
use Rattle.play_text.proofs.Sequences.{reached_sound}
use Rattle.play_text.proofs.HoweverPlayed.{last_formed, end_eight}

last_unformed : (r : pieces.Reader) → formed r ≡ false → last r ≡ not_formed
unfolding last
last_unformed r f = rw f

-- what is stored at a run's front fills it
stored_filled : (new run : List ℕ) (n : ℕ) (after : List ℕ) → Stored 0 new run n after → (n ≡ length new) × (after ≡ filled new run)
stored_filled new run n after s = (s.behind ∙ zero-add (length new), s.stored ∙ rw zero-add)

-- words that are as they are
plain : (ws : List ℕ) → encoded as_it_is ws ≡ ws
unfolding encoded
plain [] = refl
plain (w ∷ ws) = rw (plain ws)

-- a list's run that is as it was
leaves_same : (may : Bool) (list after : List ℕ) → after ≡ list → Leaves may list after
leaves_same may list after e = record { sized = ap length e; behind = ap (drop room) e; unless = λ _. e }

-- what `feed` gave, as a definition gives it
record Gave (reader : Reader) (list words : List ℕ) (fed : Fed) (list-after after : List ℕ) (g : Given) : Type 0 where
  next : reader_of list-after fed.reader ≡ g.reader
  counted : fed.reader.words ≡ reader.words + length g.words
  left : after ≡ filled g.words words
  lent : Leaves (formed (reader_of list reader) && may_come_to (reader_of list reader)) list list-after

gave : (reader : Reader) (list bytes words : List ℕ) (fed : Fed) (list-after after : List ℕ) (t : Bool) → word_room ≡ length words
    → formed (reader_of list reader) ≡ t → Feeds as_it_is (length words) reader list bytes words t fed list-after after
    → Gave reader list words fed list-after after (played (reader_of list reader) bytes)
unfolding played
gave reader list bytes words fed list-after after true long f (s, l, w) =
    let next : reader_of list-after fed.reader ≡ (piece word_room (reader_of list reader) bytes).reader = rw long s.reader in
    rw f
    record {
      next = next;
      counted = ap (λ r. r.words) next ∙ piece_facts.total word_room (reader_of list reader) bytes;
      left = w ∙ rw (← long, plain);
      lent = rw f l;
    }
gave reader list bytes words fed list-after after false long f (s, l, w) =
    rw (f, s) record { next = rw l refl; counted = omega arith; left = w; lent = leaves_same _ list list-after l }

pub roomy : (list run : List ℕ) → room ≤ length list → text_room ≤ length run → have_room list run ≡ true
roomy list run h k = rw (le-leb room (length list) h, le-leb text_room (length run) k)

pub fitting : (bytes list run : List ℕ) → length bytes ≤ buffer → room ≤ length list → text_room ≤ length run
    → fits bytes list run ≡ true
fitting bytes list run h k l = rw (le-leb (length bytes) buffer h, roomy list run k l)

-- What follows where a piece was read into a run of words: n words are new, they stand at the run's front, and their text is what is shown.
pub record ReadPiece (reader : Reader) (list bytes : List ℕ) (fed : Fed) (list-after after : List ℕ) (n : ℕ) : Type 0 where
  pub grown : reader.words ≤ fed.reader.words
  pub few : n ≤ length after
  pub short : length (text (take n after)) ≤ text_room
  pub shows : (run : List ℕ) (k : ℕ) (out : List ℕ) → length bytes ≤ buffer → text_room ≤ length run
      → Stored 0 (text (take n after)) run k out
      → Shows (reader_of list reader) bytes list run (Some (record { next = fed.reader; bytes = k })) list-after out

pub read_piece : (reader : Reader) (list bytes words : List ℕ) (fed : Fed) (list-after after : List ℕ)
    → room ≤ length list → word_room ≡ length words
    → Feeds as_it_is (length words) reader list bytes words (usable list reader) fed list-after after → length after ≡ length words
    → ReadPiece reader list bytes fed list-after after (fed.reader.words - reader.words)
read_piece reader list bytes words fed list-after after wide long h kept =
    let r = reader_of list reader in
    let ws : List ℕ = (played r bytes).words in
    let g : Gave reader list words fed list-after after (played r bytes) =
    gave reader list bytes words fed list-after after (formed r) long refl (rw (le-leb room (length list) wide) at h) in
    let n : fed.reader.words - reader.words ≡ length ws = omega (arith, g.counted) in
    let few : length ws ≤ length after = omega (arith, kept, simp (length-append, length-drop) at (ap length g.left)) in
    let the-words : take (fed.reader.words - reader.words) after ≡ ws = rw (n, g.left, take-append_seam) in
    record {
      grown = omega (arith, g.counted);
      few = rw n few;
      short = rw the-words (omega (arith, text_short ws, kept));
      shows = λ run k out short room s.
          let t : fits bytes list run ≡ true = fitting bytes list run short wide room in
          let f = stored_filled (brought r bytes) run k out (rw the-words at s) in
          record { answered = rw (t, g.next, f.0); written = rw (t, f.1); lent = rw t g.lent };
    }

-- The number that the end answers is never 2, which is said only of a reader that is not well formed, nor 10, which is a drill's
never_2 : (f : Option ℕ) (count : ℕ) → told_formed f count ≡ true → number_of f ≢ 2
never_2 none count e = λ z. omega arith
never_2 (some n) count e = λ z. true≢false (sym (rw z at e))

never_10 : (f : Option ℕ) (count : ℕ) → told_formed f count ≡ true → number_of f ≢ 10
never_10 none count e = λ z. omega arith
never_10 (some n) count e = λ z. true≢false (sym (rw z at e))

-- the numbers that the program can print
pub reached_number : (r : pieces.Reader) → Reached r → ((last r).number ≢ 2) × ((last r).number ≢ 8) × ((last r).number ≢ 10)
reached_number r d =
    let s = reached_sound r d in
    let told = (formed_facts (end r) (piece_facts.end_keeps r s.well)).told in
    let count = length (end r).pending in
    rw (last_formed r s.well) (never_2 (end r).told count told, end_eight r s.eight, never_10 (end r).told count told)

pub ended : (reader : Reader) (list : List ℕ) (fed : Fed) → room ≤ length list → Ends reader list (usable list reader) fed
    → fed.answer ≡ last (reader_of list reader)
ended reader list fed wide h = by (formed (reader_of list reader)) refl (rw (le-leb room (length list) wide) at h)
  where
    by : (t : Bool) → formed (reader_of list reader) ≡ t → Ends reader list t fed → fed.answer ≡ last (reader_of list reader)
    by true f s = s.answer ∙ sym (last_formed (reader_of list reader) f)
    by false f s = rw s (sym (last_unformed (reader_of list reader) f))

-- the contract of `show_end`
pub end_shown : (r : pieces.Reader) (list run : List ℕ) (a : LogAnswer) (n : ℕ) (after : List ℕ)
    → room ≤ length list → text_room ≤ length run → a ≡ last r → Puts 0 (below a.number a.waiting a.offset) run n after
    → Closes r list run (Some (ending n a)) after
unfolding closing
end_shown r list run a n after wide long e p =
    let t : have_room list run ≡ true = roomy list run wide long in
    let s = below_stored a.number a.waiting a.offset 0 run n after (omega arith) p in
    let f = stored_filled (closing a) run n after s in
    record { answered = rw (t, ← e, f.0); written = rw (t, ← e, f.1) }
