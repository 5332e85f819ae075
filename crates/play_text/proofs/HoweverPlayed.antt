-- The proof that what is printed does not depend on how the input was cut.
use Prim.Native.Nat.{ℕ, ◌+◌, ◌≤◌, ◌<◌}
use native.Mathlib.Nat.{add-zero}
use native.Mathlib.Omega.{arith}
use mathlib.Core.Bool.{true}
use mathlib.Core.List.{List, [], ◌∷◌, ◌++◌, append_assoc, append-nil}
use mathlib.Core.Logic.{◌≢◌}
use mathlib.Core.Option.{Option, none, some}
use mathlib.Core.Path.{◌≡◌, refl, sym, ap, ◌∙◌}
use lib.ListN.{length}
use Rattle.choice.specs.Choice.{if◌then◌orelse◌}
use Rattle.choice.proofs.Choices.{both_ways}
use Rattle.text.specs.Text.{text}
use Rattle.text.proofs.Signs.{text_append}
use Rattle.status_line.specs.Status.{status, below}
use Rattle.keylog.specs.Reader.{read, is_cut, number_of}
use Rattle.keylog.specs.HoweverCut.{AsWhole, Enough}
use Rattle.keylog.specs.Pieces.{longest_log, Reader, start, so_far, formed, answer, Given, tell, unless_told, piece, end}
use Rattle.keylog.specs.Pieces.{Piece, log_of, feed, fed}
use Rattle.keylog.proofs.HoweverCut.{however_cut}
use Rattle.keylog.proofs.PieceFacts.{piece_facts}
use Rattle.keylog.proofs.ReaderFormed.{formed_facts}
use Rattle.play_text.specs.Printed.{closing, printed}
use Rattle.play_text.specs.Played.{word_room, played, last, shown_from}
use Rattle.play_text.specs.HoweverPlayed.{Fit, joined, after, HoweverPlayed}
use Rattle.play_text.proofs.Sequences.{played_formed, Sound, start_sound, piece_sound, led_sound}

pub last_formed : (r : Reader) → formed r ≡ true → last r ≡ answer (end r)
unfolding last
last_formed r f = rw f

-- the same pieces, each with the program's room for words
abbrev with_room : List (List ℕ) → List Piece
with_room [] = []
with_room (bytes ∷ ps) = (word_room, bytes) ∷ with_room ps

log_joined : (ps : List (List ℕ)) → log_of (with_room ps) ≡ joined ps
log_joined [] = refl
log_joined (bytes ∷ ps) = rw (log_joined ps)

-- what was given, and what is shown from there on: some pieces, and then others
shown_fed : (n : ℕ) (g : Given) (ps qs : List (List ℕ)) → Fit ps → Sound n g.reader
    → text g.words ++ shown_from g.reader (ps ++ qs)
    ≡ text (feed g (with_room ps)).words ++ shown_from (feed g (with_room ps)).reader qs
shown_fed n g [] qs f s = refl
shown_fed n g (bytes ∷ ps) qs (short, f) s =
    let h = piece word_room g.reader bytes in
    let next : Given = record { reader = h.reader; words = g.words ++ h.words } in
    rw (
      played_formed g.reader bytes s.well,
      ← append_assoc (text g.words) (text h.words) (shown_from h.reader (ps ++ qs)),
      ← text_append g.words h.words,
    )
    (shown_fed (n + length bytes) next ps qs f (piece_sound n g.reader bytes short s))

after_fed : (n : ℕ) (g : Given) (ps : List (List ℕ)) → Fit ps → Sound n g.reader → after g.reader ps ≡ (feed g (with_room ps)).reader
after_fed n g [] f s = refl
after_fed n g (bytes ∷ ps) (short, f) s =
    let h = piece word_room g.reader bytes in
    let next : Given = record { reader = h.reader; words = g.words ++ h.words } in
    rw (played_formed g.reader bytes s.well)
    (after_fed (n + length bytes) next ps f (piece_sound n g.reader bytes short s))

-- a reader that was told a number
module _ (r : Reader) (n : ℕ) (told : r.told ≡ some n) where
  played_told : (bytes : List ℕ) → played r bytes ≡ record { reader = r; words = [] }
  unfolding played
  played_told bytes =
      both_ways (λ (g : Given). g ≡ record { reader = r; words = [] }) (formed r)
      (piece_facts.kept_answer.piece_again r n word_room bytes told) refl

  stops : (ps : List (List ℕ)) → shown_from r ps ≡ shown_from r []
  unfolding text
  stops [] = refl
  stops (bytes ∷ ps) = rw (played_told bytes) (stops ps)

  last_told : formed r ≡ true → last r ≡ answer r
  last_told f = last_formed r f ∙ ap answer (piece_facts.kept_answer.end_again r n told)

-- 8 does not come with the end
pub end_eight : (r : Reader) → r.told ≢ some 8 → number_of (end r).told ≢ 8
unfolding end
end_eight r h = by_told r.told refl
  where
    by_told : (f : Option ℕ) → r.told ≡ f
        → number_of
        (unless_told r f
        (record { reader = tell r (if is_cut r.desk r.pending then 6 orelse 0) r.offset; words = [] })).reader.told
        ≢ 8
    by_told none e = both_ways (λ (k : ℕ). k ≢ 8) (is_cut r.desk r.pending) (λ z. omega arith) (λ z. omega arith)
    by_told (some k) e = λ z. h (e ∙ ap some (ap number_of (sym e) ∙ z))

-- what follows the line at a reader that was told 9
closing_9 : (r : Reader) (at : ℕ) → last (tell r 9 at) ≡ answer (tell r 9 at)
    → text [] ++ shown_from (tell r 9 at) [] ≡ below 9 0 at
unfolding text closing below status
closing_9 r at e = rw (e, add-zero at)

module _ (ps : List (List ℕ)) (fit : Fit ps) where
  abbrev g : Given
  g = fed (with_room ps)

  led : after start ps ≡ g.reader
  led = after_fed 0 (record { reader = start; words = [] }) ps fit start_sound

  sound : Sound (length (joined ps)) g.reader
  sound = rw (← led) (led_sound ps fit)

  shown_all : (qs : List (List ℕ)) → shown_from start (ps ++ qs) ≡ text g.words ++ shown_from g.reader qs
  unfolding text
  shown_all qs = shown_fed 0 (record { reader = start; words = [] }) ps qs fit start_sound

  read_whole : length (joined ps) ≤ longest_log
      → AsWhole (read (length (joined ps)) (joined ps)) (length (joined ps)) (fed (with_room ps))
  read_whole short =
      let enough : Enough g = (sound.eight, sound.nine short) in
      rw (log_joined ps) at (however_cut (with_room ps) (length (joined ps)) enough (rw (log_joined ps) (omega arith)))

  as_whole : length (joined ps) ≤ longest_log → shown_from start ps ≡ printed (joined ps)
  unfolding printed
  as_whole short =
      let a = read_whole short in
      rw append-nil at (shown_all []) ∙ rw (a.words, last_formed g.reader sound.well, a.ended)

  never_8 : (last (after start ps)).number ≢ 8
  never_8 = rw (led, last_formed g.reader sound.well) (end_eight g.reader sound.eight)

  past_longest : (bytes : List ℕ) (more : List (List ℕ)) → (after start ps).told ≡ none → longest_log < length (joined ps) + length bytes
      → shown_from start (ps ++ (bytes ∷ more))
      ≡ text (read (length (joined ps)) (joined ps)).words ++ below 9 0 longest_log
  past_longest bytes more going past =
      let told : g.reader.told ≡ none = rw led at going in
      let counted : so_far g.reader ≡ length (joined ps) = sound.bytes told in
      let short : length (joined ps) ≤ longest_log = omega (arith, (formed_facts g.reader sound.well).bytes) in
      let nine : Reader = tell g.reader 9 longest_log in
      let refused : piece word_room g.reader bytes ≡ record { reader = nine; words = [] } =
      piece_facts.too_long word_room g.reader bytes told (omega arith) in
      let well : formed nine ≡ true = rw refused at (piece_facts.piece_keeps word_room g.reader bytes sound.well) in
      shown_all (bytes ∷ more)
      ∙ rw ((read_whole short).words, played_formed g.reader bytes sound.well, refused, stops nine 9 refl more)
      (ap (λ l. text (read (length (joined ps)) (joined ps)).words ++ l) (closing_9 g.reader longest_log (last_told nine 9 refl well)))

pub however_played : HoweverPlayed
however_played =
    record {
      as_whole = as_whole;
      never_8 = never_8;
      stops = λ r n ps told. stops r n told ps;
      past_longest = λ ps bytes more fit. past_longest ps fit bytes more;
    }
