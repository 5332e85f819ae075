-- What holds of every reader that pieces lead to.
use Prim.Native.Nat.{ℕ, ◌+◌, ◌≤◌, ◌<◌}
use native.Mathlib.Nat.{zero-add, add-zero}
use native.Mathlib.Omega.{arith}
use borrow.Author.Tests.{ltb-true}
use mathlib.Core.Bool.{true}
use mathlib.Core.List.{List, [], ◌∷◌, ◌++◌}
use mathlib.Core.Logic.{◌≢◌}
use mathlib.Core.Option.{Option, none, some, none-ne-some}
use mathlib.Core.Path.{◌≡◌, refl, sym, ap, ◌∙◌}
use lib.Dec.{ltb}
use lib.ListN.{length, length-append}
use Rattle.choice.specs.Choice.{if◌then◌orelse◌}
use Rattle.choice.proofs.Choices.{by_test}
use Rattle.keylog.specs.Walk.{walk}
use Rattle.keylog.specs.Reader.{read_record, number_of}
use Rattle.keylog.specs.Facts.{GivenWithRoom}
use Rattle.keylog.specs.Pieces.{longest_log, Reader, start, so_far, formed, Given, tell, place, walked, unless_told, piece}
use Rattle.keylog.proofs.PieceFacts.{piece_facts}
use Rattle.keylog.proofs.ReaderFormed.{formed_facts}
use Rattle.play_text.specs.Played.{buffer, word_room, played}
use Rattle.play_text.specs.HoweverPlayed.{Fit, joined, after, Reached}
use Rattle.play_text.proofs.Enough.{small_number}

-- at a reader that is well formed a piece is read
pub played_formed : (r : Reader) (bytes : List ℕ) → formed r ≡ true → played r bytes ≡ piece word_room r bytes
unfolding played
played_formed r bytes f = rw f

-- A reader that pieces of n bytes in all led to: it is well formed and was not told 8, and 9 only where the log is too long; while
-- nothing is told, it has counted the bytes.
pub record Sound (n : ℕ) (r : Reader) : Type 0 where
  pub well : formed r ≡ true
  pub eight : r.told ≢ some 8
  pub nine : n ≤ longest_log → r.told ≢ some 9
  pub bytes : r.told ≡ none → so_far r ≡ n

pub start_sound : Sound 0 start
start_sound =
    record {
      well = piece_facts.fresh_formed;
      eight = λ e. none-ne-some 8 e;
      nine = λ _ e. none-ne-some 9 e;
      bytes = λ _. refl;
    }

-- the numbers that a piece can tell
abbrev Apart : ℕ → Option ℕ → Type 0
Apart n f = (f ≢ some 8) × (n ≤ longest_log → f ≢ some 9)

told_apart : (n : ℕ) (r : Reader) (bytes : List ℕ) → length bytes ≤ buffer → Sound n r
    → Apart (n + length bytes) (piece word_room r bytes).reader.told
unfolding piece
told_apart n r bytes short s = by_told r.told refl
  where
    small : (f : Option ℕ) → GivenWithRoom (number_of f) → Apart (n + length bytes) f
    small f h = ((λ e. h.not_8 (ap number_of e)), (λ _ e. h.not_9 (ap number_of e)))

    by_nine : longest_log < so_far r + length bytes → so_far r ≡ n → Apart (n + length bytes) (some 9)
    by_nine past counted = ((λ z. omega (arith, ap number_of z)), (λ within _. omega arith))

    by_told : (f : Option ℕ) → r.told ≡ f
        → Apart (n + length bytes)
        (unless_told r f
        (if ltb longest_log (so_far r + length bytes) then record { reader = tell r 9 longest_log; words = [] }
        orelse walked r (walk (read_record word_room) (place r) bytes))).reader.told
    by_told none e =
        by_test (λ (g : Given). Apart (n + length bytes) g.reader.told) (ltb longest_log (so_far r + length bytes))
        (λ past. by_nine (ltb-true longest_log (so_far r + length bytes) past) (s.bytes e))
        (λ _. small _ (small_number r bytes short e))
    by_told (some k) e = (s.eight, λ within. s.nine (omega arith))

pub piece_sound : (n : ℕ) (r : Reader) (bytes : List ℕ) → length bytes ≤ buffer → Sound n r
    → Sound (n + length bytes) (piece word_room r bytes).reader
piece_sound n r bytes short s =
    let apart = told_apart n r bytes short s in
    record {
      well = piece_facts.piece_keeps word_room r bytes s.well;
      eight = apart.0;
      nine = apart.1;
      bytes = λ e. piece_facts.counts word_room r bytes e ∙ ap (λ k. k + length bytes) (s.bytes (was_going r.told refl e));
    }
  where
    was_going : (f : Option ℕ) → r.told ≡ f → (piece word_room r bytes).reader.told ≡ none → r.told ≡ none
    was_going none e h = e
    was_going (some k) e h =
        absurd (none-ne-some k (sym h ∙ ap (λ g. g.reader.told) (piece_facts.kept_answer.piece_again r k word_room bytes e) ∙ e))

pub played_sound : (n : ℕ) (r : Reader) (bytes : List ℕ) → length bytes ≤ buffer → Sound n r
    → Sound (n + length bytes) (played r bytes).reader
played_sound n r bytes short s = rw (played_formed r bytes s.well) (piece_sound n r bytes short s)

after_sound : (n : ℕ) (r : Reader) (ps : List (List ℕ)) → Fit ps → Sound n r → Sound (n + length (joined ps)) (after r ps)
after_sound n r [] f s = rw (add-zero n) s
after_sound n r (bytes ∷ ps) (short, f) s =
    let sum : n + length bytes + length (joined ps) ≡ n + length (bytes ++ joined ps) = omega (arith, length-append bytes (joined ps)) in
    rw (← sum) (after_sound (n + length bytes) (played r bytes).reader ps f (played_sound n r bytes short s))

pub led_sound : (ps : List (List ℕ)) → Fit ps → Sound (length (joined ps)) (after start ps)
led_sound ps f = rw zero-add at (after_sound 0 start ps f start_sound)

-- the program's reader
pub reached_sound : (r : Reader) (d : Reached r) → Sound (length (joined d.pieces)) r
reached_sound r d = rw d.led (led_sound d.pieces d.fit)

pub reached_start : (r : Reader) → r ≡ start → Reached r
reached_start r e = record { pieces = []; fit = tt; led = e }

after_more : (r : Reader) (ps : List (List ℕ)) (bytes : List ℕ) → after r (ps ++ (bytes ∷ [])) ≡ (played (after r ps) bytes).reader
after_more r [] bytes = refl
after_more r (b ∷ ps) bytes = after_more (played r b).reader ps bytes

fit_more : (ps : List (List ℕ)) (bytes : List ℕ) → Fit ps → length bytes ≤ buffer → Fit (ps ++ (bytes ∷ []))
fit_more [] bytes f short = (short, tt)
fit_more (b ∷ ps) bytes (h, f) short = (h, fit_more ps bytes f short)

pub reached_more : (r : Reader) (bytes : List ℕ) → Reached r → length bytes ≤ buffer → Reached (played r bytes).reader
reached_more r bytes d short =
    record {
      pieces = d.pieces ++ (bytes ∷ []);
      fit = fit_more d.pieces bytes d.fit short;
      led = rw d.led (sym (after_more start d.pieces bytes));
    }

-- while nothing is told the bytes are counted, and they are never more than the longest log has
pub reached_counts : (r : Reader) (bytes : List ℕ) → Reached r → length bytes ≤ buffer → r.told ≡ none
    → (played r bytes).reader.told ≡ none
    → (so_far (played r bytes).reader ≡ so_far r + length bytes) × (so_far (played r bytes).reader ≤ longest_log)
reached_counts r bytes d short going more =
    let s = reached_sound r d in
    let next = played_sound (length (joined d.pieces)) r bytes short s in (
      omega (arith, s.bytes going, next.bytes more),
      (formed_facts (played r bytes).reader next.well).bytes,
    )
