-- What holds in the loop of `put_words`: the words of keyboard k among the first i are stored.
use Prim.Native.Nat.{ℕ, zero, suc, ◌+◌, ◌≤◌, ◌<◌}
use native.Mathlib.Numerals.{add-one}
use native.Mathlib.Nat.{add-zero}
use native.Mathlib.Omega.{arith}
use borrow.Author.Tests.{eq-eqb, ne_eqb}
use mathlib.Core.Path.{◌≡◌, refl, sym, ap, ◌∙◌}
use mathlib.Core.List.{List, [], ◌∷◌, ◌++◌, append-nil}
use lib.ListN.{length, take, drop, get_or, length-append, length-drop, take-append-drop}
use lib.Seq.{take-suc, take_all, length-take-le}
use Rattle.filled.specs.Filled.{Stored}
use Rattle.filled.proofs.Filling.{stored_both}
use Rattle.text.specs.Text.{sign, text}
use Rattle.text.proofs.Signs.{text_append}
use Rattle.console_log.specs.ConsoleLog.{Word, line_in}
use Rattle.console_log.proofs.OwnBoards.{line_append}
use Rattle.console_text.specs.Shows.{beside, one_text, line, size}

-- nothing stored
pub stored_none : (at : ℕ) (run : List ℕ) → Stored at [] run at run
stored_none at run = record { behind = omega arith; stored = rw (append-nil, add-zero) (sym (take-append-drop at run)) }

-- what is stored where it fits leaves the run as long as it was
pub stored_length : (at : ℕ) (new run : List ℕ) (r : ℕ) (after : List ℕ)
    → at + length new ≤ length run → Stored at new run r after → length after ≡ length run
stored_length at new run r after h s =
    ap length s.stored
    ∙ length-append (take at run ++ new) (drop (at + length new) run)
    ∙ ap (λ (n : ℕ). n + length (drop (at + length new) run)) (length-append (take at run) new)
    ∙ (rw (length-take-le at run (omega arith), length-drop) (omega arith))

-- a word that is the keyboard's, and one that is not
pub own_text : (k board word : ℕ) → board ≡ k → one_text k board word ≡ sign word
unfolding text
own_text k board word e = rw (eq-eqb board k e, append-nil)

pub no_text : (k board word : ℕ) → (board ≡ k → ⊥) → one_text k board word ≡ []
unfolding text
no_text k board word e = rw (ne_eqb board k e)

pub length_beside : (boards words : List ℕ) → length boards ≡ length words → length (beside boards words) ≡ length words
length_beside [] [] h = refl
length_beside [] (w ∷ words) h = absurd (omega arith)
length_beside (b ∷ boards) [] h = absurd (omega arith)
length_beside (b ∷ boards) (w ∷ words) h = ap suc (length_beside boards words (omega arith))

no_word : Word
no_word = record { board = 0; word = 0 }

word_at : (boards words : List ℕ) (i : ℕ) → i < length words → length boards ≡ length words
    → get_or (beside boards words) i no_word ≡ record { board = get_or boards i 0; word = get_or words i 0 }
word_at [] [] i h e = absurd (omega arith)
word_at [] (w ∷ words) i h e = absurd (omega arith)
word_at (b ∷ boards) [] i h e = absurd (omega arith)
word_at (b ∷ boards) (w ∷ words) zero h e = refl
word_at (b ∷ boards) (w ∷ words) (suc i) h e = word_at boards words i (omega arith) (omega arith)

module _ (boards words : List ℕ) (k : ℕ) where
  -- the text of the line among the first i words
  abbrev pub front : ℕ → List ℕ
  front i = text (line_in k (take i (beside boards words)))

  pub front_shorter : (i : ℕ) → length (front i) ≤ size k boards words
  front_shorter i =
      let ws = beside boards words in
      let e : length (front i) + length (text (line_in k (drop i ws))) ≡ size k boards words =
      sym (length-append (front i) (text (line_in k (drop i ws))))
      ∙ ap length (sym (text_append (line_in k (take i ws)) (line_in k (drop i ws))))
      ∙ ap (λ (l : List ℕ). length (text l)) (sym (line_append k (take i ws) (drop i ws)))
      ∙ ap (λ (l : List Word). length (text (line_in k l))) (take-append-drop i ws) in
      omega arith

  pub record Picking (run : List ℕ) (at : ℕ) (out : List ℕ) (next i : ℕ) : Type 0 where
    pub passed : i ≤ length words
    pub holds : Stored at (front i) run next out

  pub begun : (run : List ℕ) (at : ℕ) → Picking run at run at 0
  unfolding text
  begun run at = record { passed = omega arith; holds = stored_none at run }

  module _ (same : length boards ≡ length words) where
    one_more : (i : ℕ) → i < length words → front (i + 1) ≡ front i ++ one_text k (get_or boards i 0) (get_or words i 0)
    one_more i h =
        rw (
          add-one,
          take-suc (beside boards words) i no_word (rw (length_beside boards words same) h),
          word_at boards words i h same,
          line_append,
          text_append,
        )

    front_all : (i : ℕ) → length words ≤ i → front i ≡ text (line k boards words)
    front_all i h = rw (take_all i (beside boards words) (rw (length_beside boards words same) h))

    module _ (run : List ℕ) (at : ℕ) (fits : at + size k boards words ≤ length run)
        (out : List ℕ) (next i : ℕ) (p : Picking run at out next i) where
      pub same_length : length out ≡ length run
      same_length = stored_length at (front i) run next out (omega (arith, front_shorter i)) p.holds

      pub next_fits : i < length words → next + length (one_text k (get_or boards i 0) (get_or words i 0)) ≤ length out
      next_fits h =
          let new = one_text k (get_or boards i 0) (get_or words i 0) in
          let f : length (front (i + 1)) ≡ length (front i) + length new = ap length (one_more i h) ∙ length-append (front i) new in
          omega (arith, same_length, front_shorter (i + 1), p.holds.behind)

      pub taken : i < length words
          → (r : ℕ) (after : List ℕ) → Stored next (one_text k (get_or boards i 0) (get_or words i 0)) out r after
          → Picking run at after r (i + 1)
      taken h r after s =
          record {
            passed = omega arith;
            holds = rw (one_more i h)
                (stored_both at (front i) (one_text k (get_or boards i 0) (get_or words i 0)) run next out r after
                (omega (arith, front_shorter i)) p.holds s);
          }

      pub all_taken : length words ≤ i → Stored at (text (line k boards words)) run next out
      all_taken h = rw (← front_all i h) p.holds
