-- Laws of the text of words: by which form a word goes, and a line that grows by a word.
use Prim.Native.Nat.{ℕ, ◌+◌, ◌*◌, ◌≤◌, ◌<◌}
use native.Mathlib.Numerals.{add-one}
use native.Mathlib.Omega.{arith}
use borrow.Author.Tests.{ne_eqb}
use mathlib.Core.Path.{◌≡◌, refl, sym, ap, ◌∙◌}
use mathlib.Core.List.{List, [], ◌∷◌, ◌++◌, append_assoc, append-nil}
use lib.Dec.{ltb, eqb}
use lib.ListN.{length, take, drop, get_or, length-append, take-append-drop}
use lib.Seq.{take-suc}
use Rattle.choice.proofs.Choices.{both_ways}
use Rattle.filled.specs.Filled.{filled}
use Rattle.filled.proofs.Filling.{filled_more, length_filled}
use Rattle.text.specs.Utf8.{utf8}
use Rattle.text.specs.Text.{sign, text}
use Rattle.text.specs.Puts.{Puts}
use Rattle.std.proofs.Common.{sum_by}
use Rattle.std.proofs.lemmas.List.Sums.{sum_by-cons}

pub sign_other : (w : ℕ) → (w ≡ 1 → ⊥) → (w ≡ 2 → ⊥) → sign w ≡ utf8 w
unfolding sign
sign_other w h k = rw (ne_eqb w 1 h, ne_eqb w 2 k)

-- a word takes at most three bytes
utf8_short : (w : ℕ) → length (utf8 w) ≤ 3
unfolding utf8
utf8_short w =
    both_ways (λ (l : List ℕ). length l ≤ 3) (ltb w 128) (omega arith)
    (both_ways (λ (l : List ℕ). length l ≤ 3) (ltb w 2048) (omega arith) (omega arith))

sign_short : (w : ℕ) → length (sign w) ≤ 3
unfolding sign
sign_short w =
    both_ways (λ (l : List ℕ). length l ≤ 3) (eqb w 1) (omega arith)
    (both_ways (λ (l : List ℕ). length l ≤ 3) (eqb w 2) (omega arith) (utf8_short w))

pub text_short : (ws : List ℕ) → length (text ws) ≤ 3 * length ws
unfolding text
text_short [] = omega arith
text_short (w ∷ ws) = omega (arith, length-append (sign w) (text ws), sign_short w, text_short ws)

-- a line's bytes are those of its words together
pub text_length : (ws : List ℕ) → length (text ws) ≡ sum_by (λ w. length (sign w)) ws
unfolding text
text_length [] = refl
text_length (w ∷ ws) = rw (length-append, text_length ws, sum_by-cons)

pub text_append : (a b : List ℕ) → text (a ++ b) ≡ text a ++ text b
unfolding text
text_append [] b = refl
text_append (w ∷ a) b = rw (text_append a b, append_assoc)

-- a line with one word more
pub text_more : (ws : List ℕ) (i : ℕ) → i < length ws → text (take (i + 1) ws) ≡ text (take i ws) ++ sign (get_or ws i 0)
unfolding text
text_more ws i h = rw (add-one, take-suc ws i 0, text_append, append-nil)

-- a line's front takes no more bytes than the line
pub front_shorter : (ws : List ℕ) (i : ℕ) → length (text (take i ws)) ≤ length (text ws)
front_shorter ws i =
    let e : length (text (take i ws)) + length (text (drop i ws)) ≡ length (text ws) =
    sym (length-append (text (take i ws)) (text (drop i ws)))
    ∙ ap length (sym (text_append (take i ws) (drop i ws)))
    ∙ ap (λ l. length (text l)) (take-append-drop i ws) in
    omega arith

-- What holds in the loop of `encode`: the run is filled with the text of the first i words.
pub record Writing (words run out : List ℕ) (at i : ℕ) : Type 0 where
  pub passed : i ≤ length words
  pub place : at ≡ length (text (take i words))
  pub holds : out ≡ filled (text (take i words)) run

-- before the first word
pub begun : (words run : List ℕ) → Writing words run run 0 0
unfolding text
begun words run = record { passed = omega arith; place = refl; holds = refl }

-- n is the size that `encode` found, and the run has room for it
module _
    (words run : List ℕ) (n : ℕ) (counted : n ≡ length (text words))
    (out : List ℕ) (at i : ℕ) (w : Writing words run out at i) (room : n ≤ length run)
  where
    pub same_length : length out ≡ length run
    same_length = rw w.holds (length_filled (text (take i words)) run (omega (arith, front_shorter words i)))

    -- the next word's text fits
    pub next_fits : i < length words → at + length (sign (get_or words i 0)) ≤ length out
    next_fits h =
        let e : length (text (take (i + 1) words)) ≡ length (text (take i words)) + length (sign (get_or words i 0)) =
        ap length (text_more words i h) ∙ length-append (text (take i words)) (sign (get_or words i 0)) in
        omega (arith, same_length, front_shorter words (i + 1), w.place)

    pub written_more : i < length words
        → (next : ℕ) (after : List ℕ) → Puts at (sign (get_or words i 0)) out next after → Writing words run after next (i + 1)
    written_more h next after p =
        let s = p.fits (next_fits h) in
        record {
          passed = omega arith;
          place = s.behind ∙ rw (text_more words i h, length-append, w.place);
          holds = s.stored ∙ rw (w.holds, w.place, filled_more, text_more words i h);
        }
