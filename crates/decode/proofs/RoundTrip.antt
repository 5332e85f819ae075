-- What was written as UTF-8 reads back: decoding the UTF-8 of words gives these words.
use Prim.Native.Nat.{ℕ, ◌+◌, ◌/◌, ◌%◌, ◌<◌, ◌≤◌}
use native.Mathlib.Omega.{arith}
use borrow.Author.Tests.{le-leb, eq-eqb, ne_eqb, ltb-true, ltb-false}
use mathlib.Core.Bool.{true, false}
use mathlib.Core.Path.{◌≡◌, refl, ap, ◌∙◌}
use mathlib.Core.List.{List, [], ◌∷◌, ◌++◌}
use lib.Dec.{ltb}
use lib.ListN.{length, drop, length-append}
use lib.Seq.{drop_at}
use Rattle.choice.proofs.Choices.{by_test}
use Rattle.text.specs.Utf8.{utf8}
use Rattle.text.specs.Text.{text}
use Rattle.text.proofs.Signs.{sign_other}
use Rattle.decode.specs.Sequences.{continues, joined, within, surrogate, two, three, front}
use Rattle.decode.specs.Decoding.{words, followed_by, decoded_from, decoded}
use Rattle.decode.specs.Sequences.{Word}
use Rattle.decode.proofs.Passing.{next_word, at_end}

-- a code point that a word holds and that is no surrogate
pub record Character (w : ℕ) : Type 0 where
  pub small : w < 0x10000
  pub no_surrogate : surrogate w ≡ false

abbrev pub Characters : List ℕ → Type 0
Characters [] = Unit {0}
Characters (w ∷ ws) = Character w × Characters ws

unfoldable pub all_utf8 : List ℕ → List ℕ
all_utf8 [] = []
all_utf8 (w ∷ ws) = utf8 w ++ all_utf8 ws

front_one : (w : ℕ) (s : List ℕ) → w < 0x80 → front (w ∷ s) ≡ Word w 0
unfolding front
front_one w s h = rw (eq-eqb (w / 128) 0 (omega arith))

front_two : (w : ℕ) (s : List ℕ) → 0x80 ≤ w → w < 0x800
    → front ((192 + w / 64) ∷ (128 + w % 64) ∷ s) ≡ Word w 1
unfolding front two continues within
front_two w s h k =
    let a : ℕ = 192 + w / 64 in
    let b : ℕ = 128 + w % 64 in
    let v : joined (a % 32) b ≡ w = omega arith in
    rw (
      ne_eqb (a / 128) 0 (omega arith),
      eq-eqb (a / 32) 6 (omega arith),
      eq-eqb (b / 64) 2 (omega arith),
      v,
      le-leb 0x80 w h,
      le-leb w 0x7FF (omega arith),
    )

in_range : (w : ℕ) → 0x800 ≤ w → w < 0x10000 → within 0x800 0xFFFF w ≡ true
unfolding within
in_range w h k = rw (le-leb 0x800 w h, le-leb w 0xFFFF (omega arith))

front_three : (w : ℕ) (s : List ℕ) → 0x800 ≤ w → Character w
    → front ((224 + w / 4096) ∷ (128 + w / 64 % 64) ∷ (128 + w % 64) ∷ s) ≡ Word w 2
unfolding front three continues
front_three w s h k =
    let l : w < 0x10000 = k.small in
    let a : ℕ = 224 + w / 4096 in
    let b : ℕ = 128 + w / 64 % 64 in
    let c : ℕ = 128 + w % 64 in
    let v : joined (joined (a % 16) b) c ≡ w = omega arith in
    let i : within 0x800 0xFFFF w ≡ true = in_range w h l in
    rw (
      ne_eqb (a / 128) 0 (omega arith),
      ne_eqb (a / 32) 6 (omega arith),
      eq-eqb (a / 16) 14 (omega arith),
      eq-eqb (b / 64) 2 (omega arith),
      eq-eqb (c / 64) 2 (omega arith),
      v,
      i,
      k.no_surrogate,
    )

-- one word's bytes, and what follows them
ReadAt : (at w : ℕ) (s bytes : List ℕ) → Type 0
ReadAt at w s bytes = decoded_from at 0 (bytes ++ s) ≡ followed_by w (decoded_from (at + length bytes) 0 s)

read_form : (at w : ℕ) (s bytes : List ℕ) (more : ℕ)
    → length bytes ≡ more + 1 → front (bytes ++ s) ≡ Word w more → ReadAt at w s bytes
unfolding ReadAt
read_form at w s bytes more e f =
    let h : 0 < length (bytes ++ s) = omega (arith, length-append bytes s) in
    let g : drop (more + 1) (bytes ++ s) ≡ s = drop_at bytes s (more + 1) e in
    next_word at (bytes ++ s) w more h f ∙ rw (g, e)

read_word : (at w : ℕ) (s : List ℕ) → Character w → ReadAt at w s (utf8 w)
unfolding utf8
read_word at w s k =
    by_test (ReadAt at w s) (ltb w 128) (λ e. read_form at w s _ 0 refl (front_one w s (ltb-true w 128 e)))
    (λ e. by_test (ReadAt at w s) (ltb w 2048)
    (λ f. read_form at w s _ 1 refl (front_two w s (ltb-false w 128 e) (ltb-true w 2048 f)))
    (λ f. read_form at w s _ 2 refl (front_three w s (ltb-false w 2048 f) k)))

read_from : (at : ℕ) (ws : List ℕ) → Characters ws → decoded_from at 0 (all_utf8 ws) ≡ words ws
unfolding all_utf8 ReadAt
read_from at [] k = at_end at
read_from at (w ∷ ws) k =
    read_word at w (all_utf8 ws) k.0 ∙ ap (followed_by w) (read_from (at + length (utf8 w)) ws k.1)

pub reads_back : (ws : List ℕ) → Characters ws → decoded (all_utf8 ws) ≡ words ws
reads_back ws k = read_from 0 ws k

-- The text that `text` gives for a line with no marks is such UTF-8.
abbrev pub WithoutMarks : List ℕ → Type 0
WithoutMarks [] = Unit {0}
WithoutMarks (w ∷ ws) = (w ≡ 1 → ⊥) × (w ≡ 2 → ⊥) × WithoutMarks ws

plain_text : (ws : List ℕ) → WithoutMarks ws → text ws ≡ all_utf8 ws
unfolding text all_utf8
plain_text [] h = refl
plain_text (w ∷ ws) h = rw (sign_other w h.0 h.1, plain_text ws h.2)

pub text_reads_back : (ws : List ℕ) → Characters ws → WithoutMarks ws → decoded (text ws) ≡ words ws
text_reads_back ws k h = rw (plain_text ws h) (reads_back ws k)
