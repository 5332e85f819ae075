-- What a text gives, put together from what decoding and the writer answer.
use Prim.Native.Nat.{ℕ, zero, suc, ◌+◌, ◌≤◌}
use native.Mathlib.Omega.{arith}
use borrow.Author.Tests.{leb-true, le-leb}
use mathlib.Core.List.{List, [], ◌∷◌}
use mathlib.Core.Option.{Option, none, some}
use mathlib.Core.Path.{◌≡◌, refl, sym, ◌∙◌}
use lib.Dec.{eqb, leb}
use lib.ListN.{length}
use Rattle.std.specs.Prelude.{Err}
use Rattle.rules.specs.Numbers.{in_range}
use Rattle.rules.specs.declared.Settings.{Settings}
use Rattle.choice.proofs.Choices.{both_ways, by_test}
use Rattle.decode.specs.Sequences.{front, Sequence}
use Rattle.decode.specs.Sequences as sequence
use Rattle.decode.specs.Decoding.{Decoding, words, damaged, followed_by, beginning, decoded_from, decoded, answer_of, Decodes}
use Rattle.decode.specs.declared.DecodeError.TheVariants.{NoRoom}
use Rattle.writer.specs.declared.Drilled.{Drilled}
use Rattle.writer.specs.Drills.{Refused, drill, first_refused, check_line, writing}
use Rattle.drill.specs.Texts.{told, Within}

-- no text has more words than bytes: one sequence, if what follows it has not
module _ (at : ℕ) (s : List ℕ) (fewer : (more : ℕ) (us : List ℕ) → decoded_from (at + 1) more s ≡ words us → length us ≤ length s)
    (ws : List ℕ) where
  after_word : (w more : ℕ) (d : Decoding) → decoded_from (at + 1) more s ≡ d → followed_by w d ≡ words ws → length ws ≤ suc (length s)
  after_word w more (words us) f g =
      let h : w ∷ us ≡ ws = cc in
      let k : length us ≤ length s = fewer more us f in
      rw (← h) (omega arith)
  after_word w more (damaged p) f g = absurd (let z : ◌≡◌ {A = ℕ} 0 1 = cc in omega arith)

  after_front : (q : Sequence) → beginning at q (λ more. decoded_from (at + 1) more s) ≡ words ws → length ws ≤ suc (length s)
  after_front sequence.Damaged f = absurd (let z : ◌≡◌ {A = ℕ} 0 1 = cc in omega arith)
  after_front (sequence.Word w more) f = after_word w more (decoded_from (at + 1) more s) refl f

fewer_words : (at k : ℕ) (s ws : List ℕ) → decoded_from at k s ≡ words ws → length ws ≤ length s
unfolding decoded_from
fewer_words at k [] ws e = let f : [] ≡ ws = cc in rw (← f) (omega arith)
fewer_words at (suc k) (b ∷ s) ws e = let h : length ws ≤ length s = fewer_words (at + 1) k s ws e in omega arith
fewer_words at zero (b ∷ s) ws e =
    after_front at s (λ more us f. fewer_words (at + 1) more s us f) ws (front (b ∷ s)) e

-- so they fit a run that is as long
pub has_room : (bytes run : List ℕ) → length bytes ≤ length run → answer_of (length run) (decoded bytes) ≡ Err NoRoom → ⊥
has_room bytes run few e = by_words (decoded bytes) refl e
  where
    by_words : (x : Decoding) → decoded bytes ≡ x → answer_of (length run) x ≡ Err NoRoom → ⊥
    by_words (words ws) f g =
        let h = le-leb (length ws) (length run) (omega (arith, fewer_words 0 0 bytes ws f)) in
        let k = rw h at g in
        cc
    by_words (damaged p) f g = cc

-- the bytes that the writer counts lie within the run
pub within_room : (s : Settings) (line : List ℕ) (room : ℕ) → Within room (told (writing s line room))
unfolding writing
within_room s line room = both_ways P (in_range s) (by_first (first_refused 0 line)) tt
  where
    P : Drilled → Type 0
    P d = Within room (told d)

    by_first : (o : Option Refused) → P (check_line (length (drill s line)) room (length line) o)
    by_first none = by_test P (leb (length (drill s line)) room) (λ t. leb-true (length (drill s line)) room t) (λ t. tt)
    by_first (some r) = both_ways (Within room) (eqb r.number 0) (omega arith) tt
