-- What holds in the loop of `put_words`: the text of the words so far is stored.
use Prim.Native.Nat.{ℕ, ◌+◌, ◌*◌, ◌-◌, ◌/◌, ◌%◌, ◌≤◌, ◌<◌}
use native.Mathlib.Omega.{arith}
use mathlib.Core.Path.{◌≡◌, refl, sym, ap, ap₂, ◌∙◌}
use mathlib.Core.List.{List, [], ◌∷◌, ◌++◌, append-nil, append_assoc}
use lib.ListN.{length, take, drop, get_or}
use lib.Seq.{take_all}
use Rattle.filled.specs.Filled.{Stored}
use Rattle.filled.proofs.Filling.{stored_both}
use Rattle.keylog.specs.Runs.{high_first, encoded}
use Rattle.text.specs.Puts.{Puts}
use Rattle.text.specs.Text.{sign, text}
use Rattle.text.proofs.Signs.{text_short, text_append}
use Rattle.opinion_text.specs.Verdict.{unpacked}

one_text : (w : ℕ) → text (w ∷ []) ≡ sign w
unfolding text
one_text w = append-nil (sign w)

sign_short : (w : ℕ) → length (sign w) ≤ 3
sign_short w = omega (arith, text_short (w ∷ []), ap length (one_text w))

-- words as bytes, and back
pub unpacked_back : (ws : List ℕ) → unpacked (encoded high_first ws) ≡ ws
unfolding unpacked encoded
unpacked_back [] = refl
unpacked_back (w ∷ ws) =
    let e : w / 256 * 256 + w % 256 ≡ w = omega arith in
    ap₂ (λ (v : ℕ) (l : List ℕ). v ∷ l) e (unpacked_back ws)

-- the word at the front
abbrev pub first_word : List ℕ → ℕ
first_word rest = get_or rest 0 0 * 256 + get_or rest 1 0

two_off : (high low : ℕ) (bytes : List ℕ) → take (length (high ∷ low ∷ bytes) - 2) bytes ≡ bytes
two_off high low bytes = take_all (length (high ∷ low ∷ bytes) - 2) bytes (omega arith)

one_more : (rest : List ℕ) → 2 ≤ length rest → unpacked rest ≡ first_word rest ∷ unpacked (take (length rest - 2) (drop 2 rest))
unfolding unpacked
one_more [] h = absurd (omega arith)
one_more (b ∷ []) h = absurd (omega arith)
one_more (high ∷ low ∷ bytes) h =
    ap (λ (l : List ℕ). (high * 256 + low) ∷ unpacked l) (sym (two_off high low bytes))

none_left : (rest : List ℕ) → length rest < 2 → unpacked rest ≡ []
unfolding unpacked
none_left [] h = refl
none_left (b ∷ []) h = refl
none_left (high ∷ low ∷ bytes) h = absurd (omega arith)

shorter : (rest : List ℕ) → 2 ≤ length rest → length (take (length rest - 2) (drop 2 rest)) ≡ length rest - 2
shorter [] h = absurd (omega arith)
shorter (b ∷ []) h = absurd (omega arith)
shorter (high ∷ low ∷ bytes) h =
    ap length (two_off high low bytes) ∙ omega arith

pub record Unpacking (packed run out : List ℕ) (at : ℕ) (rest : List ℕ) : Type 0 where
  pub words : List ℕ
  pub splits : unpacked packed ≡ words ++ unpacked rest
  pub holds : Stored 0 (text words) run at out
  pub long : length out ≡ length run
  pub few : at + 3 * (length rest / 2) ≤ 3 * (length packed / 2)

pub begun : (packed run : List ℕ) → Unpacking packed run run 0 packed
unfolding text
begun packed run =
    record { words = []; splits = refl; holds = record { behind = refl; stored = refl }; long = refl; few = omega arith }

module _ (packed run : List ℕ) (fits : 3 * (length packed / 2) ≤ length run) (out : List ℕ) (at : ℕ) (rest : List ℕ)
    (u : Unpacking packed run out at rest) where
  module _ (more : 2 ≤ length rest) (w : ℕ) (is-w : w ≡ first_word rest) where
    next_fits : at + length (sign w) ≤ length out
    next_fits = omega (arith, sign_short w, u.few, u.long)

    pub taken : (r : ℕ) (after : List ℕ) → length after ≡ length out → Puts at (sign w) out r after
        → Unpacking packed run after r (take (length rest - 2) (drop 2 rest))
    taken r after kept p =
        let s = p.fits next_fits in
        let both = stored_both 0 (text u.words) (sign w) run at out r after (omega arith) u.holds s in
        record {
          words = u.words ++ (w ∷ []);
          splits = u.splits ∙ rw (one_more rest more, ← is-w) (sym (append_assoc u.words (w ∷ []) _));
          holds = rw (text_append u.words (w ∷ []), one_text w) both;
          long = kept ∙ u.long;
          few = omega (arith, sign_short w, u.few, s.behind, shorter rest more);
        }

  pub all_taken : length rest < 2 → Stored 0 (text (unpacked packed)) run at out × (at ≤ 3 * (length packed / 2))
  all_taken h =
      let e : unpacked packed ≡ u.words = u.splits ∙ rw (none_left rest h) (append-nil u.words) in
      (rw e u.holds, omega (arith, u.few))

pub less : (rest : List ℕ) → 2 ≤ length rest → length (take (length rest - 2) (drop 2 rest)) < length rest
less rest h = omega (arith, shorter rest h)
