-- Laws of decoding from sequence to sequence, as the loops do it.
use Prim.Native.Nat.{ℕ, zero, suc, ◌+◌, ◌-◌, ◌<◌, ◌≤◌}
use native.Mathlib.Numerals.{add-one}
use native.Mathlib.Omega.{arith}
use mathlib.Core.Path.{◌≡◌, refl, sym, ap, ◌∙◌}
use mathlib.Core.List.{List, [], ◌∷◌, ◌++◌, append_assoc}
use lib.ListN.{length, take, drop, set, length-append, length-drop}
use lib.Seq.{take_all, drop-nil, drop-drop}
use Rattle.filled.specs.Filled.{filled}
use Rattle.filled.proofs.Filling.{filled_more, length_filled, stored_1}
use Rattle.decode.specs.Sequences.{front}
use Rattle.decode.specs.Decoding.{Decoding, words, damaged, followed_by, decoded_from, decoded, Fits}
use Rattle.decode.specs.Sequences.{Damaged, Word, sequence_of}
use Rattle.decode.specs.declared.sequence.Sequence as code
use Rattle.decode.specs.declared.DecodeError.{DecodeError}
use Rattle.decode.specs.declared.words.Words.{Words}
use Rattle.decode.specs.Words.{left, Gives}
use Rattle.std.proofs.lemmas.List.{drop_all}
use Rattle.std.proofs.Common.{Option, Some, None, Result, Ok}
use Rattle.decode.proofs.Fronts.{follow}

-- the bytes that belong to a sequence that was read are dropped
passing : (at k : ℕ) (s : List ℕ) → decoded_from at k s ≡ decoded_from (at + k) 0 (drop k s)
unfolding decoded_from
passing at k [] = rw (drop-nil k)
passing at zero (b ∷ s) = ap (λ n. decoded_from n 0 (b ∷ s)) (omega arith)
passing at (suc k) (b ∷ s) = passing (at + 1) k s ∙ ap (λ n. decoded_from n 0 (drop k s)) (omega arith)

pub next_word : (at : ℕ) (s : List ℕ) (w more : ℕ)
    → 0 < length s → front s ≡ Word w more
    → decoded_from at 0 s ≡ followed_by w (decoded_from (at + (more + 1)) 0 (drop (more + 1) s))
unfolding decoded_from
next_word at [] w more h e = absurd (omega arith)
next_word at (b ∷ s) w more h e =
    let f : at + 1 + more ≡ at + suc more = omega arith in
    let g : decoded_from (at + 1) more s ≡ decoded_from (at + (more + 1)) 0 (drop (more + 1) (b ∷ s)) =
    rw (add-one more, ← f) (passing (at + 1) more s) in
    rw e (ap (followed_by w) g)

next_damage : (at : ℕ) (s : List ℕ) → 0 < length s → front s ≡ Damaged → decoded_from at 0 s ≡ damaged at
unfolding decoded_from
next_damage at [] h e = absurd (omega arith)
next_damage at (b ∷ s) h e = rw e

pub at_end : (at : ℕ) → decoded_from at 0 [] ≡ words []
unfolding decoded_from
at_end at = refl

pub none_left : (bytes : List ℕ) (at : ℕ) → length bytes ≤ at → decoded_from at 0 (drop at bytes) ≡ words []
none_left bytes at h = rw (drop_all at bytes h, at_end at)

-- words, and then what follows them
abbrev before : List ℕ → Decoding → Decoding
before ws (words more) = words (ws ++ more)
before ws (damaged at) = damaged at

before_nil : (d : Decoding) → d ≡ before [] d
before_nil (words ws) = refl
before_nil (damaged at) = refl

before_more : (ws : List ℕ) (w : ℕ) (d : Decoding) → before ws (followed_by w d) ≡ before (ws ++ (w ∷ [])) d
before_more ws w (words more) = rw (append_assoc ws (w ∷ []) more)
before_more ws w (damaged at) = refl

-- the sequence at the front of what is left from a position on
module _ (bytes : List ℕ) (at : ℕ) (h : at < length bytes) (r : Option code.Sequence)
    (found : sequence_of r ≡ front (take (length bytes - at) (drop at bytes))) where
  rest_long : 0 < length (drop at bytes)
  rest_long = rw (length-drop at bytes) (omega arith)

  in_front : front (drop at bytes) ≡ sequence_of r
  in_front = rw (take_all (length bytes - at) (drop at bytes) (rw (length-drop at bytes) (omega arith))) at (sym found)

  pub gives_damage : r ≡ None → decoded_from at 0 (drop at bytes) ≡ damaged at
  gives_damage e = next_damage at (drop at bytes) rest_long (in_front ∙ ap sequence_of e)

  module _ (s : code.Sequence) (e : r ≡ Some s) where
    pub inside : at + s.more + 1 ≤ length bytes
    inside =
        let k : s.more < length (drop at bytes) = follow (drop at bytes) s.word s.more rest_long (in_front ∙ ap sequence_of e) in
        omega (arith, length-drop at bytes)

    pub gives_word : decoded_from at 0 (drop at bytes)
        ≡ followed_by s.word (decoded_from (at + s.more + 1) 0 (drop (at + s.more + 1) bytes))
    gives_word =
        let f : at + (s.more + 1) ≡ at + s.more + 1 = omega arith in
        rw (drop-drop (s.more + 1) at bytes, f) at (next_word at (drop at bytes) s.word s.more rest_long (in_front ∙ ap sequence_of e))

-- What holds in both loops: n words were read, and then there is what is left.
pub record Read (bytes : List ℕ) (w : Words) (n : ℕ) : Type 0 where
  pub so_far : List ℕ
  pub counted : n ≡ length so_far
  pub then_left : decoded bytes ≡ before so_far (left w)
  pub fewer : n + (length w.bytes.now - w.at) ≤ length bytes

module _ (bytes : List ℕ) (w : Words) (n : ℕ) where
  pub begun : w.bytes.now ≡ bytes → w.at ≡ 0 → n ≡ 0 → Read bytes w n
  begun e f g = record { so_far = []; counted = g; then_left = before_nil (decoded bytes) ∙ rw (e, f); fewer = rw (e, f, g) (omega arith) }

  module _ (p : Read bytes w n) where
    -- the iterator gave a word
    pub goes_on : (v : Words) (r : Result ℕ DecodeError) (c : ℕ) → r ≡ Ok c → Gives w (Some r) v
        → length v.bytes.now - v.at < length w.bytes.now - w.at → Read bytes v (n + 1)
    goes_on v r c e given less =
        let next : left w ≡ followed_by c (left v) = rw e at given in
        record {
          so_far = p.so_far ++ (c ∷ []);
          counted = rw (length-append p.so_far (c ∷ []), p.counted);
          then_left = p.then_left ∙ ap (before p.so_far) next ∙ before_more p.so_far c (left v);
          fewer = omega (arith, p.fewer);
        }

-- What holds in the loop of `fill` besides: the run is filled with those words.
pub record Filling (bytes run out : List ℕ) (w : Words) (n : ℕ) : Type 0 where
  pub read : Read bytes w n
  pub holds : out ≡ filled read.so_far run

pub empty : (bytes run : List ℕ) (w : Words) (n : ℕ) → w.bytes.now ≡ bytes → w.at ≡ 0 → n ≡ 0 → Filling bytes run run w n
unfolding begun
empty bytes run w n e f g = record { read = begun bytes w n e f g; holds = refl }

filled_next : (ws run out : List ℕ) (n c : ℕ)
    → n ≡ length ws → out ≡ filled ws run → n + 1 ≤ length out → set out n c ≡ filled (ws ++ (c ∷ [])) run
filled_next ws run out n c e f h = stored_1 out n c h ∙ rw (f, e) (filled_more ws (c ∷ []) run)

fits_front : (room : ℕ) (ws : List ℕ) (d : Decoding) → Fits room (before ws d) → length ws ≤ room
fits_front room ws (words more) h = let k : length (ws ++ more) ≤ room = h in omega (arith, length-append ws more)
fits_front room ws (damaged at) h = absurd h

module _ (bytes run : List ℕ) (fit : Fits (length run) (decoded bytes)) where
  fewer_than_room : (w : Words) (n : ℕ) → Read bytes w n → n ≤ length run
  fewer_than_room w n p =
      let k : length p.so_far ≤ length run = fits_front (length run) p.so_far (left w) (rw p.then_left at fit) in
      omega (arith, p.counted)

  module _ (out : List ℕ) (w : Words) (n : ℕ) (f : Filling bytes run out w n) where
    pub same_length : length out ≡ length run
    same_length =
        rw f.holds (length_filled f.read.so_far run (omega (arith, fewer_than_room w n f.read, f.read.counted)))

    module _ (v : Words) (r : Result ℕ DecodeError) (c : ℕ) (e : r ≡ Ok c) (given : Gives w (Some r) v)
        (less : length v.bytes.now - v.at < length w.bytes.now - w.at) where
      pub next_fits : n < length out
      next_fits =
          let k : n + 1 ≤ length run = fewer_than_room v (n + 1) (goes_on bytes w n f.read v r c e given less) in
          omega (arith, same_length)

      pub fills_on : Filling bytes run (set out n c) v (n + 1)
      unfolding goes_on
      fills_on =
          record {
            read = goes_on bytes w n f.read v r c e given less;
            holds = filled_next f.read.so_far run out n c f.read.counted f.holds (omega (arith, next_fits));
          }
