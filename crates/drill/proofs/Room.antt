-- The run that the program lends has room for every log.
use Prim.Native.Nat.{ℕ, zero, suc, ◌+◌, ◌*◌, ◌/◌, ◌%◌, ◌≤◌, ◌<◌}
use native.Mathlib.Omega.{arith}
use borrow.Author.Tests.{eqb-true, ltb-true, ltb-false, leb-true, le-leb}
use mathlib.Core.Bool.{Bool, true, false, not, ◌&&◌, false≢true}
use mathlib.Core.List.{List, [], ◌∷◌}
use mathlib.Core.Option.{Option, none, some}
use mathlib.Core.Path.{◌≡◌, refl}
use lib.Dec.{eqb, leb, ltb}
use lib.ListN.{length, take, length-append, length-take}
use Rattle.rules.specs.Numbers.{largest_stamp, in_range}
use Rattle.rules.specs.declared.Settings.{Settings}
use Rattle.rules.specs.declared.Stamp.{Stamp}
use Rattle.rules.specs.declared.Face.{Face}
use Rattle.rules.specs.declared.Face.TheVariants.{Plain, With}
use Rattle.rules.specs.declared.Event.{Event}
use Rattle.choice.proofs.Choices.{both_ways, by_test}
use Rattle.lookup.specs.Places.{Place, place_of}
use Rattle.lookup.proofs.Table.{below_table}
use Rattle.decode.specs.Sequences.{Sequence, Damaged, Word, continues, joined, within, surrogate, two, three, four, byte, front}
use Rattle.decode.specs.Decoding.{Decoding, words, damaged, followed_by, beginning, decoded_from, decoded}
use Rattle.decode.proofs.Fronts.{follow}
use Rattle.writer.specs.Drills.{settings_record, event_record, event_records, strokes, drill_stamp, line_events, drill}
use Rattle.writer.specs.Drills.{Refused, check_character, first_of, first_refused, check_line, writing}
use Rattle.drill.specs.Texts.{Answer, longest_text, line_size, line_of, told, answer_of, Drills, Within}
use Rattle.drill.specs.Room.{log_room, RoomSuffices}
use Rattle.drill.specs.Room as answered
use Rattle.drill.proofs.Answering.{within_room}

-- The log of a line: 8 bytes, and at most five records of 13 for each character.

records_long : (es : List Event) → length (event_records es) ≡ 13 * length es
records_long [] = refl
records_long (e ∷ es) = rw (length-append (event_record e) (event_records es), records_long es) (omega arith)

few_strokes : (t : Stamp) (o : Option Place) → length (strokes t o) ≤ 5
few_strokes t none = omega arith
few_strokes t (some p) = by_face p.face
  where
    by_face : (f : Face) → length (strokes t (some (record { key = p.key; face = f }))) ≤ 5
    by_face Plain = omega arith
    by_face (With O) = omega arith

few_events : (n : ℕ) (line : List ℕ) → length (line_events n line) ≤ 5 * length line
few_events n [] = omega arith
few_events n (c ∷ cs) =
    rw (length-append (strokes (drill_stamp n) (place_of c)) (line_events (suc n) cs))
    (omega (arith, few_strokes (drill_stamp n) (place_of c), few_events (suc n) cs))

short_log : (s : Settings) (line : List ℕ) → length (drill s line) ≤ 8 + 65 * length line
unfolding drill
short_log s line =
    rw (length-append (settings_record s) (event_records (line_events 0 line)), records_long (line_events 0 line))
    (omega (arith, few_events 0 line))

-- Every character that is accepted has three bytes of UTF-8.

abbrev Wide : List ℕ → Type 0
Wide [] = Unit {0}
Wide (w ∷ ws) = (0x800 ≤ w) × Wide ws

on_a_face : (n c : ℕ) → check_character n (place_of c) ≡ none → 0x800 ≤ c
on_a_face n c e = by_size (ltb c 0x3000) refl
  where
    by_size : (t : Bool) → ltb c 0x3000 ≡ t → 0x800 ≤ c
    by_size true h =
        let low : c < 0x3000 = ltb-true c 0x3000 h in
        let f : check_character n none ≡ none = rw (← below_table c (λ z. omega arith) (λ z. omega arith) low) at e in
        absurd (let z : ◌≡◌ {A = ℕ} 0 1 = cc in omega arith)
    by_size false h = omega (arith, ltb-false c 0x3000 h)

both_none : (a b : Option Refused) → first_of a b ≡ none → (a ≡ none) × (b ≡ none)
both_none none b e = (refl, e)
both_none (some r) b e = absurd (let z : ◌≡◌ {A = ℕ} 0 1 = cc in omega arith)

accepted_wide : (n : ℕ) (line : List ℕ) → first_refused n line ≡ none → Wide line
unfolding first_refused
accepted_wide n [] e = tt
accepted_wide n (c ∷ cs) e =
    let f = both_none (check_character n (place_of c)) (first_refused (suc n) cs) e in
    (on_a_face n c f.0, accepted_wide (suc n) cs f.1)

-- a sequence of fewer bytes gives no such word
abbrev Long : Sequence → Type 0
Long Damaged = Unit {0}
Long (Word w more) = 0x800 ≤ w → 2 ≤ more

second_of : (p q : Bool) → p && q ≡ true → q ≡ true
second_of true q e = e
second_of false q e = absurd (false≢true e)

within_most : (least most c : ℕ) → within least most c ≡ true → c ≤ most
unfolding within
within_most least most c e = leb-true c most (second_of (leb least c) (leb c most) e)

two_long : (a b : ℕ) → Long (two a b)
unfolding two
two_long a b =
    let v : ℕ = joined (a % 32) b in
    by_test Long (continues b && within 0x80 0x7FF v)
    (λ e h. absurd (omega (arith, within_most 0x80 0x7FF v (second_of (continues b) (within 0x80 0x7FF v) e)))) (λ e. tt)

three_long : (a b c : ℕ) → Long (three a b c)
unfolding three
three_long a b c =
    let v : ℕ = joined (joined (a % 16) b) c in
    both_ways Long (continues b && continues c && within 0x800 0xFFFF v && not (surrogate v)) (λ h. omega arith) tt

four_long : (a b c d : ℕ) → Long (four a b c d)
unfolding four
four_long a b c d =
    both_ways Long (continues b && continues c && continues d && within 0x10000 0x10FFFF (joined (joined (joined (a % 8) b) c) d))
    (λ h. omega arith) tt

front_long : (s : List ℕ) → Long (front s)
unfolding front
front_long s =
    let a : ℕ = byte 0 s in
    by_test Long (eqb (a / 128) 0b0) (λ e h. absurd (omega (arith, eqb-true (a / 128) 0 e)))
    (λ _. both_ways Long (eqb (a / 32) 0b110) (two_long a (byte 1 s))
    (both_ways Long (eqb (a / 16) 0b1110) (three_long a (byte 1 s) (byte 2 s))
    (both_ways Long (eqb (a / 8) 0b11110) (four_long a (byte 1 s) (byte 2 s) (byte 3 s)) tt)))

-- so many bytes of a text belong to a sequence before it, and each of its words has three more
module _ (at b : ℕ) (s : List ℕ)
    (less : (more : ℕ) (us : List ℕ) → decoded_from (at + 1) more s ≡ words us → Wide us → more ≤ length s
    → 3 * length us + more ≤ length s)
    (ws : List ℕ) (wide : Wide ws) where
  after_word : (w more : ℕ) (d : Decoding) → front (b ∷ s) ≡ Word w more → decoded_from (at + 1) more s ≡ d → followed_by w d ≡ words ws
      → 3 * length ws ≤ suc (length s)
  after_word w more (words us) f g h =
      let e : ws ≡ w ∷ us = cc in
      let wide-us : Wide (w ∷ us) = rw e at wide in
      let long : 2 ≤ more = (rw f at (front_long (b ∷ s))) wide-us.0 in
      let inside : more < suc (length s) = follow (b ∷ s) w more (omega arith) f in
      let k : 3 * length us + more ≤ length s = less more us g wide-us.1 (omega arith) in
      rw e (omega arith)
  after_word w more (damaged p) f g h = absurd (let z : ◌≡◌ {A = ℕ} 0 1 = cc in omega arith)

  after_front : (q : Sequence) → front (b ∷ s) ≡ q → beginning at q (λ more. decoded_from (at + 1) more s) ≡ words ws
      → 3 * length ws ≤ suc (length s)
  after_front Damaged f g = absurd (let z : ◌≡◌ {A = ℕ} 0 1 = cc in omega arith)
  after_front (Word w more) f g = after_word w more (decoded_from (at + 1) more s) f refl g

three_each : (at k : ℕ) (s ws : List ℕ) → decoded_from at k s ≡ words ws → Wide ws → k ≤ length s → 3 * length ws + k ≤ length s
unfolding decoded_from
three_each at k [] ws e wide h = let f : ws ≡ [] = cc in rw f (omega arith)
three_each at (suc k) (b ∷ s) ws e wide h =
    let i : 3 * length ws + k ≤ length s = three_each (at + 1) k s ws e wide (omega arith) in omega arith
three_each at zero (b ∷ s) ws e wide h =
    let i : 3 * length ws ≤ suc (length s) =
    after_front at b s (λ more us f w l. three_each (at + 1) more s us f w l) ws wide (front (b ∷ s)) refl e in
    omega arith

-- No character is refused with 8.

abbrev Not8 : Option Refused → Type 0
Not8 none = Unit {0}
Not8 (some r) = r.number ≡ 8 → ⊥

not_8 : (n : ℕ) (later : Option Refused) (o : Option Place) → Not8 later → Not8 (first_of (check_character n o) later)
not_8 n later none l = λ z. omega arith
not_8 n later (some p) l = both_ways (λ o. Not8 (first_of o later)) (ltb largest_stamp (250 * n)) (λ z. omega arith) l

none_8 : (n : ℕ) (line : List ℕ) → Not8 (first_refused n line)
unfolding first_refused
none_8 n [] = tt
none_8 n (c ∷ cs) = not_8 n (first_refused (suc n) cs) (place_of c) (none_8 (suc n) cs)

-- All together.

module _ (s : Settings) (line : List ℕ) (room : ℕ) (enough : log_room ≤ room)
    (few : first_refused 0 line ≡ none → 3 * length line ≤ longest_text) where
  by_first : (o : Option Refused) → first_refused 0 line ≡ o → Not8 o
      → answered.Not8 (told (check_line (length (drill s line)) room (length line) o))
  by_first none e n =
      let h : length (drill s line) ≤ room = omega (arith, short_log s line, few e) in
      rw (le-leb (length (drill s line)) room h) (λ position f. let z : ◌≡◌ {A = ℕ} 0 1 = cc in omega arith)
  by_first (some r) e n =
      both_ways answered.Not8 (eqb r.number 0) (λ position f. let z : ◌≡◌ {A = ℕ} 0 1 = cc in omega arith) (λ position f. n (cc))

  written : answered.Not8 (told (writing s line room))
  unfolding writing
  written =
      both_ways (λ d. answered.Not8 (told d)) (in_range s) (by_first (first_refused 0 line) refl (none_8 0 line))
      (λ position f. let z : ◌≡◌ {A = ℕ} 1 8 = cc in omega arith)

pub room_suffices : RoomSuffices
room_suffices s text room short enough = by_decoding (decoded (line_of text)) refl
  where
    by_decoding : (d : Decoding) → decoded (line_of text) ≡ d → answered.Not8 (answer_of s room d)
    by_decoding (words line) e =
        let cut : length (line_of text) ≤ longest_text = simp length-take (omega arith) in
        written s line room enough
        (λ f. omega (arith, three_each 0 0 (line_of text) line e (accepted_wide 0 line f) (omega arith)))
    by_decoding (damaged at) e = λ position f. let z : ◌≡◌ {A = ℕ} 0 1 = cc in omega arith

-- what `write` promises besides of a text
module _ (s : Settings) (text run : List ℕ) (r : Answer) (after : List ℕ) (d : Drills s text run r after) where
  pub drilled_within : Within (length run) r
  drilled_within = rw d.answered (by (decoded (line_of text)))
    where
      by : (x : Decoding) → Within (length run) (answer_of s (length run) x)
      by (words line) = within_room s line (length run)
      by (damaged at) = tt

  pub never_refused_8 : length text ≤ longest_text → log_room ≤ length run → answered.Not8 r
  never_refused_8 short enough = rw d.answered (room_suffices s text (length run) short enough)
