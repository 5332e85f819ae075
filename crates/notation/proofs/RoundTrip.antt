-- The notation of a log, transcribed, is what stands before its refused record, and the whole log where there is none.
use Prim.Native.Nat.{ℕ, ◌+◌, ◌*◌, ◌≤◌}
use native.Mathlib.Omega.{arith}
use borrow.Author.Tests.{eq-eqb, ne_eqb, ltb-true, ltb-false}
use mathlib.Core.List.{List, [], ◌∷◌, ◌++◌, append_assoc, append-nil}
use mathlib.Core.Path.{◌≡◌, ap, ◌∙◌}
use lib.Dec.{ltb}
use lib.ListN.{length, take, drop, take-append-drop, get_or-append, get_or-eq_default}
use lib.Seq.{take_all, get_or-append-add}
use Rattle.decimals.specs.Decimals.{is_digit}
use Rattle.choice.proofs.Choices.{either}
use Rattle.keylog.specs.Records.{tag, stated, event}
use Rattle.keylog.specs.LogRecords.{records_of}
use Rattle.keylog.specs.Reader.{read, number_of}
use Rattle.keylog.specs.RecordRefusals.{Accepts}
use Rattle.keylog.proofs.Passed.{all_passed}
use Rattle.mending.specs.Laws.{joined, mended_line}
use Rattle.mending.specs.Mending.{mend}
use Rattle.mending.proofs.Laws.{mend_laws}
use Rattle.mending.proofs.LogParts.{Wholes}
use Rattle.notation.specs.Notation.{record_text, texts, whole_reading, accepted_front, notated}
use Rattle.notation.specs.RoundTrip.{Bytes, RoundTripStatement}
use Rattle.notation.specs.Transcribing.{start, empty, takes_letters, digit_value, is_blank, ends_entry, ended, at_sign, entry_step}
use Rattle.notation.specs.Transcribing.{step}
use Rattle.notation.specs.Transcribing.{Log, log, from, transcribed}
use Rattle.notation.proofs.Passing.{Passes, ◌and_on◌, stays}
use Rattle.notation.proofs.RecordBytes.{log_begins}
use Rattle.notation.proofs.Entries.{settings_tag, settings_pass, event_tag, event_pass, list_tag, list_pass}
use Rattle.notation.proofs.Comments.{refusal_passes}
use Rattle.notation.proofs.Accepted.{Shape, of_settings, of_list, of_event, Shapes, Front, front_records}

-- a log whose records are whole
abbrev whole_log : List ℕ → Log
whole_log records = record { records = records; body = [] }

module _ (r : List ℕ) (bytes : Bytes r) (long : length r ≡ stated r) (before : List ℕ) where
  record_passes : Shape r → Passes start (whole_log before) (record_text r) start (whole_log (before ++ r))
  unfolding record_text event
  record_passes (of_settings is) =
      rw (eq-eqb (tag r) 1 (settings_tag r bytes long before is))
      (rw (log_begins r bytes long before) at (settings_pass r bytes long before is))
  record_passes (of_list is) =
      let t : tag r ≡ 3 = list_tag r bytes long before is in
      rw (ne_eqb (tag r) 1 (λ z. omega arith), eq-eqb (tag r) 3 t)
      (rw (log_begins r bytes long before) at (list_pass r bytes long before is))
  record_passes (of_event is i allowed) =
      let t : tag r ≡ 2 = event_tag r bytes long before is i allowed in
      rw (ne_eqb (tag r) 1 (λ z. omega arith), ne_eqb (tag r) 3 (λ z. omega arith))
      (rw (log_begins r bytes long before) at (event_pass r bytes long before is i allowed))

-- bytes of a part
bytes_front : (a b : List ℕ) → Bytes (a ++ b) → Bytes a
bytes_front a b h i =
    either (ltb i (length a))
    (λ t. rw (← get_or-append a b 0 i (ltb-true i (length a) t)) (h i))
    (λ f. rw (get_or-eq_default a 0 {n = i} (ltb-false i (length a) f)) (omega arith))

bytes_behind : (a b : List ℕ) → Bytes (a ++ b) → Bytes b
bytes_behind a b h i = rw (← get_or-append-add a b i 0) (h (length a + i))

bytes_taken : (n : ℕ) (l : List ℕ) → Bytes l → Bytes (take n l)
bytes_taken n l h = bytes_front (take n l) (drop n l) (rw (take-append-drop n l) h)

texts_pass : (rs : List (List ℕ)) (before : List ℕ) → Bytes (joined rs) → Wholes rs → Shapes rs
    → Passes start (whole_log before) (texts rs) start (whole_log (before ++ joined rs))
texts_pass [] before bytes wholes shapes = rw (append-nil before) stays
texts_pass (r ∷ rs) before bytes wholes shapes =
    let one = record_passes r (bytes_front r (joined rs) bytes) wholes.0 before shapes.0 in
    let more = texts_pass rs (before ++ r) (bytes_behind r (joined rs) bytes) wholes.1 shapes.1 in
    one and_on (rw (append_assoc before r (joined rs)) at more)

-- a text that leads back between two entries
transcribed_as : (text records : List ℕ) → Passes start empty text start (whole_log records) → transcribed text ≡ log records
unfolding transcribed from step entry_step at_sign digit_value takes_letters is_digit is_blank ends_entry ended
transcribed_as text records p = p.goes_on (10 ∷ [])

module _ (l : List ℕ) (bytes : Bytes l) where
  front_back : transcribed (notated l) ≡ log (accepted_front l)
  unfolding notated
  front_back =
      let front = accepted_front l in
      let f : Front front = front_records (length l) l in
      let here : Bytes (joined (records_of front)) = rw f.joined_are (bytes_taken (whole_reading l).offset l bytes) in
      let records = texts_pass (records_of front) [] here f.wholes f.records_are in
      let refusal = refusal_passes (whole_log (joined (records_of front))) (number_of (whole_reading l).refusal)
      (whole_reading l).offset in
      transcribed_as _ front (rw f.joined_are at (records and_on refusal))

  -- what is accepted with some room is accepted with enough
  accepted_whole : (room : ℕ) → Accepts (read room l) → Accepts (whole_reading l)
  accepted_whole room a =
      let same = (mend_laws (length l) l).kept room a (omega arith) in
      let zero : (mend (length l) l).number ≡ 0 = rw same in
      let bytes_same : (mend (length l) l).bytes ≡ l = rw same in
      let enough : 13 * length (mended_line l) ≤ 2 * length (mend (length l) l).bytes = (mend_laws (length l) l).enough zero in
      let few : length (mended_line l) ≤ length l = omega (arith, rw bytes_same at enough) in
      rw bytes_same at ((mend_laws (length l) l).accepted zero (length l) few).0

  whole_back : (room : ℕ) → Accepts (read room l) → transcribed (notated l) ≡ log l
  whole_back room a =
      let all : accepted_front l ≡ l = take_all (whole_reading l).offset l (omega (
        arith,
        all_passed (length l) l (accepted_whole room a),
      )) in
      front_back ∙ ap log all

pub round_trip : RoundTripStatement
round_trip l bytes = record { front = front_back l bytes; accepted = whole_back l bytes }
