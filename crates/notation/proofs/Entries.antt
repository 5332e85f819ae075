-- The text of a record that the reader accepts is transcribed to that record.
use Prim.Native.Nat.{ℕ, zero, suc, ◌+◌, ◌-◌, ◌*◌, ◌/◌, ◌%◌, ◌≤◌, ◌<◌}
use native.Mathlib.Omega.{arith}
use borrow.Author.Tests.{eqb-true}
use mathlib.Core.Bool.{true, and-eq-true_iff}
use mathlib.Core.List.{List, [], ◌++◌, append_assoc}
use mathlib.Core.Option.{Option, none, some, none-ne-some}
use mathlib.Core.Path.{◌≡◌, refl}
use lib.Dec.{eqb}
use lib.ListN.{length}
use Rattle.rules.specs.GivenBack.{with_thumb, with_0, input}
use Rattle.rules.specs.declared.Thumb.{Thumb}
use Rattle.rules.specs.declared.Input.TheVariants.{ThumbDown, ThumbUp, FunctionDown, Tick}
use Rattle.rules.specs.declared.Input.{Input}
use Rattle.choice.proofs.Choices.{either}
use Rattle.text.specs.Text.{ascii}
use Rattle.decimals.specs.Decimals.{is_digit}
use Rattle.status_line.specs.Decimal.{decimal}
use Rattle.status_line.specs.Status as lines
use Rattle.keylog.specs.Records.{byte, number, tag, stated, is_settings, settings, is_event, event, is_list, pair_at, pairs_from, list}
use Rattle.keylog.proofs.Kept.{list_facts}
use Rattle.notation.specs.Notation.{settings_text, pair_text, pairs_text, list_text, stroke_text, event_text}
use Rattle.notation.specs.RoundTrip.{Bytes}
use Rattle.notation.specs.declared.Field.{Field}
use Rattle.notation.specs.declared.Field.TheVariants.{Start, T, J, L, Solo, Key, Stamp, Ts, N, First, Second, Character}
use Rattle.notation.specs.declared.Tag.TheVariants as tags
use Rattle.std.specs.Prelude.{Some, Ok}
use Rattle.notation.specs.Transcribing.{is_blank, ends_entry, with_sign, no_signs, packed, nothing, push, kind_and_key, following, start}
use Rattle.notation.specs.Transcribing.{reading, behind}
use Rattle.notation.specs.Transcribing.{base, most, last, whole, takes_letters, digit_value, at_sign, entry_step, step, Log}
use Rattle.notation.specs.Transcribing.{from}
use Rattle.notation.proofs.Passing.{Passes, ◌and_on◌, no_digit_32, number_passes, code_point_passes}
use Rattle.notation.proofs.RecordBytes.{log_to, log_grows, log_ends}

-- signs behind a number, with or without a blank before them
record Said (v : ℕ) (l : Log) : Type 0 where
  J_said : Passes (reading T v) l (ascii " J=") (behind T v (packed "J=")) l
  L_said : Passes (reading J v) l (ascii " L=") (behind J v (packed "L=")) l
  solo_said : Passes (reading L v) l (ascii " solo=") (behind L v (packed "solo=")) l
  N_said : Passes (reading Ts v) l (ascii " N=") (behind Ts v (packed "N=")) l
  plus_said : Passes (reading First v) l (ascii "+") (behind First v (packed "+")) l
  equals_said : Passes (reading Second v) l (ascii "=U+") (behind Second v (packed "=U+")) l
  at_said : Passes (reading Key v) l (ascii "@") (behind Key v (packed "@")) l
  up_said : Passes (reading Key v) l (ascii " up@") (behind Key v (packed "up@")) l

module _ (v : ℕ) (l : Log) where
  said : Said v l
  unfolding from step entry_step at_sign digit_value takes_letters is_digit is_blank ends_entry with_sign
  said =
      record {
        J_said = record { goes_on = λ rest. refl };
        L_said = record { goes_on = λ rest. refl };
        solo_said = record { goes_on = λ rest. refl };
        N_said = record { goes_on = λ rest. refl };
        plus_said = record { goes_on = λ rest. refl };
        equals_said = record { goes_on = λ rest. refl };
        at_said = record { goes_on = λ rest. refl };
        up_said = record { goes_on = λ rest. refl };
      }

  blank_said : (f : Field) → Passes (reading f v) l (ascii " ") (behind f v no_signs) l
  unfolding from step entry_step at_sign is_blank
  blank_said f = record { goes_on = λ rest. rw (no_digit_32 (takes_letters (reading f v))) }

-- What stands before an event's stamp announces the stamp, and kind and key are known.
record Stroke (kind key : ℕ) (l : Log) : Type 0 where
  field_before : Field
  number_before : ℕ
  signs_before : ℕ
  passes : Passes start l (stroke_text kind key) (behind field_before number_before signs_before) l
  announces : following field_before number_before signs_before ≡ Some (Stamp, kind_and_key kind key)

module _ (l : Log) where
  -- a character key
  key_down : (key : ℕ) → key ≤ 255 → Stroke 1 key l
  unfolding stroke_text following
  key_down key h =
      record {
        field_before = Key;
        number_before = key;
        signs_before = packed "@";
        passes = number_passes Start 0 no_signs l Key nothing refl refl refl key h (omega arith) and_on (said key l).at_said;
        announces = refl;
      }

  key_up : (key : ℕ) → key ≤ 255 → Stroke 2 key l
  unfolding stroke_text following
  key_up key h =
      record {
        field_before = Key;
        number_before = key;
        signs_before = packed "up@";
        passes = number_passes Start 0 no_signs l Key nothing refl refl refl key h (omega arith) and_on (said key l).up_said;
        announces = refl;
      }

  -- the others are signs alone
  signs_alone : (kind key signs : ℕ) → Passes start l (stroke_text kind key) (behind Start 0 signs) l
      → following Start 0 signs ≡ Some (Stamp, kind_and_key kind key) → Stroke kind key l
  signs_alone kind key signs p a = record { field_before = Start; number_before = 0; signs_before = signs; passes = p; announces = a }

  record Alone : Type 0 where
    left_down : Stroke 3 0 l
    right_down : Stroke 3 1 l
    left_up : Stroke 4 0 l
    right_up : Stroke 4 1 l
    function_down : Stroke 5 0 l
    tick : Stroke 6 0 l

  alone : Alone
  unfolding stroke_text following from step entry_step at_sign digit_value takes_letters is_digit is_blank ends_entry with_sign
  alone =
      record {
        left_down = signs_alone 3 0 (packed "L@") (record { goes_on = λ rest. refl }) refl;
        right_down = signs_alone 3 1 (packed "R@") (record { goes_on = λ rest. refl }) refl;
        left_up = signs_alone 4 0 (packed "Lup@") (record { goes_on = λ rest. refl }) refl;
        right_up = signs_alone 4 1 (packed "Rup@") (record { goes_on = λ rest. refl }) refl;
        function_down = signs_alone 5 0 (packed "fn@") (record { goes_on = λ rest. refl }) refl;
        tick = signs_alone 6 0 (packed "tick") (record { goes_on = λ rest. refl }) refl;
      }

  none_allowed : (i : Input) {A : Type 0} → ◌≡◌ {A = Option Input} none (some i) → A
  none_allowed i e = absurd (none-ne-some i e)

  -- 0 or 1, and 0 alone
  of_thumb : (kind key : ℕ) (make : Thumb → Input) (i : Input) → with_thumb make (record { 0 = key }) ≡ some i
      → Stroke kind 0 l → Stroke kind 1 l → Stroke kind key l
  of_thumb kind key make i e left right =
      either (eqb key 0) (λ t. rw (eqb-true key 0 t) left)
      (λ f. either (eqb key 1) (λ t. rw (eqb-true key 1 t) right) (λ g. none_allowed i (rw (f, g) at e)))

  of_0 : (kind key : ℕ) (made i : Input) → with_0 made (record { 0 = key }) ≡ some i → Stroke kind 0 l → Stroke kind key l
  of_0 kind key made i e s = either (eqb key 0) (λ t. rw (eqb-true key 0 t) s) (λ f. none_allowed i (rw f at e))

  stroke : (kind key : ℕ) → key ≤ 255 → (i : Input) → input kind (record { 0 = key }) ≡ some i → Stroke kind key l
  unfolding input
  stroke kind key h i e =
      either (eqb kind 1) (λ t. rw (eqb-true kind 1 t) (key_down key h))
      (λ n1. either (eqb kind 2) (λ t. rw (eqb-true kind 2 t) (key_up key h))
      (λ n2. either (eqb kind 3) (λ t. rw (eqb-true kind 3 t)
      (of_thumb 3 key ThumbDown i (rw (n1, n2, t) at e) alone.left_down alone.right_down))
      (λ n3. either (eqb kind 4) (λ t. rw (eqb-true kind 4 t)
      (of_thumb 4 key ThumbUp i (rw (n1, n2, n3, t) at e) alone.left_up alone.right_up))
      (λ n4. either (eqb kind 5) (λ t. rw (eqb-true kind 5 t)
      (of_0 5 key FunctionDown i (rw (n1, n2, n3, n4, t) at e) alone.function_down))
      (λ n5. either (eqb kind 6) (λ t. rw (eqb-true kind 6 t)
      (of_0 6 key Tick i (rw (n1, n2, n3, n4, n5, t) at e) alone.tick))
      (λ n6. none_allowed i (rw (n1, n2, n3, n4, n5, n6) at e)))))))

module _ (r : List ℕ) (bytes : Bytes r) (long : length r ≡ stated r) (before : List ℕ) where
  abbrev pub at_start : Log
  at_start = record { records = before; body = [] }

  abbrev pub with_record : Log
  with_record = record { records = before ++ r; body = [] }

  abbrev pub so_far : ℕ → Log
  so_far at = log_to r bytes long before at

  -- one of the record's numbers, n bytes at a place: the number before it goes into the log, and this one is read
  module _ (g f : Field) (v s n at : ℕ) (announced : following g v s ≡ Some (f, push (suc n) v)) (e : v ≡ number (suc n) at r)
      (h : 3 ≤ at) (fits : at + suc n ≤ length r) where
    field_passes : base f ≡ 10 → (x : ℕ) → x ≤ most f → x < 100_000_000_000_000_000_000
        → Passes (behind g v s) (so_far at) (decimal x) (reading f x) (so_far (at + suc n))
    field_passes tens x small short =
        rw (log_grows r bytes long before n at v h fits e) at (number_passes g v s (so_far at) f (push (suc n) v) announced refl tens x small short)

  module _ (is : is_settings r ≡ true) where
    pub settings_tag : tag r ≡ 1
    unfolding is_settings
    settings_tag = eqb-true (tag r) 1 ((and-eq-true_iff (eqb (tag r) 1) (eqb (length r) 8)).0 is).0

    settings_long : length r ≡ 8
    unfolding is_settings
    settings_long = eqb-true (length r) 8 ((and-eq-true_iff (eqb (tag r) 1) (eqb (length r) 8)).0 is).1

    T_said : Passes start (so_far 3) (ascii "T=") (behind Start 0 (packed "T=")) (so_far 3)
    unfolding from step entry_step at_sign digit_value takes_letters is_digit is_blank ends_entry with_sign
    T_said = record { goes_on = λ rest. refl }

    pub settings_pass : Passes start (so_far 3) (settings_text (settings r)) start with_record
    unfolding settings_text settings following
    settings_pass =
        let t = number 2 3 r in
        let j = byte 5 r in
        let l = byte 6 r in
        let solo = byte 7 r in
        let few : length r ≡ 8 = settings_long in
        T_said
        and_on number_passes Start 0 (packed "T=") (so_far 3) T nothing refl refl refl t (omega (arith, bytes 3, bytes 4)) (omega (
          arith,
          bytes 3,
          bytes 4,
        ))
        and_on (said t (so_far 3)).J_said
        and_on field_passes T J t (packed "J=") 1 3 refl refl (omega arith) (omega arith) refl j (omega (arith, bytes 5)) (omega (
          arith,
          bytes 5,
        ))
        and_on (said j (so_far 5)).L_said
        and_on field_passes J L j (packed "L=") 0 5 refl (omega arith) (omega arith) (omega arith) refl l (omega (arith, bytes 6))
        (omega (arith, bytes 6))
        and_on (said l (so_far 6)).solo_said
        and_on field_passes L Solo l (packed "solo=") 0 6 refl (omega arith) (omega arith) (omega arith) refl solo (omega (arith, bytes 7))
        (omega (arith, bytes 7))
        and_on log_ends r bytes long before Solo tags.Settings 0 7 solo refl settings_tag (omega arith) (omega arith) (omega arith)

  module _ (is : is_event r ≡ true) (i : Input) (allowed : input (byte 3 r) (record { 0 = byte 4 r }) ≡ some i) where
    pub event_tag : tag r ≡ 2
    unfolding is_event
    event_tag = eqb-true (tag r) 2 ((and-eq-true_iff (eqb (tag r) 2) (eqb (length r) 13)).0 is).0

    event_long : length r ≡ 13
    unfolding is_event
    event_long = eqb-true (length r) 13 ((and-eq-true_iff (eqb (tag r) 2) (eqb (length r) 13)).0 is).1

    stamp_most : number 8 5 r ≤ 18_446_744_073_709_551_615
    stamp_most = omega (arith, bytes 5, bytes 6, bytes 7, bytes 8, bytes 9, bytes 10, bytes 11, bytes 12)

    pub event_pass : Passes start (so_far 3) (event_text (event r)) start with_record
    unfolding event_text event
    event_pass =
        let few : length r ≡ 13 = event_long in
        let stamp = number 8 5 r in
        let s = stroke (so_far 3) (byte 3 r) (byte 4 r) (omega (arith, bytes 4)) i allowed in
        let known = rw (log_grows r bytes long before 1 3 (byte 3 r * 256 + byte 4 r % 256) (omega arith) (omega arith) (omega (
          arith,
          bytes 4,
        )))
        at (number_passes s.field_before s.number_before s.signs_before (so_far 3) Stamp (kind_and_key (byte 3 r) (byte 4 r))
        s.announces refl refl
        stamp stamp_most (omega (arith, stamp_most))) in
        s.passes and_on known and_on log_ends r bytes long before Stamp tags.Event 7 5 stamp refl event_tag (omega arith) (omega arith) refl

  module _ (is : is_list r ≡ true) where
    pub list_tag : tag r ≡ 3
    list_tag = (list_facts r is).0

    byte_is : (at : ℕ) → byte at r ≡ number 1 at r
    byte_is at = let e : at + 0 ≡ at = omega arith in rw e (omega arith)

    two_small : (at : ℕ) → number 2 at r ≤ 65_535
    two_small at = omega (arith, bytes (at + 0), bytes (at + 1))

    -- pairs behind a number of a list, N or a pair's character, and the line's end
    pairs_pass : (k : ℕ) (f : Field) (v n at : ℕ) → following f v no_signs ≡ Some (First, push (suc n) v)
        → whole f v start ≡ Ok (start, last tags.List (suc n) v) → v ≡ number (suc n) at r → 3 ≤ at → at + suc n + 4 * k ≡ length r
        → Passes (reading f v) (so_far at) (pairs_text (pairs_from k (at + suc n) r) ++ lines.line_end) start with_record
    unfolding pair_text following
    pairs_pass zero f v n at announced ends e h fits = log_ends r bytes long before f tags.List n at v ends list_tag h (omega arith) e
    pairs_pass (suc k) f v n at announced ends e h fits =
        let p = at + suc n in
        let first = byte p r in
        let second = byte (p + 1) r in
        let character = number 2 (p + 2) r in
        let two : p + 1 + 1 ≡ p + 2 = omega arith in
        let four : p + 2 + 2 ≡ p + 4 = omega arith in
        let third = rw (log_grows r bytes long before 0 (p + 1) second (omega arith) (omega arith) (byte_is (p + 1)))
        at (code_point_passes second (so_far (p + 1)) character (two_small (p + 2))) in
        let more = pairs_pass k Character character 1 (p + 2) refl refl refl (omega arith) (omega arith) in
        rw (append_assoc (pair_text (pair_at p r)) (pairs_text (pairs_from k (p + 4) r)) lines.line_end)
        (blank_said v (so_far at) f
        and_on field_passes f First v no_signs n at announced e h (omega arith) refl first (omega (arith, bytes p)) (omega (arith, bytes p))
        and_on (said first (so_far p)).plus_said
        and_on field_passes First Second first (packed "+") 0 p refl (byte_is p) (omega arith) (omega arith) refl
        second (omega (arith, bytes (p + 1))) (omega (arith, bytes (p + 1)))
        and_on (said second (so_far (p + 1))).equals_said
        and_on (rw two at third)
        and_on (rw four at more))

    Ts_said : Passes start (so_far 3) (ascii "T_s=") (behind Start 0 (packed "T_s=")) (so_far 3)
    unfolding from step entry_step at_sign digit_value takes_letters is_digit is_blank ends_entry with_sign
    Ts_said = record { goes_on = λ rest. refl }

    pub list_pass : Passes start (so_far 3) (list_text (list r)) start with_record
    unfolding list_text list following
    list_pass =
        let ts = number 2 3 r in
        let n = byte 5 r in
        let k = (length r - 6) / 4 in
        let fits : 6 + 4 * k ≡ length r = omega (arith, list_facts r is) in
        let head = Ts_said
        and_on number_passes Start 0 (packed "T_s=") (so_far 3) Ts nothing refl refl refl ts (two_small 3) (omega (arith, two_small 3))
        and_on (said ts (so_far 3)).N_said
        and_on field_passes Ts N ts (packed "N=") 1 3 refl refl (omega arith) (omega arith) refl n (omega (arith, bytes 5)) (omega (
          arith,
          bytes 5,
        )) in
        rw append_assoc (head and_on pairs_pass k N n 0 5 refl refl (byte_is 5) (omega arith) fits)
