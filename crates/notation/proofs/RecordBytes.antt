-- A whole record put together again from the numbers that were read off it: its tag, its length, and its body, field by field.
use Prim.Native.Nat.{ℕ, zero, suc, ◌+◌, ◌≤◌, ◌<◌}
use native.Mathlib.Omega.{arith}
use borrow.Author.Tests.{ne_eqb, le-ltb}
use mathlib.Core.List.{List, [], ◌∷◌, ◌++◌}
use mathlib.Core.Path.{◌≡◌, refl, sym, ap, ◌∙◌}
use lib.ListN.{length, take, drop, length-drop, take-append-drop, drop_of_length-le}
use lib.Seq.{length-take-le, take_all, take-suc, drop-cons, get_or-drop, drop-drop, take-add, drop-append-le}
use Rattle.keylog.specs.Records.{byte, number, bytes_of, tag, stated}
use Rattle.keylog.proofs.Bytes.{bytes_more}
use Rattle.keylog.proofs.Walking.{at_least_3}
use Rattle.writer.specs.Drills.{record_of}
use Rattle.notation.specs.RoundTrip.{Bytes}
use Rattle.notation.specs.declared.Field.{Field}
use Rattle.notation.specs.declared.Tag.{Tag}
use Rattle.notation.specs.declared.Tag.TheVariants as tags
use Rattle.std.specs.Prelude.{Ok}
use Rattle.notation.specs.Transcribing.{line_end, start, reading, push, tag_number, last, whole, is_blank, ends_entry, ended, takes_letters}
use Rattle.notation.specs.Transcribing.{at_sign, entry_step, step}
use Rattle.notation.specs.Transcribing.{Log, with_output, from}
use Rattle.notation.proofs.Passing.{Passes, no_digit_10}

no_tag_0 : (t : Tag) → tag_number t ≡ 0 → ⊥
no_tag_0 tags.Settings z = omega arith
no_tag_0 tags.Event z = omega arith
no_tag_0 tags.List z = omega arith

module _ (r : List ℕ) (bytes : Bytes r) where
  -- the bytes of a number that was read off them
  bytes_back : (n at : ℕ) → at + n ≤ length r → bytes_of n (number n at r) ≡ take n (drop at r)
  bytes_back zero at h = refl
  bytes_back (suc n) at h =
      let inside : n < length (drop at r) = rw length-drop (omega arith) in
      bytes_more n (number n at r) (byte (at + n) r) (bytes (at + n))
      ∙ ap (λ (l : List ℕ). l ++ (byte (at + n) r ∷ [])) (bytes_back n at (omega arith))
      ∙ sym (take-suc (drop at r) n 0 inside ∙ ap (λ (x : ℕ). take n (drop at r) ++ (x ∷ [])) (get_or-drop at r n 0))

  -- the body up to a place of the record
  abbrev pub body_to : ℕ → List ℕ
  body_to at = drop 3 (take at r)

  body_grows : (n at : ℕ) → 3 ≤ at → at + n ≤ length r → body_to at ++ bytes_of n (number n at r) ≡ body_to (at + n)
  body_grows n at h fits =
      let long : 3 ≤ length (take at r) = rw (length-take-le at r (omega arith)) h in
      ap (λ (l : List ℕ). body_to at ++ l) (bytes_back n at fits)
      ∙ sym (ap (drop 3) (take-add at n r) ∙ drop-append-le 3 (take at r) (take n (drop at r)) long)

  module _ (long : length r ≡ stated r) where
    at_least : 3 ≤ length r
    at_least = rw long (at_least_3 r)

    -- it has the length that it states
    body_long : length (drop 3 r) ≡ number 2 1 r
    unfolding stated
    body_long = length-drop 3 r ∙ omega (arith, long)

    pub body_short : length (drop 3 r) ≤ 65_535
    body_short = rw body_long (omega (arith, bytes 1, bytes 2))

    pub put_together : record_of (tag r) (drop 3 r) ≡ r
    put_together =
        let header : bytes_of 2 (number 2 1 r) ≡ take 2 (drop 1 r) = bytes_back 2 1 at_least in
        let rest : take 2 (drop 1 r) ++ drop 3 r ≡ drop 1 r =
        ap (λ (l : List ℕ). take 2 (drop 1 r) ++ l) (sym (drop-drop 2 1 r)) ∙ take-append-drop 2 (drop 1 r) in
        let first : r ≡ byte 0 r ∷ drop 1 r = drop-cons r 0 0 (omega (arith, at_least)) in
        ap (λ (n : ℕ). tag r ∷ (bytes_of 2 n ++ drop 3 r)) body_long
        ∙ ap (λ (l : List ℕ). tag r ∷ (l ++ drop 3 r)) header
        ∙ ap (λ (l : List ℕ). tag r ∷ l) rest
        ∙ sym first

    -- A transcriber's log while it reads the record, with other records before it.
    module _ (before : List ℕ) where
      abbrev pub log_to : ℕ → Log
      log_to at = record { records = before; body = body_to at }

      pub log_begins : log_to 3 ≡ record { records = before; body = [] }
      log_begins =
          ap (λ (l : List ℕ). record { records = before; body = l })
          (drop_of_length-le (take 3 r) {i = 3} (omega (arith, length-take-le 3 r at_least)))

      pub log_grows : (n at v : ℕ) → 3 ≤ at → at + suc n ≤ length r → v ≡ number (suc n) at r
          → with_output (log_to at) (push (suc n) v) ≡ log_to (at + suc n)
      log_grows n at v h fits e =
          ap (λ (l : List ℕ). record { records = before; body = l }) (rw (e, ne_eqb (suc n) 0 (λ z. omega arith))
          (body_grows (suc n) at h fits))

      module _ (f : Field) (t : Tag) (n at v : ℕ) (ends : whole f v start ≡ Ok (start, last t (suc n) v)) (tagged : tag r ≡ tag_number t)
          (h : 3 ≤ at) (fits : at + suc n ≡ length r) (e : v ≡ number (suc n) at r) where
        whole_body : body_to at ++ bytes_of (suc n) v ≡ drop 3 r
        whole_body =
            rw e (body_grows (suc n) at h (omega arith)) ∙ ap (drop 3) (take_all (at + suc n) r (omega arith))

        pub log_ends : Passes (reading f v) (log_to at) (line_end ∷ []) start (record { records = before ++ r; body = [] })
        unfolding from step entry_step at_sign ended is_blank ends_entry
        log_ends =
            record {
              goes_on = λ rest.
                  rw (
                    no_digit_10 (takes_letters (reading f v)),
                    ends,
                    ne_eqb (tag_number t) 0 (no_tag_0 t),
                    ne_eqb (suc n) 0 (λ z. omega arith),
                    whole_body,
                  )
                  (rw (le-ltb 65_535 (length (drop 3 r)) body_short)
                  (rw (← tagged, put_together)));
            }
