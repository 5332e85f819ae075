-- What the writer answers, from the verdict on the line and the room.
use Prim.Native.Nat.{ℕ, ◌+◌, ◌≤◌, ◌<◌}
use native.Mathlib.Nat.{zero-add}
use native.Mathlib.Omega.{arith}
use borrow.Author.Tests.{ne_eqb, le-leb, lt-leb}
use mathlib.Core.Bool.{Bool, true, false}
use mathlib.Core.List.{List, ◌++◌}
use mathlib.Core.Logic.{◌≢◌}
use mathlib.Core.Option.{Option, none, some}
use mathlib.Core.Path.{◌≡◌, refl, sym, ap, ◌∙◌}
use lib.Dec.{leb, eqb}
use lib.ListN.{length, length-append}
use Rattle.choice.specs.Choice.{if◌then◌orelse◌}
use Rattle.rules.specs.Numbers.{in_range}
use Rattle.rules.specs.declared.Settings.{Settings}
use Rattle.filled.specs.Filled.{filled, Stored}
use Rattle.filled.proofs.Filling.{stored_both}
use Rattle.writer.specs.declared.Drilled.{Drilled}
use Rattle.std.proofs.Common.{Result, Ok, Err}
use Rattle.rules.specs.Refusal.{number_of}
use Rattle.writer.specs.declared.checks.Refused as code
use Rattle.writer.specs.Drills.{settings_record, drill, Refused, first_refused}
use Rattle.writer.specs.Drills.{drilled, writing, run_after}
use Rattle.writer.specs.Parts.{line_bytes, verdict, log_takes, refused_as, verdict_of}
use Rattle.writer.specs.Writes.{WritesLog, Writes}
use Rattle.writer.proofs.Refusals.{refused_number}

drill_parts : (s : Settings) (line : List ℕ) → drill s line ≡ settings_record s ++ line_bytes 0 line
unfolding drill line_bytes
drill_parts s line = refl

pub drill_length : (s : Settings) (line : List ℕ) → length (drill s line) ≡ 8 + length (line_bytes 0 line)
drill_length s line = ap length (drill_parts s line) ∙ length-append (settings_record s) (line_bytes 0 line)

module _ (s : Settings) (line run : List ℕ) where
  -- settings out of range
  pub settings_refused : (ready : Bool) → ready ≡ in_range s → ready ≡ false → Writes s line run (drilled 1 0 0) run
  unfolding writing run_after
  settings_refused ready tested is-not =
      let i : in_range s ≡ false = sym tested ∙ is-not in
      record { answered = rw i; left = rw i }

  -- the room alone decides
  module _ (bytes : ℕ) (counted : bytes ≡ length (drill s line)) where
    pub no_room : length run < bytes → WritesLog s line run (drilled 8 0 (length line)) run
    no_room h =
        let t : leb (length (drill s line)) (length run) ≡ false = lt-leb (length (drill s line)) (length run) (omega arith) in
        record { answered = rw t; left = rw t }

    pub log_written : bytes ≤ length run → (first : ℕ) (mid : List ℕ) (last : ℕ) (after : List ℕ)
        → Stored 0 (settings_record s) run first mid
        → Stored first (line_bytes 0 line) mid last after
        → WritesLog s line run (drilled 0 last (length line)) after
    log_written h first mid last after a b =
        let t : leb (length (drill s line)) (length run) ≡ true = le-leb (length (drill s line)) (length run) (omega arith) in
        let all : Stored 0 (drill s line) run last after =
        rw (drill_parts s line) (stored_both 0 (settings_record s) (line_bytes 0 line) run first mid last after (omega arith) a b) in
        record {
          answered = rw t (ap (λ k. drilled 0 k (length line)) (all.behind ∙ zero-add (length (drill s line))));
          left = rw t (rw zero-add at all.stored);
        }

  bytes_are : (o : Option Refused) (n bytes : ℕ) → verdict o n ≡ log_takes bytes → (o ≡ none) × (bytes ≡ n)
  bytes_are none n bytes e = (refl, cc)
  bytes_are (some r) n bytes e = absurd (let z : ◌≡◌ {A = ℕ} 0 1 = cc in omega arith)

  refusal_is : (o : Option Refused) (n : ℕ) (r : Refused) → verdict o n ≡ refused_as r → o ≡ some r
  refusal_is none n r e = absurd (let z : ◌≡◌ {A = ℕ} 0 1 = cc in omega arith)
  refusal_is (some q) n r e = cc

  -- by the verdict on the line
  module _ (v : Result ℕ code.Refused) (judged : verdict_of v ≡ verdict (first_refused 0 line) (8 + length (line_bytes 0 line))) where
    pub bytes_counted : (bytes : ℕ) → v ≡ Ok bytes → bytes ≡ length (drill s line)
    bytes_counted bytes e =
        (bytes_are (first_refused 0 line) (8 + length (line_bytes 0 line)) bytes (sym judged ∙ ap verdict_of e)).1
        ∙ sym (drill_length s line)

    module _ (ready : Bool) (tested : ready ≡ in_range s) (is : ready ≡ true) where
      i : in_range s ≡ true
      i = sym tested ∙ is

      pub line_refused : (r : code.Refused) → v ≡ Err r → Writes s line run (drilled (number_of r.refusal) 0 r.position) run
      unfolding writing run_after
      line_refused r e =
          let q : Refused = record { number = number_of r.refusal; position = r.position } in
          let f : first_refused 0 line ≡ some q = refusal_is (first_refused 0 line) _ q (sym judged ∙ ap verdict_of e) in
          let not_0 : q.number ≢ 0 = refused_number (λ k. k ≢ 0) (λ z. omega arith) (λ z. omega arith) 0 line q f in
          record { answered = rw (i, f); left = rw (i, f, ne_eqb q.number 0 not_0) }

      pub line_accepted : (bytes : ℕ) → v ≡ Ok bytes → (d : Drilled) (after : List ℕ) → WritesLog s line run d after
          → Writes s line run d after
      unfolding writing run_after
      line_accepted bytes e d after w =
          let fine : first_refused 0 line ≡ none =
          (bytes_are (first_refused 0 line) (8 + length (line_bytes 0 line)) bytes (sym judged ∙ ap verdict_of e)).0 in
          record {
            answered = rw (i, fine) w.answered;
            left = rw (i, fine) (by_room (leb (length (drill s line)) (length run)) w.left);
          }
        where
          by_room : (b : Bool) → after ≡ (if b then filled (drill s line) run orelse run)
              → after ≡ (if eqb (if b then drilled 0 (length (drill s line)) (length line) orelse drilled 8 0 (length line)).number 0
              then filled (drill s line) run orelse run)
          by_room true g = g
          by_room false g = g
