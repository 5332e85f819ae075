-- Between two entries no record is begun; a text ends there. So what is written never goes past the log that the text gives.
use Prim.Native.Nat.{ℕ, ◌+◌, ◌*◌}
use mathlib.Core.Bool.{Bool, true, false, false≢true}
use mathlib.Core.List.{[]}
use mathlib.Core.Path.{◌≡◌, refl, sym, ap, ◌∙◌}
use lib.Dec.{eqb, ltb, leb}
use lib.ListN.{length}
use Rattle.choice.specs.Choice.{if◌then◌orelse◌}
use Rattle.choice.proofs.Choices.{both_ways}
use Rattle.std.specs.Prelude.{Some, None, Ok, Err}
use Rattle.notation.specs.Transcribing.{no_signs, is_blank, ends_entry, begins_comment, packed, base, most}
use Rattle.notation.specs.Transcribing.{field_of, number_read, is_growing, signs_behind, takes_letters, digit_value}
use Rattle.notation.specs.Transcribing.{Follow, Step, following, between, reading, behind, begun, whole, ended, at_digit, at_sign}
use Rattle.notation.specs.Transcribing.{entry_step, step}
use Rattle.notation.specs.Transcribing.{Log, with_output}
use Rattle.notation.proofs.Passing.{no_digit_10}
use Rattle.notation.specs.declared.Field.{Field}
use Rattle.notation.specs.declared.Field.TheVariants.{Start, T, J, L, Solo, Key, Stamp, Ts, N, First, Second, Character}
use Rattle.notation.specs.declared.Progress.{Progress}
use Rattle.notation.specs.declared.Progress.TheVariants.{Comment, Reading, Behind}

abbrev pub is_start : Field → Bool
is_start Start = true
is_start T = false
is_start J = false
is_start L = false
is_start Solo = false
is_start Key = false
is_start Stamp = false
is_start Ts = false
is_start N = false
is_start First = false
is_start Second = false
is_start Character = false

-- nothing of an entry was read
abbrev pub idle : Progress → Bool
idle p = is_start (field_of p)

pub record Sane (p : Progress) (l : Log) : Type 0 where
  pub no_body : idle p ≡ true → l.body ≡ []

-- the steps that keep it
abbrev pub Keeps : Log → Step → Type 0
Keeps l (Err e) = Unit {0}
Keeps l (Ok (q, o)) = Sane q (with_output l o)

-- no signs announce the start of an entry
abbrev Announces : Follow → Type 0
Announces (Some (g, o)) = is_start g ≡ false
Announces None = Unit {0}

announces : (f : Field) (n s : ℕ) → Announces (following f n s)
unfolding following
announces Start n s =
    both_ways Announces (eqb s (packed "")) refl
    (both_ways Announces (eqb s (packed "T=")) refl
    (both_ways Announces (eqb s (packed "T_s=")) refl
    (both_ways Announces (eqb s (packed "L@")) refl
    (both_ways Announces (eqb s (packed "R@")) refl
    (both_ways Announces (eqb s (packed "Lup@")) refl
    (both_ways Announces (eqb s (packed "Rup@")) refl
    (both_ways Announces (eqb s (packed "fn@")) refl
    (both_ways Announces (eqb s (packed "tick")) refl tt))))))))
announces T n s = both_ways Announces (eqb s (packed "J=")) refl tt
announces J n s = both_ways Announces (eqb s (packed "L=")) refl tt
announces L n s = both_ways Announces (eqb s (packed "solo=")) refl tt
announces Solo n s = tt
announces Key n s = both_ways Announces (eqb s (packed "@")) refl (both_ways Announces (eqb s (packed "up@")) refl tt)
announces Stamp n s = tt
announces Ts n s = both_ways Announces (eqb s (packed "N=")) refl tt
announces N n s = both_ways Announces (eqb s (packed "")) refl tt
announces First n s = both_ways Announces (eqb s (packed "+")) refl tt
announces Second n s = both_ways Announces (eqb s (packed "=U+")) refl tt
announces Character n s = both_ways Announces (eqb s (packed "")) refl tt

module _ (l : Log) where
  module _ (p : Progress) (sane : Sane p l) where
    begun_keeps : (d : ℕ) (f : Follow) → Announces f → Keeps l (begun (field_of p) d f)
    begun_keeps d (Some (g, o)) a = record { no_body = λ e. absurd (false≢true (sym a ∙ e)) }
    begun_keeps d None a = tt

    digit_keeps : (d : ℕ) → Keeps l (at_digit p d)
    unfolding at_digit
    digit_keeps d =
        both_ways (Keeps l) (is_growing p)
        (both_ways (Keeps l) (leb (number_read p * base (field_of p) + d) (most (field_of p))) (record { no_body = sane.no_body }) tt)
        (begun_keeps d (following (field_of p) (number_read p) (signs_behind p)) (announces (field_of p) (number_read p) (signs_behind p)))

    between_idle : (comment : Bool) → l.body ≡ [] → Sane (between comment) l
    between_idle comment e = record { no_body = λ _. e }

    whole_keeps : (f : Field) → field_of p ≡ f → (n : ℕ) (comment : Bool) → Keeps l (whole f n (between comment))
    whole_keeps Start e n comment = between_idle comment (sane.no_body (ap is_start e))
    whole_keeps T e n comment = tt
    whole_keeps J e n comment = tt
    whole_keeps L e n comment = tt
    whole_keeps Solo e n comment = record { no_body = λ _. refl }
    whole_keeps Key e n comment = tt
    whole_keeps Stamp e n comment = record { no_body = λ _. refl }
    whole_keeps Ts e n comment = tt
    whole_keeps N e n comment = record { no_body = λ _. refl }
    whole_keeps First e n comment = tt
    whole_keeps Second e n comment = tt
    whole_keeps Character e n comment = record { no_body = λ _. refl }

    sign_keeps : (b : ℕ) → Keeps l (at_sign p b)
    unfolding at_sign ended
    sign_keeps b =
        both_ways (Keeps l) (is_blank b) (record { no_body = sane.no_body })
        (both_ways (Keeps l) (ends_entry b)
        (both_ways (Keeps l) (eqb (signs_behind p) no_signs) (whole_keeps (field_of p) refl (number_read p) (begins_comment b)) tt)
        (record { no_body = sane.no_body }))

    entry_keeps : (b : ℕ) → Keeps l (entry_step p b)
    unfolding entry_step
    entry_keeps b = both_ways (Keeps l) (ltb (digit_value (takes_letters p) b) 16) (digit_keeps _) (sign_keeps b)

  pub step_keeps : (p : Progress) → Sane p l → (b : ℕ) → Keeps l (step p b)
  unfolding step
  step_keeps Comment sane b = record { no_body = λ _. sane.no_body refl }
  step_keeps (Reading f n) sane b = entry_keeps (reading f n) sane b
  step_keeps (Behind f n s) sane b = entry_keeps (behind f n s) sane b

  -- how far the log has been written: a begun record has room for its header
  abbrev pub used : ℕ
  used = if eqb (length l.body) 0 then length l.records orelse length l.records + 3 + length l.body

-- a line end leads between two entries
abbrev pub Ends : Step → Type 0
Ends (Err e) = Unit {0}
Ends (Ok (q, o)) = idle q ≡ true

whole_ends : (f : Field) (n : ℕ) → Ends (whole f n (between false))
whole_ends Start n = refl
whole_ends T n = tt
whole_ends J n = tt
whole_ends L n = tt
whole_ends Solo n = refl
whole_ends Key n = tt
whole_ends Stamp n = refl
whole_ends Ts n = tt
whole_ends N n = refl
whole_ends First n = tt
whole_ends Second n = tt
whole_ends Character n = refl

entry_ends : (p : Progress) → Ends (entry_step p 10)
unfolding entry_step at_sign ended is_blank ends_entry
entry_ends p =
    rw (no_digit_10 (takes_letters p))
    (both_ways Ends (eqb (signs_behind p) no_signs) (whole_ends (field_of p) (number_read p)) tt)

pub line_ends : (p : Progress) → Ends (step p 10)
unfolding step
line_ends Comment = refl
line_ends (Reading f n) = entry_ends (reading f n)
line_ends (Behind f n s) = entry_ends (behind f n s)
