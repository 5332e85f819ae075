-- A comment adds nothing: the line of a refused record.
use Prim.Native.Nat.{ℕ, zero, suc, ◌+◌, ◌/◌, ◌%◌}
use native.Mathlib.Omega.{arith}
use borrow.Author.Tests.{ne_eqb}
use mathlib.Core.List.{List, [], ◌∷◌}
use mathlib.Core.Path.{refl}
use lib.Dec.{eqb, ltb}
use Rattle.io.specs.Digits.{hex_digit_ascii, last_digits}
use Rattle.choice.proofs.Choices.{both_ways, either}
use Rattle.text.specs.Text.{ascii}
use Rattle.decimals.specs.Decimals.{is_digit}
use Rattle.status_line.specs.Decimal.{places, decimal}
use Rattle.status_line.specs.Status.{status}
use Rattle.notation.specs.Notation.{meaning, refusal_text}
use Rattle.notation.specs.Transcribing.{start, in_comment, takes_letters, digit_value, is_blank, ends_entry, ended, at_sign}
use Rattle.notation.specs.Transcribing.{entry_step, step, Log, from}
use Rattle.notation.proofs.Passing.{Passes, ◌and_on◌, stays}

module _ (l : Log) where
  -- what stands in a comment
  abbrev PassedOver : List ℕ → Type 0
  PassedOver text = Passes in_comment l text in_comment l

  -- a digit is no line end
  glyph_passed : (d : ℕ) → PassedOver (hex_digit_ascii d ∷ [])
  unfolding from step
  glyph_passed d =
      either (ltb d 10)
      (λ t. record { goes_on = λ rest. rw (t, ne_eqb (48 + d) 10 (λ z. omega arith)) })
      (λ f. record { goes_on = λ rest. rw (f, ne_eqb (87 + d) 10 (λ z. omega arith)) })

  digits_passed : (k n : ℕ) → PassedOver (last_digits 10 k n)
  digits_passed zero n = stays
  digits_passed (suc k) n = digits_passed k (n / 10) and_on glyph_passed (n % 10)

  number_passed : (n : ℕ) → PassedOver (decimal n)
  unfolding decimal
  number_passed n = digits_passed (places 19 n) n

  waiting_passed : PassedOver (ascii "waiting ")
  unfolding from step
  waiting_passed = record { goes_on = λ rest. refl }

  refused_passed : PassedOver (ascii "refused ")
  unfolding from step
  refused_passed = record { goes_on = λ rest. refl }

  at_passed : PassedOver (ascii " at ")
  unfolding from step
  at_passed = record { goes_on = λ rest. refl }

  status_passed : (number offset : ℕ) → PassedOver (status number 0 offset)
  unfolding status
  status_passed number offset =
      both_ways PassedOver (eqb number 0)
      (waiting_passed and_on number_passed 0)
      (refused_passed and_on number_passed number and_on at_passed and_on number_passed offset)

  meaning_passed : (n : ℕ) → PassedOver (meaning n)
  unfolding meaning from step
  meaning_passed n =
      both_ways PassedOver (eqb n 1) (record { goes_on = λ rest. refl })
      (both_ways PassedOver (eqb n 3) (record { goes_on = λ rest. refl })
      (both_ways PassedOver (eqb n 4) (record { goes_on = λ rest. refl })
      (both_ways PassedOver (eqb n 5) (record { goes_on = λ rest. refl })
      (both_ways PassedOver (eqb n 6) (record { goes_on = λ rest. refl })
      (both_ways PassedOver (eqb n 7) (record { goes_on = λ rest. refl })
      (both_ways PassedOver (eqb n 11) (record { goes_on = λ rest. refl })
      (both_ways PassedOver (eqb n 12) (record { goes_on = λ rest. refl }) (record { goes_on = λ rest. refl }))))))))

  begun : Passes start l (ascii "# ") in_comment l
  unfolding from step entry_step at_sign digit_value takes_letters is_digit is_blank ends_entry ended
  begun = record { goes_on = λ rest. refl }

  ended_by_line : Passes in_comment l (10 ∷ []) start l
  unfolding from step
  ended_by_line = record { goes_on = λ rest. refl }

  colon_passed : PassedOver (ascii ": ")
  unfolding from step
  colon_passed = record { goes_on = λ rest. refl }

  pub refusal_passes : (number offset : ℕ) → Passes start l (refusal_text number offset) start l
  unfolding refusal_text
  refusal_passes number offset =
      both_ways (λ (t : List ℕ). Passes start l t start l) (eqb number 0) stays
      (begun and_on status_passed number offset and_on colon_passed and_on meaning_passed number and_on ended_by_line)
