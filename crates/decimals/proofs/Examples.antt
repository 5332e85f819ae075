-- Examples: texts, each with the number that it is, or that it is none.
use mathlib.Core.List.{List, [], ◌∷◌, map}
use mathlib.Core.Path.{◌≡◌, refl}
use Prim.Native.String.{String}
use Rattle.text.specs.Text.{ascii}
use Rattle.decimals.specs.Decimals.{is_digit, extended, extended_by, parsed}
use Rattle.decimals.specs.Decimals.{Number, Value, Not}

record Example : Type 0 where
  written : String
  result : Number

infix 3 ◌is◌
◌is◌ : String → Number → Example
written is result = record { written = written; result = result }

examples : List Example
examples =
    ("0" is Value 0)
    ∷ ("7" is Value 7)
    ∷ ("200" is Value 200)
    ∷ ("65535" is Value 65535)
    ∷ ("0000000100" is Value 100)
    ∷ ("" is Not)
    ∷ ("65536" is Not)
    ∷ ("655350" is Not)
    ∷ ("-1" is Not)
    ∷ ("+1" is Not)
    ∷ ("1 " is Not)
    ∷ ("1x" is Not)
    ∷ (":" is Not)
    ∷ ("/" is Not)
    ∷ []

all_examples : map (λ e. parsed (ascii e.written)) examples ≡ map (λ e. e.result) examples
unfolding examples ◌is◌ parsed extended_by extended is_digit
all_examples = refl
