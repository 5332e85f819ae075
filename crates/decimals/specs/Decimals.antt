-- A decimal number from 0 to 65,535, read from ASCII text: at least one digit, and only digits.
use Rattle.std.specs.Prelude.{ℕ, ◌+◌, ◌*◌, ◌-◌, Bool, ◌&&◌, List, [], ◌∷◌, leb, Option, Some, None}
use Rattle.choice.specs.Choice.{if◌then◌orelse◌}

-- a number, or none
pub data Number : Type 0 where
  Value : ℕ → Number
  Not : Number

-- what the answers of the code say
abbrev pub number_of : Option ℕ → Number
number_of None = Not
number_of (Some n) = Value n

-- from '0' to '9'
unfoldable pub is_digit : ℕ → Bool
is_digit b = leb 48 b && leb b 57

abbrev pub largest : ℕ
largest = 65535

-- a number with one more byte behind its digits
unfoldable pub extended : ℕ → ℕ → Number
extended n b =
    if is_digit b then (if leb (n * 10 + (b - 48)) largest then Value (n * 10 + (b - 48)) orelse Not)
    orelse Not

abbrev pub and_then : Number → (ℕ → Number) → Number
and_then (Value n) rest = rest n
and_then Not rest = Not

-- a number with more bytes behind its digits
unfoldable pub extended_by : ℕ → List ℕ → Number
extended_by n [] = Value n
extended_by n (b ∷ bytes) = and_then (extended n b) (λ next. extended_by next bytes)

unfoldable pub parsed : List ℕ → Number
parsed [] = Not
parsed (b ∷ bytes) = extended_by 0 (b ∷ bytes)
