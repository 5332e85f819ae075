-- A number in decimal digits, with none in front that is not needed. It is for numbers below 10^20: no number of 64 bits is larger.
use Rattle.std.specs.Prelude.{ℕ, zero, suc, ◌/◌, List, ltb}
use Rattle.choice.specs.Choice.{if◌then◌orelse◌}
use Rattle.io.specs.Digits.{last_digits}

-- how many digits, of which at most so many stand behind the first
abbrev pub places : ℕ → ℕ → ℕ
places zero n = 1
places (suc more) n = if ltb n 10 then 1 orelse suc (places more (n / 10))

unfoldable pub decimal : ℕ → List ℕ
decimal n = last_digits 10 (places 19 n) n
