-- Document 01, section "Log": what stands below the line that a program prints.
use Rattle.std.specs.Prelude.{ℕ, List, [], ◌∷◌, ◌++◌, eqb}
use Rattle.choice.specs.Choice.{if◌then◌orelse◌}
use Rattle.text.specs.Text.{ascii}
use Rattle.status_line.specs.Decimal.{decimal}

abbrev pub line_end : List ℕ
line_end = 10 ∷ []

-- `waiting N` or `refused N at OFFSET`
unfoldable pub status : ℕ → ℕ → ℕ → List ℕ
status number waiting offset =
    if eqb number 0 then (ascii "waiting " ++ decimal waiting)
    orelse (ascii "refused " ++ decimal number ++ ascii " at " ++ decimal offset)

-- what follows the line: a line end, the status, a line end
unfoldable pub below : ℕ → ℕ → ℕ → List ℕ
below number waiting offset = line_end ++ status number waiting offset ++ line_end
