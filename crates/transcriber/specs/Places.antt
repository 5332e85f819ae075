-- Where a byte of a text stands: lines, and the bytes of a line, are counted from 1.
use Rattle.std.specs.Prelude.{ℕ, ◌+◌, List, eqb, fold}
use Rattle.choice.specs.Choice.{if◌then◌orelse◌}
use Rattle.notation.specs.Transcribing.{line_end}
use Rattle.transcriber.specs.declared.places.Place.{Place}

abbrev pub moved : Place → ℕ → Place
moved p b = if eqb b line_end then record { line = p.line + 1; column = 1 } orelse record { line = p.line; column = p.column + 1 }

abbrev pub first : Place
first = record { line = 1; column = 1 }

-- behind a text
unfoldable pub behind : List ℕ → Place
behind text = fold moved first text
