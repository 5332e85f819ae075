-- The word of a committed item.
use Rattle.std.specs.Prelude.{ℕ, List}
use Rattle.rules.specs.ZeroDelay.{mark_word}
use Rattle.rules.specs.declared.Item.{Item}
use Rattle.rules.specs.declared.Item.TheVariants.{Character, Mark, Together}
use Rattle.layout.specs.Column.{code_point_in}

-- by some rows of faces: a character's code point, 0 for an empty face; 1 for the left mark, 2 for the right one; a pair's own
-- character
abbrev pub word_in : List (List ℕ) → Item → ℕ
word_in rs (Character k f) = code_point_in rs k f
word_in rs (Mark O) = mark_word O
word_in rs (Together M K c) = c
