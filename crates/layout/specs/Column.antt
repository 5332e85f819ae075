-- The table by rows of three, and what a key's face is in such rows.
use Rattle.std.specs.Prelude.{ℕ, List, [], ◌∷◌, ◌≡◌, get_or}
use Rattle.choice.specs.Choice.{if◌then◌orelse◌}
use Rattle.rules.specs.Layout.{table, face_of, code_point}
use Rattle.rules.specs.States.{is_key}
use Rattle.rules.specs.declared.Key.{Key}
use Rattle.rules.specs.declared.Thumb.TheVariants.{Left, Right}
use Rattle.rules.specs.declared.Face.{Face}
use Rattle.rules.specs.declared.Face.TheVariants.{Plain, With}

-- the place of a face in a row
abbrev pub column_of : Face → ℕ
column_of Plain = 0
column_of (With Left) = 1
column_of (With Right) = 2

abbrev pub side_by_side : List ℕ → List ℕ → List ℕ → List (List ℕ)
side_by_side (p ∷ ps) (l ∷ ls) (r ∷ rs) = (p ∷ l ∷ r ∷ []) ∷ side_by_side ps ls rs
side_by_side (p ∷ ps) (l ∷ ls) [] = []
side_by_side (p ∷ ps) [] rs = []
side_by_side [] ls rs = []

-- document 01's table by rows: a key's code points on its plain face, with the left thumb, with the right thumb
unfoldable pub rows : List (List ℕ)
rows = side_by_side (face_of Plain table) (face_of (With Left) table) (face_of (With Right) table)

-- the code point of a key's face in some rows, 0 for a key that is not there
unfoldable pub code_point_in : List (List ℕ) → Key → Face → ℕ
code_point_in rs k f = if is_key k then get_or (get_or rs k.0 []) (column_of f) 0 orelse 0

-- in document 01's it is document 01's; proved in proofs/Table.antt
abbrev pub InRows : Type 0
InRows = (k : Key) (f : Face) → code_point_in rows k f ≡ code_point k f
