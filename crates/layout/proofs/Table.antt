-- The table's rule at every key and face. Document 01's three faces side by side are one table of rows; that the code's table is
-- that one is a test that antt computes over all of it, where `faces` is proved.
use mathlib.Core.Path.{◌≡◌, refl, ap, sym, ◌∙◌}
use mathlib.Core.List.{List, [], map}
use Prim.Native.Nat.{ℕ, ◌≤◌, ◌<◌}
use borrow.Author.Tests.{ltb-false}
use lib.Dec.{lit<}
use lib.ListN.{get_or, get_or-map, get_or-eq_default}
use Rattle.rules.specs.States.{is_key}
use Rattle.rules.specs.Layout.{table, face_of, code_point}
use Rattle.rules.specs.declared.Key.{Key}
use Rattle.rules.specs.declared.Thumb.TheVariants.{Left, Right}
use Rattle.rules.specs.declared.Face.{Face}
use Rattle.rules.specs.declared.Face.TheVariants.{Plain, With}
use Rattle.choice.proofs.Choices.{by_test}
use Rattle.layout.specs.Column.{column_of, rows, code_point_in, InRows}

pub column_below : (f : Face) → column_of f < 3
column_below Plain = lit< tt
column_below (With Left) = lit< tt
column_below (With Right) = lit< tt

-- a column of the rows is the face that it stands for
column : (f : Face) → map (λ (w : List ℕ). get_or w (column_of f) 0) rows ≡ face_of f table
unfolding rows table
column Plain = refl
column (With Left) = refl
column (With Right) = refl

read : (k : Key) (f : Face) → get_or (get_or rows k.0 []) (column_of f) 0 ≡ code_point k f
unfolding code_point
read k f =
    sym (get_or-map (λ (w : List ℕ). get_or w (column_of f) 0) rows k.0 []) ∙
    ap (λ (l : List ℕ). get_or l k.0 0) (column f)

-- no key past the last one
outside : (k : Key) (f : Face) → 31 ≤ k.0 → 0 ≡ code_point k f
unfolding code_point table
outside k Plain h = sym (get_or-eq_default (face_of Plain table) 0 h)
outside k (With Left) h = sym (get_or-eq_default (face_of (With Left) table) 0 h)
outside k (With Right) h = sym (get_or-eq_default (face_of (With Right) table) 0 h)

pub in_rows : InRows
unfolding code_point_in
in_rows k f = by_test (λ (n : ℕ). n ≡ code_point k f) (is_key k) (λ _. read k f) (λ h. outside k f (ltb-false k.0 31 h))
