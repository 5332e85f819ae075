-- Document 02, 2/12: where a character stands on the layout of document 01.
use Rattle.std.specs.Prelude.{ℕ, suc, List, [], ◌∷◌, eqb, Some, None}
use Rattle.std.specs.Prelude as code
use Rattle.std.proofs.Math.Option.{Option, none, some}
use Rattle.choice.specs.Choice.{if◌then◌orelse◌}
use Rattle.rules.specs.Layout.{table, face_of}
use Rattle.rules.specs.declared.Thumb.TheVariants.{Left, Right}
use Rattle.rules.specs.declared.Face.{Face}
use Rattle.rules.specs.declared.Face.TheVariants.{Plain, With}
use Rattle.lookup.specs.declared.Place as declared

-- a key and a face
abbrev pub Place : Type 0
Place = declared.Place

abbrev pub place : ℕ → Face → Place
place k f = record { key = record { 0 = k }; face = f }

-- the key of a code point among the code points of one face, counted from n
abbrev pub key_from : ℕ → Face → ℕ → List ℕ → Option Place
key_from n f c [] = none
key_from n f c (d ∷ l) = if eqb d c then some (place n f) orelse key_from (suc n) f c l

abbrev pub on_face : Face → ℕ → Option Place
on_face f c = key_from 0 f c (face_of f table)

-- the first, or else the second
abbrev pub or_else : {X : Type 0} → Option X → Option X → Option X
or_else (some x) o = some x
or_else none o = o

-- The key and the face of a character, or none where it is on no face. 0 stands for an empty face in the layout and is no
-- character.
unfoldable pub place_of : ℕ → Option Place
unfolding table
place_of c = if eqb c 0 then none orelse or_else (on_face Plain c) (or_else (on_face (With Left) c) (on_face (With Right) c))

-- what the answer of `find` says
abbrev pub found : code.Option Place → Option Place
found (Some p) = some p
found None = none
