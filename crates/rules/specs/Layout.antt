-- Document 01, "The layout": thirty-one keys, three faces each.
use Rattle.std.specs.Prelude.{ℕ, List, [], ◌∷◌, ◌++◌, eqb, get_or}
use Prim.Native.Char.{Char, code}
use Prim.Native.String.{String, [] as end_of_text, ◌∷◌ as ◌followed_by◌}
use Rattle.choice.specs.Choice.{if◌then◌orelse◌}
use Rattle.rules.specs.declared.Key.{Key}
use Rattle.rules.specs.declared.Thumb.TheVariants.{Left, Right}
use Rattle.rules.specs.declared.Face.{Face}
use Rattle.rules.specs.declared.Face.TheVariants.{Plain, With}

-- a row of the table: some neighbouring keys, a character each
pub record Row : Type 0 where
  pub plain : String
  pub left : String
  pub right : String

abbrev pub row : String → String → String → Row
row p l r = record { plain = p; left = l; right = r }

-- The table. Keys 0-4 are B01-B05, 5-9 B06-B10, 10-14 C01-C05, 15-19 C06-C10, 20-24 D01-D05, 25-30 D06-D11.
-- "-" is an empty face. The stop of key 0 is U+FF0E, the comma of key 29 U+FF0C.
unfoldable pub table : List Row
table =
    row "．ひすふへ" "ぅーろやぃ" "-びずぶべ" ∷
    row "めそねほ・" "ぷぞぺぼ-" "ぬゆむわぉ" ∷
    row "うしてけせ" "をあなゅも" "-じでげぜ" ∷
    row "はときいん" "ばどぎぽ-" "みおのょっ" ∷
    row "。かたこさ" "ぁえりゃれ" "-がだござ" ∷
    row "らちくつ，、" "ぱぢぐづぴ-" "よにるまぇ-" ∷ []

-- a row's characters on one face
abbrev pub on : Face → Row → String
on Plain w = w.plain
on (With Left) w = w.left
on (With Right) w = w.right

-- a character's code point, 0 for an empty face
abbrev pub code_or_0 : Char → ℕ
code_or_0 c = if eqb (code c) (code "-") then 0 orelse code c

abbrev pub code_points : String → List ℕ
code_points end_of_text = []
code_points (c followed_by t) = code_or_0 c ∷ code_points t

-- the code points of one face, key 0 first
abbrev pub face_of : Face → List Row → List ℕ
face_of f [] = []
face_of f (w ∷ ws) = code_points (on f w) ++ face_of f ws

-- the code point of a key's face; 0 for an empty face, and for a key that is not there
unfoldable pub code_point : Key → Face → ℕ
unfolding table
code_point k f = get_or (face_of f table) k.0 0
