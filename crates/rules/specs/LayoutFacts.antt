-- Document 01, "The layout": what it says of its table. The proof is proofs/LayoutFacts.antt.
use Rattle.std.specs.Prelude.{ℕ, ◌<◌, List, [], ◌∷◌, ◌++◌, ◌≢◌, ◌≡◌, eqb, length}
use Prim.Native.Char.{code}
use Rattle.choice.specs.Choice.{if◌then◌orelse◌}
use Rattle.rules.specs.Numbers.{keys}
use Rattle.rules.specs.Layout.{Row, table, face_of, code_point}
use Rattle.rules.specs.declared.Key.{Key}
use Rattle.rules.specs.declared.Thumb.TheVariants.{Left, Right}
use Rattle.rules.specs.declared.Face.{Face}
use Rattle.rules.specs.declared.Face.TheVariants.{Plain, With}

abbrev pub key : ℕ → Key
key n = record { 0 = n }

-- the code points of all three faces, 0 for an empty one
abbrev pub all_faces : List Row → List ℕ
all_faces w = face_of Plain w ++ (face_of (With Left) w ++ face_of (With Right) w)

-- the characters among code points
abbrev pub characters : List ℕ → List ℕ
characters [] = []
characters (c ∷ l) = if eqb c 0 then characters l orelse (c ∷ characters l)

-- the empty faces among code points
abbrev pub empty_faces : List ℕ → List ℕ
empty_faces [] = []
empty_faces (c ∷ l) = if eqb c 0 then (c ∷ empty_faces l) orelse empty_faces l

-- two keys and faces are the same place of the layout
pub record SamePlace (k k' : Key) (f f' : Face) : Type 0 where
  pub same_key : k ≡ k'
  pub same_face : f ≡ f'

pub record LayoutFacts : Type 0 where
  -- thirty-one keys, on each face
  pub thirty_one_keys : (f : Face) → length (face_of f table) ≡ keys
  -- 86 characters, none twice, 7 empty faces
  pub characters_86 : length (characters (all_faces table)) ≡ 86
  pub empty_7 : length (empty_faces (all_faces table)) ≡ 7
  pub none_twice : (k k' : Key) (f f' : Face) → code_point k f ≢ 0 → code_point k f ≡ code_point k' f' → SamePlace k k' f f'
  -- a code point fits a 16-bit word
  pub below_65536 : (k : Key) (f : Face) → code_point k f < 65_536
  -- full-width stop and comma
  pub stop : code_point (key 0) Plain ≡ 0xFF0E
  pub comma : code_point (key 29) Plain ≡ 0xFF0C
  -- み and お fill C06 and C07
  pub C06_right : code_point (key 15) (With Right) ≡ code "み"
  pub C07_right : code_point (key 16) (With Right) ≡ code "お"
  -- list (3) decides, so ば
  pub C06_left : code_point (key 15) (With Left) ≡ code "ば"
  -- key 21 is か, え, が; 24 is さ, れ, ざ
  pub key_21_plain : code_point (key 21) Plain ≡ code "か"
  pub key_21_left : code_point (key 21) (With Left) ≡ code "え"
  pub key_21_right : code_point (key 21) (With Right) ≡ code "が"
  pub key_24_plain : code_point (key 24) Plain ≡ code "さ"
  pub key_24_left : code_point (key 24) (With Left) ≡ code "れ"
  pub key_24_right : code_point (key 24) (With Right) ≡ code "ざ"
