-- An item's word is its sign.
use Prim.Native.Nat.{ℕ}
use mathlib.Core.Path.{◌≡◌, refl, ap}
use mathlib.Core.List.{List, [], ◌∷◌}
use Rattle.rules.specs.ZeroDelay.{mark_word, sign_unless_0, character, sign_of}
use Rattle.rules.specs.declared.Thumb.{Thumb}
use Rattle.rules.specs.declared.Thumb.TheVariants.{Left, Right}
use Rattle.rules.specs.declared.Item.{Item}
use Rattle.rules.specs.declared.Item.TheVariants.{Character, Mark, Together}
use Rattle.layout.specs.Column.{rows}
use Rattle.layout.specs.Words.{word_in}
use Rattle.layout.proofs.Table.{in_rows}

-- a mark is no empty face
pub mark_sign : (O : Thumb) → sign_unless_0 (mark_word O) ≡ mark_word O ∷ []
mark_sign Left = refl
mark_sign Right = refl

-- an item's word by document 01's rows is its sign
pub by_rows : (i : Item) → sign_unless_0 (word_in rows i) ≡ sign_of i
unfolding character
by_rows (Character k f) = ap sign_unless_0 (in_rows k f)
by_rows (Mark O) = mark_sign O
by_rows (Together M K c) = refl

pub word_sign : (i : Item) (w : ℕ) (table : List (List ℕ)) → table ≡ rows → w ≡ word_in table i → sign_unless_0 w ≡ sign_of i
word_sign i w table e f = rw (f, e) (by_rows i)
