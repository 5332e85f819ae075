-- Document 01, "Zero delay": what is shown while a character waits, and what a step sends.
use Rattle.std.specs.Prelude.{ℕ, List, [], ◌∷◌, ◌++◌, eqb}
use Rattle.choice.specs.Choice.{if◌then◌orelse◌}
use Rattle.rules.specs.Layout.{code_point}
use Rattle.rules.specs.declared.Key.{Key}
use Rattle.rules.specs.declared.Thumb.{Thumb}
use Rattle.rules.specs.declared.Thumb.TheVariants.{Left, Right}
use Rattle.rules.specs.declared.Face.{Face}
use Rattle.rules.specs.declared.Face.TheVariants.{Plain, With}
use Rattle.rules.specs.declared.Item.{Item}
use Rattle.rules.specs.declared.Item.TheVariants.{Character, Mark, Together}
use Rattle.rules.specs.declared.Resting.{Resting}
use Rattle.rules.specs.declared.Resting.TheVariants.{S1, S2, S3, S4, S5, S6, S7, S8}

-- A sign is a character or a mark. As a word it is a character's code point, 1 for the left mark, 2 for the right one.
abbrev pub mark_word : Thumb → ℕ
mark_word Left = 1
mark_word Right = 2

-- a code point as a list of signs: none for an empty face
abbrev pub sign_unless_0 : ℕ → List ℕ
sign_unless_0 c = if eqb c 0 then [] orelse (c ∷ [])

-- a key's character on a face; an empty face gives none
unfoldable pub character : Key → Face → List ℕ
character k f = sign_unless_0 (code_point k f)

-- The sign of an item. A pair's character is the one its list gives, every other the layout's.
abbrev pub sign_of : Item → List ℕ
sign_of (Character k f) = character k f
sign_of (Mark O) = mark_word O ∷ []
sign_of (Together M K c) = sign_unless_0 c

-- the signs of items, empty faces left out
abbrev pub signs : List Item → List ℕ
signs [] = []
signs (i ∷ is) = sign_of i ++ signs is

-- what is shown while M waits: its plain character in S2 and S4, M+O in S5 and S6; while two letters wait, both plain ones (9/12)
abbrev pub shown : Resting → List ℕ
shown S1 = []
shown (S2 M m) = character M Plain
shown (S3 O o) = []
shown (S4 M m O o) = character M Plain
shown (S5 O o M m) = character M (With O)
shown (S6 O o M m r) = character M (With O)
shown (S7 M m K k) = character M Plain ++ character K Plain
shown (S8 M m K k r) = character M Plain ++ character K Plain

-- one thing that a step sends
pub data Sending : Type 0 where
  backspace : Sending
  sign : ℕ → Sending

abbrev pub send : List ℕ → List Sending
send [] = []
send (c ∷ q) = sign c ∷ send q

-- one backspace for each sign
abbrev pub take_back : List ℕ → List Sending
take_back [] = []
take_back (c ∷ p) = backspace ∷ take_back p

-- What a step sends, from p, shown before it, and q, its committed signs followed by what is shown after it (9/12): the shown signs
-- that q begins with stay, counted from the front, each other one costs a backspace, and the rest of q follows. For one shown sign
-- 01 has three cases. No p: send q. p is the first of q: send the rest. Else: one backspace, then q. (StepFacts.antt states them.)
unfoldable pub sent : List ℕ → List ℕ → List Sending
sent [] q = send q
sent (c ∷ p) [] = take_back (c ∷ p)
sent (c ∷ p) (d ∷ q) = if eqb c d then sent p q orelse (take_back (c ∷ p) ++ send (d ∷ q))
