-- What the answers of this crate say: the signs, and what is sent, as lists.
use Rattle.std.specs.Prelude.{ℕ, suc, List, [], ◌∷◌, ◌++◌, ◌≡◌, eqb, get_or, replicate}
use Rattle.choice.specs.Choice.{if◌then◌orelse◌}
use Rattle.rules.specs.ZeroDelay.{sign_unless_0, Sending, backspace, sign, send}
use Rattle.rules.specs.Sequences.{signs_among}
use Rattle.preview.specs.declared.Signs.{Signs}
use Rattle.preview.specs.declared.Sendings.{Sendings}
use Rattle.preview.specs.declared.Shown.{Shown}

-- a word 0 is no sign
abbrev pub shown_list : Shown → List ℕ
shown_list p = sign_unless_0 p.first ++ sign_unless_0 p.second

abbrev pub sign_list : Signs → List ℕ
sign_list q =
    sign_unless_0 q.first ++ sign_unless_0 q.second ++ sign_unless_0 q.third ++ sign_unless_0 q.fourth

-- signs packed to the front, 0 behind the last: the one form in which a list of signs is answered
abbrev pub packed : List ℕ → Signs
packed l = record { first = get_or l 0 0; second = get_or l 1 0; third = get_or l 2 0; fourth = get_or l 3 0 }

-- signs that are a list: in its one form, and read back
pub record Holds (q : Signs) (l : List ℕ) : Type 0 where
  pub form : q ≡ packed l
  pub list : sign_list q ≡ l

-- a word in front of up to three signs
unfoldable pub put_before : ℕ → Signs → Signs
put_before w q = if eqb w 0 then q orelse record { first = w; second = q.first; third = q.second; fourth = q.third }

-- the signs behind the first
abbrev pub behind_first : Signs → Signs
behind_first q = record { first = q.second; second = q.third; third = q.fourth; fourth = 0 }

-- the backspaces, then the signs
abbrev pub sending_list : Sendings → List Sending
sending_list r = replicate r.backspaces backspace ++ send (sign_list r.signs)

abbrev pub backspaces_among : List Sending → ℕ
backspaces_among [] = 0
backspaces_among (backspace ∷ l) = suc (backspaces_among l)
backspaces_among (sign c ∷ l) = backspaces_among l

-- the one form in which a list of sendings is answered
abbrev pub packed_sendings : List Sending → Sendings
packed_sendings l = record { backspaces = backspaces_among l; signs = packed (signs_among l) }

-- sendings that are a list: in its one form, and read back
pub record Sends (r : Sendings) (l : List Sending) : Type 0 where
  pub form : r ≡ packed_sendings l
  pub list : sending_list r ≡ l
