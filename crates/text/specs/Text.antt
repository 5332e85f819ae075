-- Document 01, section "Log": the line as the program prints it, marks as `<L>` and `<R>`, in UTF-8.
use Rattle.std.specs.Prelude.{ℕ, Bool, List, [], ◌∷◌, ◌++◌, ◌≡◌, eqb, leb, length, Some, None}
use Rattle.std.specs.Prelude as code
use Prim.Native.Char.{code}
use Prim.Native.String.{String, [] as end_of_text, ◌∷◌ as ◌followed_by◌}
use Rattle.std.proofs.Math.Option.{Option, none, some}
use Rattle.choice.specs.Choice.{if◌then◌orelse◌}
use Rattle.filled.specs.Filled.{filled}
use Rattle.text.specs.Utf8.{utf8}

-- the bytes of a text that has only signs below U+0080
abbrev pub ascii : String → List ℕ
ascii end_of_text = []
ascii (c followed_by t) = code c ∷ ascii t

-- one word: 1 is the left mark, 2 the right one, any other a code point
unfoldable pub sign : ℕ → List ℕ
sign w =
    if eqb w 1 then ascii "<L>" orelse
    if eqb w 2 then ascii "<R>" orelse utf8 w

-- a line of words
unfoldable pub text : List ℕ → List ℕ
text [] = []
text (w ∷ ws) = sign w ++ text ws

-- what the answer of `encode` says: how many bytes were written, or that they did not fit
abbrev pub count_of : code.Option ℕ → Option ℕ
count_of None = none
count_of (Some n) = some n

abbrev pub fits : List ℕ → List ℕ → Bool
fits words run = leb (length (text words)) (length run)

-- `encode` of words into a run: where the text fits, it stands at the run's front, and the rest is as it was; else the run is
-- as it was.
pub record Encodes (words run : List ℕ) (answer : code.Option ℕ) (after : List ℕ) : Type 0 where
  pub answered : count_of answer ≡ if fits words run then some (length (text words)) orelse none
  pub written : after ≡ if fits words run then filled (text words) run orelse run
