-- What the answers of this crate say.
use Rattle.std.specs.Prelude.{ℕ, Bool, ◌&&◌, List, [], ◌≡◌, ltb, leb, Result, Ok, Err}
use Rattle.rules.specs.ZeroDelay.{Sending}
use Rattle.rules.specs.Refusal.{number_of}
use Rattle.rules.specs.declared.Refusal.{Refusal}
use Rattle.rules.specs.declared.Item.{Item}
use Rattle.rules.specs.Items.{listed}
use Rattle.preview.specs.Views.{sending_list, packed_sendings}
use Rattle.preview.specs.declared.Sendings.{Sendings}
use Rattle.row.specs.Row.{most_keyboards, RowAnswer}
use Rattle.row.specs.declared.Told.{Told}

-- a row of n is not above 16, and k is not past it
unfoldable pub is_keyboard : ℕ → ℕ → Bool
is_keyboard n k = leb n most_keyboards && ltb k n

-- what is told of an event: its number, 0 where it is accepted, the items and what is sent; a refusal commits and sends nothing
abbrev pub told_number : Result Told Refusal → ℕ
told_number (Ok r) = 0
told_number (Err e) = number_of e

abbrev pub told_items : Result Told Refusal → List Item
told_items (Ok r) = listed r.items
told_items (Err e) = []

abbrev pub told_sendings : Result Told Refusal → Sendings
told_sendings (Ok r) = r.sendings
told_sendings (Err e) = packed_sendings []

-- What is told is a number, items and sendings, and in one form only: the sendings are packed.
pub record Tells (r : Result Told Refusal) (n : ℕ) (i : List Item) (q : List Sending) : Type 0 where
  pub number_is : told_number r ≡ n
  pub items_are : told_items r ≡ i
  pub sendings_are : sending_list (told_sendings r) ≡ q
  pub packed : told_sendings r ≡ packed_sendings q

abbrev pub TellsAt : Result Told Refusal → RowAnswer → Type 0
TellsAt r a = Tells r a.number a.items a.sendings
