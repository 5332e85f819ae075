-- `row::is_keyboard` meets its contract.
use borrow.Author.Tests.{le-leb, lt-leb}
use Rattle.row.specs.Row.{most_keyboards}
use Rattle.row.specs.Views.{is_keyboard}
use Rattle.row.proofs.is_keyboard.Goals as goal

pub returns-then-n-le16 : goal.returns-then-n-le16
unfolding is_keyboard
returns-then-n-le16 c = rw (le-leb _ most_keyboards c.if-n-le16.true)

pub returns-else-n-le16 : goal.returns-else-n-le16
unfolding is_keyboard
returns-else-n-le16 c = rw (lt-leb _ most_keyboards c.if-n-le16.false)
