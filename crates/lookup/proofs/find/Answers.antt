-- `lookup::find` meets its contract: the two full-width signs are computed, and an entry of the table says what it was made of.
use borrow.Author.Rules.{rules}
use Rattle.rules.specs.Layout.{table}
use Rattle.lookup.specs.Places.{place_of}
use Rattle.lookup.proofs.Table.{in_table}
use Rattle.lookup.proofs.find.Goals as goal

pub returns-in-65294 : goal.returns-in-65294
unfolding place_of table
returns-in-65294 c = rw c.in-65294.is

pub returns-in-65292 : goal.returns-in-65292
unfolding place_of table
returns-in-65292 c = rw c.in-65292.is

pub returns-in-12288-to-12543 : goal.returns-in-12288-to-12543
returns-in-12288-to-12543 c = search (in_table, rules)
