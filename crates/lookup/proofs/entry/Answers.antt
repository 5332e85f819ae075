-- `lookup::entry` meets its contract: antt computes that the code's table is the one of `place_of`.
use borrow.Author.Rules.{rules}
use Rattle.rules.specs.Layout.{table}
use Rattle.lookup.specs.Places.{place_of}
use Rattle.lookup.proofs.Table.{entries, entry_at}
use Rattle.lookup.proofs.entry.Goals as goal

pub returns : goal.returns
unfolding entries place_of table
returns c = entry_at c.args.i (search rules)
