-- `preview::instead_of` meets its contract.
use borrow.Author.Rules.{rules}
use borrow.Author.Tests.{eq-eqb}
use Rattle.preview.proofs.Laws.{behind_packed, first_stays, one_back, two_back}
use Rattle.preview.proofs.instead_of.Goals as goal

pub returns-then-p-eq0 : goal.returns-then-p-eq0
returns-then-p-eq0 c = rw (eq-eqb _ 0 c.if-p-eq0.true) c.instead_of_one.ensures

pub instead_of_one-requires-then-p-q : goal.instead_of_one-requires-then-p-q
instead_of_one-requires-then-p-q c = search (behind_packed, rules)

pub returns-then-p-q : goal.returns-then-p-q
returns-then-p-q c = search (first_stays, rules)

pub returns-then-p-eq0-2 : goal.returns-then-p-eq0-2
returns-then-p-eq0-2 c = search (one_back, rules)

pub returns : goal.returns
returns c = search (two_back, rules)
