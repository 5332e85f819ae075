-- `preview::sent` meets its contract.
use Rattle.preview.proofs.sent.Goals as goal

pub instead_of-requires : goal.instead_of-requires
instead_of-requires c = let q = c.step_signs.ensures in rw q.list q.form

pub returns : goal.returns
returns c = rw (← c.shown_words.ensures, ← c.step_signs.ensures.list) c.instead_of.ensures
