-- `row::distance_at` meets its contract.
use Rattle.pairs.specs.Lent.{lent_by}
use Rattle.row.proofs.Placed.{is_in, is_out, within, offset_fits, asked_here, asked_none}
use Rattle.row.proofs.distance_at.Goals as goal

pub returns-then-not-is_keyboard : goal.returns-then-not-is_keyboard
returns-then-not-is_keyboard c =
    asked_none _ _ (lent_by c.args.given) (is_out _ _ _ c.is_keyboard.ensures c.if-not-is_keyboard.true) _

pub offset_bounds-row-board : goal.offset_bounds-row-board
offset_bounds-row-board c = record {
  fits = offset_fits _ _ (is_in _ _ _ c.is_keyboard.ensures c.if-not-is_keyboard.false);
}

pub bounds-row-board : goal.bounds-row-board
bounds-row-board c = within _ _ (is_in _ _ _ c.is_keyboard.ensures c.if-not-is_keyboard.false)

pub returns : goal.returns
returns c = asked_here _ _ (lent_by c.args.given)
    (is_in _ _ _ c.is_keyboard.ensures c.if-not-is_keyboard.false) _ _ c.distance.ensures
