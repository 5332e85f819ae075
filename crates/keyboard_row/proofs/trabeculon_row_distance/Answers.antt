-- `keyboard_row::trabeculon_row_distance` meets its contract.
use Rattle.keyboard.specs.Keyboard.{lent_of}
use Rattle.row.proofs.Placed.{is_in, is_out, within}
use Rattle.keyboard_row.proofs.Placed.{offset_fits, asked_here, asked_nowhere}
use Rattle.keyboard_row.proofs.trabeculon_row_distance.Goals as goal

pub offset_bounds-row-place : goal.offset_bounds-row-place
offset_bounds-row-place c = record {
  fits = offset_fits _ _ (is_in _ _ _ c.is_keyboard.ensures c.if-not-is_keyboard.false);
}

pub bounds-row-place : goal.bounds-row-place
bounds-row-place c = within _ _ (is_in _ _ _ c.is_keyboard.ensures c.if-not-is_keyboard.false)

pub returns : goal.returns
returns c = asked_here _ _ (lent_of c.args.pairs.now c.args.ts c.args.n)
    (is_in _ _ _ c.is_keyboard.ensures c.if-not-is_keyboard.false) _ _ c.trabeculon_distance.ensures

pub returns-then-not-is_keyboard : goal.returns-then-not-is_keyboard
returns-then-not-is_keyboard c = asked_nowhere _ _ (lent_of c.args.pairs.now c.args.ts c.args.n)
    (is_out _ _ _ c.is_keyboard.ensures c.if-not-is_keyboard.true) _ _ c.from.ensures
