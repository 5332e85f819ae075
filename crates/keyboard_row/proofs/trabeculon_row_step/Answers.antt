-- `keyboard_row::trabeculon_row_step` meets its contract.
use Rattle.keyboard.specs.Keyboard.{lent_of, event_of}
use Rattle.row.proofs.Placed.{is_in, is_out, within}
use Rattle.keyboard_row.proofs.Placed.{offset_fits, told_here, told_nowhere}
use Rattle.keyboard_row.proofs.trabeculon_row_step.Goals as goal

pub offset_bounds-row-place : goal.offset_bounds-row-place
offset_bounds-row-place c = record {
  fits = offset_fits _ _ (is_in _ _ _ c.is_keyboard.ensures c.if-not-is_keyboard.false);
}

pub slice_copy_out-trabeculon_step : goal.slice_copy_out-trabeculon_step
slice_copy_out-trabeculon_step c = within _ _ (is_in _ _ _ c.is_keyboard.ensures c.if-not-is_keyboard.false)

pub offset_bounds-row-place-2 : goal.offset_bounds-row-place-2
offset_bounds-row-place-2 c = record {
  fits = offset_fits _ _ (is_in _ _ _ c.is_keyboard.ensures c.if-not-is_keyboard.false);
}

pub bounds-row-place : goal.bounds-row-place
bounds-row-place c = within _ _ (is_in _ _ _ c.is_keyboard.ensures c.if-not-is_keyboard.false)

pub returns : goal.returns
returns c = rw c.from.ensures (told_here _ _ (lent_of c.args.pairs.now c.args.ts c.args.n)
    (is_in _ _ _ c.is_keyboard.ensures c.if-not-is_keyboard.false)
    (event_of c.args.kind c.args.key c.args.stamp) _ c.trabeculon_step-done.ensures)

pub returns-then-not-is_keyboard : goal.returns-then-not-is_keyboard
returns-then-not-is_keyboard c = told_nowhere _ _ (lent_of c.args.pairs.now c.args.ts c.args.n)
    (is_out _ _ _ c.is_keyboard.ensures c.if-not-is_keyboard.true)
    (event_of c.args.kind c.args.key c.args.stamp) _ c.no_keyboard.ensures
