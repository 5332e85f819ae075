-- `row::step_at` meets its contract.
use Rattle.std.proofs.Common.{rules, ◌≡◌, Err}
use Rattle.pairs.specs.Lent.{lent_by}
use Rattle.row.proofs.Placed.{is_in, is_out, within, offset_fits, tells_here, refused_here, tells_none}
use Rattle.row.proofs.step_at.Goals as goal

pub returns-then-not-is_keyboard : goal.returns-then-not-is_keyboard
returns-then-not-is_keyboard c =
    tells_none _ _ (lent_by c.args.given) (is_out _ _ _ c.is_keyboard.ensures c.if-not-is_keyboard.true) c.args.event

pub offset_bounds-row-board : goal.offset_bounds-row-board
offset_bounds-row-board c = record {
  fits = offset_fits _ _ (is_in _ _ _ c.is_keyboard.ensures c.if-not-is_keyboard.false);
}

pub slice_copy_out-step : goal.slice_copy_out-step
slice_copy_out-step c = within _ _ (is_in _ _ _ c.is_keyboard.ensures c.if-not-is_keyboard.false)

pub offset_bounds-row-board-2 : goal.offset_bounds-row-board-2
offset_bounds-row-board-2 c = record {
  fits = offset_fits _ _ (is_in _ _ _ c.is_keyboard.ensures c.if-not-is_keyboard.false);
}

pub bounds-row-board : goal.bounds-row-board
bounds-row-board c = within _ _ (is_in _ _ _ c.is_keyboard.ensures c.if-not-is_keyboard.false)

pub returns-in_err-done : goal.returns-in_err-done
returns-in_err-done c =
    let same : c.from_residual.result ≡ Err c.in_err-done.field-0.0 = search rules in
    rw same
    (refused_here _ _ (lent_by c.args.given) (is_in _ _ _ c.is_keyboard.ensures c.if-not-is_keyboard.false) c.args.event _
    c.in_err-done.ensures)

pub returns : goal.returns
returns c = tells_here _ _ (lent_by c.args.given)
    (is_in _ _ _ c.is_keyboard.ensures c.if-not-is_keyboard.false) c.args.event _ c.in_ok-done.ensures
