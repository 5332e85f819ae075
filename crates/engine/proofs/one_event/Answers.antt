-- `engine::one_event` meets its contract.
use mathlib.Core.Path.{sym, ◌∙◌}
use Rattle.engine.proofs.Laws.{late_first, not_late}
use Rattle.engine.proofs.one_event.Goals as goal

pub returns-then-is_due : goal.returns-then-is_due
returns-then-is_due c =
    rw (
      late_first _ _ _ _ _ (sym c.is_due.ensures ∙ c.if-is_due.true),
      ← c.late.ensures,
      ← c.in_s1.ensures,
    )

pub returns : goal.returns
returns c =
    rw (not_late _ _ _ _ _ (sym c.is_due.ensures ∙ c.if-is_due.false), ← c.act.ensures)
