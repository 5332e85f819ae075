-- `engine::judge_event` meets its contract.
use Rattle.std.proofs.Common.{rules}
use Rattle.waits.proofs.Order.{lt_is}
use Rattle.engine.proofs.Judged.{gt_is, of_no_kind, of_no_key, of_a_key}
use Rattle.engine.proofs.judge_event.Goals as goal

pub returns-in_err-kind : goal.returns-in_err-kind
returns-in_err-kind c =
    rw (← of_no_kind c.args.machine c.args.event c.in_err-kind.ensures.1) (let e = c.in_err-kind.ensures.0 in search rules)

pub returns-then-ge : goal.returns-then-ge
returns-then-ge c = of_no_key _ _ _ c.in_ok-kind.ensures c.keys_of.ensures c.ge.ensures c.if-ge.true

pub returns-then-gt : goal.returns-then-gt
returns-then-gt c =
    rw (
      ← of_a_key c.args.machine c.args.event _ c.in_ok-kind.ensures c.keys_of.ensures c.ge.ensures c.if-ge.false,
      ← gt_is c.args.event.stamp.0 _,
      ← c.gt.ensures,
      c.if-gt.true,
    )

pub returns-then-lt : goal.returns-then-lt
returns-then-lt c =
    rw (
      ← of_a_key c.args.machine c.args.event _ c.in_ok-kind.ensures c.keys_of.ensures c.ge.ensures c.if-ge.false,
      ← gt_is c.args.event.stamp.0 _,
      ← c.gt.ensures,
      c.if-gt.false,
      ← lt_is _ _,
      ← c.lt.ensures,
      c.if-lt.true,
    )

pub returns-then-too_many : goal.returns-then-too_many
returns-then-too_many c =
    rw (
      ← of_a_key c.args.machine c.args.event _ c.in_ok-kind.ensures c.keys_of.ensures c.ge.ensures c.if-ge.false,
      ← gt_is c.args.event.stamp.0 _,
      ← c.gt.ensures,
      c.if-gt.false,
      ← lt_is _ _,
      ← c.lt.ensures,
      c.if-lt.false,
      ← c.too_many.ensures,
      c.if-too_many.true,
    )

pub returns : goal.returns
returns c =
    rw (
      ← of_a_key c.args.machine c.args.event _ c.in_ok-kind.ensures c.keys_of.ensures c.ge.ensures c.if-ge.false,
      ← gt_is c.args.event.stamp.0 _,
      ← c.gt.ensures,
      c.if-gt.false,
      ← lt_is _ _,
      ← c.lt.ensures,
      c.if-lt.false,
      ← c.too_many.ensures,
      c.if-too_many.false,
      ← c.acting.ensures,
    )
