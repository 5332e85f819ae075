-- `waits::short_of` meets its contract.
use Rattle.waits.proofs.Digits.{by_lower, by_upper}
use Rattle.waits.proofs.short_of.Goals as goal

pub returns-then-overlap-share : goal.returns-then-overlap-share
returns-then-overlap-share c =
    by_lower _ _ _ c.upper-overlap.ensures c.upper-share.ensures c.if-overlap-share.true c.lower.ensures
    c.lower-then-overlap-share.ensures

pub returns : goal.returns
returns c = by_upper _ _ _ c.upper-overlap.ensures c.upper-share.ensures c.if-overlap-share.false
