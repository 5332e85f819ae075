-- `second_opinion::places::Events::ahead` meets its contract: looking forward from the first place is looking forward from here.
use Rattle.std.proofs.Common.{sym, ◌∙◌}
use Rattle.second_opinion.proofs.Forward.{past, stops, looks, nothing_ahead}
use Rattle.second_opinion.proofs.places.Events.ahead.Goals as goal

pub returns-then-decides-clause-seen : goal.returns-then-decides-clause-seen
returns-then-decides-clause-seen c = sym (c.loop-i.invariant ∙ rw c.heard_at-e.ensures.here (stops _ _ _ _ _ (sym c.if-decides.ensures)))

pub loop-i-preserved : goal.loop-i-preserved
loop-i-preserved c = c.loop-i.invariant ∙ rw c.heard_at-e.ensures.here (looks _ _ _ _ _ (sym c.if-decides.ensures))

pub returns-clause-seen : goal.returns-clause-seen
returns-clause-seen c = sym (c.loop-i.invariant ∙ rw (past _ _ _ c.loop-i-test.false) (nothing_ahead _ _ _))
