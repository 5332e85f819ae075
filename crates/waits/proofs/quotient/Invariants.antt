-- `waits::quotient` meets its contract: of the total so many times the divisor, moved up by k bits, are taken (`Left`).
use Rattle.waits.proofs.Halving.{Left}
use Rattle.waits.proofs.quotient.Given as goal

abbrev pub invariant-loop-k : goal.invariant-loop-k
invariant-loop-k l = Left l.total l.d l.step l.k l.q l.rest

abbrev pub decreases-loop-k : goal.decreases-loop-k
decreases-loop-k l = l.k
