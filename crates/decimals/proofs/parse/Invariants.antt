-- `decimals::parse` meets its contract: the digits passed make the number so far (`Read`).
use Rattle.decimals.proofs.Digits.{Read}
use Rattle.decimals.proofs.parse.Given as goal

abbrev pub invariant-loop-b : goal.invariant-loop-b
invariant-loop-b l = Read l.bytes l.n l.b-index
