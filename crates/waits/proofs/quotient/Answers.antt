-- `waits::quotient` meets its contract: of the total so many times the divisor, moved up by k bits, are taken (`Left`).
use mathlib.Core.Path.{refl, sym}
use native.Mathlib.Omega.{arith}
use native.Mathlib.Nat.{div-eq_of_lt}
use borrow.Author.Rules.{rules}
use Rattle.waits.proofs.Halving.{keeps, takes, within, ends, exact}
use Rattle.waits.proofs.quotient.Goals as goal

pub returns-then-total-d : goal.returns-then-total-d
returns-then-total-d c = sym (div-eq_of_lt c.if-total-d.true)

pub turns-k-requires : goal.turns-k-requires
turns-k-requires c = record { total_bound = search rules; d_nonzero = search rules; d_le_total = c.if-total-d.false }

pub overflow_cast-step : goal.overflow_cast-step
overflow_cast-step c = omega (arith, c.turns-k.ensures.few)

pub overflow_shl-step : goal.overflow_shl-step
overflow_shl-step c = omega (arith, c.turns-k.ensures.few)

pub loop-k-init : goal.loop-k-init
loop-k-init c = let above = c.turns-k.ensures in
    rw (exact _ _ _ above (search rules)) record { moved = refl; parts = search rules; small = above.above }

pub overflow_add-q : goal.overflow_add-q
overflow_add-q c = omega (arith, within _ _ _ _ _ _ c.loop-k.invariant c.loop-k-test.true (search rules))

pub overflow_add-q-then-step-rest : goal.overflow_add-q-then-step-rest
overflow_add-q-then-step-rest c = omega (arith, within _ _ _ _ _ _ c.loop-k.invariant c.loop-k-test.true (search rules))

pub loop-k-preserved-then-step-rest : goal.loop-k-preserved-then-step-rest
loop-k-preserved-then-step-rest c = search (takes, rules)

pub loop-k-preserved : goal.loop-k-preserved
loop-k-preserved c = search (keeps, rules)

pub returns : goal.returns
returns c = search (ends, rules)
