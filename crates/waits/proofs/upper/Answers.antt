-- `waits::upper` meets its contract.
use Prim.Native.Nat.{◌/◌, ◌<◌}
use native.Mathlib.Omega.{arith}
use lib.Bits.{and_mask, mask_lt}
use Rattle.waits.specs.Digits.{digit}
use Rattle.waits.proofs.Digits.{upper_digit, digit_product}
use Rattle.waits.proofs.upper.Goals as goal

pub overflow_mul-result : goal.overflow_mul-result
overflow_mul-result c = let high : c.args.x / digit < digit = omega arith in
    omega (arith, digit_product c.ranges.percent.fits high)

pub overflow_mul-result-2 : goal.overflow_mul-result-2
overflow_mul-result-2 c = omega (arith, digit_product c.ranges.percent.fits (mask_lt c.args.x 32))

pub overflow_add-result : goal.overflow_add-result
overflow_add-result c = let high : c.args.x / digit < digit = omega arith in
    omega (arith, digit_product c.ranges.percent.fits high, digit_product c.ranges.percent.fits (mask_lt c.args.x 32))

pub returns : goal.returns
returns c = rw (and_mask c.args.x 32) (upper_digit c.args.percent c.args.x)
