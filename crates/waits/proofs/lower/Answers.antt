-- `waits::lower` meets its contract.
use native.Mathlib.Omega.{arith}
use Prim.Native.Nat.{◌*◌}
use lib.Bits.{bit_and, and_mask, mask_lt}
use Rattle.waits.proofs.Digits.{lower_digit, digit_product}
use Rattle.waits.proofs.lower.Goals as goal

pub overflow_mul-result : goal.overflow_mul-result
overflow_mul-result c = omega (arith, digit_product c.ranges.percent.fits (mask_lt c.args.x 32))

pub returns : goal.returns
returns c = let low = bit_and c.args.x 4_294_967_295 in
    rw (and_mask (c.args.percent * low) 32, and_mask c.args.x 32) (lower_digit c.args.percent c.args.x)
