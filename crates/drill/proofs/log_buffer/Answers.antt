-- `drill::log_buffer` meets its contract.
use Rattle.std.proofs.Common.{arith}
use Rattle.drill.proofs.log_buffer.Goals as goal

pub returns : goal.returns
returns c = omega (arith, c.buffer.ensures.len)
