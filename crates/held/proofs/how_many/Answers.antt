-- `held::how_many` meets its contract: 32 digits are all that the number has.
use native.Mathlib.Omega.{arith}
use mathlib.Core.Path.{sym}
use Rattle.rules.specs.Held.{how_many}
use Rattle.rules.proofs.Held.{all_ones}
use Rattle.held.proofs.how_many.Goals as goal

pub returns : goal.returns
unfolding how_many
returns c = sym (all_ones 32 _ (omega arith))
