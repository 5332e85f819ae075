-- `waits::distance` meets its contract: the difference fits whatever the two stamps are.
use mathlib.Core.Path.{sym, subst, ◌∙◌}
use mir.Syntax.{w64}
use mir.Val.{SFits}
use mir.ValLaws.{to_z-of_z}
use Rattle.waits.proofs.Distances.{distance_holds, bits_apart}
use Rattle.waits.proofs.distance.Goals as goal

pub overflow_sub-result : goal.overflow_sub-result
overflow_sub-result c = subst (SFits w64) (sym (bits_apart _ _ c.signed.ensures c.signed-2.ensures)) (distance_holds _ _)

pub returns : goal.returns
returns c = to_z-of_z w64 _ (overflow_sub-result c) ∙ bits_apart _ _ c.signed.ensures c.signed-2.ensures
