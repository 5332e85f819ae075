-- The table is computed.
use mathlib.Core.Path.{refl}
use Rattle.rules.proofs.Computing.{a_step}
use Rattle.reasons.specs.Reason.{step_reasons}
use Rattle.reasons.specs.Examples.{ReasonsHold}

pub reasons_hold : ReasonsHold
unfolding a_step step_reasons
reasons_hold = record { of_document_01 = refl; of_pairs = refl }
