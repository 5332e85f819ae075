-- `steps::step` meets its contract: a digit is told by `digit_value`, any other byte is a sign.
use Rattle.std.proofs.Common.{arith}
use Rattle.std.proofs.lemmas.Grind.{common_steps}
use Rattle.notation.specs.Transcribing.{takes_letters, at_digit, at_sign, entry_step, step}
use Rattle.transcriber.proofs.steps.step.Goals as goal

pub returns-in-Comment : goal.returns-in-Comment
unfolding takes_letters at_digit at_sign entry_step step
returns-in-Comment c = grind (arith, common_steps)

pub returns-in-Some : goal.returns-in-Some
unfolding takes_letters at_digit at_sign entry_step step
returns-in-Some c = grind (arith, common_steps)

pub returns-in-None : goal.returns-in-None
unfolding takes_letters at_digit at_sign entry_step step
returns-in-None c = grind (arith, common_steps)

pub returns-in-Some-digit_value : goal.returns-in-Some-digit_value
unfolding takes_letters at_digit at_sign entry_step step
returns-in-Some-digit_value c = grind (arith, common_steps)

pub returns-in-None-digit_value : goal.returns-in-None-digit_value
unfolding takes_letters at_digit at_sign entry_step step
returns-in-None-digit_value c = grind (arith, common_steps)
