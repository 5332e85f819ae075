-- The worked examples are computed.
use mathlib.Core.Path.{refl}
use Rattle.decimals.specs.Decimals.{is_digit}
use Rattle.notation.specs.Transcribing.{is_blank, ends_entry, with_sign, takes_letters, digit_value, following, ended, at_digit}
use Rattle.notation.specs.Transcribing.{at_sign, entry_step, step, from, transcribed}
use Rattle.notation.specs.Examples.{TextsTaken}

pub texts_are_taken : TextsTaken
unfolding transcribed from step entry_step at_digit at_sign digit_value takes_letters ended following with_sign ends_entry is_blank is_digit
texts_are_taken = refl
