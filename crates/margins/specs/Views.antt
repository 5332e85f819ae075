-- What the types of this crate say.
use Rattle.std.specs.Prelude as code
use Rattle.std.specs.Prelude.{List, []}
use Rattle.std.proofs.Math.Option.{Option, none, some}
use Rattle.rules.specs.Pairs.{Lent}
use Rattle.rules.specs.Items.{listed}
use Rattle.rules.specs.declared.Few.{Few}
use Rattle.rules.specs.declared.Stamp.{Stamp}
use Rattle.pairs.specs.declared.Times.{Times}
use Rattle.reasons.specs.Reason.{Test, nothing_compared, takes_thumb, takes_character, overlaps, stays, overlaps_as_pair, overlaps_of}
use Rattle.margins.specs.declared.Compared.{Compared}
use Rattle.margins.specs.declared.Compared.TheVariants as compares

abbrev pub when : code.Option Stamp → Option Stamp
when code.None = none
when (code.Some d) = some d

abbrev pub stamps : Few Stamp → List Stamp
stamps = listed

abbrev pub test : Compared → Test
test compares.Nothing = nothing_compared
test (compares.TakesThumb a b) = takes_thumb a.0 b.0
test (compares.TakesCharacter a b) = takes_character a.0 b.0
test (compares.Overlaps percent a b) = overlaps percent a.0 b.0
test (compares.Stays a b) = stays a.0 b.0
test (compares.OverlapsAsPair n t_s a b) = overlaps_as_pair n t_s a.0 b.0
test (compares.OverlapsOf percent b c) = overlaps_of percent b.0 c.0

-- T_s and N alone
abbrev pub of_times : Times → Lent
of_times t = record { pairs = []; t_s = t.ts; n = t.n }
