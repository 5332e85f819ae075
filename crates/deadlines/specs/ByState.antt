-- What document 01 asks of what rests in a machine that is well formed (`keys_below`, `stamps_by`, `in_order` and `pair_lent` in
-- rules/specs/States.antt), one state at a time and with no test twice: stamps that are in order, the last of them at most the last
-- accepted one, are all at most that. That it is the same is proofs/WellFormed.antt.
use Rattle.std.specs.Prelude.{Bool, true, ◌&&◌, List}
use Rattle.rules.specs.Pairs.{Pair, is_pair}
use Rattle.rules.specs.States.{is_key, at_or_before}
use Rattle.rules.specs.declared.Stamp.{Stamp}
use Rattle.rules.specs.declared.Key.{Key}
use Rattle.rules.specs.declared.Resting.{Resting}
use Rattle.rules.specs.declared.Resting.TheVariants.{S1, S2, S3, S4, S5, S6, S7, S8}

unfoldable pub in_turn : Stamp → Stamp → Stamp → Bool
in_turn a b last = at_or_before a b && at_or_before b last

unfoldable pub four_in_turn : Stamp → Stamp → Stamp → Stamp → Bool
four_in_turn a b c last = at_or_before a b && in_turn b c last

unfoldable pub two_letters : List Pair → Key → Key → Bool
two_letters l M K = is_key M && (is_key K && is_pair l M K)

abbrev pub rests_well : List Pair → Stamp → Resting → Bool
rests_well l last S1 = true
rests_well l last (S2 M m) = is_key M && at_or_before m last
rests_well l last (S3 O o) = at_or_before o last
rests_well l last (S4 M m O o) = is_key M && in_turn m o last
rests_well l last (S5 O o M m) = is_key M && in_turn o m last
rests_well l last (S6 O o M m r) = is_key M && four_in_turn o m r last
rests_well l last (S7 M m K k) = in_turn m k last && two_letters l M K
rests_well l last (S8 M m K k r) = four_in_turn m k r last && two_letters l M K
