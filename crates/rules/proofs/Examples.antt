-- The worked examples of document 01 hold, and so do the numbers that it works out, the distances of 3/12, the slow hands of 4/12,
-- the held keys of 7/12 and the pairs of 9/12: the tables are computed.
use mathlib.Core.Path.{refl}
use Rattle.rules.specs.Examples.{ExamplesHold, SlipsHold, SlowHandsHold, HeldDownHold, TwoWaitHold, OneIsUpHold, HowLongHold}
use Rattle.rules.specs.Examples.{LentDecidesHold, BesideAThumbHold, ByHandHold, OtherListHold, FormedByHandHold, DistancesHold}
use Rattle.rules.specs.Examples.{NumbersHold}
use Rattle.rules.proofs.Computing.{the_numbers, a_step, a_distance}

pub examples_hold : ExamplesHold
unfolding a_step
examples_hold = refl

pub slips_hold : SlipsHold
unfolding a_step
slips_hold = refl

pub slow_hands_hold : SlowHandsHold
unfolding a_step
slow_hands_hold = refl

pub held_down_hold : HeldDownHold
unfolding a_step
held_down_hold = refl

pub two_wait_hold : TwoWaitHold
unfolding a_distance
two_wait_hold = refl

pub one_is_up_hold : OneIsUpHold
unfolding a_distance
one_is_up_hold = refl

pub how_long_hold : HowLongHold
unfolding a_distance
how_long_hold = refl

pub lent_decides_hold : LentDecidesHold
unfolding a_distance
lent_decides_hold = refl

pub beside_a_thumb_hold : BesideAThumbHold
unfolding a_step
beside_a_thumb_hold = refl

pub by_hand_hold : ByHandHold
unfolding a_step
by_hand_hold = record { up_as_tick = refl; down_is_new = refl; down_refused = refl; repeat_accepted = refl }

pub other_list_hold : OtherListHold
unfolding a_step
other_list_hold = record { its_list = refl; other_list = refl; no_list = refl }

pub formed_by_hand_hold : FormedByHandHold
unfolding a_step
formed_by_hand_hold = refl

pub distances_hold : DistancesHold
unfolding a_distance
distances_hold = refl

pub numbers_hold : NumbersHold
unfolding the_numbers
numbers_hold = refl
