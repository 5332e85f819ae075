-- What is opened where events are worked out to the end: `unfolding a_step` opens all that its line names, and so on.
use lib.Count.{ones_in}
use Rattle.rules.specs.Numbers.{in_range, up, A, B, FJ, FL, D, X, W}
use Rattle.rules.specs.Layout.{table, code_point}
use Rattle.rules.specs.Held.{is_held, hold, release, how_many, held_formed}
use Rattle.rules.specs.Pairs.{names, is_of, pair_of, in_some_pair, none_twice, is_pair_character, pair_good, each_good, lent_good}
use Rattle.rules.specs.Pairs.{GN, P, alone, X_pairs, W_pairs, longest}
use Rattle.rules.specs.States.{well_formed}
use Rattle.rules.specs.OneEvent.{mark, same_thumb, same_key, second_character_takes_thumb, second_thumb_takes_character}
use Rattle.rules.specs.OneEvent.{short_overlap, pair_stays, short_pair, short_of, settle_in, settle, one_event}
use Rattle.rules.specs.ZeroDelay.{character, sent}
use Rattle.rules.specs.GivenBack.{input, is_new, judge, step_with, step}
use Rattle.rules.specs.Distance.{asking_with, asking}

-- the numbers that the settings and what is lent give
unfoldable pub the_numbers : Unit {0}
unfolding up A B FJ FL D X W GN P X_pairs W_pairs longest
the_numbers = tt

-- a lent list of pairs
unfoldable pub a_lent_list : Unit {0}
unfolding names is_of pair_of in_some_pair none_twice is_pair_character pair_good each_good lent_good alone
a_lent_list = tt

-- one event at a machine
unfoldable pub a_step : Unit {0}
unfolding step step_with judge is_new input well_formed is_held hold release how_many held_formed ones_in in_range one_event settle settle_in
    mark same_thumb same_key second_character_takes_thumb second_thumb_takes_character short_overlap pair_stays short_pair short_of
    sent character code_point table a_lent_list the_numbers
a_step = tt

-- the distance to the deadline
unfoldable pub a_distance : Unit {0}
unfolding asking asking_with a_step
a_distance = tt
