-- The table is computed.
use mathlib.Core.Path.{refl}
use Rattle.rules.specs.Numbers.{in_range, up, A, B, FJ, FL}
use Rattle.rules.specs.Layout.{table, code_point}
use Rattle.rules.specs.Pairs.{same_key, names, is_of, pair_of, none_twice, is_pair_character, pair_good, each_good, lent_good}
use Rattle.rules.specs.ZeroDelay.{character}
use Rattle.keylog.specs.Records.{stated, is_settings, settings, is_event, event, is_list, list}
use Rattle.keylog.specs.Walk.{walk}
use Rattle.keylog.specs.LogRecords.{cut_up}
use Rattle.opinions.specs.Earlier.{held, heard, held_below, number_after}
use Rattle.opinions.specs.Opinion.{matters, ahead, short, from, opinion}
use Rattle.log_opinions.specs.OfLog.{find, on_log, opined}
use Rattle.log_opinions.specs.Examples.{TriedLogs}

pub tried_logs : TriedLogs
unfolding opined on_log find cut_up walk stated is_settings settings is_event event is_list list lent_good none_twice each_good
    pair_good pair_of names is_of is_pair_character same_key in_range opinion from ahead matters short heard held held_below
    number_after up A B FJ FL character code_point table
tried_logs = refl
