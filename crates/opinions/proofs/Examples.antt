-- The tables are computed.
use mathlib.Core.Path.{refl}
use Rattle.rules.specs.Numbers.{up, A, B, FJ, FL}
use Rattle.opinions.specs.Earlier.{held, heard, held_below, number_after}
use Rattle.opinions.specs.Opinion.{matters, ahead, short, from, opinion}
use Rattle.opinions.specs.Examples.{SameTables, OwnKeystrokes}

pub same_tables : SameTables
unfolding opinion from ahead matters short heard held held_below number_after up A B FJ FL
same_tables = record { same_examples = refl; same_slips = refl; same_slow_hands = refl; same_held_down = refl }

pub own_keystrokes : OwnKeystrokes
unfolding opinion from ahead matters short heard held up A B FJ FL
own_keystrokes = refl
