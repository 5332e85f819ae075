-- `second_opinion::places::Events::ahead` meets its contract: looking forward from the first place is looking forward from here.
use Rattle.std.proofs.Common.{◌≡◌}
use Rattle.opinions.specs.Opinion as opinions
use Rattle.second_opinion.specs.Views.{maybe, pressed, from}
use Rattle.second_opinion.proofs.places.Events.ahead.Given as goal

abbrev pub invariant-loop-i : goal.invariant-loop-i
invariant-loop-i l =
    opinions.ahead (pressed l.waiting.letter) (pressed l.waiting.thumb) (maybe l.waiting.due) (from l.self l.at)
    ≡ opinions.ahead (pressed l.waiting.letter) (pressed l.waiting.thumb) (maybe l.waiting.due) (from l.self l.i)
