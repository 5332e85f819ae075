-- `second_opinion::places::Events::how_many_held` meets its contract: the keys below this one are counted.
use Rattle.std.proofs.Common.{◌≡◌, ◌≤◌}
use Rattle.opinions.specs.Earlier.{held_below}
use Rattle.second_opinion.specs.Places.{events_before}
use Rattle.second_opinion.proofs.places.Events.how_many_held.Given as goal

abbrev pub invariant-loop-key : goal.invariant-loop-key
invariant-loop-key l = (l.n ≤ l.key) × (l.n ≡ held_below l.key (events_before l.self.bytes.now l.self.n))
