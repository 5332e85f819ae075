-- Document 02, 6/12: a quotient with no division or remainder, in at most 64 turns of a loop. Here it is 48 at most.
use Rattle.std.specs.Prelude.{ℕ, ◌*◌, ◌^◌, ◌≤◌, ◌<◌}

-- The number of turns: so many bits, moved up by which a divisor lies above the total. `quotient` takes one turn for each bit.
pub record Above (total d k : ℕ) : Type 0 where
  pub few : k ≤ 48
  pub above : total < d * 2 ^ k
