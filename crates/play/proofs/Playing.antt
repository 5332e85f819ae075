-- What the loop over the pieces keeps.
use Rattle.std.proofs.Common.{ℕ, ◌+◌, ◌-◌, ◌<◌, ◌≤◌, ◌≡◌, List, length, ap, ◌∙◌, arith}
use Rattle.std.proofs.Math.Option.{none}
use Rattle.keylog.specs.Pieces.{Reader, start, longest_log, so_far}
use Rattle.play_text.specs.Played.{buffer, played}
use Rattle.play_text.specs.HoweverPlayed.{Reached}
use Rattle.play_text.proofs.Sequences.{reached_start, reached_more, reached_counts}

-- What holds before each read: the reader is one that pieces led to and that was told nothing.
pub record GoingOn (r : Reader) : Type 0 where
  pub reached : Reached r
  pub going : r.told ≡ none

-- how many bytes may come, and the end: it falls with each piece that has a byte
abbrev pub to_come : Reader → ℕ
to_come r = longest_log + 1 - so_far r

pub begins : (r : Reader) → r ≡ start → GoingOn r
begins r s = record { reached = reached_start r s; going = ap (λ x. x.told) s }

-- a piece that fits the buffer, and the reader after it
module _ (r : Reader) (g : GoingOn r) (bytes : List ℕ) (few : length bytes ≤ buffer) (next : Reader) (led : next ≡ (played r bytes).reader) where
  pub led_to : Reached next
  led_to = rw led (reached_more r bytes g.reached few)

  pub goes_on : 1 ≤ length bytes → (played r bytes).reader.told ≡ none → GoingOn next × (to_come next < to_come r)
  goes_on some_bytes going =
      let counts = reached_counts r bytes g.reached few g.going going in (
        record { reached = led_to; going = ap (λ x. x.told) led ∙ going },
        omega (arith, counts.0, counts.1, ap so_far led),
      )
