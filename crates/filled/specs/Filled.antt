-- What a lent run holds after something was written into it.
use Rattle.std.specs.Prelude.{ℕ, ◌+◌, List, ◌++◌, ◌≡◌, length, take, drop}

-- written at the front, and then exactly what the run held
abbrev pub filled : List ℕ → List ℕ → List ℕ
filled written run = written ++ drop (length written) run

-- New elements stored at a place of a run, the rest as it was. The answer is the place behind them.
pub record Stored (at : ℕ) (new run : List ℕ) (answer : ℕ) (after : List ℕ) : Type 0 where
  pub behind : answer ≡ at + length new
  pub stored : after ≡ take at run ++ new ++ drop (at + length new) run
