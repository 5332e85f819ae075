-- What is put at a place of a lent run.
use Rattle.std.specs.Prelude.{ℕ, ◌+◌, ◌≤◌, ◌<◌, List, ◌≡◌, length}
use Rattle.filled.specs.Filled.{Stored}

-- New elements where they fit. Where they don't, nothing is written, and the answer is the place itself.
pub record Puts (at : ℕ) (new run : List ℕ) (answer : ℕ) (after : List ℕ) : Type 0 where
  pub fits : at + length new ≤ length run → Stored at new run answer after
  pub full : length run < at + length new → (answer ≡ at) × (after ≡ run)
