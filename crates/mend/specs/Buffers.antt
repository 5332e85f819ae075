-- The program's buffers.
use Rattle.std.specs.Prelude.{ℕ}

-- the longest log that is mended
abbrev pub longest : ℕ
longest = 1_048_576
